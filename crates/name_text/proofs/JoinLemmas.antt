-- One more piece of a joined text.
use Rattle.std.proofs.Common.{◌≡◌, ℕ, ◌+◌, ◌<◌, ◌≤◌, List, [], ◌∷◌, ◌++◌, length, take, map, get_or, refl, sym, ap, ◌∙◌, append_assoc, zero, suc, arith, length-take, Bor}
use Rattle.std.specs.List.{join_with_byte}
use Rattle.std.proofs.lemmas.List.{map_more, append-nil, length-map}

join_with_byte-more : (c : ℕ) (first : List ℕ) (rest : List (List ℕ)) (p : List ℕ) → join_with_byte c ((first ∷ rest) ++ p ∷ []) ≡ join_with_byte c (first ∷ rest) ++ c ∷ p
join_with_byte-more c first [] p = refl
join_with_byte-more c first (next ∷ rest) p =
    ap (λ t. first ++ (c ∷ t)) (join_with_byte-more c next rest p) ∙ sym (append_assoc first (c ∷ join_with_byte c (next ∷ rest)) (c ∷ p))

pub join_with_byte-put : (c : ℕ) (pieces : List (List ℕ)) (p : List ℕ) → 0 < length pieces → join_with_byte c (pieces ++ p ∷ []) ≡ join_with_byte c pieces ++ c ∷ p
join_with_byte-put c [] p some = absurd (omega arith)
join_with_byte-put c (first ∷ rest) p some = join_with_byte-more c first rest p

abbrev now : Bor (List ℕ) → List ℕ
now piece = piece.now

-- the pieces up to and with a further one
further_piece : (c : ℕ) (pieces : List (Bor (List ℕ))) (i : ℕ) (d : Bor (List ℕ)) → i < length pieces → 0 < i
    → join_with_byte c (map (λ p. p.now) (take (i + 1) pieces)) ≡ join_with_byte c (map (λ p. p.now) (take i pieces)) ++ c ∷ (get_or pieces i d).now
further_piece c pieces i d within some =
    ap (join_with_byte c) (map_more now pieces i d within)
    ∙ join_with_byte-put c (map now (take i pieces)) (get_or pieces i d).now (omega (arith, length-map (take i pieces) now, length-take i pieces))

-- the text after the first piece was put, and after a further one
pub first_put : (c : ℕ) (text acc new : List ℕ) (pieces : List (Bor (List ℕ))) (i : ℕ) (d : Bor (List ℕ)) → i < length pieces → i ≤ 0 → acc ≡ text ++ join_with_byte c (map (λ p. p.now) (take i pieces))
    → new ≡ acc ++ (get_or pieces i d).now → new ≡ text ++ join_with_byte c (map (λ p. p.now) (take (i + 1) pieces))
first_put c text acc new [] i d within first was put = absurd (omega arith)
first_put c text acc new (piece ∷ pieces) zero d within first was put = put ∙ ap (λ r. r ++ piece.now) (was ∙ append-nil text)
first_put c text acc new (piece ∷ pieces) (suc i) d within first was put = absurd (omega arith)

pub further_put : (c : ℕ) (text acc mid new : List ℕ) (pieces : List (Bor (List ℕ))) (i : ℕ) (d : Bor (List ℕ)) → i < length pieces → 0 < i → acc ≡ text ++ join_with_byte c (map (λ p. p.now) (take i pieces))
    → mid ≡ acc ++ c ∷ [] → new ≡ mid ++ (get_or pieces i d).now → new ≡ text ++ join_with_byte c (map (λ p. p.now) (take (i + 1) pieces))
further_put c text acc mid new pieces i d within some was parted put =
    let front = join_with_byte c (map now (take i pieces)) in
    let piece = (get_or pieces i d).now in
    put ∙ ap (λ r. r ++ piece) (parted ∙ ap (λ r. r ++ c ∷ []) was) ∙ append_assoc (text ++ front) (c ∷ []) piece ∙ append_assoc text front (c ∷ piece)
    ∙ ap (λ r. text ++ r) (sym (further_piece c pieces i d within some))
