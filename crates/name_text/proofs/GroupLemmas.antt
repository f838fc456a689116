-- The groups of an address, one by one.
use Rattle.std.proofs.Common.{◌≡◌, ℕ, zero, suc, ◌+◌, ◌*◌, ◌<◌, ◌≤◌, List, [], ◌∷◌, ◌++◌, length, take, drop, refl, sym, ap, ◌∙◌, append_assoc, arith, length-take}
use Rattle.std.specs.List.{join_with_byte}
use Rattle.hex.specs.Hex.{encode_lower}
use Rattle.name_text.specs.Addresses.{groups_of}
use Rattle.name_text.proofs.JoinLemmas.{join_with_byte-put}

groups_of-more : (host : List ℕ) (k : ℕ) → 2 * k + 2 ≤ length host → take (suc k) (groups_of host) ≡ take k (groups_of host) ++ encode_lower (take 2 (drop (2 * k) host)) ∷ []
groups_of-more [] k within = absurd (omega arith)
groups_of-more (high ∷ []) k within = absurd (omega arith)
groups_of-more (high ∷ low ∷ rest) zero within = refl
groups_of-more (high ∷ low ∷ rest) (suc k) within =
    let twice : 2 * suc k ≡ suc (suc (2 * k)) = omega arith in
    rw twice (ap (λ r. encode_lower (high ∷ low ∷ []) ∷ r) (groups_of-more rest k (omega arith)))

length-groups_of : (host : List ℕ) (k : ℕ) → 2 * k + 2 ≤ length host → k < length (groups_of host)
length-groups_of [] k within = absurd (omega arith)
length-groups_of (high ∷ []) k within = absurd (omega arith)
length-groups_of (high ∷ low ∷ rest) zero within = omega arith
length-groups_of (high ∷ low ∷ rest) (suc k) within = omega (arith, length-groups_of rest k (omega arith))

-- the text after the first group was put, and after a further one
pub first_group : (host acc new : List ℕ) (k : ℕ) → 2 * k + 2 ≤ length host → k ≤ 0 → acc ≡ join_with_byte 58 (take k (groups_of host))
    → new ≡ acc ++ encode_lower (take 2 (drop (2 * k) host)) → new ≡ join_with_byte 58 (take (k + 1) (groups_of host))
first_group [] acc new k within first was put = absurd (omega arith)
first_group (high ∷ []) acc new k within first was put = absurd (omega arith)
first_group (high ∷ low ∷ rest) acc new zero within first was put = put ∙ ap (λ r. r ++ encode_lower (high ∷ low ∷ [])) was
first_group (high ∷ low ∷ rest) acc new (suc k) within first was put = absurd (omega arith)

pub further_group : (host acc mid new : List ℕ) (k : ℕ) → 2 * k + 2 ≤ length host → 0 < k → acc ≡ join_with_byte 58 (take k (groups_of host))
    → mid ≡ acc ++ 58 ∷ [] → new ≡ mid ++ encode_lower (take 2 (drop (2 * k) host)) → new ≡ join_with_byte 58 (take (k + 1) (groups_of host))
further_group host acc mid new k within some was parted put =
    let group = encode_lower (take 2 (drop (2 * k) host)) in
    let next : suc k ≡ k + 1 = omega arith in
    put ∙ ap (λ r. r ++ group) (parted ∙ ap (λ r. r ++ 58 ∷ []) was) ∙ append_assoc (join_with_byte 58 (take k (groups_of host))) (58 ∷ []) group
    ∙ sym (join_with_byte-put 58 (take k (groups_of host)) group (omega (arith, length-take k (groups_of host), length-groups_of host k within)))
    ∙ ap (join_with_byte 58) (sym (groups_of-more host k within)) ∙ ap (λ n. join_with_byte 58 (take n (groups_of host))) next
