-- The tail that a cutter holds, and the histories that it may be of.
use Rattle.std.proofs.Common.{◌≡◌, ◌≤◌, ◌<◌, ◌+◌, ◌==◌, ◌++◌, ◌∙◌, sym, refl, ap, subst, ℕ, zero, suc, Bool, true, false, List, [], ◌∷◌, length, take, get_or, arith, length-append, if◌then◌else◌}
use Rattle.std.specs.List.{Contains, position_or_len}
use Rattle.std.proofs.lemmas.Bool.{eqb-true}
use Rattle.std.proofs.lemmas.Grind.{common_steps}
use Rattle.std.proofs.lemmas.List.{get_or_default, take_all}
use Rattle.std.proofs.lemmas.List.Sums.{position_or_len_is}
use Rattle.memchr.specs.Find.{is_byte}
use Rattle.audit_lex.specs.History.{History, Cuts, lines_of, tail_of, with_bytes, is_long, short_text}
use Rattle.audit_lex.specs.LineCut.{Cutter, StandsFor as CutStandsFor}
use Rattle.audit_lex.proofs.HistoryLemmas.{more_line, more_tail}
use Rattle.ingest.specs.StandsFor.{IsHeld}
use Rattle.ingest.proofs.StoreLines.{held_plain, held_short, long_none}

-- ---- a history that it is of

-- this many line feeds
abbrev feeds : ℕ → History
feeds zero = []
feeds (suc n) = with_bytes (feeds n) (10 ∷ [])

feeds_cut : (n : ℕ) → (length (lines_of (feeds n)) ≡ n) × (tail_of (feeds n) ≡ [])
feeds_cut zero = (refl, refl)
feeds_cut (suc n) =
    let cuts = more_line (feeds n) [] refl in
    let before = feeds_cut n in
    (omega (arith, before.0, simp length-append at (ap (λ (c : Cuts). length c.lines) cuts)), ap (λ (c : Cuts). c.tail) cuts)

-- these lines, and a tail without a line feed
fed_cut : (limit lines : ℕ) (tail : List ℕ) → position_or_len (is_byte 10) tail ≡ length tail
    → CutStandsFor (record { limit = limit; lines = lines; tail = short_text limit tail; long = is_long limit tail }) (with_bytes (feeds lines) tail)
fed_cut limit lines tail none =
    let cuts = more_tail (feeds lines) tail none in
    let before = feeds_cut lines in
    let rest : tail_of (with_bytes (feeds lines) tail) ≡ tail = ap (λ (c : Cuts). c.tail) cuts ∙ ap (λ (l : List ℕ). l ++ tail) before.1 in
    record {
      count = sym before.0 ∙ ap length (sym (ap (λ (c : Cuts). c.lines) cuts));
      rest = ap (short_text limit) (sym rest);
      over = ap (is_long limit) (sym rest);
    }

abbrev zeros : ℕ → List ℕ
zeros zero = []
zeros (suc n) = 0 ∷ zeros n

zeros_plain : (n : ℕ) → (position_or_len (is_byte 10) (zeros n) ≡ length (zeros n)) × (length (zeros n) ≡ n)
zeros_plain zero = (refl, refl)
zeros_plain (suc n) = let rest = zeros_plain n in (omega (arith, rest.0), omega (arith, rest.1))

-- a tail without a line feed has none at any place
pub plain_tail : (tail : List ℕ) → ¬ Contains tail 10 → position_or_len (is_byte 10) tail ≡ length tail
plain_tail tail none =
    position_or_len_is (is_byte 10) tail (length tail) 0 (omega arith)
    (λ k below. plain_at (get_or tail k 0 == 10) k below refl)
    (λ over. absurd (omega arith))
  where
    plain_at : (b : Bool) (k : ℕ) → k < length tail → get_or tail k 0 == 10 ≡ b → get_or tail k 0 == 10 ≡ false
    plain_at true k below is = absurd (none (k, below, get_or_default tail k 10 0 below ∙ eqb-true _ _ is))
    plain_at false k below is = is

-- a cutter with such a tail is that of some history
pub some_history : (cut : Cutter) → IsHeld cut → (h : History) × CutStandsFor cut h
some_history cut held = history_if cut.long refl
  where
    history_if : (long : Bool) → cut.long ≡ long → (h : History) × CutStandsFor cut h
    history_if true is =
        let most = zeros_plain (cut.limit + 1) in
        let over : is_long cut.limit (zeros (cut.limit + 1)) ≡ true = grind (arith, common_steps, most.1) in
        let stands = fed_cut cut.limit cut.lines (zeros (cut.limit + 1)) most.0 in (
          with_bytes (feeds cut.lines) (zeros (cut.limit + 1)),
          record {
            count = stands.count;
            rest = held.none is ∙ sym (ap (λ (long : Bool). if long then [] else zeros (cut.limit + 1)) over) ∙ stands.rest;
            over = is ∙ sym over ∙ stands.over;
          },
        )
    history_if false is =
        let short : is_long cut.limit cut.tail ≡ false = grind (arith, common_steps, held.short) in
        let stands = fed_cut cut.limit cut.lines cut.tail (plain_tail cut.tail held.no_feed) in (
          with_bytes (feeds cut.lines) cut.tail,
          record {
            count = stands.count;
            rest = sym (ap (λ (long : Bool). if long then [] else cut.tail) short) ∙ stands.rest;
            over = is ∙ sym short ∙ stands.over;
          },
        )

-- the tail of a history is held so
pub held_of : (cut : Cutter) (h : History) → CutStandsFor cut h → IsHeld cut
held_of cut h stands = record {
  no_feed = subst (λ (l : List ℕ). ¬ Contains l 10) (sym stands.rest) (held_plain cut.limit h);
  short = subst (λ (l : List ℕ). length l ≤ cut.limit) (sym stands.rest) (held_short cut.limit (tail_of h));
  none = λ is. stands.rest ∙ long_none cut.limit (tail_of h) (sym stands.over ∙ is);
}

-- a cutter that holds more bytes, which have no line feed
pub record HasMore (cut after : Cutter) (part : List ℕ) : Type 0 where
  pub lines : after.lines ≡ cut.lines
  pub held : IsHeld after
  pub grown : length after.tail ≤ length cut.tail + length part

grown_if : (limit : ℕ) (tail held part : List ℕ) (long : Bool) → held ≡ short_text limit tail → long ≡ is_long limit tail
    → length (short_text limit (tail ++ part)) ≤ length held + length part
grown_if limit tail held part long rest over = simp length-append (grind (arith, common_steps, length-append tail part))

pub has_more : (cut after : Cutter) (part : List ℕ) (n : ℕ) → IsHeld cut → after.limit ≡ cut.limit → position_or_len (is_byte 10) part ≡ length part → n ≡ length part
    → ((h : History) → CutStandsFor cut h → CutStandsFor after (with_bytes h (take n part))) → HasMore cut after part
has_more cut after part n held limit none all stands =
    let some = some_history cut held in
    let h = some.0 in
    let grown = subst (λ (l : List ℕ). CutStandsFor after (with_bytes h l)) (take_all n part (omega (arith, all))) (stands h some.1) in
    let cuts = more_tail h part none in
    let lines : length (lines_of (with_bytes h part)) ≡ length (lines_of h) = ap (λ (c : Cuts). length c.lines) cuts in
    let tail : after.tail ≡ short_text cut.limit (tail_of h ++ part) = grown.rest ∙ ap (λ n. short_text n (tail_of (with_bytes h part))) limit ∙ ap (λ (c : Cuts). short_text cut.limit c.tail) cuts in
    record {
      lines = omega (arith, grown.count, some.1.count, lines);
      held = held_of after (with_bytes h part) grown;
      grown = omega (arith, ap length tail, grown_if cut.limit (tail_of h) cut.tail part cut.long some.1.rest some.1.over);
    }
