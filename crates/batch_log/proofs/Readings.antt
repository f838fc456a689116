-- Why bytes can be read in one way only.
use Rattle.std.proofs.Common.{◌≡◌, ◌≢◌, ℕ, suc, ◌≤◌, ◌^◌, None, Some, List, [], ◌∷◌, ◌++◌, length, get_or, take, drop, refl, sym, ◌∙◌, ap, arith, append_assoc, length-append}
use Rattle.std.proofs.lemmas.List.{take_at, drop_at, append_cancel_left}
use Rattle.std.specs.List.{All}
use Rattle.batch_log.specs.Batches.{CLOSED, length_bytes, batch, batches, BreaksAt}
use Rattle.batch_log.specs.OneReading.{OneList, OnePlace, NoStore}
use Rattle.batch_log.proofs.Writing.{length-length_bytes}
use Rattle.batch_log.proofs.Gates.{length_bytes_once}

-- no whole batch begins these bytes
record IsEnd (most : ℕ) (rest : List ℕ) : Type 0 where
  none : (payload after : List ℕ) (next : ℕ) → length payload ≤ most → rest ≢ batch payload ++ next ∷ after

closed_is_end : (most : ℕ) (after : List ℕ) → IsEnd most (CLOSED ∷ after)
closed_is_end most after = record { none = λ payload rest next short whole. omega (arith, ap (λ (l : List ℕ). get_or l 0 0) whole) }

-- two payloads in one place are one
one_payload : (p q u v : List ℕ) → length p ≤ 2 ^ 30 → length q ≤ 2 ^ 30 → batch p ++ u ≡ batch q ++ v → p ≡ q
one_payload p q u v p_short q_short same =
    let left : drop 1 (batch p ++ u) ≡ length_bytes (length p) ++ (p ++ u) = append_assoc (length_bytes (length p)) p u in
    let right : drop 1 (batch q ++ v) ≡ length_bytes (length q) ++ (q ++ v) = append_assoc (length_bytes (length q)) q v in
    let tails : length_bytes (length p) ++ (p ++ u) ≡ length_bytes (length q) ++ (q ++ v) = sym left ∙ ap (drop 1) same ∙ right in
    let fields : length_bytes (length p) ≡ length_bytes (length q) =
    sym (take_at (length_bytes (length p)) (p ++ u) 8 (length-length_bytes (length p))) ∙ ap (take 8) tails ∙ take_at (length_bytes (length q)) (q ++ v) 8 (length-length_bytes (length q)) in
    let long : length p ≡ length q = length_bytes_once (length p) (length q) (omega arith) (omega arith) fields in
    let bodies : p ++ u ≡ q ++ v =
    sym (drop_at (length_bytes (length p)) (p ++ u) 8 (length-length_bytes (length p))) ∙ ap (drop 8) tails ∙ drop_at (length_bytes (length q)) (q ++ v) 8 (length-length_bytes (length q)) in
    sym (take_at p u (length p) refl) ∙ ap (take (length p)) bodies ∙ take_at q v (length p) (sym long)

-- a list that goes on has a next item
record HasNext (l : List ℕ) : Type 0 where
  next : ℕ
  after : List ℕ
  is : l ≡ next ∷ after

goes_on : (start : List ℕ) (x : ℕ) (rest : List ℕ) → HasNext (start ++ x ∷ rest)
goes_on [] x rest = record { next = x; after = rest; is = refl }
goes_on (y ∷ start) x rest = record { next = y; after = start ++ x ∷ rest; is = refl }

first_within : (most : ℕ) (p : List ℕ) (ps : List (List ℕ)) → All (λ payload. length payload ≤ most) (p ∷ ps) → length p ≤ most
first_within most p ps within = within 0 [] (omega arith)

rest_within : (most : ℕ) (p : List ℕ) (ps : List (List ℕ)) → All (λ payload. length payload ≤ most) (p ∷ ps) → All (λ payload. length payload ≤ most) ps
rest_within most p ps within = λ k d here. within (suc k) d (omega (arith, here))

whole_at_end : (most : ℕ) (p : List ℕ) (ps : List (List ℕ)) (x : ℕ) (r end : List ℕ) → length p ≤ most → IsEnd most end → batches (p ∷ ps) ++ x ∷ r ≡ end → ⊥
whole_at_end most p ps x r end short is_end same =
    let more = goes_on (batches ps) x r in
    is_end.none p more.after more.next short (sym same ∙ append_assoc (batch p) (batches ps) (x ∷ r) ∙ ap (λ (l : List ℕ). batch p ++ l) more.is)

-- up to where no batch begins there is one list of batches
one_list : (most : ℕ) (ps qs : List (List ℕ)) (x y : ℕ) (r s : List ℕ) → most ≤ 2 ^ 30
    → All (λ payload. length payload ≤ most) ps → All (λ payload. length payload ≤ most) qs → IsEnd most (x ∷ r) → IsEnd most (y ∷ s)
    → batches ps ++ x ∷ r ≡ batches qs ++ y ∷ s → ps ≡ qs
one_list most [] [] x y r s few ps_in qs_in x_end y_end same = refl
one_list most [] (q ∷ qs) x y r s few ps_in qs_in x_end y_end same =
    absurd (whole_at_end most q qs y s (x ∷ r) (first_within most q qs qs_in) x_end (sym same))
one_list most (p ∷ ps) [] x y r s few ps_in qs_in x_end y_end same =
    absurd (whole_at_end most p ps x r (y ∷ s) (first_within most p ps ps_in) y_end same)
one_list most (p ∷ ps) (q ∷ qs) x y r s few ps_in qs_in x_end y_end same =
    let u = batches ps ++ x ∷ r in
    let v = batches qs ++ y ∷ s in
    let parted : batch p ++ u ≡ batch q ++ v = sym (append_assoc (batch p) (batches ps) (x ∷ r)) ∙ same ∙ append_assoc (batch q) (batches qs) (y ∷ s) in
    let p_short = first_within most p ps ps_in in
    let q_short = first_within most q qs qs_in in
    let first : p ≡ q = one_payload p q u v (omega (arith, p_short, few)) (omega (arith, q_short, few)) parted in
    let rest : u ≡ v = append_cancel_left (batch p) u v (parted ∙ ap (λ (l : List ℕ). batch l ++ v) (sym first)) in
    let others : ps ≡ qs = one_list most ps qs x y r s few (rest_within most p ps ps_in) (rest_within most q qs qs_in) x_end y_end rest in
    λ i. first i ∷ others i

no_bytes : (start : List ℕ) (x : ℕ) (rest : List ℕ) → start ++ x ∷ rest ≡ [] → ⊥
no_bytes start x rest none = omega (arith, ap length none, length-append start (x ∷ rest))

pub one_list_of_a_store : OneList
one_list_of_a_store most ps qs bytes few (None, one) (None, other) = one.0 ∙ sym other.0
one_list_of_a_store most ps qs bytes few (None, one) (Some last, other) = absurd (no_bytes (batches qs) CLOSED other.after (sym other.spelled ∙ one.1))
one_list_of_a_store most ps qs bytes few (Some last, one) (None, other) = absurd (no_bytes (batches ps) CLOSED one.after (sym one.spelled ∙ other.1))
one_list_of_a_store most ps qs bytes few (Some last, one) (Some next, other) =
    one_list most ps qs CLOSED CLOSED one.after other.after few one.within other.within (closed_is_end most one.after) (closed_is_end most other.after) (sym one.spelled ∙ other.spelled)

breaks_end : (most place : ℕ) (bytes : List ℕ) (breaks : BreaksAt most place bytes) → IsEnd most (breaks.gate ∷ breaks.after)
breaks_end most place bytes breaks = record { none = breaks.broken.not_open }

pub one_place_of_a_break : OnePlace
one_place_of_a_break most place other bytes few one two =
    one.at ∙ ap (λ (ps : List (List ℕ)). length (batches ps))
    (one_list most one.payloads two.payloads one.gate two.gate one.after two.after few one.within two.within
    (breaks_end most place bytes one) (breaks_end most other bytes two) (sym one.spelled ∙ two.spelled)) ∙ sym two.at

pub a_break_is_no_store : NoStore
a_break_is_no_store most place ps bytes few (None, one) breaks = no_bytes (batches breaks.payloads) breaks.gate breaks.after (sym breaks.spelled ∙ one.1)
a_break_is_no_store most place ps bytes few (Some last, one) breaks =
    let end = breaks_end most place bytes breaks in
    let same : ps ≡ breaks.payloads = one_list most ps breaks.payloads CLOSED breaks.gate one.after breaks.after few one.within breaks.within
    (closed_is_end most one.after) end (sym one.spelled ∙ breaks.spelled) in
    let tail : breaks.gate ∷ breaks.after ≡ CLOSED ∷ one.after = append_cancel_left (batches ps) (breaks.gate ∷ breaks.after) (CLOSED ∷ one.after)
    (ap (λ (qs : List (List ℕ)). batches qs ++ breaks.gate ∷ breaks.after) same ∙ sym breaks.spelled ∙ one.spelled) in
    breaks.broken.not_closed one.after tail
