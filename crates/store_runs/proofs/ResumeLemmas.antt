-- A run that was stopped, and one that goes on.
use Rattle.std.proofs.Common.{true, ◌≡◌, ◌≤◌, ◌+◌, ℕ, suc, List, [], ◌∷◌, ◌++◌, map, length, take, drop, refl, ap, sym, arith, append_assoc, ◌∙◌, inl, inr}
use Rattle.std.specs.Prelude.{◌⊎◌}
use Rattle.std.proofs.lemmas.List.{append-nil, length-take, length-drop, drop-drop, map-append, take-append-drop}
use Rattle.flow_base.specs.declared.limits.Limits.{Limits}
use Rattle.audit_lex.specs.History.{History, Step, Byte, Settle}
use Rattle.reach_model.specs.declared.modes.Mode.{Mode}
use Rattle.ingest.specs.Counting.{bytes_in}
use Rattle.dialogue.specs.Saves.{IsReached}
use Rattle.store_runs.specs.Stores.{GoesOn}
use Rattle.dialogue.specs.Runs.{HasTaken, begun_of, steps_of, whole_of}
use Rattle.dialogue.proofs.MomentLemmas.{count_bytes}

-- the first bytes of a log, of which so many are meant
record IsFirst (log : List ℕ) (first : History) : Type 0 where
  pub count : ℕ
  pub within : count ≤ length log
  pub is : first ≡ map Byte (take count log)

one_more : (b : ℕ) (log : List ℕ) (first : History) (x : Step) → x ≡ Byte b → IsFirst log first → IsFirst (b ∷ log) (x ∷ first)
one_more b log first x same is = record {
  count = suc is.count;
  within = omega (arith, is.within);
  is = ap (λ (s : Step). s ∷ first) same ∙ ap (λ (h : History). Byte b ∷ h) is.is;
}

-- a front of a log and its settle is all of it, or a front of the log
front_of : (log : List ℕ) (first more : History) → map Byte log ++ Settle ∷ [] ≡ first ++ more → (more ≡ []) ⊎ IsFirst log first
front_of log [] more same = inr (record { count = 0; within = omega arith; is = refl })
front_of [] (x ∷ []) more same = inl (let tail : ◌≡◌ {A = History} [] more = cc in sym tail)
front_of [] (x ∷ y ∷ first) more same = absurd (let tail : ◌≡◌ {A = History} [] (y ∷ first ++ more) = cc in cc)
front_of (b ∷ log) (x ∷ first) more same = step (front_of log first more (let tail : map Byte log ++ Settle ∷ [] ≡ first ++ more = cc in tail))
  where
    step : (more ≡ []) ⊎ IsFirst log first → (more ≡ []) ⊎ IsFirst (b ∷ log) (x ∷ first)
    step (inl none) = inl none
    step (inr is) = inr (one_more b log first x (let head : x ≡ Byte b = cc in head) is)

-- a run that goes on behind so many more bytes
same_end : (h : History) (before : ℕ) (log : List ℕ) (first : History) → HasTaken true before log → (is : IsFirst (drop before log) first)
    → HasTaken true (before + bytes_in first) log × (whole_of (begun_of true (h ++ first) (before + bytes_in first) log) ≡ whole_of (begun_of true h before log))
same_end h before log first taken is =
    let rest = drop before log in
    let long = length-take is.count rest in
    let left = length-drop before log in
    let within = is.within in
    let counted : bytes_in first ≡ is.count = ap bytes_in is.is ∙ count_bytes (take is.count rest) ∙ (let all : length (take is.count rest) ≡ is.count = omega (arith, long, within) in all) in
    let dropped : drop (before + bytes_in first) log ≡ drop is.count rest = ap (λ (n : ℕ). drop (before + n) log) counted ∙ sym (drop-drop is.count before log) in
    let halves : map Byte rest ≡ map Byte (take is.count rest) ++ map Byte (drop is.count rest) = ap (λ (l : List ℕ). map Byte l) (sym (take-append-drop is.count rest)) ∙ map-append Byte (take is.count rest) (drop is.count rest) in
    let a = map Byte (take is.count rest) in
    let b = map Byte (drop is.count rest) in (
      (omega (arith, taken, counted, within, left)),
      ap (λ (l : List ℕ). (h ++ first) ++ (map Byte l ++ Settle ∷ [])) dropped
          ∙ ap (λ (f : History). (h ++ f) ++ (b ++ Settle ∷ [])) is.is
          ∙ append_assoc h a (b ++ Settle ∷ [])
          ∙ ap (λ (t : History). h ++ t) (sym (append_assoc a b (Settle ∷ [])))
          ∙ ap (λ (t : History). h ++ (t ++ Settle ∷ [])) (sym halves),
    )

whole_front : (h : History) (before : ℕ) (log : List ℕ) (first more : History) → steps_of (begun_of true h before log) ≡ first ++ more → more ≡ [] → h ++ first ≡ whole_of (begun_of true h before log)
whole_front h before log first more parts none = ap (λ (s : History). h ++ s) (let all : first ≡ first ++ more = sym (ap (λ (m : History). first ++ m) none ∙ append-nil first) in all ∙ sym parts)

pub goes_on : (limits : Limits) (mode : Mode) (h : History) (before : ℕ) (log bytes : List ℕ) → HasTaken true before log → IsReached limits mode (begun_of true h before log) (steps_of (begun_of true h before log)) bytes
    → GoesOn limits mode (whole_of (begun_of true h before log)) log bytes
goes_on limits mode h before log bytes taken (inl stores) = record { history = h; part = before; stores = stores; ends = inl (taken, refl) }
goes_on limits mode h before log bytes taken (inr front) = record {
  history = h ++ front.first;
  part = before + bytes_in front.first;
  stores = front.stores;
  ends = by (front_of (drop before log) front.first front.more front.parts);
}
  where
    by : (front.more ≡ []) ⊎ IsFirst (drop before log) front.first
        → (HasTaken true (before + bytes_in front.first) log × (whole_of (begun_of true (h ++ front.first) (before + bytes_in front.first) log) ≡ whole_of (begun_of true h before log))) ⊎ (h ++ front.first ≡ whole_of (begun_of true h before log))
    by (inl none) = inr (whole_front h before log front.first front.more front.parts none)
    by (inr is) = inl (same_end h before log front.first taken is)
