-- What waits after a history: each record is the one that its line spells, and only keys that wait are closed.
use Rattle.std.proofs.Common.{◌≡◌, ◌∙◌, sym, refl, ap, subst, ℕ, zero, suc, Bool, true, false, cond, List, [], ◌∷◌, ◌++◌, length, map, arith}
use Rattle.std.specs.Prelude.{Option, None, Some, ◌||◌, not, filter, if◌then◌else◌, ⊤}
use Rattle.std.specs.List.{AllByRecursion, list_any}
use Rattle.std.specs.Option.{option_to_list}
use Rattle.std.proofs.lemmas.Bool.{true≢false}
use Rattle.flow_base.specs.declared.limits.Limits.{Limits}
use Rattle.audit_lex.specs.History.{History, Step, Byte, Settle}
use Rattle.audit_lex.specs.declared.header.EventKey.{EventKey}
use Rattle.audit_record.specs.declared.types.Record.{Record}
use Rattle.record_join.specs.Keys.{is_key, ends_event}
use Rattle.record_join.specs.Events.{Joining, group_of, waits, is_among, is_excess, saw, enter, left_at, next_left, ripe_key}
use Rattle.record_join.specs.History.{Step as Told, Came, Settle as Settles, start, told, left, left_after, state}
use Rattle.record_join.proofs.HoldsAll.{entered}
use Rattle.stored.specs.Reading.{AreSpelled}
use Rattle.ingest.specs.Events.{line_tells, lines_tell, lines_since, settle_tells, tells_at, tells_after, told_of, state_of}
use Rattle.ingest.specs.LineRecords.{record_of}
use Rattle.ingest.proofs.PutBack.{key_laws, one_key, by_test, on_true, on_false}
use Rattle.ingest.proofs.Reading.{spelled_to}

all_both : {A : Type 0} (P : A → Type 0) (xs ys : List A) → AllByRecursion P xs → AllByRecursion P ys → AllByRecursion P (xs ++ ys)
all_both P [] ys a b = b
all_both P (x ∷ xs) ys a b = (a.0, all_both P xs ys a.1 b)

-- ---- only keys that wait are closed

abbrev pub ClosedWait : Joining → Type 0
ClosedWait s = (k : EventKey) → waits k s.waiting ≡ false → is_among k s.closed ≡ false

waits_front : (k : EventKey) (xs ys : List Record) → waits k (xs ++ ys) ≡ false → waits k xs ≡ false
waits_front k [] ys e = refl
waits_front k (x ∷ xs) ys e = by (is_key k x.key) e (waits_front k xs ys)
  where
    by : (b : Bool) → (b || waits k (xs ++ ys)) ≡ false → (waits k (xs ++ ys) ≡ false → waits k xs ≡ false) → (b || waits k xs) ≡ false
    by true e go = e
    by false e go = go e

among_keys : (k : EventKey) (rs : List Record) → is_among k (map (λ (r : Record). r.key) rs) ≡ waits k rs
among_keys k [] = refl
among_keys k (r ∷ rs) = ap (λ b. is_key k r.key || b) (among_keys k rs)

module _ {X : Type 0} (key : X → EventKey) where
  near : (k q : EventKey) (x : X) → is_key k (key x) ≡ true → is_key q (key x) ≡ is_key k q
  near k q x e = key_laws.symm q (key x) ∙ sym (key_laws.congr k (key x) q e)

  same_if : (b : Bool) → false ≡ cond b false false
  same_if true = refl
  same_if false = refl

  any_apart : (k q : EventKey) (xs : List X) → list_any (λ x. is_key q (key x)) (filter (λ x. not (is_key k (key x))) xs) ≡ cond (is_key k q) false (list_any (λ x. is_key q (key x)) xs)
  any_apart k q [] = same_if (is_key k q)
  any_apart k q (x ∷ xs) =
      let ih = any_apart k q xs in
      let one : is_key k (key x) ≡ true → is_key q (key x) ≡ is_key k q = near k q x in
      let two : is_key k q ≡ true → is_key k (key x) ≡ is_key q (key x) = key_laws.congr k q (key x) in
      grind (arith, ih, one, two)

module _ (limits : Limits) where
  module _ (s : Joining) (r : Record) (cw : ClosedWait s) where
    abbrev now : Joining
    now = record s { clock = saw s.clock r.key.ms }

    close_keeps : (w : Bool) → waits r.key s.waiting ≡ w → ClosedWait (if w then record now { closed = r.key ∷ s.closed } else now)
    close_keeps true e = λ k none. by_test (is_key k r.key)
        (λ same. absurd (true≢false (sym e ∙ ap (λ (z : EventKey). waits z s.waiting) (sym (one_key k r.key same)) ∙ none)))
        (λ other. ap (λ b. b || is_among k s.closed) other ∙ cw k none)
    close_keeps false e = cw

    put_keeps : (x : Bool) → ClosedWait (if x then record now { excess = suc s.excess } else record now { waiting = s.waiting ++ r ∷ [] })
    put_keeps true = cw
    put_keeps false = λ k none. cw k (waits_front k s.waiting (r ∷ []) none)

    enter_if : (b : Bool) → ClosedWait (if b then (if waits r.key s.waiting then record now { closed = r.key ∷ s.closed } else now) else (if is_excess limits (group_of r.key s.waiting) r then record now { excess = suc s.excess } else record now { waiting = s.waiting ++ r ∷ [] }))
    enter_if true = close_keeps (waits r.key s.waiting) refl
    enter_if false = put_keeps (is_excess limits (group_of r.key s.waiting) r)

    enter_keeps : ClosedWait (enter limits s r)
    enter_keeps = enter_if (ends_event r)

  told_keeps : (s : Joining) (step : Told) → ClosedWait s → ClosedWait (told limits s step)
  told_keeps s (Came r) cw = enter_keeps s r cw
  told_keeps s Settles cw = λ k none. among_keys k s.waiting ∙ none

  next_keeps : (s : Joining) (o : Option EventKey) → ClosedWait s → ClosedWait (left_at s o)
  next_keeps s None cw = cw
  next_keeps s (Some m) cw = λ k none.
      any_apart (λ (c : EventKey). c) m k s.closed
      ∙ by_test (is_key m k)
      (λ same. on_true (is_key m k) false (is_among k s.closed) same)
      (λ other. on_false (is_key m k) false (is_among k s.closed) other
      ∙ cw k (sym (on_false (is_key m k) false (waits k s.waiting) other) ∙ sym (any_apart (λ (r : Record). r.key) m k s.waiting) ∙ none))

  left_keeps : (n : ℕ) (s : Joining) → ClosedWait s → ClosedWait (left n limits s)
  left_keeps zero s cw = cw
  left_keeps (suc n) s cw = left_keeps n (next_left limits s) (next_keeps s (ripe_key limits s) cw)

  state_keeps : (s : Joining) (steps : List Told) → ClosedWait s → ClosedWait (state limits s steps)
  state_keeps s [] cw = cw
  state_keeps s (step ∷ steps) cw =
      let t : Joining = told limits s step in
      state_keeps (left_after limits t) steps (left_keeps (length t.waiting) t (told_keeps s step cw))

  pub closed_wait : (h : History) → ClosedWait (state_of limits h)
  closed_wait h = state_keeps start (told_of limits h) (λ k none. refl)

  -- ---- each record is the one that its line spells

  abbrev read : List ℕ → Option Record
  read = record_of limits.line

  abbrev TellsSpelled : Told → Type 0
  TellsSpelled (Came r) = read r.line ≡ Some r
  TellsSpelled Settles = ⊤

  spelled_own : (line : List ℕ) (r : Record) → read line ≡ Some r → read r.line ≡ Some r
  spelled_own line r e = ap read (spelled_to limits.line line r e).1.text ∙ e

  line_spelled : (line : List ℕ) (o : Option Record) → read line ≡ o → AllByRecursion TellsSpelled (map Came (option_to_list o))
  line_spelled line None e = tt
  line_spelled line (Some r) e = (spelled_own line r e, tt)

  lines_spelled : (lines : List (List ℕ)) → AllByRecursion TellsSpelled (lines_tell limits lines)
  lines_spelled [] = tt
  lines_spelled (line ∷ lines) = all_both TellsSpelled (line_tells limits line) (lines_tell limits lines) (line_spelled line (read line) refl) (lines_spelled lines)

  settle_spelled : (step : Step) → AllByRecursion TellsSpelled (settle_tells step)
  settle_spelled (Byte b) = tt
  settle_spelled Settle = (tt, tt)

  tells_spelled : (before h : History) → AllByRecursion TellsSpelled (tells_after limits before h)
  tells_spelled before [] = tt
  tells_spelled before (step ∷ more) =
      all_both TellsSpelled (tells_at limits before step) (tells_after limits (before ++ step ∷ []) more)
      (all_both TellsSpelled (lines_tell limits (lines_since before (before ++ step ∷ []))) (settle_tells step) (lines_spelled (lines_since before (before ++ step ∷ []))) (settle_spelled step))
      (tells_spelled (before ++ step ∷ []) more)

  abbrev IsRead : Record → Type 0
  IsRead r = read r.line ≡ Some r

  added_spelled : (r : Record) (b x : Bool) → IsRead r → AllByRecursion IsRead (cond b [] (cond x [] (r ∷ [])))
  added_spelled r true x is = tt
  added_spelled r false true is = tt
  added_spelled r false false is = (is, tt)

  told_spelled : (s : Joining) (step : Told) → TellsSpelled step → AreSpelled read s.waiting → AreSpelled read (told limits s step).waiting
  told_spelled s (Came r) is are =
      let b = ends_event r in
      let x = is_excess limits (group_of r.key s.waiting) r in
      subst (AllByRecursion IsRead) (sym (entered limits s r b x refl refl).1)
      (all_both IsRead s.waiting (cond b [] (cond x [] (r ∷ []))) are (added_spelled r b x is))
  told_spelled s Settles is are = are

  kept_if : (r : Record) (rs : List Record) (b : Bool) → IsRead r → AllByRecursion IsRead rs → AllByRecursion IsRead (if b then r ∷ rs else rs)
  kept_if r rs true is are = (is, are)
  kept_if r rs false is are = are

  kept_spelled : (test : Record → Bool) (rs : List Record) → AllByRecursion IsRead rs → AllByRecursion IsRead (filter test rs)
  kept_spelled test [] are = tt
  kept_spelled test (r ∷ rs) are = kept_if r (filter test rs) (test r) are.0 (kept_spelled test rs are.1)

  next_spelled : (s : Joining) (o : Option EventKey) → AreSpelled read s.waiting → AreSpelled read (left_at s o).waiting
  next_spelled s None are = are
  next_spelled s (Some m) are = kept_spelled (λ r. not (is_key m r.key)) s.waiting are

  left_spelled : (n : ℕ) (s : Joining) → AreSpelled read s.waiting → AreSpelled read (left n limits s).waiting
  left_spelled zero s are = are
  left_spelled (suc n) s are = left_spelled n (next_left limits s) (next_spelled s (ripe_key limits s) are)

  state_spelled : (s : Joining) (steps : List Told) → AllByRecursion TellsSpelled steps → AreSpelled read s.waiting → AreSpelled read (state limits s steps).waiting
  state_spelled s [] tells are = are
  state_spelled s (step ∷ steps) tells are =
      let t : Joining = told limits s step in
      state_spelled (left_after limits t) steps tells.1 (left_spelled (length t.waiting) t (told_spelled s step tells.0 are))

  pub waiting_spelled : (h : History) → AreSpelled read (state_of limits h).waiting
  waiting_spelled h = state_spelled start (told_of limits h) (tells_spelled [] h) tt
