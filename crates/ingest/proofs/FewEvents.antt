-- There are no more events than lines, and no more lines than bytes.
use Rattle.std.proofs.Common.{◌≡◌, ◌≤◌, ◌+◌, ◌++◌, ◌∙◌, sym, refl, ap, ℕ, zero, suc, Bool, true, false, not, List, [], ◌∷◌, length, map, filter, arith, append_assoc, length-append, Option, None, Some}
use Rattle.std.specs.Prelude.{if◌then◌else◌}
use Rattle.std.specs.Option.{option_to_list}
use Rattle.flow_base.specs.declared.limits.Limits.{Limits}
use Rattle.audit_lex.specs.History.{History, Step, Byte, Settle}
use Rattle.audit_lex.specs.declared.header.EventKey.{EventKey}
use Rattle.audit_record.specs.declared.types.Record.{Record}
use Rattle.record_join.specs.Keys.{is_key}
use Rattle.record_join.specs.Events.{Joining, ripe_key, event_at, left_at, next_event, next_left}
use Rattle.record_join.specs.History.{Step as Told, Came, Settle as Settles, start, told, events, state, released, left, released_after, left_after}
use Rattle.record_join.specs.declared.event.Event.{Event}
use Rattle.ingest.specs.LineRecords.{record_of}
use Rattle.ingest.specs.Counting.{bytes_in}
use Rattle.ingest.specs.Events.{lines_since, line_tells, lines_tell, settle_tells, tells_at, tells_after, told_of, state_of, events_of}
use Rattle.ingest.proofs.Bytes.{few_lines}
use Rattle.ingest.proofs.Fewer.{size, enter_size, released_so}
use Rattle.ingest.proofs.Telling.{since_parts}

-- how many records came
abbrev pub cames : List Told → ℕ
cames [] = 0
cames (Came r ∷ steps) = 1 + cames steps
cames (Settles ∷ steps) = cames steps

pub cames_append : (xs ys : List Told) → cames (xs ++ ys) ≡ cames xs + cames ys
cames_append [] ys = omega arith
cames_append (Came r ∷ xs) ys = ap (λ n. 1 + n) (cames_append xs ys) ∙ omega arith
cames_append (Settles ∷ xs) ys = cames_append xs ys

-- how many records these events have
abbrev pub records_in : List Event → ℕ
records_in [] = 0
records_in (event ∷ events) = length event.records + records_in events

pub records_append : (xs ys : List Event) → records_in (xs ++ ys) ≡ records_in xs + records_in ys
records_append [] ys = omega arith
records_append (event ∷ xs) ys = ap (λ n. length event.records + n) (records_append xs ys) ∙ omega arith

part_if : {A : Type 0} (b : Bool) (x : A) (ins outs : List A) → length (if b then x ∷ ins else ins) + length (if not b then x ∷ outs else outs) ≡ 1 + (length ins + length outs)
part_if true x ins outs = omega arith
part_if false x ins outs = omega arith

parts_of : {A : Type 0} (p : A → Bool) (xs : List A) → length (filter p xs) + length (filter (λ x. not (p x)) xs) ≡ length xs
parts_of p [] = omega arith
parts_of p (x ∷ xs) = part_if (p x) x _ _ ∙ ap (λ n. 1 + n) (parts_of p xs) ∙ omega arith

module _ (limits : Limits) where
  one_release : (s : Joining) (o : Option Event) → next_event limits s ≡ o → length (option_to_list o) + size (next_left limits s) ≤ size s
  one_release s None e = no_release (ripe_key limits s) refl
    where
      no_release : (k : Option EventKey) → ripe_key limits s ≡ k → 0 + size (next_left limits s) ≤ size s
      no_release None r = ap_size (sym (ap (left_at s) r))
        where
          ap_size : s ≡ next_left limits s → 0 + size (next_left limits s) ≤ size s
          ap_size same = let e : size s ≡ size (next_left limits s) = ap size same in omega (arith, e)
      no_release (Some k) r = absurd (none_some (sym e ∙ ap (event_at s) r))
        where
          none_some : {x : Event} → None ≡ Some x → ⊥
          none_some e = cc e
  one_release s (Some event) e = let so = released_so limits s event (sym e) in omega (arith, so.fewer, so.excess)

  pub releases_size : (n : ℕ) (s : Joining) → length (released n limits s) + size (left n limits s) ≤ size s
  releases_size zero s = omega arith
  releases_size (suc n) s =
      let rest = released n limits (next_left limits s) in
      omega (arith, length-append (option_to_list (next_event limits s)) rest, one_release s (next_event limits s) refl, releases_size n (next_left limits s))

  told_size : (s : Joining) (step : Told) → size (told limits s step) ≤ size s + cames (step ∷ [])
  told_size s (Came r) = enter_size limits s r
  told_size s Settles = omega arith

  cames_first : (step : Told) (steps : List Told) → cames (step ∷ steps) ≡ cames (step ∷ []) + cames steps
  cames_first step steps = cames_append (step ∷ []) steps

  pub events_size : (s : Joining) (steps : List Told) → length (events limits s steps) + size (state limits s steps) ≤ size s + cames steps
  events_size s [] = omega arith
  events_size s (step ∷ steps) =
      let t = told limits s step in
      let later = events limits (left_after limits t) steps in
      omega (arith, length-append (released_after limits t) later, told_size s step, releases_size (length t.waiting) t, events_size (left_after limits t) steps, cames_first step steps)

  line_cames : (o : Option Record) → cames (map Came (option_to_list o)) ≤ 1
  line_cames None = omega arith
  line_cames (Some r) = omega arith

  lines_came : (lines : List (List ℕ)) → cames (lines_tell limits lines) ≤ length lines
  lines_came [] = omega arith
  lines_came (line ∷ lines) =
      omega (arith, cames_append (line_tells limits line) (lines_tell limits lines), line_cames (record_of limits.line line), lines_came lines)

  pub settle_cames : (step : Step) → cames (settle_tells step) ≡ 0
  settle_cames (Byte b) = refl
  settle_cames Settle = refl

  tells_cames : (before more : History) → cames (tells_after limits before more) ≤ length (lines_since before (before ++ more))
  tells_cames before [] = omega arith
  tells_cames before (step ∷ more) =
      let here : History = before ++ step ∷ [] in
      let whole : here ++ more ≡ before ++ step ∷ more = append_assoc before (step ∷ []) more in
      let lines : length (lines_since before (before ++ step ∷ more)) ≡ length (lines_since before here) + length (lines_since here (here ++ more)) =
      ap (λ (g : History). length (lines_since before g)) (sym whole)
      ∙ ap length (since_parts before (step ∷ []) more)
      ∙ length-append (lines_since before here) (lines_since here (here ++ more)) in
      omega (
        arith,
        cames_append (tells_at limits before step) (tells_after limits here more),
        cames_append (lines_tell limits (lines_since before here)) (settle_tells step),
        lines_came (lines_since before here),
        settle_cames step,
        tells_cames here more,
        lines,
      )

  -- ---- the records of events

  pub hold_at : (s : Joining) (o : Option EventKey) → records_in (option_to_list (event_at s o)) + length (left_at s o).waiting ≡ length s.waiting
  hold_at s None = omega arith
  hold_at s (Some k) = omega (arith, parts_of (λ (r : Record). is_key k r.key) s.waiting)

  excess_at : (s : Joining) (o : Option EventKey) → (left_at s o).excess ≡ s.excess
  excess_at s None = refl
  excess_at s (Some k) = refl

  -- releases lose no record
  pub releases_hold : (n : ℕ) (s : Joining) → records_in (released n limits s) + length (left n limits s).waiting ≡ length s.waiting
  releases_hold zero s = omega arith
  releases_hold (suc n) s =
      omega (arith, records_append (option_to_list (next_event limits s)) (released n limits (next_left limits s)), hold_at s (ripe_key limits s), releases_hold n (next_left limits s))

  releases_excess : (n : ℕ) (s : Joining) → (left n limits s).excess ≡ s.excess
  releases_excess zero s = refl
  releases_excess (suc n) s = releases_excess n (next_left limits s) ∙ excess_at s (ripe_key limits s)

  pub records_size : (s : Joining) (steps : List Told) → records_in (events limits s steps) + size (state limits s steps) ≤ size s + cames steps
  records_size s [] = omega arith
  records_size s (step ∷ steps) =
      let t = told limits s step in
      let later = events limits (left_after limits t) steps in
      omega (
        arith,
        records_append (released_after limits t) later,
        told_size s step,
        releases_hold (length t.waiting) t,
        releases_excess (length t.waiting) t,
        records_size (left_after limits t) steps,
        cames_first step steps,
      )

  -- the records of events and those that wait are no more than the bytes
  pub few_records : (h : History) → records_in (events_of limits h) + size (state_of limits h) ≤ bytes_in h
  few_records h = omega (arith, records_size start (told_of limits h), tells_cames [] h, few_lines h)

  pub few_events : (h : History) → length (events_of limits h) + size (state_of limits h) ≤ bytes_in h
  few_events h = omega (arith, events_size start (told_of limits h), tells_cames [] h, few_lines h)
