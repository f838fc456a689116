-- Times of what waits and of what was released.
use Rattle.std.proofs.Common.{◌≡◌, ◌≤◌, ◌^◌, ◌++◌, ◌∷◌, [], sym, refl, ap, subst, ℕ, zero, suc, Bool, true, false, not, List, length, map, filter, arith, Option, None, Some, if◌then◌else◌, max, inl, inr}
use Rattle.std.specs.Prelude.{⊤, IfSome}
use Rattle.std.specs.List.{AllByRecursion, Contains}
use Rattle.std.specs.Option.{option_to_list}
use Rattle.std.proofs.lemmas.List.Elements.{Contains-append_cases}
use Rattle.flow_base.specs.declared.limits.Limits.{Limits}
use Rattle.flow_base.specs.declared.types.Flow.{Flow}
use Rattle.flow_base.specs.declared.types.Key.{Key}
use Rattle.acts.specs.declared.act.Taken.{Taken}
use Rattle.acts.specs.declared.link.Link.{Link}
use Rattle.acts.specs.Flows.{acts_of, objects, flows, flow_at, flow_if, link_of, latest, TimesNeverFall}
use Rattle.reach_model.specs.Flows.{time}
use Rattle.audit_lex.specs.History.{History, Step, Byte, Settle}
use Rattle.audit_lex.specs.declared.header.EventKey.{EventKey}
use Rattle.audit_record.specs.declared.types.Record.{Record}
use Rattle.record_join.specs.Keys.{is_key, is_below, ends_event}
use Rattle.record_join.specs.Events.{Joining, group_of, waits, is_excess, close, put, saw, seen_time, greater_key, lesser_key, least_key, is_ripe_at, only_ripe, ripe_key, left_at, next_left}
use Rattle.record_join.specs.History.{Step as Told, Came, Settle as Settles, start, told, state, left, left_after}
use Rattle.stored.specs.Moment.{time_or_zero, ms_or_zero}
use Rattle.ingest.specs.LineRecords.{record_of}
use Rattle.ingest.specs.Events.{lines_since, line_tells, lines_tell, settle_tells, tells_at, tells_after, told_of, state_of}
use Rattle.ingest.proofs.Fewer.{enter_time}
use Rattle.ingest.proofs.KeyTimes.{record_time}
use Rattle.ingest.proofs.Telling.{state_more}

-- ---- flows

alone : (g f : Flow) → Contains (g ∷ []) f → time f ≡ time g
alone g f (zero, h, is) = sym (ap time is)
alone g f (suc i, h, is) = absurd (omega (arith, h))

one_flow : (seen : List Key) (taken : Taken) (place : ℕ) (link : Option Link) (f : Flow) → Contains (flow_if seen taken place link) f → time f ≡ taken.ms
one_flow seen taken place None f there = absurd (omega (arith, there.1))
one_flow seen taken place (Some link) f there = alone (flow_at seen taken place link) f there

-- no flow is later than the newest act
pub flows_by : (taken : List Taken) → TimesNeverFall taken → (f : Flow) → Contains (flows taken) f → time f ≤ latest taken
flows_by [] rise f there = absurd (omega (arith, there.1))
flows_by (t ∷ before) rise f there = elim (Contains-append_cases (flows before) (flow_if (objects (t.act ∷ acts_of before)) t (length (flows before)) (link_of (acts_of before) t.act)) f there) [
  | inl old ↦ let by = flows_by before rise.1 f old in omega (arith, by, rise.0)
  | inr new ↦ let is = one_flow (objects (t.act ∷ acts_of before)) t (length (flows before)) (link_of (acts_of before) t.act) f new in omega (arith, is)
]

-- ---- the effective time never falls

max_more : (a b : ℕ) → a ≤ max a b
max_more a b = omega arith

module _ (limits : Limits) where
  at_rises : (s : Joining) (o : Option EventKey) → s.clock.effective ≤ (left_at s o).clock.effective
  at_rises s None = omega arith
  at_rises s (Some k) = max_more s.clock.effective k.ms

  left_rises : (n : ℕ) (s : Joining) → s.clock.effective ≤ (left n limits s).clock.effective
  left_rises zero s = omega arith
  left_rises (suc n) s = omega (arith, at_rises s (ripe_key limits s), left_rises n (next_left limits s))

  told_same : (s : Joining) (step : Told) → (told limits s step).clock.effective ≡ s.clock.effective
  told_same s (Came r) = enter_time limits s r
  told_same s Settles = refl

  state_rises : (s : Joining) (steps : List Told) → s.clock.effective ≤ (state limits s steps).clock.effective
  state_rises s [] = omega arith
  state_rises s (step ∷ steps) =
      let t = told limits s step in
      omega (arith, told_same s step, left_rises (length t.waiting) t, state_rises (left_after limits t) steps)

  -- as a history goes on, the effective time doesn't fall
  pub effective_rises : (h more : History) → (state_of limits h).clock.effective ≤ (state_of limits (h ++ more)).clock.effective
  effective_rises h more = subst (λ (s : Joining). (state_of limits h).clock.effective ≤ s.clock.effective) (sym (state_more limits h more)) (state_rises (state_of limits h) (tells_after limits h more))

-- ---- no time is too great

module _ (most : ℕ) where
  -- no record is later
  abbrev IsBy : Record → Type 0
  IsBy r = r.key.ms ≤ most

  -- no time that waits, or that the clock has, is later
  pub record AreBy (s : Joining) : Type 0 where
    pub waiting : AllByRecursion IsBy s.waiting
    pub seen : time_or_zero s.clock.seen ≤ most
    pub released : ms_or_zero s.clock.released ≤ most
    pub effective : s.clock.effective ≤ most

  by_push : (rs : List Record) (r : Record) → AllByRecursion IsBy rs → IsBy r → AllByRecursion IsBy (rs ++ r ∷ [])
  by_push [] r all by = (by, tt)
  by_push (x ∷ rs) r all by = (all.0, by_push rs r all.1 by)

  by_if : (b : Bool) (r : Record) (rs : List Record) → IsBy r → AllByRecursion IsBy rs → AllByRecursion IsBy (if b then r ∷ rs else rs)
  by_if true r rs by all = (by, all)
  by_if false r rs by all = all

  by_filter : (p : Record → Bool) (rs : List Record) → AllByRecursion IsBy rs → AllByRecursion IsBy (filter p rs)
  by_filter p [] all = tt
  by_filter p (r ∷ rs) all = by_if (p r) r (filter p rs) all.0 (by_filter p rs all.1)

  lesser_by : (b : Bool) (k other : EventKey) → k.ms ≤ most → other.ms ≤ most → (if b then other else k).ms ≤ most
  lesser_by true k other h g = g
  lesser_by false k other h g = h

  least_by : (k : EventKey) (o : Option EventKey) → k.ms ≤ most → IfSome o (λ (m : EventKey). m.ms ≤ most) → (lesser_key k o).ms ≤ most
  least_by k None h g = h
  least_by k (Some other) h g = lesser_by (is_below other k) k other h g

  keys_by : (rs : List Record) → AllByRecursion IsBy rs → IfSome (least_key rs) (λ (m : EventKey). m.ms ≤ most)
  keys_by [] all = tt
  keys_by (r ∷ rs) all = least_by r.key (least_key rs) all.0 (keys_by rs all.1)

  seen_by : (o : Option ℕ) (ms : ℕ) → time_or_zero o ≤ most → ms ≤ most → time_or_zero (seen_time o ms) ≤ most
  seen_by None ms h g = g
  seen_by (Some seen) ms h g = omega (arith, h, g)

  greater_by : (o : Option EventKey) (k : EventKey) → ms_or_zero o ≤ most → k.ms ≤ most → (greater_key o k).ms ≤ most
  greater_by None k h g = g
  greater_by (Some r) k h g = lesser_by (is_below k r) k r g h

  both_by : (a b : ℕ) → a ≤ most → b ≤ most → max a b ≤ most
  both_by a b h g = omega (arith, h, g)

  module _ (limits : Limits) where
    ripe_if : (b : Bool) (k : EventKey) → k.ms ≤ most → IfSome (if b then Some k else None) (λ (m : EventKey). m.ms ≤ most)
    ripe_if true k h = h
    ripe_if false k h = tt

    ripe_by : (s : Joining) (o : Option EventKey) → IfSome o (λ (m : EventKey). m.ms ≤ most) → IfSome (only_ripe limits s o) (λ (m : EventKey). m.ms ≤ most)
    ripe_by s None h = tt
    ripe_by s (Some k) h = ripe_if (is_ripe_at limits s k) k h

    at_by : (s : Joining) (o : Option EventKey) → AreBy s → IfSome o (λ (m : EventKey). m.ms ≤ most) → AreBy (left_at s o)
    at_by s None by h = by
    at_by s (Some k) by h = record {
      waiting = by_filter (λ (r : Record). not (is_key k r.key)) s.waiting by.waiting;
      seen = by.seen;
      released = greater_by s.clock.released k by.released h;
      effective = both_by s.clock.effective k.ms by.effective h;
    }

    left_by : (n : ℕ) (s : Joining) → AreBy s → AreBy (left n limits s)
    left_by zero s by = by
    left_by (suc n) s by = left_by n (next_left limits s) (at_by s (ripe_key limits s) by (ripe_by s (least_key s.waiting) (keys_by s.waiting by.waiting)))

    close_if : (b : Bool) (s : Joining) (key : EventKey) → AreBy s → AreBy (if b then record s { closed = key ∷ s.closed } else s)
    close_if true s key by = record { waiting = by.waiting; seen = by.seen; released = by.released; effective = by.effective }
    close_if false s key by = by

    put_if : (b : Bool) (s : Joining) (r : Record) → IsBy r → AreBy s → AreBy (if b then record s { excess = suc s.excess } else record s { waiting = s.waiting ++ r ∷ [] })
    put_if true s r h by = record { waiting = by.waiting; seen = by.seen; released = by.released; effective = by.effective }
    put_if false s r h by = record { waiting = by_push s.waiting r by.waiting h; seen = by.seen; released = by.released; effective = by.effective }

    enter_if : (b : Bool) (now : Joining) (r : Record) → IsBy r → AreBy now → AreBy (if b then close now r.key else put limits now r)
    enter_if true now r h by = close_if (waits r.key now.waiting) now r.key by
    enter_if false now r h by = put_if (is_excess limits (group_of r.key now.waiting) r) now r h by

    -- what comes isn't later either
    abbrev IsToldBy : Told → Type 0
    IsToldBy (Came r) = IsBy r
    IsToldBy Settles = ⊤

    told_by : (s : Joining) (step : Told) → IsToldBy step → AreBy s → AreBy (told limits s step)
    told_by s (Came r) h by = enter_if (ends_event r) (record s { clock = saw s.clock r.key.ms }) r h
        (record { waiting = by.waiting; seen = seen_by s.clock.seen r.key.ms by.seen h; released = by.released; effective = by.effective })
    told_by s Settles h by = record { waiting = by.waiting; seen = by.seen; released = by.released; effective = by.effective }

    pub state_by : (s : Joining) (steps : List Told) → AllByRecursion IsToldBy steps → AreBy s → AreBy (state limits s steps)
    state_by s [] all by = by
    state_by s (step ∷ steps) all by =
        let t = told limits s step in
        state_by (left_after limits t) steps all.1 (left_by (length t.waiting) t (told_by s step all.0 by))

    all_append : (xs ys : List Told) → AllByRecursion IsToldBy xs → AllByRecursion IsToldBy ys → AllByRecursion IsToldBy (xs ++ ys)
    all_append [] ys a b = b
    all_append (x ∷ xs) ys a b = (a.0, all_append xs ys a.1 b)

    module _ (by_line : (line : List ℕ) (r : Record) → record_of limits.line line ≡ Some r → IsBy r) where
      line_by : (line : List ℕ) (o : Option Record) → record_of limits.line line ≡ o → AllByRecursion IsToldBy (map Came (option_to_list o))
      line_by line None e = tt
      line_by line (Some r) e = (by_line line r e, tt)

      lines_by : (lines : List (List ℕ)) → AllByRecursion IsToldBy (lines_tell limits lines)
      lines_by [] = tt
      lines_by (line ∷ lines) = all_append (line_tells limits line) (lines_tell limits lines) (line_by line (record_of limits.line line) refl) (lines_by lines)

      settle_by : (step : Step) → AllByRecursion IsToldBy (settle_tells step)
      settle_by (Byte b) = tt
      settle_by Settle = (tt, tt)

      pub tells_by : (before more : History) → AllByRecursion IsToldBy (tells_after limits before more)
      tells_by before [] = tt
      tells_by before (step ∷ more) =
          let here : History = before ++ step ∷ [] in
          all_append (tells_at limits before step) (tells_after limits here more)
          (all_append (lines_tell limits (lines_since before here)) (settle_tells step) (lines_by (lines_since before here)) (settle_by step))
          (tells_by here more)

-- no time that waits or that the clock has is above this
pub times_by : (limits : Limits) (h : History) → AreBy (10 ^ 18) (state_of limits h)
times_by limits h =
    state_by (10 ^ 18) limits start (told_of limits h)
    (tells_by (10 ^ 18) limits (λ line r e. let less = record_time limits.line line r e in omega (arith, less)) [] h)
    (record { waiting = tt; seen = omega arith; released = omega arith; effective = omega arith })
