-- A loop that releases all that is ripe, and follows each event.
use Rattle.std.proofs.Common.{◌≡◌, ◌≤◌, ◌<◌, ◌+◌, ◌^◌, ◌++◌, ◌∙◌, sym, refl, ap, subst, suc, Bool, true, false, List, [], ◌∷◌, length, arith, append_assoc, append-nil, length-append, Option, None, Some}
use Rattle.std.specs.Prelude.{is_some, if◌then◌else◌}
use Rattle.std.specs.Option.{option_to_list}
use Rattle.std.proofs.lemmas.Bool.{true≢false}
use Rattle.flow_base.specs.declared.limits.Limits.{Limits}
use Rattle.flow_base.specs.declared.limits.Full.{Full}
use Rattle.audit_lex.specs.declared.header.EventKey.{EventKey}
use Rattle.audit_record.specs.declared.types.Record.{Record}
use Rattle.record_join.specs.Keys.{ends_event}
use Rattle.record_join.specs.contracts.event.TakenPartialEq.TheImpl.{ghosts}
use Rattle.record_join.specs.declared.event.Taken.{Taken}
use Rattle.record_join.specs.declared.event.Taken.TheVariants.{Held, Closed, Excess}
use Rattle.record_join.specs.Events.{Joining, enter, settled, saw, close, put, waits, group_of, is_excess, taken_as, ripe_key, event_of, event_at, next_event, next_left}
use Rattle.record_join.specs.History.{released, released_after, left_after}
use Rattle.record_join.specs.StandsFor.{Joiner, StandsFor as JoinStandsFor}
use Rattle.record_join.specs.declared.clock.JoinClock.{JoinClock}
use Rattle.record_join.specs.declared.event.Event.{Event}
use Rattle.flow_events.specs.declared.tables.Tables.{Tables}
use Rattle.kept_flows.specs.KeptFlows.{KeptFlows}
use Rattle.ingest.specs.Owing.{IsOwed, OwesBy, NextPasses}
use Rattle.ingest.specs.Parts.{Joined}
use Rattle.ingest.specs.StandsFor.{IsInTime, JoinedStandsFor}
use Rattle.flow_base.specs.declared.faults.Refused.{Refused}
use Rattle.flow_base.specs.declared.faults.Refused.TheVariants as why
use Rattle.record_join.proofs.Turns.{none_released, none_left, one_release, one_left}
use Rattle.ingest.proofs.Clocking.{released_entered}
use Rattle.ingest.proofs.Fewer.{released_so, enter_time}
use Rattle.ingest.proofs.Together.{in_time_clock}

-- some events of those that s releases were followed, and the rest is left
pub record IsUnderWay {K : Type 0} (limits : Limits) (s : Joining) (before : List Event) (joined : Joined K) : Type 0 where
  pub rest : Joining
  pub done : List Event
  pub stands : JoinedStandsFor limits joined rest (before ++ done)
  pub done_is : done ++ released_after limits rest ≡ released_after limits s
  pub left_is : left_after limits rest ≡ left_after limits s
  pub few : length (before ++ done) + length rest.waiting ≤ 2 ^ 61

module _ (limits : Limits) where
  -- the event that is ripe
  pub ripe_event : (s : Joining) → is_some (ripe_key limits s) ≡ true → (event : Event) × (next_event limits s ≡ Some event)
  ripe_event s e = by (ripe_key limits s) refl e
    where
      by : (o : Option EventKey) → ripe_key limits s ≡ o → is_some o ≡ true → (event : Event) × (next_event limits s ≡ Some event)
      by None is e = absurd (true≢false (sym e))
      by (Some key) is e = (event_of s key, ap (event_at s) is)

  not_ripe : (s : Joining) → is_some (ripe_key limits s) ≡ false → ripe_key limits s ≡ None
  not_ripe s e = by (ripe_key limits s) e
    where
      by : (o : Option EventKey) → is_some o ≡ false → o ≡ None
      by None e = refl
      by (Some key) e = absurd (true≢false e)

  pub all_done : {K : Type 0} (s : Joining) (before : List Event) (joined : Joined K) (w : IsUnderWay limits s before joined) → is_some (ripe_key limits w.rest) ≡ false
      → JoinedStandsFor limits joined (left_after limits s) (before ++ released_after limits s)
  all_done s before joined w none =
      let quiet = not_ripe w.rest none in
      let left : w.rest ≡ left_after limits s = sym (none_left limits (length w.rest.waiting) w.rest quiet) ∙ w.left_is in
      let done : w.done ≡ released_after limits s = sym (append-nil w.done) ∙ ap (λ l. w.done ++ l) (sym (none_released limits (length w.rest.waiting) w.rest quiet)) ∙ w.done_is in
      subst (λ (t : Joining). JoinedStandsFor limits joined t (before ++ released_after limits s)) left
      (subst (λ (l : List Event). JoinedStandsFor limits joined w.rest (before ++ l)) done w.stands)

  goes_by : {K : Type 0} (s : Joining) (before : List Event) (joined after : Joined K) (event : Event) (w : IsUnderWay limits s before joined)
      → Some event ≡ next_event limits w.rest
      → JoinedStandsFor limits after (next_left limits w.rest) ((before ++ w.done) ++ event ∷ [])
      → IsUnderWay limits s before after
  goes_by s before joined after event w is stands =
      let so = released_so limits w.rest event is in
      let parts : (before ++ w.done) ++ event ∷ [] ≡ before ++ (w.done ++ event ∷ []) = append_assoc before w.done (event ∷ []) in
      let longer : length ((before ++ w.done) ++ event ∷ []) ≡ length (before ++ w.done) + 1 = length-append (before ++ w.done) (event ∷ []) in
      record {
        rest = next_left limits w.rest;
        done = w.done ++ event ∷ [];
        stands = subst (λ (l : List Event). JoinedStandsFor limits after (next_left limits w.rest) l) parts stands;
        done_is =
            append_assoc w.done (event ∷ []) (released_after limits (next_left limits w.rest))
            ∙ ap (λ (o : Option Event). w.done ++ (option_to_list o ++ released_after limits (next_left limits w.rest))) is
            ∙ ap (λ (es : List Event). w.done ++ es) (sym (one_release limits w.rest))
            ∙ w.done_is;
        left_is = sym (one_left limits w.rest) ∙ w.left_is;
        few = subst (λ (l : List Event). length l + length (next_left limits w.rest).waiting ≤ 2 ^ 61) parts (omega (arith, longer, w.few, so.fewer));
      }

-- an event that is ripe was followed
abbrev pub Follows : {K : Type 0} → Joined K → Joined K → Type 0
Follows old new = (limits : Limits) (s : Joining) (released : List Event) (event : Event) → JoinedStandsFor limits old s released → length released < 2 ^ 62 → next_event limits s ≡ Some event
    → JoinedStandsFor limits new (next_left limits s) (released ++ event ∷ [])

-- one more event is followed
pub goes_on : {K : Type 0} (limits : Limits) (s : Joining) (before : List Event) (joined after : Joined K) (w : IsUnderWay limits s before joined)
    → is_some (ripe_key limits w.rest) ≡ true → Follows joined after → IsUnderWay limits s before after
goes_on limits s before joined after w ripe follows =
    let next = ripe_event limits w.rest ripe in
    let few : length (before ++ w.done) < 2 ^ 62 = omega (arith, w.few) in
    goes_by limits s before joined after next.0 w (sym next.1) (follows limits w.rest (before ++ w.done) next.0 w.stands few next.1)

-- the event that was refused is owed with those behind it
pub owed : {K : Type 0} (limits : Limits) (s : Joining) (before : List Event) (joined after : Joined K) (cause : Refused) (w : IsUnderWay limits s before joined)
    → is_some (ripe_key limits w.rest) ≡ true
    → ((limits : Limits) (s : Joining) (released : List Event) → JoinedStandsFor limits joined s released → JoinedStandsFor limits after s released)
    → ((full : Full) → cause ≡ why.Full full → (limits : Limits) (s : Joining) (released : List Event) → JoinedStandsFor limits joined s released → NextPasses limits s released full)
    → IsOwed limits after s before cause
owed limits s before joined after cause w ripe same passes = record {
  rest = w.rest;
  done = w.done;
  stands = same limits w.rest (before ++ w.done) w.stands;
  done_is = sym w.done_is;
  left_is = sym w.left_is;
  some = ripe_event limits w.rest ripe;
  by = by cause refl;
}
  where
    by : (r : Refused) → cause ≡ r → OwesBy limits w.rest (before ++ w.done) r
    by why.NoMemory is = tt
    by (why.Full full) is = passes full is limits w.rest (before ++ w.done) w.stands

pub joined_at : {K : Type 0} (limits : Limits) (joined seen : Joined K) (s : Joining) (released : List Event) → seen ≡ joined → JoinedStandsFor limits joined s released → JoinedStandsFor limits seen s released
joined_at {K} limits joined seen s released is stands = subst (λ (j : Joined K). JoinedStandsFor limits j s released) (sym is) stands

-- and they have the same mark
pub marked_seen : {K : Type 0} (joined seen : Joined K) → seen ≡ joined → seen.tables.marked ≡ joined.tables.marked
marked_seen {K} joined seen is = ap (λ (j : Joined K). j.tables.marked) is

-- ---- in time

module _ (limits : Limits) (join after : Joiner) (tables : Tables) (kept : KeptFlows) (w : IsInTime limits join tables kept) where
  in_time_at : (t : Joining) → JoinStandsFor limits after t → t.clock.effective ≡ w.s.clock.effective → IsInTime limits after tables kept
  in_time_at t stands same =
      in_time_clock limits join after tables kept t w stands
      (ap (λ (c : JoinClock). c.effective) stands.clock ∙ same ∙ sym (ap (λ (c : JoinClock). c.effective) w.join_is.clock))

  pub in_time_closed : JoinStandsFor limits after (settled w.s) → IsInTime limits after tables kept
  in_time_closed stands = in_time_at (settled w.s) stands refl

  pub in_time_entered : (item : Record) → JoinStandsFor limits after (enter limits w.s item) → IsInTime limits after tables kept
  in_time_entered item stands = in_time_at (enter limits w.s item) stands (enter_time limits w.s item)

-- ---- a record that isn't in excess

close_excess : (s : Joining) (key : EventKey) → (close s key).excess ≡ s.excess
close_excess s key = by (waits key s.waiting)
  where
    by : (b : Bool) → (if b then record s { closed = key ∷ s.closed } else s).excess ≡ s.excess
    by true = refl
    by false = refl

held_excess : (limits : Limits) (s : Joining) (r : Record) (t : Taken) → t ≡ taken_as limits s r → (t ≡ Excess → ⊥) → (enter limits s r).excess ≡ s.excess
held_excess limits s r t is none = by (ends_event r) is
  where
    now : Joining
    now = record s { clock = saw s.clock r.key.ms }

    by_group : (b : Bool) → t ≡ (if b then Excess else Held) → (if b then record now { excess = suc now.excess } else record now { waiting = now.waiting ++ r ∷ [] }).excess ≡ s.excess
    by_group true e = absurd (none e)
    by_group false e = refl

    by : (b : Bool) → t ≡ (if b then Closed else if is_excess limits (group_of r.key s.waiting) r then Excess else Held) → (if b then close now r.key else put limits now r).excess ≡ s.excess
    by true e = close_excess now r.key
    by false e = by_group (is_excess limits (group_of r.key s.waiting) r) e

-- what a test for an excess says
pub not_excess : (t : Taken) (b : Bool) → b ≡ false → b ≡ ghosts.eq t Excess → t ≡ Excess → ⊥
not_excess Held b is_not is e = absurd (cc e)
not_excess Closed b is_not is e = absurd (cc e)
not_excess Excess b is_not is e = absurd (true≢false (sym is ∙ is_not))

-- an end closes its group
pub end_taken : (limits : Limits) (s : Joining) (r : Record) → ends_event r ≡ true → Closed ≡ taken_as limits s r
end_taken limits s r ends = by (ends_event r) ends
  where
    by : (b : Bool) → b ≡ true → Closed ≡ (if b then Closed else if is_excess limits (group_of r.key s.waiting) r then Excess else Held)
    by true e = refl
    by false e = absurd (cc e)

-- a record has come, and none was dropped
pub stands_entered : {K : Type 0} (limits : Limits) (joined after : Joined K) (s : Joining) (released : List Event) (item : Record) (t : Taken) → JoinedStandsFor limits joined s released
    → after ≡ record joined { join = after.join } → JoinStandsFor limits after.join (enter limits s item) → t ≡ taken_as limits s item → (t ≡ Excess → ⊥)
    → JoinedStandsFor limits after (enter limits s item) released
stands_entered {K} limits joined after s released item t w same join is none =
    subst (λ (j : Joined K). JoinedStandsFor limits j (enter limits s item) released) (sym same)
    (record {
      limits_are = w.limits_are;
      join = join;
      released_last = released_entered limits s item released w.released_last;
      excess = w.excess ∙ sym (held_excess limits s item t is none);
      counts = w.counts;
      tables = w.tables;
      marked = w.marked;
      kept_are = w.kept_are;
      in_time = record { rise = w.in_time.rise; later = omega (arith, w.in_time.later, enter_time limits s item) };
      fits = w.fits;
    })
