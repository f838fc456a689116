-- Acts are few: an event takes its records along.
use Rattle.std.proofs.Common.{◌≡◌, ◌≤◌, ◌<◌, ◌+◌, ◌-◌, ◌*◌, ◌^◌, sym, ap, subst, ℕ, List, length, arith, Option, Some}
use Rattle.std.specs.Option.{option_to_list}
use Rattle.std.specs.Prelude.{Result, Ok, Err, OnOk, OnErr}
use Rattle.audit_record.specs.declared.types.Record.{Record}
use Rattle.flow_base.specs.declared.limits.Limits.{Limits}
use Rattle.record_join.specs.Events.{Joining, enter, settled, ripe_key, next_event, next_left}
use Rattle.record_join.specs.StandsFor.{Joiner, StandsFor as JoinStandsFor, WhereStands}
use Rattle.record_join.specs.declared.event.Event.{Event}
use Rattle.call_acts.specs.Acts.{event_acts}
use Rattle.ingest.specs.Bounds.{IsFew, IsBounded, HasFewRecords, StaysFew, OneMore, KeepsLines, EndsLine}
use Rattle.ingest.specs.Parts.{Reader, Joined}
use Rattle.ingest.proofs.FewEvents.{records_in, hold_at}
use Rattle.ingest.proofs.Fewer.{released_so, enter_waiting}

-- an event takes its records along
event_records : (limits : Limits) (s : Joining) (event : Event) → Some event ≡ next_event limits s → length event.records + length (next_left limits s).waiting ≡ length s.waiting
event_records limits s event is =
    let own : length event.records + 0 ≡ records_in (option_to_list (next_event limits s)) = ap (λ (o : Option Event). records_in (option_to_list o)) is in
    omega (arith, own, hold_at limits s (ripe_key limits s))

-- there is room for the acts of an event
pub acts_room : {K : Type 0} (joined : Joined K) (records : ℕ) (f : IsFew records joined) → records ≤ 2 ^ 59 + 2 ^ 57 → (event : Event) → Some event ≡ next_event f.limits f.s
    → joined.tables.acts + (2 * length event.records + 4 + 2) < 2 ^ 63 - 1
acts_room joined records f within event is = omega (arith, f.few, within, event_records f.limits f.s event is)

-- an event was followed
pub few_next : {K : Type 0} (joined after : Joined K) (records : ℕ) (f : IsFew records joined) (event : Event) → Some event ≡ next_event f.limits f.s → JoinStandsFor f.limits after.join (next_left f.limits f.s)
    → after.tables.acts ≤ joined.tables.acts + (4 + 2 * length event.records) → IsFew records after
few_next joined after records f event is stands acts = record {
  limits = f.limits;
  s = next_left f.limits f.s;
  join = stands;
  few = omega (arith, f.few, acts, event_records f.limits f.s event is, (released_so f.limits f.s event is).fewer);
}

-- no act was followed, and the joiner is as before
pub few_still : {K : Type 0} (joined after : Joined K) (records : ℕ) → IsFew records joined → after.join ≡ joined.join → after.tables.acts ≡ joined.tables.acts → IsFew records after
few_still joined after records f join acts = record {
  limits = f.limits;
  s = f.s;
  join = subst (λ (j : Joiner). JoinStandsFor f.limits j f.s) (sym join) f.join;
  few = omega (arith, f.few, acts);
}

-- one record more has come
pub few_entered : {K : Type 0} (joined after : Joined K) (records : ℕ) (item : Record) → IsFew records joined → WhereStands joined.join (λ limits s. JoinStandsFor limits after.join (enter limits s item))
    → after.tables.acts ≡ joined.tables.acts → IsFew (records + 1) after
few_entered joined after records item f stands acts = record {
  limits = f.limits;
  s = enter f.limits f.s item;
  join = stands f.limits f.s f.join;
  few = omega (arith, f.few, acts, enter_waiting f.limits f.s item);
}

-- all that waits is closed
pub few_closed : {K : Type 0} (joined after : Joined K) (records : ℕ) → IsFew records joined → WhereStands joined.join (λ limits s. JoinStandsFor limits after.join (settled s))
    → after.tables.acts ≡ joined.tables.acts → IsFew records after
few_closed joined after records f stands acts = record {
  limits = f.limits;
  s = settled f.s;
  join = stands f.limits f.s f.join;
  few = omega (arith, f.few, acts);
}

pub few_at : {K : Type 0} (joined seen : Joined K) (records : ℕ) → seen ≡ joined → IsFew records joined → IsFew records seen
few_at {K} joined seen records is f = subst (λ (j : Joined K). IsFew records j) (sym is) f

-- an event has few acts
abbrev pub ActsAreFew : Type 0
ActsAreFew = (limit : ℕ) (records : List Record) → length (event_acts limit records) ≤ 4 + 2 * length records

-- so many acts there are then
pub acts_then : (old prepared new plan records : ℕ) → prepared ≡ old → new ≡ prepared + plan → plan ≤ 4 + 2 * records → new ≤ old + (4 + 2 * records)
acts_then old prepared new plan records same grown few = omega (arith, same, grown, few)

-- ---- an engine's lines

pub bounded_of : {K : Type 0} (reader : Reader) (joined : Joined K) → HasFewRecords reader joined → IsBounded joined
bounded_of reader joined w = record { records = w.records; few = w.few; within = omega (arith, w.paid, w.within) }

pub few_stays : {K : Type 0} (reader : Reader) (old new : Joined K) → HasFewRecords reader old → StaysFew old new → HasFewRecords reader new
few_stays reader old new w stays = record { records = w.records; few = stays w.records w.few; paid = w.paid; within = w.within }

pub few_kept : {K : Type 0} (old new : Reader) (joined : Joined K) → HasFewRecords old joined → KeepsLines old new → HasFewRecords new joined
few_kept old new joined w keeps = record { records = w.records; few = w.few; paid = omega (arith, w.paid, keeps.pays.paid); within = keeps.pays.within }

pub few_ended : {K : Type 0} (old new : Reader) (before after : Joined K) → HasFewRecords old before → OneMore before after → EndsLine old new → HasFewRecords new after
few_ended old new before after w more ends =
    record { records = w.records + 1; few = more w.records w.few; paid = omega (arith, w.paid, ends.pays.paid); within = ends.pays.within }

pub few_asked : {K : Type 0} (reader : Reader) (old new : Joined K) → HasFewRecords reader old → new ≡ record old { keep = new.keep } → HasFewRecords reader new
few_asked {K} reader old new w same =
    few_stays reader old new w (λ records f. few_still old new records f (ap (λ (j : Joined K). j.join) same) (ap (λ (j : Joined K). j.tables.acts) same))

-- whether the lines were taken or the reader is as before
pub few_either : {K T E : Type 0} (result : Result T E) (old new : Reader) (joined : Joined K) → HasFewRecords old joined → OnOk result (KeepsLines old new) → OnErr result (new ≡ old)
    → HasFewRecords new joined
few_either (Ok value) old new joined w keeps same = few_kept old new joined w keeps
few_either (Err e) old new joined w keeps same = subst (λ (r : Reader). HasFewRecords r joined) (sym same) w
