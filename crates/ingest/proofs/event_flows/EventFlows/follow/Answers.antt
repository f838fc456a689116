use Rattle.std.proofs.Common.{◌≡◌, ◌∙◌, sym, refl, ap, length, Err, Some}
use Rattle.name_text.specs.Addresses.{text_of}
use Rattle.record_join.specs.StandsFor.{event_seen}
use Rattle.ingest.specs.Events.{taken_in}
use Rattle.ingest.proofs.FewActs.{few_at, acts_room, acts_then, few_next, few_still}
use Rattle.ingest.proofs.Releasing.{joined_at, marked_seen}
use Rattle.ingest.proofs.Following.{same_err, same_some, ripe_so, never_none, has_taken, may_come, stands_still, full_then, stands_next, same_event, length_seen, in_time_by}
use Rattle.ingest.proofs.Together.{together_at, in_time_followed, in_time_refused}
use Rattle.ingest.proofs.event_flows.EventFlows.follow.Goals as goal

pub unreachable-requires : goal.unreachable-requires
unreachable-requires g c =
    let w = c.self.invariant in
    never_none c.self.inside.tables.limits w.s (ripe_so c.self.inside.tables.limits _ _ w.s c.self.view_is c.requires.ripe w.join_is) (c.in_default.ensures _ w.s w.join_is)

pub take_event-requires-clause-together : goal.take_event-requires-clause-together
take_event-requires-clause-together g c =
    let w = c.self.invariant in
    together_at _ _ _ _ (event_seen c.in-Some.event) w (c.in-Some.ensures _ w.s w.join_is)

pub returns-in-Err-clause-refused : goal.returns-in-Err-clause-refused
returns-in-Err-clause-refused g c = λ limits s released stands.
    let own = joined_at limits _ _ s released c.self.view_is stands in
    let has = has_taken c.acts_of_events_are_admitted.ensures limits _ s released own in
    stands_still limits _ _ s released own c.in-Err.ensures.limits.limits_are refl refl refl (c.in-Err.ensures.same (taken_in limits released) has) c.in-Err.ensures.refused

pub returns-in-Err-clause-full : goal.returns-in-Err-clause-full
returns-in-Err-clause-full g c = λ full is limits s released stands.
    let own = joined_at limits _ _ s released c.self.view_is stands in
    let has = has_taken c.acts_of_events_are_admitted.ensures limits _ s released own in
    let next = c.in-Some.ensures limits s own.join in
    (event_seen c.in-Some.event, sym next, full_then limits c.self.inside.tables.limits released (event_seen c.in-Some.event) (Some full) own.limits_are (c.in-Err.ensures.full full (ap Err (same_err _ _ is)) (taken_in limits released) has))

pub pass-requires : goal.pass-requires
pass-requires g c = record { ripe = λ limits s stands. ripe_so limits _ _ s c.self.view_is c.requires.ripe stands }

pub apply-requires-clause-safe : goal.apply-requires-clause-safe
apply-requires-clause-safe g c = c.in-Ok.ensures.safe

pub invariant_of-self-2 : goal.invariant_of-self-2
invariant_of-self-2 g c =
    let w = c.self.invariant in
    let event = event_seen c.in-Some.event in
    let next = c.in-Some.ensures _ w.s w.join_is in
    let bounds = c.apply.ensures.limits _ c.in-Ok.ensures.limits in
    in_time_by _ _ _ _ _ bounds.limits_are
    (in_time_followed _ _ _ _ _ _ _ _ event c.take_event.new.plan w next (c.pass.ensures.stands _ w.s w.join_is) c.in-Ok.ensures.room c.apply.ensures.grown c.apply.ensures.safe bounds c.in-Ok.ensures.goes_on)

pub returns-clause-next : goal.returns-clause-next
returns-clause-next g c = λ limits s released event stands few next.
    let own = joined_at limits _ _ s released c.self.view_is stands in
    let peeked = c.in-Some.ensures limits s own.join in
    let seen = event_seen c.in-Some.event in
    let may = may_come c.acts_of_events_are_admitted.ensures limits _ s released seen own peeked in
    let event_is : seen ≡ event = same_some _ _ (peeked ∙ next) in
    same_event limits _ _ released seen event event_is
    (stands_next limits _ _ s released seen own peeked (c.apply.ensures.limits _ c.in-Ok.ensures.limits).limits_are (c.pass.ensures.stands limits s own.join) refl
    (c.count.ensures released seen own.counts few refl (c.unmapped.ensures ∙ c.in-Ok.ensures.unmapped))
    (c.apply.ensures.next text_of (taken_in limits released) _ (c.in-Ok.ensures.same (taken_in limits released) may.has).tables_are (c.in-Ok.ensures.plan (taken_in limits released) may.has))
    (c.apply.ensures.marks text_of (taken_in limits released) _ (c.in-Ok.ensures.same (taken_in limits released) may.has).marked (c.in-Ok.ensures.plan (taken_in limits released) may.has))
    (c.in-Ok.ensures.kept (taken_in limits released) may)
    (c.in-Ok.ensures.fits (taken_in limits released) may.has))

pub returns-clause-less : goal.returns-clause-less
returns-clause-less g c =
    length_seen _ _ _ c.self.view_is c.pass.ensures.less

pub take_event-requires-clause-few : goal.take_event-requires-clause-few
take_event-requires-clause-few g c =
    let bound = c.requires.few in
    let own = few_at _ _ bound.records c.self.view_is bound.few in
    acts_room _ bound.records own bound.within (event_seen c.in-Some.event) (c.in-Some.ensures own.limits own.s own.join)

pub returns-in-Err-clause-few : goal.returns-in-Err-clause-few
returns-in-Err-clause-few g c = λ records f. few_still _ _ records (few_at _ _ records c.self.view_is f) refl c.in-Err.ensures.room.acts

pub returns-clause-few : goal.returns-clause-few
returns-clause-few g c = λ records f.
    let event = event_seen c.in-Some.event in
    let own = few_at _ _ records c.self.view_is f in
    few_next _ _ records own event (c.in-Some.ensures own.limits own.s own.join) (c.pass.ensures.stands own.limits own.s own.join)
    (acts_then _ _ _ _ (length event.records) c.in-Ok.ensures.room.acts c.apply.ensures.grown.acts c.in-Ok.ensures.acts)

pub take_event-requires-clause-limits : goal.take_event-requires-clause-limits
take_event-requires-clause-limits g c = c.self.invariant.bounds

pub invariant_of-self : goal.invariant_of-self
invariant_of-self g c =
    in_time_by _ _ _ _ _ c.in-Err.ensures.limits.limits_are
    (in_time_refused _ _ _ _ _ _ c.self.invariant c.in-Err.ensures.room c.in-Err.ensures.safe c.in-Err.ensures.limits c.in-Err.ensures.refused)

pub returns-clause-marked : goal.returns-clause-marked
returns-clause-marked g c = c.apply.ensures.grown.marked ∙ c.in-Ok.ensures.room.marked ∙ marked_seen _ _ c.self.view_is
