use Rattle.std.proofs.Common.{refl, []}
use Rattle.audit_lex.specs.declared.header.EventKey.{EventKey}
use Rattle.audit_record.specs.declared.types.Body.TheVariants.{Eoe}
use Rattle.audit_record.specs.declared.types.Record.{Record}
use Rattle.record_join.specs.declared.event.Taken.TheVariants.{Closed}
use Rattle.ingest.proofs.FewActs.{few_at, few_entered}
use Rattle.ingest.proofs.Releasing.{in_time_entered, joined_at, end_taken, stands_entered}
use Rattle.ingest.proofs.event_flows.EventFlows.end.Goals as goal

-- the record of an end of this key
abbrev ended : EventKey → Record
ended key = record { key = key; line = []; body = Eoe }

pub invariant_of-self : goal.invariant_of-self
invariant_of-self g c =
    let item = ended c.args.key in
    in_time_entered _ _ _ _ _ c.self.invariant item (c.end.ensures item (record { key_is = refl; ends = refl }) _ c.self.invariant.s c.self.invariant.join_is)

pub returns-clause-ends : goal.returns-clause-ends
returns-clause-ends g c = λ item ends limits s released stands few.
    let own = joined_at limits _ _ s released c.self.view_is stands in
    stands_entered limits _ _ s released item Closed own refl (c.end.ensures item ends limits s own.join) (end_taken limits s item ends.ends) (λ e. cc e)

pub returns-clause-few : goal.returns-clause-few
returns-clause-few g c = λ records f.
    let item = ended c.args.key in
    few_entered _ _ records item (few_at _ _ records c.self.view_is f) (c.end.ensures item (record { key_is = refl; ends = refl })) refl
