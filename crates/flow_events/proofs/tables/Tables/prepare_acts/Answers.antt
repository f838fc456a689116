use Rattle.std.proofs.Common.{ap, length, arith}
use Rattle.flow_events.proofs.Rooming.{plan_fits, since_stays}
use Rattle.name_text.specs.Addresses.{text_of}
use Rattle.flow_events.specs.Drafts.{turned}
use Rattle.flow_events.proofs.Fewness.{few_flows}
use Rattle.flow_events.proofs.tables.Tables.prepare_acts.Goals as goal

pub overflow_add-self : goal.overflow_add-self
overflow_add-self c =
    let flows = c.requires.safe.flows_few in
    let few = c.requires.few in
    let slice = ap length c.flows.ensures in
    let fewer = c.in_ok-plan.ensures.more in
    omega (arith, flows, few, slice, fewer)

pub returns-in_err-make_room-clause-since : goal.returns-in_err-make_room-clause-since
returns-in_err-make_room-clause-since c = since_stays c.args.self.now c.make_room.new.self c.make_room.ensures.same

pub returns-clause-since : goal.returns-clause-since
returns-clause-since c = since_stays c.args.self.now c.make_room.new.self c.make_room.ensures.same

pub returns-clause-fits : goal.returns-clause-fits
returns-clause-fits c = λ limits has before may.
    plan_fits text_of c.args.self.now c.plan.new.plan limits before (turned c.args.ms c.args.serial c.args.plan.now.acts) has may.stands (c.in_ok-plan.ensures.plan before may) c.in_ok-plan.ensures.fits
    (let flows = may.stands.flows_are in let few_of_them = few_flows before in let few = may.few in let fewer = c.in_ok-plan.ensures.more in let past = c.if-self-flows.false in let slice = ap length c.flows.ensures in omega (arith, past, slice, flows, few_of_them, few, fewer))
