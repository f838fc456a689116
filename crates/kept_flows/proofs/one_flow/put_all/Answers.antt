use Rattle.std.proofs.Common.{◌≡◌, ◌<◌, ◌+◌, ◌-◌, ◌++◌, [], length, get_or, take, drop, sym, ap, subst, ◌∙◌, arith}
use Rattle.std.proofs.lemmas.List.{drop_more}
use Rattle.std.proofs.Math.ListN.{drop_of_length-le}
use Rattle.std.proofs.lemmas.List.Elements.{Contains-get_or}
use Rattle.flow_base.specs.declared.types.Flow.{Flow}
use Rattle.flow_base.specs.declared.types.How.TheVariants.{Fork}
use Rattle.reach_rows.specs.Kept.{known_after}
use Rattle.kept_flows.specs.KeptFlows.{StandsFor, kept_by}
use Rattle.kept_flows.specs.Taking.{HasRoomFor, MayTakeIn}
use Rattle.kept_flows.proofs.Changes.{brings_more, count_grows}
use Rattle.kept_flows.proofs.Later.{first_may_be_taken, rest_may_be_taken}
use Rattle.kept_flows.proofs.Next.{next_of, one_more}
use Rattle.kept_flows.proofs.one_flow.put_all.Goals as goal

-- the flow that stands for one past the end
abbrev no_flow : Flow
no_flow = record { from = record { 0 = 0 }; to = record { 0 = 0 }; how = Fork; at = record { ms = 0; place = 0 }; serial = 0 }

pub put-requires-clause-next : goal.put-requires-clause-next
put-requires-clause-next g c =
    let more = c.args.flows.now in
    let i = c.loop-flow.flow-index in
    let h : i < length more = omega arith in
    let K = g.K.Rows in
    let rows = c.loop-flow.rows in
    first_may_be_taken K.rows K.count K.known g.M.Reducer.mode rows (get_or more i no_flow) (drop (i + 1) more)
    (subst (MayTakeIn (kept_by g.M.Reducer.mode (K.rows rows) (K.count rows) (K.known rows))) (drop_more more i no_flow h) c.loop-flow.invariant.next)

pub put-requires-clause-covers : goal.put-requires-clause-covers
put-requires-clause-covers g c =
    let more = c.args.flows.now in
    let i = c.loop-flow.flow-index in
    let h : i < length more = omega arith in
    (drop (i + 1) more, subst (g.M.Reducer.covers c.loop-flow.reducer) (drop_more more i no_flow h) c.loop-flow.invariant.covers)

pub loop-flow-preserved : goal.loop-flow-preserved
loop-flow-preserved g c =
    let R = g.M.Reducer in
    let K = g.K.Rows in
    let more = c.args.flows.now in
    let i = c.loop-flow.flow-index in
    let h : i < length more = omega arith in
    let one : length more - i ≡ length more - (i + 1) + 1 = omega (arith, h) in
    let before = c.loop-flow.invariant in
    let old = c.loop-flow.rows in
    let after = c.put.new in
    let f = get_or more i no_flow in
    let rest = drop (i + 1) more in
    let split = drop_more more i no_flow h in
    let puts = c.put.ensures.puts in
    let grown = count_grows (K.count old) puts.0 in
    record {
      tied = c.put.ensures.tied;
      taken = λ F s n. subst (StandsFor (kept_by R.mode (K.rows after.rows) (K.count after.rows) (K.known after.rows))) (one_more F more i no_flow h)
          (c.put.ensures.taken (F ++ take i more) (before.taken F s n) (next_of F more i no_flow h n));
      next = rest_may_be_taken K.rows K.count K.known R.mode old f rest
          (subst (MayTakeIn (kept_by R.mode (K.rows old) (K.count old) (K.known old))) split before.next) after.rows puts;
      objects = ap (λ n. known_after n rest) puts.1.known_is ∙ ap (known_after (K.known old)) (sym split) ∙ before.objects;
      count = omega (arith, before.count, puts.1.count_is, grown);
      brings = brings_more f puts.0 more (K.rows c.args.rows.now) (K.rows old) (K.rows after.rows) (Contains-get_or more i no_flow h) puts.1.rows_are before.brings;
      covers = c.put.ensures.covers rest (subst (R.covers c.loop-flow.reducer) split before.covers);
      faults = (
        c.put.ensures.faults.0 ∙ before.faults.0,
        (λ s. c.put.ensures.faults.1.0 (before.faults.1.0 s), λ s. before.faults.1.1 (c.put.ensures.faults.1.1 s)),
      );
      alike = g.met.K.Rows.goes_along.next c.args.rows.now old after.rows before.alike c.put.ensures.alike;
      room = c.put.ensures.room (length more - (i + 1)) (subst (HasRoomFor (g.K.Keep.has_room old)) one before.room);
    }

pub returns-clause-objects : goal.returns-clause-objects
returns-clause-objects g c =
    let more = c.args.flows.now in
    let end : drop c.loop-flow.flow-index more ≡ [] = drop_of_length-le more (omega arith) in
    ap (known_after (g.K.Rows.known c.loop-flow.rows)) (sym end) ∙ c.loop-flow.invariant.objects
