use Rattle.std.proofs.Common.{ap}
use Rattle.flow_events.specs.declared.tables.Tables.{Tables}
use Rattle.ingest.proofs.Remade.{can_remake, remade_few, remade_together}
use Rattle.ingest.proofs.Unread.{fault_rose, row_hidden}
use Rattle.ingest.proofs.engine.Ingest+R+Store+D.resumed.Goals as goal

pub restore-requires-clause-together : goal.restore-requires-clause-together
restore-requires-clause-together g c =
    let p = c.requires.parts in
    remade_together p.0 c.args.state.now p.1 (g.D.Disk.state c.args.store.disk).tells c.args.store.rows.rows g.R.Reducer.mode c.args.parts p.2 p.3 p.4

pub invariant_of-result : goal.invariant_of-result
invariant_of-result g c =
    let p = c.requires.parts in
    let can = can_remake p.0 p.1 c.args.store.rows.rows c.args.state.now p.4 p.3 in
    let few = remade_few p.0 c.args.state.now p.1 c.args.parts c.in-Ok.joined p.2 can.counts can.tail p.4 c.in-Ok.ensures.join (ap (λ (t : Tables). t.acts) c.in-Ok.ensures.tables) in
    record { records = few.records; few = c.remember.ensures.few few.records few.few; paid = few.paid; within = few.within }

pub returns-in-Ok-clause-joined : goal.returns-in-Ok-clause-joined
returns-in-Ok-clause-joined g c = λ limits s released left. c.remember.ensures.stands limits s released (c.in-Ok.ensures.stands limits s released left)

pub returns-in-Err-clause-fault : goal.returns-in-Err-clause-fault
returns-in-Err-clause-fault g c =
    fault_rose g.D.Disk.state g.D.Disk.faults g.D.Disk.spent c.args.store (record { why = c.why_unread.result; keep = c.in-Err.back.rows }) c.in-Err.back.fault c.why_unread.ensures c.in-Err.ensures.cause

pub returns-in-Err-clause-hidden : goal.returns-in-Err-clause-hidden
returns-in-Err-clause-hidden g c =
    row_hidden g.D.Disk.state g.D.Disk.faults g.D.Disk.spent c.args.store (record { why = c.why_unread.result; keep = c.in-Err.back.rows }) c.in-Err.back.fault c.why_unread.ensures c.in-Err.ensures.cause
    (g.met.D.Disk.lawful c.args.store.disk)
