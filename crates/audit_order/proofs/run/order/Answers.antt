use Rattle.std.proofs.Common.{[], refl, ap, map, le_trans}
use Rattle.std.proofs.lemmas.Result.{err_from_is_err_and}
use Rattle.audit_lex.specs.History.{Byte}
use Rattle.audit_order.specs.declared.counts.Counts.{Counts}
use Rattle.audit_order.specs.Start.{Start}
use Rattle.audit_order.specs.Sorted.{Sorts}
use Rattle.audit_order.specs.Reads.{Took, log_lines}
use Rattle.audit_order.proofs.CauseLemmas.{since_before}
use Rattle.audit_order.proofs.ReadLemmas.{orders}
use Rattle.audit_order.proofs.run.order.Goals as goal

pub returns-clause-ordered : goal.returns-clause-ordered
returns-clause-ordered g c = λ bytes told.
    let written = g.O.Sink.written c.args.out.now in
    let before : Start = record { written = written; bounds = c.args.bounds; switches = c.args.switches } in
    let start : Took Sorts before written c.new-cut.result c.in_ok-sorter.sorter [] =
    record { cuts = c.new-cut.ensures.nothing; takes = c.in_ok-sorter.ensures.nothing written } in
    let log = c.in_ok-take_log.ensures.takes bytes told before [] start in
    let all = c.in_ok-take_tail.ensures.takes before (map Byte bytes) log in
    orders bytes before (g.O.Sink.written c.finish.new.sink) _ (log_lines bytes) c.counts.result c.in_ok-finish.ensures.written c.in_ok-finish.ensures.none refl
    (ap (λ (k : Counts). k.times_raised) c.counts.ensures) (ap (λ (k : Counts). k.added_ends) c.counts.ensures) (ap (λ (k : Counts). k.added_peers) c.counts.ensures) (ap (λ (k : Counts). k.rewrites) c.counts.ensures)
    (ap (λ (k : Counts). k.events) c.counts.ensures) (ap (λ (k : Counts). k.late) c.counts.ensures)
    (c.in_ok-finish.ensures.goes before (log_lines bytes) all.takes)

pub returns-in_err-take_log-clause-causes : goal.returns-in_err-take_log-clause-causes
returns-in_err-take_log-clause-causes g c =
    let p = err_from_is_err_and c.from_residual-in_err-take_log.result c.from_residual-in_err-take_log.ensures.1 in
    rw (p.1, p.2) c.in_err-take_log.ensures.causes

pub returns-in_err-take_tail-clause-causes : goal.returns-in_err-take_tail-clause-causes
returns-in_err-take_tail-clause-causes g c =
    let p = err_from_is_err_and c.from_residual-in_err-take_tail.result c.from_residual-in_err-take_tail.ensures.1 in
    rw (p.1, p.2) (since_before _ _ _ _ _ c.in_err-take_tail.field-0.0 c.take_log.ensures.counts.later c.in_err-take_tail.ensures.causes)

pub returns-in_err-finish-clause-causes : goal.returns-in_err-finish-clause-causes
returns-in_err-finish-clause-causes g c =
    let p = err_from_is_err_and c.from_residual-in_err-finish.result c.from_residual-in_err-finish.ensures.1 in
    let later = le_trans c.take_log.ensures.counts.later c.take_tail.ensures.counts.later in
    rw (p.1, p.2) (since_before _ _ _ _ _ c.in_err-finish.field-0.0 later c.in_err-finish.ensures.causes)
