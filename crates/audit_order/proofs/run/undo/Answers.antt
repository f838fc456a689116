use Rattle.std.proofs.Common.{false, [], map}
use Rattle.std.proofs.lemmas.Result.{on_ok_weaker}
use Rattle.audit_lex.specs.History.{Byte}
use Rattle.audit_order.specs.Start.{Start}
use Rattle.audit_order.specs.Undone.{Undid}
use Rattle.audit_order.specs.Reads.{Took, log_lines}
use Rattle.audit_order.proofs.UndoneLemmas.{undoes_none, handed_on, undid_all}
use Rattle.audit_order.proofs.run.undo.Goals as goal

pub returns-clause-undone : goal.returns-clause-undone
returns-clause-undone g c = λ bytes told.
    let written = g.O.Sink.written c.args.out.now in
    let before : Start = record { written = written; bounds = record { window = 0; memory = 0 }; switches = record { join = false; apart = false; names = false; own = false; compat = false } } in
    let start : Took Undid before written c.new-cut.result c.new-undoer.result [] = record { cuts = c.new-cut.ensures.nothing; takes = rw c.new-undoer.ensures (undoes_none before) } in
    let log = c.in_ok-take_log.ensures.takes bytes told before [] start in
    let all = c.in_ok-take_tail.ensures.takes before (map Byte bytes) log in
    on_ok_weaker c.flush.result
    (λ handed. undid_all before (g.O.Sink.written c.flush.new.sink) (log_lines bytes) (handed_on before _ _ _ (log_lines bytes) handed all.takes))
    c.flush.ensures.bytes
