use Rattle.std.proofs.Common.{[], ◌∷◌, ◌++◌}
use Rattle.std.proofs.lemmas.Result.{on_ok_weaker}
use Rattle.audit_order.proofs.UndoneLemmas.{undoes_more, handed_on}
use Rattle.audit_order.proofs.undo.UndoerTaker.take_line.Goals as goal

pub returns-then-as_slice-lt-CHUNK-clause-takes : goal.returns-then-as_slice-lt-CHUNK-clause-takes
returns-then-as_slice-lt-CHUNK-clause-takes g c = λ before lines u.
    rw (c.in_ok-write.ensures, c.as_slice.ensures) (undoes_more before _ c.args.self.now c.args.line lines u)

pub returns-clause-takes : goal.returns-clause-takes
returns-clause-takes g c = on_ok_weaker c.flush.result
    (λ handed before lines u. rw c.flush.ensures.left
    (handed_on before (g.O.Sink.written c.args.sink.now) (g.O.Sink.written c.flush.new.sink) c.write.new.self (lines ++ c.args.line ∷ []) handed
    (rw (c.in_ok-write.ensures, c.as_slice.ensures) (undoes_more before _ c.args.self.now c.args.line lines u))))
    c.flush.ensures.bytes
