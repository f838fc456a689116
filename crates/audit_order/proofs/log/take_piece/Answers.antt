use Rattle.std.proofs.Common.{rules, ◌≤◌, ◌++◌, List, ℕ, length, take, map, arith, subst}
use Rattle.std.proofs.lemmas.List.{take_rest, take_all, length-drop}
use Rattle.audit_lex.specs.History.{History, Byte}
use Rattle.audit_order.specs.Reads.{Took}
use Rattle.audit_order.proofs.ReadLemmas.{joined_slice}
use Rattle.audit_order.proofs.log.take_piece.Goals as goal

pub loop-done-preserved : goal.loop-done-preserved
loop-done-preserved g c =
    let piece = c.args.piece.now in
    let done = c.loop-done.done in
    let n = c.in_ok-done.field-0 in
    let within : n ≤ length _ = subst (λ (t : List ℕ). n ≤ length t) (take_rest piece done) c.in_ok-done.ensures.within in
    record {
      limit = c.take_part.ensures.limit;
      within = omega (arith, within, length-drop done piece, c.loop-done.invariant.within);
      takes = λ before history took.
          subst (λ (h : History). Took g.T.Taker.stands before (g.O.Sink.written c.take_part.new.sink) c.take_part.new.cut c.take_part.new.taker h)
          (joined_slice history piece done n)
          (c.in_ok-done.ensures.takes before (history ++ map Byte (take done piece)) (c.loop-done.invariant.takes before history took));
      counts = search rules;
    }

pub returns-clause-takes : goal.returns-clause-takes
returns-clause-takes g c = λ before history took.
    let all : length c.args.piece.now ≤ c.loop-done.done = omega (arith, c.loop-done-test.false) in
    subst (λ (b : List ℕ). Took g.T.Taker.stands before (g.O.Sink.written c.loop-done.sink) c.loop-done.cut c.loop-done.taker (history ++ map Byte b))
    (take_all c.loop-done.done c.args.piece.now all) (c.loop-done.invariant.takes before history took)
