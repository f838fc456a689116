use Rattle.std.proofs.Common.{◌≤◌, ◌^◌, sym, subst, rules, Option}
use Rattle.std.specs.Prelude.{IfSome}
use Rattle.std.proofs.lemmas.Result.{err_from_is_err_and}
use Rattle.record_join.specs.StandsFor.{NothingRipe, StandsFor as JoinStandsFor}
use Rattle.row_codec.specs.declared.state.StateRow.{StateRow}
use Rattle.ingest.specs.Waiting.{AreSoundWaiting, StandsForClosed, waiting_by}
use Rattle.ingest.proofs.Remade.{found_has}
use Rattle.ingest.proofs.Unread.{of_memory}
use Rattle.ingest.proofs.restoring.make_again.Goals as goal

pub returns-clause-parts : goal.returns-clause-parts
returns-clause-parts c =
    let limits = c.args.limits.now in
    let state = c.args.state.now in
    let rows = c.args.rows.now in
    record {
      reader_is = c.in_ok-reader.ensures.parts;
      reads = c.in_ok-reader.ensures.stands;
      sound = found_has c.in_ok-join.field-0 c.in-Some.join _ (λ join. AreSoundWaiting limits state rows) c.in-Some.is c.in_ok-join.ensures.exact;
      waits = found_has c.in_ok-join.field-0 c.in-Some.join _ (λ join. JoinStandsFor limits join (waiting_by limits state rows)) c.in-Some.is c.in_ok-join.ensures.stands;
      quiet = found_has c.in_ok-join.field-0 c.in-Some.join _ (λ join. NothingRipe join) c.in-Some.is c.in_ok-join.ensures.quiet;
      history = found_has c.in_ok-join.field-0 c.in-Some.join _ (λ join. StandsForClosed limits state rows join) c.in-Some.is c.in_ok-join.ensures.history;
      tables_are = c.in_ok-tables.ensures.stands;
      safe = c.in_ok-tables.ensures.safe (subst (λ (o : Option StateRow). IfSome o (λ s. s.flows ≤ 2 ^ 60)) (sym c.requires.state_is) c.requires.counts.flows);
      bounds = c.in_ok-tables.ensures.limits;
      counted = c.in_ok-tables.ensures.counts;
      unmarked = c.in_ok-tables.ensures.unmarked;
    }

pub returns-then-limits-state-clause-full : goal.returns-then-limits-state-clause-full
returns-then-limits-state-clause-full c = λ full is.
    let limits = c.args.limits.now in
    let state = c.args.state.now in
    let rows = c.args.rows.now in
    let sound = found_has c.in_ok-join.field-0 c.in-Some.join _ (λ join. AreSoundWaiting limits state rows) c.in-Some.is c.in_ok-join.ensures.exact in
    (search rules, search rules, sound)

pub returns-in_err-reader-clause-other : goal.returns-in_err-reader-clause-other
returns-in_err-reader-clause-other c =
    let memory = err_from_is_err_and c.from_residual-in_err-reader.result c.from_residual-in_err-reader.ensures.1 in
    of_memory c.from_residual-in_err-reader.result memory.0 memory.1 memory.2
