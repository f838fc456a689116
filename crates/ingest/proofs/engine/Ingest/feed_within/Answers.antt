use Rattle.std.proofs.Common.{◌∙◌, sym, subst, arith, take}
use Rattle.std.proofs.lemmas.List.{take_rest, length-drop}
use Rattle.audit_lex.specs.History.{with_bytes}
use Rattle.ingest.specs.Owing.{Halts}
use Rattle.ingest.specs.Stops.{StopsFor}
use Rattle.ingest.specs.declared.stop.Stop.{Stop}
use Rattle.ingest.proofs.StopLemmas.{more_taken, stop_later, halts_later}
use Rattle.ingest.proofs.engine.Ingest.feed_within.Goals as goal

pub loop-done-preserved : goal.loop-done-preserved
loop-done-preserved g c =
    let piece = c.args.piece.now in
    let w = c.loop-done.invariant in
    record {
      within = omega (arith, rw (take_rest piece c.loop-done.done, length-drop) at c.in-Ok.ensures.within);
      bytes = omega (arith, c.in-Ok.ensures.bytes, w.bytes);
      limits = c.in-Ok.ensures.limits ∙ w.limits;
      quiet = c.in-Ok.ensures.quiet;
      alike = g.met.K.Rows.goes_along.next c.args.self.now.joined.keep c.loop-done.self.joined.keep c.feed_line.new.self.joined.keep w.alike c.in-Ok.ensures.alike;
      marked = c.in-Ok.ensures.marked ∙ w.marked;
      taken = λ limits h stands.
          let before = with_bytes h (take c.loop-done.done piece) in
          rw (take_rest piece c.loop-done.done, more_taken h c.loop-done.done c.in-Ok.count piece) at (c.in-Ok.ensures.ok limits before (w.taken limits h stands));
    }

pub returns-in-Err-clause-stop : goal.returns-in-Err-clause-stop
returns-in-Err-clause-stop g c = λ limits h stands.
    let piece = c.args.piece.now in
    let w = c.loop-done.invariant in
    let before = with_bytes h (take c.loop-done.done piece) in
    let here = rw (take_rest piece c.loop-done.done) at (c.in-Err.ensures.stop limits before (w.taken limits h stands)) in
    subst (λ (s : Stop). StopsFor limits h piece s) (sym c.later.ensures) (stop_later limits h piece c.loop-done.done c.in-Err.stop w.within here)

pub returns-in-Err-clause-halts : goal.returns-in-Err-clause-halts
returns-in-Err-clause-halts g c = λ limits h stands.
    let piece = c.args.piece.now in
    let w = c.loop-done.invariant in
    let before = with_bytes h (take c.loop-done.done piece) in
    let here = rw (take_rest piece c.loop-done.done) at (c.in-Err.ensures.halts limits before (w.taken limits h stands)) in
    subst (λ (s : Stop). Halts limits c.feed_line.new.self h piece s) (sym c.later.ensures) (halts_later limits c.feed_line.new.self h piece c.loop-done.done c.in-Err.stop w.within here)

pub returns-in-Err-clause-alike : goal.returns-in-Err-clause-alike
returns-in-Err-clause-alike g c =
    g.met.K.Rows.goes_along.next c.args.self.now.joined.keep c.loop-done.self.joined.keep c.feed_line.new.self.joined.keep c.loop-done.invariant.alike c.in-Err.ensures.alike

pub returns-in-Err-clause-marked : goal.returns-in-Err-clause-marked
returns-in-Err-clause-marked g c = c.in-Err.ensures.marked ∙ c.loop-done.invariant.marked
