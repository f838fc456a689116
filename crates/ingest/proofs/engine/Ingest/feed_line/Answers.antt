use Rattle.std.proofs.Common.{◌<◌, sym, subst, arith, List, ℕ, take, length}
use Rattle.std.proofs.lemmas.Result.{err_from_is_err_and}
use Rattle.audit_lex.specs.History.{History, with_bytes}
use Rattle.audit_lex.proofs.HistoryLemmas.{none_before, with_feed}
use Rattle.ingest.specs.Owing.{Halts}
use Rattle.ingest.specs.StandsFor.{StandsFor}
use Rattle.ingest.specs.Stops.{StopsFor}
use Rattle.ingest.specs.declared.stop.Stop.{Stop}
use Rattle.ingest.proofs.EngineSteps.{engine_own, at_rest}
use Rattle.ingest.proofs.StopLemmas.{feed_taken, stop_whole, halts_whole, stop_feed, halts_feed, halts_memory}
use Rattle.ingest.proofs.engine.Ingest.feed_line.Goals as goal

pub hold-requires-clause-no_feed : goal.hold-requires-clause-no_feed
hold-requires-clause-no_feed g c = none_before c.args.piece.now c.place_of-end.result c.place_of-end.ensures.place

pub returns-in_err-hold-clause-halts : goal.returns-in_err-hold-clause-halts
returns-in_err-hold-clause-halts g c =
    let p = err_from_is_err_and c.from_residual.result c.from_residual.ensures.1 in
    rw (p.1, p.2, c.in_err-hold.ensures.none) (λ limits h stands.
    halts_memory limits _ h c.args.piece.now (at_rest limits _ h (engine_own limits _ _ h c.in_err-hold.ensures.err stands)))

pub returns-in-Ok-clause-ok : goal.returns-in-Ok-clause-ok
returns-in-Ok-clause-ok g c = λ limits h stands.
    let end = c.place_of-end.result in
    let piece = c.args.piece.now in
    let below : end < length piece = omega (arith, c.place_of-end.ensures.within, c.if-end-piece-2.false) in
    subst (λ (g : History). StandsFor limits c.end_line.new.self g) (feed_taken limits h piece end c.place_of-end.ensures.place below)
    (c.in-Ok.ensures.ok limits (with_bytes h (take end piece)) (c.in_ok-hold.ensures.ok limits h stands))

pub returns-in-Err-clause-stop : goal.returns-in-Err-clause-stop
returns-in-Err-clause-stop g c = λ limits h stands.
    let end = c.place_of-end.result in
    let piece = c.args.piece.now in
    let below : end < length piece = omega (arith, c.place_of-end.ensures.within, c.if-end-piece-2.false) in
    subst (λ (s : Stop). StopsFor limits h piece s) (sym c.later.ensures)
    (stop_feed limits h piece end c.in-Err.stop c.place_of-end.ensures.place below (c.in-Err.ensures.stop limits (with_bytes h (take end piece)) (c.in_ok-hold.ensures.ok limits h stands)))

pub returns-in-Err-clause-halts : goal.returns-in-Err-clause-halts
returns-in-Err-clause-halts g c = λ limits h stands.
    let end = c.place_of-end.result in
    let piece = c.args.piece.now in
    let below : end < length piece = omega (arith, c.place_of-end.ensures.within, c.if-end-piece-2.false) in
    subst (λ (s : Stop). Halts limits c.end_line.new.self h piece s) (sym c.later.ensures)
    (halts_feed limits c.end_line.new.self h piece end c.in-Err.stop c.place_of-end.ensures.place below (c.in-Err.ensures.halts limits (with_bytes h (take end piece)) (c.in_ok-hold.ensures.ok limits h stands)))

pub end_line-requires-2-clause-no_feed : goal.end_line-requires-2-clause-no_feed
end_line-requires-2-clause-no_feed g c = none_before c.args.piece.now c.place_of-end.result c.place_of-end.ensures.place

pub returns-in_err-end_line-clause-stop : goal.returns-in_err-end_line-clause-stop
returns-in_err-end_line-clause-stop g c =
    let end = c.place_of-end.result in
    let below : end < length c.args.piece.now = omega (arith, c.place_of-end.ensures.within, c.if-end-piece.false) in
    let p = err_from_is_err_and c.from_residual-in_err-end_line.result c.from_residual-in_err-end_line.ensures.1 in
    rw (p.1, p.2) (λ limits h stands.
    stop_whole limits h c.args.piece.now end _ c.place_of-end.ensures.place below (c.in_err-end_line.ensures.stop limits h stands))

pub returns-in_err-end_line-clause-halts : goal.returns-in_err-end_line-clause-halts
returns-in_err-end_line-clause-halts g c =
    let end = c.place_of-end.result in
    let below : end < length c.args.piece.now = omega (arith, c.place_of-end.ensures.within, c.if-end-piece.false) in
    let p = err_from_is_err_and c.from_residual-in_err-end_line.result c.from_residual-in_err-end_line.ensures.1 in
    rw (p.1, p.2) (λ limits h stands.
    halts_whole limits _ h c.args.piece.now end _ c.place_of-end.ensures.place below (c.in_err-end_line.ensures.halts limits h stands))

pub returns-clause-ok : goal.returns-clause-ok
returns-clause-ok g c = λ limits h stands.
    let end = c.place_of-end.result in
    let below : end < length c.args.piece.now = omega (arith, c.place_of-end.ensures.within, c.if-end-piece.false) in
    subst (λ (l : List ℕ). StandsFor limits c.end_line-2.new.self (with_bytes h l)) (sym (with_feed c.args.piece.now end c.place_of-end.ensures.place below))
    (c.in_ok-end_line.ensures.ok limits h stands)
