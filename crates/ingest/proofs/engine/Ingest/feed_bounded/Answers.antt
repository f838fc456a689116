use Rattle.std.proofs.Common.{◌≡◌, ◌-◌, ◌∙◌, ap, arith}
use Rattle.flow_base.specs.declared.limits.Limits.{Limits}
use Rattle.ingest.specs.Counting.{bytes_in}
use Rattle.ingest.proofs.EngineSteps.{engine_own}
use Rattle.ingest.proofs.StopLemmas.{stop_front, stop_full, halts_front, halts_full}
use Rattle.ingest.proofs.engine.Ingest.feed_bounded.Goals as goal
use Rattle.ingest.proofs.engine.Ingest.feed_bounded.Goals.{in-Ok, in-Err}

pub returns-clause-stop : goal.returns-clause-stop
returns-clause-stop g c =
    elim c.match-feed_within.branch [
      | in-Ok w ↦ rw w.result-is (λ limits h stands.
          let own = engine_own limits _ _ h c.self.view_is stands in
          let after = w.in-Ok.ensures.ok limits h stands in
          let late = engine_own limits _ _ _ c.self-2.view_is after in
          let most : c.most.result ≡ limits.input = c.most.ensures.most ∙ ap (λ (l : Limits). l.input) own.reader.limits_are in
          let bytes : c.bytes.result ≡ bytes_in h = c.bytes.ensures ∙ own.reader.bytes in
          let again : w.most-in-Ok.result ≡ limits.input = w.most-in-Ok.ensures.most ∙ ap (λ (l : Limits). l.input) late.reader.limits_are in
          let fits = own.fits.input in
          stop_full limits h c.args.piece.now (c.most.result - c.bytes.result) w.most-in-Ok.result c.if-piece-room.false (omega (arith, most, bytes, fits)) again after.fits)
      | in-Err w ↦ rw w.result-is (λ limits h stands.
          stop_front limits h c.args.piece.now (c.most.result - c.bytes.result) w.in-Err.stop (omega (arith, c.if-piece-room.false)) (w.in-Err.ensures.stop limits h stands))
    ]

pub returns-clause-halts : goal.returns-clause-halts
returns-clause-halts g c =
    elim c.match-feed_within.branch [
      | in-Ok w ↦ rw w.result-is (λ limits h stands.
          let own = engine_own limits _ _ h c.self.view_is stands in
          let after = w.in-Ok.ensures.ok limits h stands in
          let late = engine_own limits _ _ _ c.self-2.view_is after in
          let most : c.most.result ≡ limits.input = c.most.ensures.most ∙ ap (λ (l : Limits). l.input) own.reader.limits_are in
          let bytes : c.bytes.result ≡ bytes_in h = c.bytes.ensures ∙ own.reader.bytes in
          let again : w.most-in-Ok.result ≡ limits.input = w.most-in-Ok.ensures.most ∙ ap (λ (l : Limits). l.input) late.reader.limits_are in
          let fits = own.fits.input in
          halts_full limits _ h c.args.piece.now (c.most.result - c.bytes.result) w.most-in-Ok.result c.if-piece-room.false (omega (arith, most, bytes, fits)) again after)
      | in-Err w ↦ rw w.result-is (λ limits h stands.
          halts_front limits _ h c.args.piece.now (c.most.result - c.bytes.result) w.in-Err.stop (omega (arith, c.if-piece-room.false)) (w.in-Err.ensures.halts limits h stands))
    ]
