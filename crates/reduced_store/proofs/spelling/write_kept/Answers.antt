use Rattle.row_codec.specs.Rows.{row, Fits}
use Rattle.saved_rows.specs.Saved.{as_kept}
use Rattle.reduced_store.proofs.SpellingLemmas.{put_next}
use Rattle.reduced_store.proofs.spelling.write_kept.Goals as goal

pub loop-row-preserved : goal.loop-row-preserved
loop-row-preserved c =
    put_next (λ r. row (as_kept r)) (λ r. Fits (as_kept r)) c.args.to.now c.loop-row.to c.write_one.new.to c.args.rows.now c.loop-row.row-index _ c.loop-row-test.true c.in_ok-write_one.ensures.bytes c.in_ok-write_one.ensures.fits c.loop-row.invariant
