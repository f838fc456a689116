use Rattle.row_codec.specs.Rows.{row, Fits}
use Rattle.row_codec.specs.declared.rows.StoreRow.TheVariants.{Extend}
use Rattle.reduced_store.proofs.SpellingLemmas.{put_next}
use Rattle.reduced_store.proofs.spelling.write_extends.Goals as goal

pub loop-row-preserved : goal.loop-row-preserved
loop-row-preserved c =
    put_next (λ e. row (Extend e)) (λ e. Fits (Extend e)) c.args.to.now c.loop-row.to c.write_row.new.to c.args.rows.now c.loop-row.row-index _ c.loop-row-test.true c.in_ok-write_row.ensures.bytes c.in_ok-write_row.ensures.fits c.loop-row.invariant
