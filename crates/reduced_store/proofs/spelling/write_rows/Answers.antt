use Rattle.row_codec.specs.Rows.{row, Fits}
use Rattle.row_codec.proofs.ManyLaws.{put_more}
use Rattle.reduced_store.proofs.spelling.write_rows.Goals as goal

pub loop-row-preserved : goal.loop-row-preserved
loop-row-preserved c =
    put_more row Fits c.args.to.now c.loop-row.to c.write_row.new.to c.args.rows.now c.loop-row.row-index c.row-item.result c.loop-row-test.true c.row-item.is c.in_ok-write_row.ensures.bytes c.in_ok-write_row.ensures.fits c.loop-row.invariant
