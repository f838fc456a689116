use Rattle.std.proofs.Common.{◌<◌, ◌∙◌, ap, sym, length, arith, Option}
use Rattle.row_codec.specs.declared.state.StateRow.{StateRow}
use Rattle.store_check.specs.Store.{newer}
use Rattle.stored.specs.Words.{state_in}
use Rattle.ingest.proofs.Remade.{state_next}
use Rattle.ingest.proofs.restoring.last_state.Goals as goal

pub loop-row-preserved : goal.loop-row-preserved
loop-row-preserved c =
    let inside : c.loop-row.row-index < length c.args.rows.now = (let t = c.loop-row-test.true in let e = c.loop-row.auto.row-index-end in omega (arith, t, e)) in
    record {
      found = c.later_state-found.ensures ∙ ap (λ (o : Option StateRow). newer o (state_in c.row-item.result)) c.loop-row.invariant.found
          ∙ sym (state_next c.args.rows.now c.loop-row.row-index c.row-item.result inside c.row-item.is);
    }
