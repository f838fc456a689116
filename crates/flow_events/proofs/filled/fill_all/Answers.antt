use Rattle.std.proofs.Common.{◌<◌, ◌≤◌, sym, subst, length, fold, ℕ, arith}
use Rattle.flow_base.specs.contracts.types.KeyPartialEq.TheImpl.{ghosts}
use Rattle.acts.specs.Keys.{put_new}
use Rattle.store_check.specs.Store.{key_in}
use Rattle.flow_events.proofs.Filling.{next_fits, row_taken}
use Rattle.flow_events.proofs.filled.fill_all.Goals as goal

pub fill-requires : goal.fill-requires
fill-requires c =
    let inside : c.loop-row.row-index < length c.args.rows.now = (let t = c.loop-row-test.true in let e = c.loop-row.auto.row-index-end in omega (arith, t, e)) in
    let fit = next_fits c.args.rows.now c.loop-row.row-index c.row-item.result c.loop-row.filled.entities.keys c.args.limits.now.entities inside c.row-item.is c.loop-row.invariant.rows.keys_are c.requires.fits in
    record { fits = subst (λ (limit : ℕ). length (fold (put_new ghosts.eq) c.loop-row.filled.entities.keys (key_in c.row-item.result)) ≤ limit) (sym c.loop-row.invariant.within.objects) fit }

pub loop-row-preserved : goal.loop-row-preserved
loop-row-preserved c =
    let inside : c.loop-row.row-index < length c.args.rows.now = (let t = c.loop-row-test.true in let e = c.loop-row.auto.row-index-end in omega (arith, t, e)) in
    record {
      rows = row_taken c.loop-row.filled c.fill.new.self c.args.rows.now c.loop-row.row-index c.row-item.result inside c.row-item.is c.loop-row.invariant.rows c.in_ok-fill.ensures.takes;
      within = c.in_ok-fill.ensures.within c.args.limits.now c.loop-row.invariant.within;
    }
