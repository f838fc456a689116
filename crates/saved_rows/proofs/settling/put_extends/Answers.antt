use Rattle.std.proofs.Common.{◌∙◌, ap, arith}
use Rattle.block_cache.specs.Cached.{Cached}
use Rattle.saved_rows.proofs.SettleLemmas.{more_extends, more_there}
use Rattle.saved_rows.proofs.settling.put_extends.Goals as goal

pub loop-extend-preserved : goal.loop-extend-preserved
loop-extend-preserved c =
    let held = c.loop-extend.invariant in
    let i = c.loop-extend.extend-index in
    let xs = c.args.extends.now in
    record {
      at = omega (arith, held.at);
      kept = more_extends c.args.kept.rows xs i _ c.loop-extend.kept.rows c.and_extend-kept.result.rows c.loop-extend-test.true held.kept c.and_extend-kept.ensures;
      there = λ bytes has are.
          more_there bytes c.args.saved.now.cache.firm c.args.place xs i _ c.loop-extend.at c.loop-extend.saved c.add_extend.new.self c.loop-extend.kept.rows c.and_extend-kept.result.rows
          are c.loop-extend-test.true held.at (ap (λ (k : Cached). k.firm) held.cache) (c.add_extend.ensures.rows bytes c.loop-extend.kept.rows (held.there bytes has are)) c.and_extend-kept.ensures;
      count = c.add_extend.ensures.count ∙ held.count;
      cache = c.add_extend.ensures.cache ∙ held.cache;
      room = omega (arith, c.add_extend.ensures.room, held.room);
    }
