use Rattle.std.proofs.Common.{take, drop, ◌*◌, ◌∙◌, ap}
use Rattle.std.proofs.lemmas.List.{take_at}
use Rattle.block_cache.proofs.cache.BlockCache.read_block.Goals as goal

pub returns-then-branch-clause-block : goal.returns-then-branch-clause-block
returns-then-branch-clause-block g c = λ told.
    let reads = (g.D.Disk.state c.args.disk.now).reads in
    let long = c.read_whole.auto.buf ∙ c.as_mut_slice.ensures.len in
    c.from_vec.ensures
    ∙ take_at c.read_whole.new.buf _ c.in-Ok.room.len long
    ∙ c.in_ok-read_whole.ensures.bytes told c.if-branch.true
    ∙ ap (λ n. take n (drop (c.args.number * 4096) reads)) (long ∙ c.in-Ok.room.ok.0 ∙ c.in-Ok.ensures)
