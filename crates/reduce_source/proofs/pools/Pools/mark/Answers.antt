use Rattle.std.proofs.Common.{get_or, ap, ◌∙◌, arith}
use Rattle.reduce_source.specs.Blocks.{id_on, ids_in}
use Rattle.reduce_source.proofs.Pooling.{page_put}
use Rattle.reduce_source.proofs.pools.Pools.mark.Goals as goal

pub returns-clause-replaces : goal.returns-clause-replaces
returns-clause-replaces c =
    page_put c.args.object c.args.mine c.put.result c.args.self.now _ (λ k. get_or c.page_of-old.result.ids k 0) (λ k. get_or c.mark-page.result.ids k 0)
    (λ k. c.page_of-old.ensures k ∙ ap (λ s. id_on s c.args.mine k) c.deref.ensures.value)
    (λ k. ap (λ p. get_or (ids_in p) k 0) c.put.ensures.value) 16 (omega arith) c.put.ensures.replaces c.mark-page.ensures.puts
