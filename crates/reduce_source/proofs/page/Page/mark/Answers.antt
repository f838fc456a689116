use Rattle.std.proofs.Common.{get_or, set, refl, arith}
use Rattle.std.proofs.lemmas.List.{get_or-set_same, get_or-set_other}
use Rattle.reduce_source.proofs.Paging.{puts_one, puts_same}
use Rattle.reduce_source.proofs.page.Page.mark.Goals as goal

pub returns-clause-puts : goal.returns-clause-puts
returns-clause-puts c =
    let ids = c.args.self.now.ids in
    let place = c.args.place in
    let next = c.mark.result in
    let len = c.args.self.now.size in
    let low = c.requires.place in
    puts_same c.args.object 1 16 (λ k. get_or ids k 0) (λ k. get_or (set ids place next) k 0) _ _ c.args.blocks.now.slots _ (omega arith) (λ k. refl) (λ k. refl)
    (puts_one c.args.object place next (λ k. get_or ids k 0) (λ k. get_or (set ids place next) k 0) c.args.blocks.now.slots _ low
    (get_or-set_same ids place next 0 (omega (arith, len, low))) (λ k n. get_or-set_other ids place k next 0 n) c.mark.ensures.replaces)
