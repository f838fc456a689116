use Rattle.std.proofs.Common.{get_or, sym, ap, subst, ◌∙◌, arith}
use Rattle.reduce_source.specs.Blocks.{id_on, ids_in}
use Rattle.reduce_source.specs.Owners.{Replaces}
use Rattle.reduce_source.proofs.Owning.{no_replace}
use Rattle.reduce_source.proofs.Pooling.{page_put, bits_put}
use Rattle.reduce_source.proofs.pools.Pools.join.Goals as goal

pub returns-then-has_all-clause-replaces : goal.returns-then-has_all-clause-replaces
returns-then-has_all-clause-replaces c =
    page_put c.args.object c.args.mine c.args.mine c.args.self.now _ (λ k. get_or c.page_of-old.result.ids k 0) (λ k. get_or c.join-joined.result.ids k 0)
    (λ k. c.page_of-old.ensures k ∙ ap (λ s. id_on s c.args.mine k) c.deref.ensures.value)
    (λ k. sym (c.page_of-old.ensures k ∙ ap (λ s. id_on s c.args.mine k) c.deref.ensures.value) ∙ ap (λ ids. get_or ids k 0) (sym (c.is_same-has_all.ensures.0 c.if-has_all.true)))
    16 (omega arith) (no_replace c.args.object c.args.mine c.args.self.now.pages.slots c.requires.mine) c.join-joined.ensures.puts

pub returns-then-gives_all-clause-bits : goal.returns-then-gives_all-clause-bits
returns-then-gives_all-clause-bits c =
    bits_put c.args.object c.args.mine c.take_over.result c.args.self.now (record { blocks = c.join-joined.new.blocks; pages = c.take_over.new.self }) (λ k. get_or c.page_of-old.result.ids k 0) (λ k. get_or c.join-joined.result.ids k 0)
    (λ k. c.page_of-old.ensures k ∙ ap (λ s. id_on s c.args.mine k) c.deref.ensures.value)
    (λ k. ap (λ i. id_on c.take_over.new.self.slots.items i k) c.take_over.ensures.id ∙ ap (λ p. get_or (ids_in p) k 0) c.take_over.ensures.value ∙
    sym (c.page_of-more.ensures k ∙ ap (λ s. id_on s c.args.other k) c.deref-2.ensures.value) ∙ ap (λ ids. get_or ids k 0) (sym (c.is_same-gives_all.ensures.0 c.if-gives_all.true)))
    c.args.other (λ k. get_or c.page_of-more.result.ids k 0) (λ k. c.page_of-more.ensures k ∙ ap (λ s. id_on s c.args.other k) c.deref-2.ensures.value) c.join-joined.ensures.bits

pub returns-then-gives_all-clause-replaces : goal.returns-then-gives_all-clause-replaces
returns-then-gives_all-clause-replaces c =
    page_put c.args.object c.args.mine c.take_over.result c.args.self.now _ (λ k. get_or c.page_of-old.result.ids k 0) (λ k. get_or c.join-joined.result.ids k 0)
    (λ k. c.page_of-old.ensures k ∙ ap (λ s. id_on s c.args.mine k) c.deref.ensures.value)
    (λ k. ap (λ i. id_on c.take_over.new.self.slots.items i k) c.take_over.ensures.id ∙ ap (λ p. get_or (ids_in p) k 0) c.take_over.ensures.value ∙
    sym (c.page_of-more.ensures k ∙ ap (λ s. id_on s c.args.other k) c.deref-2.ensures.value) ∙ ap (λ ids. get_or ids k 0) (sym (c.is_same-gives_all.ensures.0 c.if-gives_all.true)))
    16 (omega arith) (subst (λ i. Replaces c.args.object c.args.mine i c.args.self.now.pages.slots c.take_over.new.self.slots) (sym c.take_over.ensures.id) c.take_over.ensures.replaces) c.join-joined.ensures.puts

pub returns-clause-bits : goal.returns-clause-bits
returns-clause-bits c =
    bits_put c.args.object c.args.mine c.put.result c.args.self.now (record { blocks = c.join-joined.new.blocks; pages = c.put.new.self }) (λ k. get_or c.page_of-old.result.ids k 0) (λ k. get_or c.join-joined.result.ids k 0)
    (λ k. c.page_of-old.ensures k ∙ ap (λ s. id_on s c.args.mine k) c.deref.ensures.value)
    (λ k. ap (λ p. get_or (ids_in p) k 0) c.put.ensures.value)
    c.args.other (λ k. get_or c.page_of-more.result.ids k 0) (λ k. c.page_of-more.ensures k ∙ ap (λ s. id_on s c.args.other k) c.deref-2.ensures.value) c.join-joined.ensures.bits

pub returns-clause-replaces : goal.returns-clause-replaces
returns-clause-replaces c =
    page_put c.args.object c.args.mine c.put.result c.args.self.now _ (λ k. get_or c.page_of-old.result.ids k 0) (λ k. get_or c.join-joined.result.ids k 0)
    (λ k. c.page_of-old.ensures k ∙ ap (λ s. id_on s c.args.mine k) c.deref.ensures.value)
    (λ k. ap (λ p. get_or (ids_in p) k 0) c.put.ensures.value) 16 (omega arith) c.put.ensures.replaces c.join-joined.ensures.puts
