use Rattle.std.proofs.Common.{[], length, get_or, set, sym, ap, subst, ◌∙◌, arith}
use Rattle.std.proofs.lemmas.List.{get_or_default}
use Rattle.reduce_source.specs.Pools.{AreKeptIn}
use Rattle.reduce_source.proofs.Sharing.{all_held, list_kept, put_there, put_elsewhere, sets_joined}
use Rattle.reduce_source.proofs.shared.Shared.join.Goals as goal

pub join-requires-clause-more : goal.join-requires-clause-more
join-requires-clause-more c =
    let sets = c.args.self.now.sets.items in
    subst (AreKeptIn c.args.into c.args.self.now.pools) (sym (c.ids_at.ensures ∙ ap (λ s. get_or s c.args.with []) c.deref.ensures.value))
    (list_kept c.args.into c.args.with sets c.replace-joined.new.dest c.args.self.now.pools (c.replace-joined.ensures.after ∙ c.new.ensures) c.requires.object (c.args.self.now.sound).ids)

pub invariant_of-self : goal.invariant_of-self
invariant_of-self c =
    let s = c.args.self.now in
    let into = c.args.into in
    let empty = c.replace-joined.new.dest in
    let list = c.join.new.self in
    let was = c.replace-joined.ensures.value ∙ c.index_mut.ensures.value ∙ sym (get_or_default s.sets.items into [] c.index_mut.result.now c.requires.object) in
    let places = c.join.ensures.places in
    let narrow = (s.sound).narrow into in
    let same = ap length was in
    record {
      sound = all_held into _ s.sets.items (set (set s.sets.items into empty) into list) list s.pools c.join.new.pools (put_there into s.sets.items empty list c.requires.object) (put_elsewhere into s.sets.items empty list c.requires.object)
          (s.sound).ids c.join.ensures.changes s.width c.join.ensures.held (omega (arith, places, narrow, same)) (s.sound).narrow;
    }

pub returns-clause-sets : goal.returns-clause-sets
returns-clause-sets c =
    let sets = c.args.self.now.sets.items in
    let into = c.args.into in
    sets_joined into _ sets c.replace-joined.new.dest c.join.new.self c.args.self.now.pools c.join.new.pools c.requires.object (c.args.self.now.sound).ids c.join.ensures.changes
    c.args.with c.replace-joined.result c.ids_at.result.now (c.replace-joined.ensures.after ∙ c.new.ensures)
    (c.replace-joined.ensures.value ∙ c.index_mut.ensures.value ∙ sym (get_or_default sets into [] c.index_mut.result.now c.requires.object))
    (c.ids_at.ensures ∙ ap (λ s. get_or s c.args.with []) c.deref.ensures.value)
    c.join.ensures.set
