use Rattle.std.proofs.Common.{◌≡◌, ◌↔◌, ◌⊎◌, ℕ, [], length, set, sym, subst, ap, ◌∙◌, arith}
use Rattle.std.proofs.lemmas.List.{get_or_default, get_or-set_same, get_or-set_other}
use Rattle.reduce_source.specs.Pools.{Has}
use Rattle.reduce_source.proofs.Sharing.{all_held, sets_marked}
use Rattle.reduce_source.proofs.shared.Shared.mark.Goals as goal

pub invariant_of-self : goal.invariant_of-self
invariant_of-self c =
    let s = c.args.self.now in
    let x = c.args.object in
    let list = c.mark.new.self in
    let was = get_or_default s.sets.items x [] c.index_mut.result.now c.requires.object in
    let places = c.mark.ensures.places in
    let narrow = (s.sound).narrow x in
    let same = ap length (c.index_mut.ensures.value ∙ sym was) in
    record {
      sound = all_held x 1 s.sets.items (set s.sets.items x list) list s.pools c.mark.new.pools (get_or-set_same s.sets.items x list [] c.requires.object) (λ v n. get_or-set_other s.sets.items x v list [] n)
          (s.sound).ids c.mark.ensures.changes s.width c.mark.ensures.held (omega (arith, places, narrow, same)) (s.sound).narrow;
    }

pub returns-clause-sets : goal.returns-clause-sets
returns-clause-sets c =
    let s = c.args.self.now in
    let x = c.args.object in
    let list = c.mark.new.self in
    sets_marked x 1 s.sets.items (set s.sets.items x list) list s.pools c.mark.new.pools (get_or-set_same s.sets.items x list [] c.requires.object) (λ v n. get_or-set_other s.sets.items x v list [] n)
    (s.sound).ids c.mark.ensures.changes c.args.number (subst (λ was. (n : ℕ) → Has c.mark.new.pools list n ↔ (Has s.pools was n ⊎ (n ≡ c.args.number))) (c.index_mut.ensures.value ∙ sym (get_or_default s.sets.items x [] c.index_mut.result.now c.requires.object)) c.mark.ensures.set)
