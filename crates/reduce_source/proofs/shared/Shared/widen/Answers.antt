use Rattle.std.proofs.Common.{[], length, get_or, set, sym, ap, ◌∙◌, arith}
use Rattle.std.proofs.lemmas.List.{get_or_default, get_or-set_same, get_or-set_other}
use Rattle.reduce_source.proofs.Pooling.{both_same, same_pages}
use Rattle.reduce_source.proofs.Sharing.{all_held}
use Rattle.reduce_source.proofs.shared.Shared.widen.Goals as goal

pub invariant_of-self : goal.invariant_of-self
invariant_of-self c =
    let s = c.args.self.now in
    let x = c.args.object in
    let list = c.grow.new.self in
    let was = c.index_mut.ensures.value ∙ sym (get_or_default s.sets.items x [] c.index_mut.result.now c.requires.object) in
    let most = c.grow.ensures.most in
    let narrow = (s.sound).narrow x in
    let same = ap length was in
    record {
      sound = all_held x 0 s.sets.items (set s.sets.items x list) list s.pools s.pools (get_or-set_same s.sets.items x list [] c.requires.object) (λ v n. get_or-set_other s.sets.items x v list [] n)
          (s.sound).ids (both_same x s.pools) s.width (same_pages x s.pools (get_or s.sets.items x []) list (λ k. c.grow.ensures.same k ∙ ap (λ l. get_or l k 0) was) ((s.sound).ids x))
          (omega (arith, most, narrow, same)) (s.sound).narrow;
    }
