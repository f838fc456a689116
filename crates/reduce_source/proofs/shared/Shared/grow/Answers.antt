use Rattle.reduce_source.proofs.Sharing.{pushed_or_not, same_lists}
use Rattle.reduce_source.proofs.shared.Shared.grow.Goals as goal

pub invariant_of-self : goal.invariant_of-self
invariant_of-self c =
    let s = c.loop-alloc.self in
    record { sound = same_lists s.sets.items c.push.new.self.items s.pools s.width (pushed_or_not _ s.sets.items c.push.new.self.items c.new.result c.new.ensures c.push.ensures.items) s.sound }
