use Rattle.std.proofs.Common.{◌≡◌, ◌↔◌, ◌⊎◌, List, subst, heap_items}
use Rattle.std.specs.List.{Contains}
use Rattle.query_walk.specs.Arrivals.{Arrival, arrival}
use Rattle.query_walk.proofs.ArrivalLemmas.{pushed}
use Rattle.query_walk.proofs.queue.Queue.put.Goals as goal

pub returns : goal.returns
returns c = λ a. subst (λ (old : List Arrival). Contains (heap_items c.push.new.self) a ↔ (Contains old a ⊎ (arrival c.args.place c.args.object ≡ a))) c.self.view_is
    (pushed (heap_items c.self.inside.heap) (heap_items c.push.new.self) (arrival c.args.place c.args.object) a c.in_ok-push.ensures.permutation)
