use Rattle.std.proofs.Common.{◌≡◌, ◌≤◌, ◌++◌, List, length}
use Rattle.flow_base.specs.declared.types.Key.{Key}
use Rattle.flow_events.specs.Entering.{entered}
use Rattle.flow_events.proofs.passes.enter_all.Given as goal

-- the keys that are done stood last, and there is room for the others
abbrev pub invariant-loop-key : goal.invariant-loop-key
invariant-loop-key l = (done : List Key) × record {
  all : l.fn.added.keys ≡ l.added.keys ++ done;
  keys : l.entities.keys ≡ entered l.fn.entities.keys done;
  room : length l.added.keys ≤ l.entities.spare;
  flows : l.added.flows ≡ l.fn.added.flows;
  rest : l.entities ≡ record l.fn.entities { keys = l.entities.keys; spare = l.entities.spare };
}

abbrev pub decreases-loop-key : goal.decreases-loop-key
decreases-loop-key l = length l.added.keys
