use Rattle.std.proofs.Common.{◌≡◌, ℕ, ◌++◌, List, length}
use Rattle.flow_base.specs.declared.types.Key.{Key}
use Rattle.entity_names.specs.Known.{NamesAs}
use Rattle.flow_events.specs.declared.given.Given.{Given}
use Rattle.flow_events.specs.Entering.{Covers, SavedAlike, pairs_of}
use Rattle.flow_events.proofs.passes.give_all.Given as goal

-- the names that are done stood last, and there is room for the others
abbrev pub invariant-loop-one : goal.invariant-loop-one
invariant-loop-one l = (done : List Given) × record {
  all : l.fn.given ≡ l.given ++ done;
  next : (all : List (Key × List ℕ)) → NamesAs l.fn.entities all → NamesAs l.entities (all ++ pairs_of done);
  room : Covers l.entities l.given;
  saved : SavedAlike l.fn.entities l.entities;
  rest : l.entities ≡ record l.fn.entities { names = l.entities.names };
}

abbrev pub decreases-loop-one : goal.decreases-loop-one
decreases-loop-one l = length l.given
