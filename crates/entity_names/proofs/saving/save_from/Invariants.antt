use Rattle.std.proofs.Common.{◌-◌, length}
use Rattle.entity_names.specs.Known.{AreSaved, NamesStay}
use Rattle.entity_names.proofs.saving.save_from.Given as goal

-- the names stay, and those before this place are saved
abbrev pub invariant-loop-place : goal.invariant-loop-place
invariant-loop-place l = record {
  names : NamesStay l.fn.names.entries l.names.entries;
  saved : AreSaved l.fn.first l.fn.names.entries → AreSaved l.place l.names.entries;
}

abbrev pub decreases-loop-place : goal.decreases-loop-place
decreases-loop-place l = length l.names.entries - l.place
