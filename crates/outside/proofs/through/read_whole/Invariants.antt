use Rattle.std.proofs.Common.{◌≡◌, length, ◌-◌, ◌≤◌, take, drop}
use Rattle.outside.specs.Disk.{OnlyLooks, UsesDisk}
use Rattle.outside.proofs.through.read_whole.Given as goal

-- a prefix of the buffer is filled, and nothing was written
abbrev pub invariant-loop-done : goal.invariant-loop-done
invariant-loop-done g l =
    let disk = g.D.Disk in
    record {
      within : l.done ≤ length l.buf;
      read : (disk.state l.initial.disk).told → take l.done l.buf ≡ take l.done (drop l.at (disk.state l.initial.disk).reads);
      looks : OnlyLooks (disk.state l.initial.disk) (disk.state l.disk);
      uses : UsesDisk disk.state disk.faults disk.spent l.initial.disk l.disk ⊥;
    }

abbrev pub decreases-loop-done : goal.decreases-loop-done
decreases-loop-done g l = length l.buf - l.done
