use Rattle.std.proofs.Common.{◌≡◌, ◌⊎◌, ◌<◌, ◌-◌}
use Rattle.std.specs.List.{All}
use Rattle.batch_log.specs.Payloads.{Fits}
use Rattle.outside.specs.Disk.{OnlyLooks, UsesDisk}
use Rattle.batch_log.proofs.Known.{Known}
use Rattle.batch_log.proofs.open.read_batches.Given as goal

-- the batches up to the gate are listed, and the gate is on the disk unless the disk is empty
abbrev pub invariant-loop-gate : goal.invariant-loop-gate
invariant-loop-gate g l =
    let disk = g.D.Disk in
    record {
      within : (l.gate ≡ 0) ⊎ (l.gate < l.end);
      known : (disk.state l.initial.disk).told → Known l.most (disk.state l.initial.disk).reads l.gate l.batches;
      fits : All Fits l.batches;
      looks : OnlyLooks (disk.state l.initial.disk) (disk.state l.disk);
      uses : UsesDisk disk.state disk.faults disk.spent l.initial.disk l.disk ⊥;
    }

abbrev pub decreases-loop-gate : goal.decreases-loop-gate
decreases-loop-gate g l = l.end - l.gate
