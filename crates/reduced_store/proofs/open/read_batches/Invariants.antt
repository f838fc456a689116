use Rattle.std.proofs.Common.{◌≡◌, ℕ, List, [], take}
use Rattle.outside.specs.Disk.{OnlyLooks, UsesDisk}
use Rattle.store_check.specs.Conditions.{bounds_of}
use Rattle.reduced_store.specs.Placing.{AreThere}
use Rattle.reduced_store.specs.Reading.{HasRead}
use Rattle.reduced_store.proofs.open.read_batches.Given as goal

-- the payloads so far are read, none if there is no batch; on a disk that tells its bytes they are those of the batches so far
abbrev pub invariant-loop-batch : goal.invariant-loop-batch
invariant-loop-batch g l =
    let disk = g.D.Disk in
    record {
      some : (payloads : List (List ℕ)) × HasRead (bounds_of l.limits) (take l.batch-index l.batches) payloads l.reading;
      none : l.batches ≡ [] → HasRead (bounds_of l.limits) [] [] l.reading;
      known : (disk.state l.initial.disk).told → (payloads : List (List ℕ)) → AreThere (disk.state l.initial.disk).reads l.batches payloads
          → HasRead (bounds_of l.limits) (take l.batch-index l.batches) (take l.batch-index payloads) l.reading;
      looks : OnlyLooks (disk.state l.initial.disk) (disk.state l.disk);
      uses : UsesDisk disk.state disk.faults disk.spent l.initial.disk l.disk ⊥;
    }
