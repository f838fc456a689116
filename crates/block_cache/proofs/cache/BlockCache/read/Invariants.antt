use Rattle.std.proofs.Common.{◌≡◌, ◌≤◌, ℕ, take, length, ◌-◌}
use Rattle.outside.specs.Disk.{OnlyLooks, UsesDisk}
use Rattle.block_cache.specs.Cached.{HasRange, HoldsRange, IsCacheOf, IsHeld, range}
use Rattle.block_cache.proofs.cache.BlockCache.read.Given as goal

-- a prefix of the buffer is filled, and nothing was written
abbrev pub invariant-loop-done : goal.invariant-loop-done
invariant-loop-done g l =
    let disk = g.D.Disk in
    record {
      within : l.done ≤ length l.buf;
      there : (disk.state l.initial.disk).told → HasRange l.at l.done (disk.state l.initial.disk).reads;
      read : (disk.state l.initial.disk).told → take l.done l.buf ≡ range l.at l.done (disk.state l.initial.disk).reads;
      cache : (disk.state l.initial.disk).told → IsCacheOf (disk.state l.disk).reads l.self;
      firm : l.self.firm ≡ l.initial.self.firm;
      held : HoldsRange l.at (length l.initial.buf) l.initial.self.blocks
          → (l.disk ≡ l.initial.disk) × ((number : ℕ) → IsHeld number l.initial.self.blocks → IsHeld number l.self.blocks);
      looks : OnlyLooks (disk.state l.initial.disk) (disk.state l.disk);
      uses : UsesDisk disk.state disk.faults disk.spent l.initial.disk l.disk ⊥;
    }

abbrev pub decreases-loop-done : goal.decreases-loop-done
decreases-loop-done g l = length l.buf - l.done
