-- What a log knows of its disk, and which payloads it refuses.
use Rattle.std.specs.Prelude.{ℕ, Bool, true, false, ⊤, List, Option, None, Some, Result, Ok, Err, unwrap_or, ◌+◌, if◌then◌else◌, nat_lt}
use Rattle.flow_base.specs.declared.limits.Full.{Full}
use Rattle.flow_base.specs.declared.limits.Limits.{Limits}
use Rattle.flow_base.specs.declared.limits.Limit.TheVariants.{Payload, Store}
use Rattle.batch_log.specs.declared.log.CommitFault.{CommitFault}
use Rattle.batch_log.specs.declared.log.CommitFault.TheVariants as fault
use Rattle.batch_log.specs.Batches.{HasBatches, EachHasBatches}

-- the longest payload, the end of the disk, the last gate (none while the disk is empty), and whether no commit failed
pub record Log : Type 0 where
  pub most : ℕ
  pub end : ℕ
  pub last : Option ℕ
  pub usable : Bool

-- the log of a disk with this last gate, of which no commit has failed
abbrev pub log_of : Limits → Option ℕ → Log
log_of limits last = record { most = limits.payload; end = limits.store; last = last; usable = true }

-- the place of the next batch's gate
abbrev pub next_gate : Log → ℕ
next_gate log = unwrap_or log.last 0

-- The limit that a batch with a payload of n bytes would pass, if any: the payload's first, and else that of the disk,
-- on which the gate, the length, the payload and the next gate have to stand.
abbrev pub passed : Log → ℕ → Option Full
passed log n =
    if nat_lt log.most n then Some (record { limit = Payload; number = log.most })
    else if nat_lt log.end (next_gate log + 10 + n) then Some (record { limit = Store; number = log.end })
    else None

-- The log after a commit that ended so, if this many bytes stand after the gate of its batch: it has the next gate, or can't
-- be used any more, or it is as before.
abbrev pub log_after : Log → ℕ → Result ⊤ CommitFault → Log
log_after log size (Ok done) = record log { last = Some (next_gate log + size) }
log_after log size (Err fault.StoreFault) = record log { usable = false }
log_after log size (Err (fault.Full full)) = log
log_after log size (Err fault.NoMemory) = log

-- the commit was refused before it called the disk
abbrev pub IsRefused : Result ⊤ CommitFault → Type 0
IsRefused (Ok done) = ⊥
IsRefused (Err fault.StoreFault) = ⊥
IsRefused (Err (fault.Full full)) = ⊤
IsRefused (Err fault.NoMemory) = ⊤

-- the bytes are the batches of these payloads, and the log has their last gate
abbrev pub LogHas : Log → List (List ℕ) → List ℕ → Type 0
LogHas log payloads bytes = HasBatches log.most payloads log.last bytes

-- so is whatever a crash may leave
abbrev pub EachHas : Log → List (List ℕ) → (List ℕ → Type 0) → Type 0
EachHas log payloads image = EachHasBatches log.most payloads log.last image
