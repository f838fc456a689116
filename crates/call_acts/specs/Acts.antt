-- The acts of an event.
use Rattle.std.specs.Prelude.{ℕ, List, [], ◌∷◌, Option, None, Some, Bool, true, false}
use Rattle.std.specs.Option.{option_and_then}
use Rattle.std.specs.List.{flat_map}
use Rattle.record_join.specs.declared.event.Event.{Event}
use Rattle.audit_record.specs.declared.types.Record.{Record}
use Rattle.audit_record.specs.declared.types.Syscall.{Syscall}
use Rattle.acts.specs.declared.act.Act.{Act}
use Rattle.acts.specs.declared.act.Act.TheVariants.{See}
use Rattle.call_acts.specs.declared.calls.Call.{Call}
use Rattle.call_acts.specs.declared.calls.Call.TheVariants as kind
use Rattle.call_acts.specs.declared.calls.Row.{Row}
use Rattle.call_acts.specs.Calls.{call_of, row_at, flags_of}
use Rattle.call_acts.specs.Records.{call}
use Rattle.call_acts.specs.Answers.{fd}
use Rattle.call_acts.specs.Transfers.{reads, receives, writes, sends, passes, maps}
use Rattle.call_acts.specs.Descriptors.{opens_path, closes, dups, dups_to, dups_with_flags, controls, opens_pair, opens_socket, binds, connects, accepts}
use Rattle.call_acts.specs.Processes.{execs, forks, clones, exits}
use Rattle.call_acts.specs.Files.{alters_path, alters_fd, renames, removes, makes}

-- the acts of a call of a kind, with these flags
abbrev pub kind_acts : ℕ → List Record → Syscall → ℕ → Call → List Act
kind_acts limit records call flags kind.Read = reads call
kind_acts limit records call flags kind.Receive = receives records call
kind_acts limit records call flags kind.Write = writes call
kind_acts limit records call flags kind.Send = sends records call
kind_acts limit records call flags kind.SendFile = passes call (fd call.a1) (fd call.a0)
kind_acts limit records call flags kind.Tee = passes call (fd call.a0) (fd call.a1)
kind_acts limit records call flags kind.Splice = passes call (fd call.a0) (fd call.a2)
kind_acts limit records call flags kind.Open = opens_path limit records call flags
kind_acts limit records call flags kind.Close = closes call
kind_acts limit records call flags kind.Dup = dups call
kind_acts limit records call flags kind.Dup2 = dups_to call
kind_acts limit records call flags kind.Dup3 = dups_with_flags call flags
kind_acts limit records call flags kind.Fcntl = controls call
kind_acts limit records call flags kind.Pair = opens_pair records call flags
kind_acts limit records call flags kind.Socket = opens_socket call flags
kind_acts limit records call flags kind.Bind = binds records call
kind_acts limit records call flags kind.Connect = connects records call
kind_acts limit records call flags kind.Accept = accepts records call flags
kind_acts limit records call flags kind.Exec = execs limit records call
kind_acts limit records call flags kind.Fork = forks call
kind_acts limit records call flags kind.Clone = clones call flags
kind_acts limit records call flags kind.Exit = exits call
kind_acts limit records call flags kind.Map = maps records call flags
kind_acts limit records call flags kind.AlterPath = alters_path limit records call
kind_acts limit records call flags kind.AlterFd = alters_fd limit records call
kind_acts limit records call flags kind.Rename = renames limit records call
kind_acts limit records call flags kind.Remove = removes limit records call
kind_acts limit records call flags kind.MakePath = makes limit records call

-- the acts of a call by its row
abbrev pub row_acts : ℕ → List Record → Syscall → Row → List Act
row_acts limit records call row = kind_acts limit records call (flags_of row.flags call) row.call

-- the acts of a call by its row, if it has one
abbrev pub acts_by : ℕ → List Record → Syscall → Option Row → List Act
acts_by limit records call None = []
acts_by limit records call (Some row) = row_acts limit records call row

-- the row of a call
abbrev pub row_of : Syscall → Option Row
row_of call = row_at call.arch call.number

-- a call shows its caller, and does then what its row says
abbrev pub acts_from : ℕ → List Record → Option Syscall → List Act
acts_from limit records None = []
acts_from limit records (Some call) = See call.pid call.ppid call.exe ∷ acts_by limit records call (row_of call)

-- the acts of an event with these records, whose joined paths have at most this many bytes; without a call it has none
abbrev pub event_acts : ℕ → List Record → List Act
event_acts limit records = acts_from limit records (call records)

-- the acts of these events, in order
abbrev pub acts_of_events : ℕ → List Event → List Act
acts_of_events limit events = flat_map (λ e. event_acts limit e.records) events

-- the kind of call of a call, if it has a row
abbrev pub kind_of : Syscall → Option Call
kind_of call = call_of call.arch call.number

-- the kind of call of an event's call
abbrev pub event_call : List Record → Option Call
event_call records = option_and_then kind_of (call records)

-- a call without a row
abbrev pub has_no_row : Option Row → Bool
has_no_row None = true
has_no_row (Some row) = false

-- there is a call, and it has no row
abbrev pub is_without_row : Option Syscall → Bool
is_without_row None = false
is_without_row (Some call) = has_no_row (row_of call)

-- the event has a call that is not in the table
abbrev pub is_unmapped : List Record → Bool
is_unmapped records = is_without_row (call records)
