-- The acts of calls that make, end and replace processes.
use Rattle.std.specs.Prelude.{ℕ, ◌==◌, ◌||◌, ◌++◌, not, List, [], ◌∷◌, if◌then◌else◌}
use Rattle.std.specs.List.{flat_map}
use Rattle.flow_base.specs.declared.types.How.TheVariants as how
use Rattle.audit_record.specs.declared.types.Record.{Record}
use Rattle.audit_record.specs.declared.types.Syscall.{Syscall}
use Rattle.audit_record.specs.declared.types.PathItem.{PathItem}
use Rattle.audit_record.specs.declared.types.NameKind.TheVariants as named
use Rattle.acts.specs.declared.act.Act.{Act}
use Rattle.acts.specs.declared.act.Act.TheVariants.{Fork, End, Exec}
use Rattle.acts.specs.declared.act.Thing.TheVariants as thing
use Rattle.call_acts.specs.Answers.{is_ok, answered, has, when, for_number}
use Rattle.call_acts.specs.Records.{paths, file_of}
use Rattle.call_acts.specs.Transfers.{inward}

-- the flag of a clone that makes a thread of the same process
abbrev pub THREAD : ℕ
THREAD = 65536

-- the program that is run comes from a file
abbrev pub runs_file : ℕ → List Record → Syscall → PathItem → List Act
runs_file limit records call item = inward call how.Exec (thing.File (file_of limit records item)) ∷ []

-- an exec that is ok takes its program from each path of kind Normal that names a file, in order, and then runs it
abbrev pub execs : ℕ → List Record → Syscall → List Act
execs limit records call = when (is_ok call) (flat_map (runs_file limit records call) (paths named.Normal records) ++ Exec call.pid ∷ [])

-- the child that was answered, if it is one: neither 0 nor the caller itself
abbrev pub makes_child : Syscall → ℕ → List Act
makes_child call child = if child == 0 || child == call.pid then [] else Fork call.pid child ∷ []

-- a fork that is ok makes the child that it answered
abbrev pub forks : Syscall → List Act
forks call = for_number (answered call) (makes_child call)

-- a clone is a fork, unless it makes a thread
abbrev pub clones : Syscall → ℕ → List Act
clones call flags = when (not (has flags THREAD)) (forks call)

-- the caller ends, whatever the record says of success
abbrev pub exits : Syscall → List Act
exits call = End call.pid ∷ []
