-- The acts of calls that make, alter and remove files by their paths.
use Rattle.std.specs.Prelude.{ℕ, List, [], ◌∷◌, Option, None, Some}
use Rattle.std.specs.List.{flat_map}
use Rattle.flow_base.specs.declared.types.How.TheVariants as how
use Rattle.audit_record.specs.declared.types.Record.{Record}
use Rattle.audit_record.specs.declared.types.Syscall.{Syscall}
use Rattle.audit_record.specs.declared.types.PathItem.{PathItem}
use Rattle.audit_record.specs.declared.types.NameKind.TheVariants as named
use Rattle.acts.specs.declared.act.FileRef.{FileRef}
use Rattle.acts.specs.declared.act.Act.{Act}
use Rattle.acts.specs.declared.act.Act.TheVariants.{Birth}
use Rattle.acts.specs.declared.act.Thing.TheVariants as thing
use Rattle.call_acts.specs.Answers.{is_ok, fd, when}
use Rattle.call_acts.specs.Records.{paths, target, file_of}
use Rattle.call_acts.specs.Transfers.{outward}

-- the file of a path is altered
abbrev pub alters_file : ℕ → List Record → Syscall → PathItem → List Act
alters_file limit records call item = outward call how.Alter (thing.File (file_of limit records item)) ∷ []

-- the target is altered, if there is one
abbrev pub alters_target : ℕ → List Record → Syscall → Option PathItem → List Act
alters_target limit records call None = []
alters_target limit records call (Some item) = alters_file limit records call item

-- a call by path that is ok alters its target
abbrev pub alters_path : ℕ → List Record → Syscall → List Act
alters_path limit records call = when (is_ok call) (alters_target limit records call (target records))

-- the target is altered, or else what is at the descriptor of the first argument
abbrev pub alters_target_or_fd : ℕ → List Record → Syscall → Option PathItem → List Act
alters_target_or_fd limit records call None = outward call how.Alter (thing.Fd (fd call.a0)) ∷ []
alters_target_or_fd limit records call (Some item) = alters_file limit records call item

-- a call by descriptor that is ok alters its target, or else what is at the descriptor
abbrev pub alters_fd : ℕ → List Record → Syscall → List Act
alters_fd limit records call = when (is_ok call) (alters_target_or_fd limit records call (target records))

-- a rename or a link that is ok alters each file that it created, in order
abbrev pub renames : ℕ → List Record → Syscall → List Act
renames limit records call = when (is_ok call) (flat_map (alters_file limit records call) (paths named.Create records))

-- a removal that is ok alters each file that it deleted, in order
abbrev pub removes : ℕ → List Record → Syscall → List Act
removes limit records call = when (is_ok call) (flat_map (alters_file limit records call) (paths named.Delete records))

-- a file is born and made
abbrev pub bears : Syscall → FileRef → List Act
bears call file = Birth file ∷ outward call how.Make (thing.File file) ∷ []

-- a call that is ok bears and makes each file that it created, in order
abbrev pub makes : ℕ → List Record → Syscall → List Act
makes limit records call = when (is_ok call) (flat_map (λ item. bears call (file_of limit records item)) (paths named.Create records))
