-- How many acts a call of each kind has.
use Rattle.std.proofs.Common.{ℕ, ◌+◌, ◌*◌, ◌≤◌, ◌&&◌, not, Bool, true, false, List, [], ◌∷◌, ◌++◌, length, Option, None, Some, if◌then◌else◌, arith, length-append}
use Rattle.std.specs.Prelude.{◌==◌, ◌||◌}
use Rattle.std.specs.List.{flat_map}
use Rattle.audit_record.specs.declared.types.Record.{Record}
use Rattle.audit_record.specs.declared.types.Body.{Body}
use Rattle.audit_record.specs.declared.types.Body.TheVariants as body
use Rattle.audit_record.specs.declared.types.Syscall.{Syscall}
use Rattle.audit_record.specs.declared.types.PathItem.{PathItem}
use Rattle.audit_record.specs.declared.types.NameKind.{NameKind}
use Rattle.audit_record.specs.declared.types.NameKind.TheVariants as named
use Rattle.acts.specs.declared.act.FileRef.{FileRef}
use Rattle.acts.specs.declared.act.Act.{Act}
use Rattle.acts.specs.declared.act.Act.TheVariants as TheAct
use Rattle.call_acts.specs.declared.calls.Call.{Call}
use Rattle.call_acts.specs.declared.calls.Call.TheVariants as kind
use Rattle.call_acts.specs.declared.calls.Row.{Row}
use Rattle.call_acts.specs.Answers.{is_ok, moved, answered, goes_on, fd, has, when, for_number}
use Rattle.call_acts.specs.Calls.{TRUNCATE, flags_of}
use Rattle.call_acts.specs.Records.{paths, path_in, same_kind, names_file, target, file_of, address, mapped, pair, call}
use Rattle.flow_base.specs.declared.types.How.TheVariants as how
use Rattle.acts.specs.declared.act.Thing.TheVariants as thing
use Rattle.call_acts.specs.Transfers.{maps_fd, inward, outward, passes, peer}
use Rattle.call_acts.specs.Descriptors.{opens_file, opens_target, copies_to_other, copies_to, controls, pairs_up, gets_address, sets_file, sets_socket, sets_accepted, CLOEXEC}
use Rattle.call_acts.specs.Processes.{runs_file, makes_child, forks, THREAD}
use Rattle.call_acts.specs.Files.{alters_file, alters_target, alters_target_or_fd, bears}
use Rattle.call_acts.specs.Acts.{kind_acts, acts_by, acts_from, event_acts, row_of}

-- at most so many
abbrev Few : {A : Type 0} → ℕ → List A → Type 0
Few most items = length items ≤ most

few_when : {A : Type 0} (b : Bool) (items : List A) (most : ℕ) → Few most items → Few most (when b items)
few_when true items most few = few
few_when false items most few = omega arith

few_for : {A : Type 0} (o : Option ℕ) (gives : ℕ → List A) (most : ℕ) → ((n : ℕ) → Few most (gives n)) → Few most (for_number o gives)
few_for None gives most few = omega arith
few_for (Some n) gives most few = few n

few_if : {A : Type 0} (b : Bool) (xs ys : List A) (most : ℕ) → Few most xs → Few most ys → Few most (if b then xs else ys)
few_if true xs ys most few others = few
few_if false xs ys most few others = others

few_flat : {A B : Type 0} (gives : A → List B) (items : List A) (most : ℕ) → ((item : A) → Few most (gives item)) → length (flat_map gives items) ≤ most * length items
few_flat gives [] most few = omega arith
few_flat gives (item ∷ items) most few =
    omega (arith, few item, few_flat gives items most few, length-append (gives item) (flat_map gives items))

few_paths : (kind : NameKind) (records : List Record) → length (paths kind records) ≤ length records
few_paths kind records =
    let all = few_flat (λ (r : Record). path_in kind r.body) records 1 (λ r. few_in kind r.body) in omega (arith, all)
  where
    few_in : (kind : NameKind) (one : Body) → Few 1 (path_in kind one)
    few_in kind (body.Path item) = few_if (same_kind item.kind kind && names_file item) (item ∷ []) [] 1 (omega arith) (omega arith)
    few_in kind (body.Syscall one) = omega arith
    few_in kind (body.Cwd text) = omega arith
    few_in kind (body.Sockaddr bytes) = omega arith
    few_in kind (body.FdPair first second) = omega arith
    few_in kind (body.Mmap n) = omega arith
    few_in kind body.Proctitle = omega arith
    few_in kind body.Eoe = omega arith

few_opened : (caller : Syscall) (flags n : ℕ) (created : Bool) (file : FileRef) → Few 3 (opens_file caller flags n created file)
few_opened caller flags n true file = omega arith
few_opened caller flags n false file = short (has flags TRUNCATE) _ (sets_file caller flags n file)
  where
    short : (b : Bool) (a z : Act) → Few 3 (when b (a ∷ []) ++ z ∷ [])
    short true a z = omega arith
    short false a z = omega arith

few_target : (limit : ℕ) (records : List Record) (caller : Syscall) (flags : ℕ) (item : Option PathItem) (n : ℕ) → Few 3 (opens_target limit records caller flags item n)
few_target limit records caller flags None n = omega arith
few_target limit records caller flags (Some item) n = few_opened caller flags n (same_kind item.kind named.Create) (file_of limit records item)

few_controls : (caller : Syscall) → Few 3 (controls caller)
few_controls caller =
    few_if (fd caller.a1 == 0) _ _ 3 (few_for (answered caller) (copies_to caller false) 3 (λ n. omega arith))
    (few_if (fd caller.a1 == 1030) _ _ 3 (few_for (answered caller) (copies_to caller true) 3 (λ n. omega arith))
    (few_if (fd caller.a1 == 2) _ _ 3 (few_when (is_ok caller) _ 3 (omega arith)) (omega arith)))

few_pair : (caller : Syscall) (flags : ℕ) (both : Option (ℕ × ℕ)) → Few 3 (pairs_up caller flags both)
few_pair caller flags None = omega arith
few_pair caller flags (Some both) = omega arith

few_address : (caller : Syscall) (bytes : Option (List ℕ)) → Few 3 (gets_address caller bytes)
few_address caller None = omega arith
few_address caller (Some bytes) = omega arith

few_child : (caller : Syscall) (n : ℕ) → Few 3 (makes_child caller n)
few_child caller n = few_if (n == 0 || n == caller.pid) _ _ 3 (omega arith) (omega arith)

few_mapped : (caller : Syscall) (flags n : ℕ) → Few 3 (maps_fd caller flags n)
few_mapped caller flags n = short (has flags 1 && has caller.a2 2) (inward caller how.Read (thing.Fd n)) (outward caller how.Write (thing.Fd n))
  where
    short : (b : Bool) (a z : Act) → Few 3 (a ∷ when b (z ∷ []))
    short true a z = omega arith
    short false a z = omega arith

few_altered : (limit : ℕ) (records : List Record) (caller : Syscall) (item : Option PathItem) → Few 3 (alters_target limit records caller item)
few_altered limit records caller None = omega arith
few_altered limit records caller (Some item) = omega arith

few_altered_or_fd : (limit : ℕ) (records : List Record) (caller : Syscall) (item : Option PathItem) → Few 3 (alters_target_or_fd limit records caller item)
few_altered_or_fd limit records caller None = omega arith
few_altered_or_fd limit records caller (Some item) = omega arith

-- what each path of a kind gives, one or two acts
few_each : (gives : PathItem → List Act) (kind : NameKind) (records : List Record) → ((item : PathItem) → Few 2 (gives item)) → length (flat_map gives (paths kind records)) ≤ 2 * length records
few_each gives kind records few = omega (arith, few_flat gives (paths kind records) 2 few, few_paths kind records)

few_passed : (caller : Syscall) (from to : ℕ) → Few 3 (passes caller from to)
few_passed caller from to = few_when (moved caller) (inward caller how.Read (thing.Fd from) ∷ outward caller how.Write (thing.Fd to) ∷ []) 3 (omega arith)

few_other : (caller : Syscall) (cloexec : Bool) (n : ℕ) → Few 3 (copies_to_other caller cloexec n)
few_other caller cloexec n = few_if (fd caller.a0 == n) [] (copies_to caller cloexec n) 3 (omega arith) (omega arith)

-- three acts are within the bound of a kind
three : (items : List Act) (records : List Record) → Few 3 items → length items ≤ 3 + 2 * length records
three items records few = omega (arith, few)

kind_few : (limit : ℕ) (records : List Record) (caller : Syscall) (flags : ℕ) (by : Call) → length (kind_acts limit records caller flags by) ≤ 3 + 2 * length records
kind_few limit records caller flags kind.Read = three (kind_acts limit records caller flags kind.Read) records (few_when (moved caller) (inward caller how.Read (thing.Fd (fd caller.a0)) ∷ []) 3 (omega arith))
kind_few limit records caller flags kind.Receive = three (kind_acts limit records caller flags kind.Receive) records (few_when (moved caller) (inward caller how.Read (peer caller (address records)) ∷ []) 3 (omega arith))
kind_few limit records caller flags kind.Write = three (kind_acts limit records caller flags kind.Write) records (few_when (moved caller) (outward caller how.Write (thing.Fd (fd caller.a0)) ∷ []) 3 (omega arith))
kind_few limit records caller flags kind.Send = three (kind_acts limit records caller flags kind.Send) records (few_when (moved caller) (outward caller how.Write (peer caller (address records)) ∷ []) 3 (omega arith))
kind_few limit records caller flags kind.SendFile = three (kind_acts limit records caller flags kind.SendFile) records (few_passed caller (fd caller.a1) (fd caller.a0))
kind_few limit records caller flags kind.Tee = three (kind_acts limit records caller flags kind.Tee) records (few_passed caller (fd caller.a0) (fd caller.a1))
kind_few limit records caller flags kind.Splice = three (kind_acts limit records caller flags kind.Splice) records (few_passed caller (fd caller.a0) (fd caller.a2))
kind_few limit records caller flags kind.Open = three (kind_acts limit records caller flags kind.Open) records (few_for (answered caller) (opens_target limit records caller flags (target records)) 3 (few_target limit records caller flags (target records)))
kind_few limit records caller flags kind.Close = three (kind_acts limit records caller flags kind.Close) records (few_when (is_ok caller) (TheAct.Close caller.pid (fd caller.a0) ∷ []) 3 (omega arith))
kind_few limit records caller flags kind.Dup = three (kind_acts limit records caller flags kind.Dup) records (few_for (answered caller) (copies_to caller false) 3 (λ n. omega arith))
kind_few limit records caller flags kind.Dup2 = three (kind_acts limit records caller flags kind.Dup2) records (few_for (answered caller) (copies_to_other caller false) 3 (few_other caller false))
kind_few limit records caller flags kind.Dup3 = three (kind_acts limit records caller flags kind.Dup3) records (few_for (answered caller) (copies_to_other caller (has flags CLOEXEC)) 3 (few_other caller (has flags CLOEXEC)))
kind_few limit records caller flags kind.Fcntl = three (kind_acts limit records caller flags kind.Fcntl) records (few_controls caller)
kind_few limit records caller flags kind.Pair = three (kind_acts limit records caller flags kind.Pair) records (few_when (is_ok caller) (pairs_up caller flags (pair records)) 3 (few_pair caller flags (pair records)))
kind_few limit records caller flags kind.Socket = three (kind_acts limit records caller flags kind.Socket) records (few_for (answered caller) (sets_socket caller flags) 3 (λ n. omega arith))
kind_few limit records caller flags kind.Bind = three (kind_acts limit records caller flags kind.Bind) records (few_when (is_ok caller) (gets_address caller (address records)) 3 (few_address caller (address records)))
kind_few limit records caller flags kind.Connect = three (kind_acts limit records caller flags kind.Connect) records (few_when (is_ok caller || goes_on caller.exit) (gets_address caller (address records)) 3 (few_address caller (address records)))
kind_few limit records caller flags kind.Accept = three (kind_acts limit records caller flags kind.Accept) records (few_for (answered caller) (sets_accepted records caller flags) 3 (λ n. omega arith))
kind_few limit records caller flags kind.Exec = few_when (is_ok caller) (flat_map (runs_file limit records caller) (paths named.Normal records) ++ TheAct.Exec caller.pid ∷ []) (3 + 2 * length records) (omega (arith, few_each (runs_file limit records caller) named.Normal records (λ item. omega arith), length-append (flat_map (runs_file limit records caller) (paths named.Normal records)) (TheAct.Exec caller.pid ∷ [])))
kind_few limit records caller flags kind.Fork = three (kind_acts limit records caller flags kind.Fork) records (few_for (answered caller) (makes_child caller) 3 (few_child caller))
kind_few limit records caller flags kind.Clone = three (kind_acts limit records caller flags kind.Clone) records (few_when (not (has flags THREAD)) (forks caller) 3 (few_for (answered caller) (makes_child caller) 3 (few_child caller)))
kind_few limit records caller flags kind.Exit = omega arith
kind_few limit records caller flags kind.Map = three (kind_acts limit records caller flags kind.Map) records (few_when (is_ok caller && not (has flags 32)) (for_number (mapped records) (maps_fd caller flags)) 3 (few_for (mapped records) (maps_fd caller flags) 3 (few_mapped caller flags)))
kind_few limit records caller flags kind.AlterPath = three (kind_acts limit records caller flags kind.AlterPath) records (few_when (is_ok caller) (alters_target limit records caller (target records)) 3 (few_altered limit records caller (target records)))
kind_few limit records caller flags kind.AlterFd = three (kind_acts limit records caller flags kind.AlterFd) records (few_when (is_ok caller) (alters_target_or_fd limit records caller (target records)) 3 (few_altered_or_fd limit records caller (target records)))
kind_few limit records caller flags kind.Rename = few_when (is_ok caller) (flat_map (alters_file limit records caller) (paths named.Create records)) (3 + 2 * length records) (omega (arith, few_each (alters_file limit records caller) named.Create records (λ item. omega arith)))
kind_few limit records caller flags kind.Remove = few_when (is_ok caller) (flat_map (alters_file limit records caller) (paths named.Delete records)) (3 + 2 * length records) (omega (arith, few_each (alters_file limit records caller) named.Delete records (λ item. omega arith)))
kind_few limit records caller flags kind.MakePath = few_when (is_ok caller) (flat_map (λ item. bears caller (file_of limit records item)) (paths named.Create records)) (3 + 2 * length records) (omega (arith, few_each (λ item. bears caller (file_of limit records item)) named.Create records (λ item. omega arith)))

by_few : (limit : ℕ) (records : List Record) (caller : Syscall) (by : Option Row) → length (acts_by limit records caller by) ≤ 3 + 2 * length records
by_few limit records caller None = omega arith
by_few limit records caller (Some by) = kind_few limit records caller (flags_of by.flags caller) by.call

from_few : (limit : ℕ) (records : List Record) (caller : Option Syscall) → length (acts_from limit records caller) ≤ 4 + 2 * length records
from_few limit records None = omega arith
from_few limit records (Some caller) = omega (arith, by_few limit records caller (row_of caller))

pub event_few : (limit : ℕ) (records : List Record) → length (event_acts limit records) ≤ 4 + 2 * length records
event_few limit records = from_few limit records (call records)
