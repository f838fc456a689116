-- The acts of a kind of call: births and moves, and last any act of the caller.
use Rattle.std.proofs.Common.{refl, subst, ℕ, Bool, true, false, not, List, [], ◌∷◌, ◌++◌, Option, None, Some, if◌then◌else◌, ◌&&◌}
use Rattle.std.specs.Prelude.{◌==◌, ◌||◌, All, ⊤}
use Rattle.std.proofs.lemmas.List.Elements.{All-nil, All-cons}
use Rattle.std.specs.List.{flat_map}
use Rattle.flow_base.specs.declared.types.How.{How}
use Rattle.flow_base.specs.declared.types.How.TheVariants as how
use Rattle.audit_record.specs.declared.types.Record.{Record}
use Rattle.audit_record.specs.declared.types.Syscall.{Syscall}
use Rattle.audit_record.specs.declared.types.PathItem.{PathItem}
use Rattle.audit_record.specs.declared.types.NameKind.TheVariants as named
use Rattle.acts.specs.declared.act.FileRef.{FileRef}
use Rattle.acts.specs.declared.act.Act.{Act}
use Rattle.acts.specs.declared.act.Act.TheVariants as TheAct
use Rattle.acts.specs.declared.act.Thing.{Thing}
use Rattle.acts.specs.declared.act.Thing.TheVariants as thing
use Rattle.call_acts.specs.declared.calls.Call.{Call}
use Rattle.call_acts.specs.declared.calls.Call.TheVariants as kind
use Rattle.call_acts.specs.declared.calls.Row.{Row}
use Rattle.call_acts.specs.Answers.{is_ok, moved, answered, goes_on, fd, has, when, for_number}
use Rattle.call_acts.specs.Calls.{TRUNCATE, flags_of}
use Rattle.call_acts.specs.Records.{call, paths, target, file_of, address, mapped, pair, same_kind}
use Rattle.call_acts.specs.Transfers.{inward, outward, peer, passes, maps_fd}
use Rattle.call_acts.specs.Descriptors.{sets_file, opens_file, opens_target, copies_to, copies_to_other, controls, pairs_up, gets_address, sets_socket, sets_accepted}
use Rattle.call_acts.specs.Processes.{THREAD, runs_file, makes_child, forks}
use Rattle.call_acts.specs.Files.{alters_file, alters_target, alters_target_or_fd, bears}
use Rattle.call_acts.specs.Acts.{kind_acts, acts_by, acts_from, event_acts, row_of}
use Rattle.call_acts.specs.Events.{IsOf, IsCalmOf, AreRest, IsEvent}
use Rattle.call_acts.proofs.RowActs.{Each, when_all, one, two, flat_all}

-- all are of this process, and all but the last are births and moves
abbrev pub IsRest : ℕ → List Act → Type 0
IsRest pid [] = ⊤
IsRest pid (act ∷ []) = IsOf pid act
IsRest pid (act ∷ next ∷ rest) = IsCalmOf pid act × IsRest pid (next ∷ rest)

parted : (pid : ℕ) (front : List Act) (last : Act) → IsRest pid (front ++ last ∷ []) → All (IsCalmOf pid) front × IsOf pid last
parted pid [] last is = (All-nil (IsCalmOf pid), is)
parted pid (act ∷ []) last is = (All-cons (IsCalmOf pid) act [] is.0 (All-nil (IsCalmOf pid)), is.1)
parted pid (act ∷ next ∷ more) last is =
    let after = parted pid (next ∷ more) last is.1 in (All-cons (IsCalmOf pid) act (next ∷ more) is.0 after.0, after.1)

are_rest : (pid : ℕ) (rest : List Act) → IsRest pid rest → AreRest pid rest
are_rest pid rest is front last same = parted pid front last (subst (IsRest pid) same is)

-- ---- parts of kinds

rest_when : (pid : ℕ) (b : Bool) (acts : List Act) → IsRest pid acts → IsRest pid (when b acts)
rest_when pid true acts is = is
rest_when pid false acts is = tt

rest_for : (pid : ℕ) (o : Option ℕ) (gives : ℕ → List Act) → ((n : ℕ) → IsRest pid (gives n)) → IsRest pid (for_number o gives)
rest_for pid None gives is = tt
rest_for pid (Some n) gives is = is n

rest_if : (pid : ℕ) (b : Bool) (xs ys : List Act) → IsRest pid xs → IsRest pid ys → IsRest pid (if b then xs else ys)
rest_if pid true xs ys is other = is
rest_if pid false xs ys is other = other

calm_move : (caller : Syscall) (inward : Bool) (way : How) (what : Thing) → IsCalmOf caller.pid (TheAct.Move caller.pid inward way what)
calm_move caller inward way what = record { of = refl; calm = tt }

calm_birth : (caller : Syscall) (file : FileRef) → IsCalmOf caller.pid (TheAct.Birth file)
calm_birth caller file = record { of = tt; calm = tt }

calm_then : (pid : ℕ) (front : List Act) (last : Act) → Each (IsCalmOf pid) front → IsOf pid last → IsRest pid (front ++ last ∷ [])
calm_then pid [] last calm of = of
calm_then pid (act ∷ []) last calm of = (calm.0, of)
calm_then pid (act ∷ next ∷ more) last calm of = (calm.0, calm_then pid (next ∷ more) last calm.1 of)

all_calm : (pid : ℕ) (acts : List Act) → Each (IsCalmOf pid) acts → IsRest pid acts
all_calm pid [] calm = tt
all_calm pid (act ∷ []) calm = calm.0.of
all_calm pid (act ∷ next ∷ more) calm = (calm.0, all_calm pid (next ∷ more) calm.1)

passes_rest : (caller : Syscall) (from to : ℕ) → IsRest caller.pid (passes caller from to)
passes_rest caller from to = rest_when caller.pid (moved caller) (inward caller how.Read (thing.Fd from) ∷ outward caller how.Write (thing.Fd to) ∷ []) (calm_move caller true how.Read (thing.Fd from), refl)

opens_file_rest : (caller : Syscall) (flags n : ℕ) (created : Bool) (file : FileRef) → IsRest caller.pid (opens_file caller flags n created file)
opens_file_rest caller flags n true file = (calm_birth caller file, (calm_move caller false how.Make (thing.File file), refl))
opens_file_rest caller flags n false file =
    calm_then caller.pid (when (has flags TRUNCATE) (outward caller how.Alter (thing.File file) ∷ [])) (sets_file caller flags n file)
    (when_all (IsCalmOf caller.pid) (has flags TRUNCATE) (outward caller how.Alter (thing.File file) ∷ []) (one (IsCalmOf caller.pid) (calm_move caller false how.Alter (thing.File file)))) refl

opens_rest : (limit : ℕ) (records : List Record) (caller : Syscall) (flags : ℕ) (item : Option PathItem) (n : ℕ) → IsRest caller.pid (opens_target limit records caller flags item n)
opens_rest limit records caller flags None n = refl
opens_rest limit records caller flags (Some item) n = opens_file_rest caller flags n (same_kind item.kind named.Create) (file_of limit records item)

copies_rest : (caller : Syscall) (cloexec : Bool) (n : ℕ) → IsRest caller.pid (copies_to_other caller cloexec n)
copies_rest caller cloexec n = rest_if caller.pid (fd caller.a0 == n) [] (copies_to caller cloexec n) tt refl

controls_rest : (caller : Syscall) → IsRest caller.pid (controls caller)
controls_rest caller =
    rest_if caller.pid (fd caller.a1 == 0) _ _ (rest_for caller.pid (answered caller) (copies_to caller false) (λ n. refl))
    (rest_if caller.pid (fd caller.a1 == 1030) _ _ (rest_for caller.pid (answered caller) (copies_to caller true) (λ n. refl))
    (rest_if caller.pid (fd caller.a1 == 2) _ _ (rest_when caller.pid (is_ok caller) (TheAct.Mark caller.pid (fd caller.a0) (has caller.a2 1) ∷ []) refl) tt))

pair_rest : (caller : Syscall) (flags : ℕ) (both : Option (ℕ × ℕ)) → IsRest caller.pid (pairs_up caller flags both)
pair_rest caller flags None = tt
pair_rest caller flags (Some both) = refl

address_rest : (caller : Syscall) (bytes : Option (List ℕ)) → IsRest caller.pid (gets_address caller bytes)
address_rest caller None = tt
address_rest caller (Some bytes) = refl

child_rest : (caller : Syscall) (n : ℕ) → IsRest caller.pid (makes_child caller n)
child_rest caller n = rest_if caller.pid (n == 0 || n == caller.pid) [] (TheAct.Fork caller.pid n ∷ []) tt refl

mapped_rest : (caller : Syscall) (flags n : ℕ) → IsRest caller.pid (maps_fd caller flags n)
mapped_rest caller flags n =
    all_calm caller.pid (maps_fd caller flags n) (
      calm_move caller true how.Read (thing.Fd n),
      when_all (IsCalmOf caller.pid) (has flags 1 && has caller.a2 2) (outward caller how.Write (thing.Fd n) ∷ []) (one (IsCalmOf caller.pid) (calm_move caller false how.Write (thing.Fd n))),
    )

target_rest : (limit : ℕ) (records : List Record) (caller : Syscall) (item : Option PathItem) → IsRest caller.pid (alters_target limit records caller item)
target_rest limit records caller None = tt
target_rest limit records caller (Some item) = refl

target_or_fd_rest : (limit : ℕ) (records : List Record) (caller : Syscall) (item : Option PathItem) → IsRest caller.pid (alters_target_or_fd limit records caller item)
target_or_fd_rest limit records caller None = refl
target_or_fd_rest limit records caller (Some item) = refl

each_altered : (limit : ℕ) (records : List Record) (caller : Syscall) (items : List PathItem) → IsRest caller.pid (flat_map (alters_file limit records caller) items)
each_altered limit records caller items =
    all_calm caller.pid (flat_map (alters_file limit records caller) items) (flat_all (IsCalmOf caller.pid) (alters_file limit records caller) items
    (λ item. one (IsCalmOf caller.pid) (calm_move caller false how.Alter (thing.File (file_of limit records item)))))

each_made : (limit : ℕ) (records : List Record) (caller : Syscall) (items : List PathItem) → IsRest caller.pid (flat_map (λ item. bears caller (file_of limit records item)) items)
each_made limit records caller items =
    all_calm caller.pid (flat_map (λ item. bears caller (file_of limit records item)) items) (flat_all (IsCalmOf caller.pid) (λ item. bears caller (file_of limit records item)) items
    (λ item. two (IsCalmOf caller.pid) (calm_birth caller (file_of limit records item)) (calm_move caller false how.Make (thing.File (file_of limit records item)))))

exec_rest : (limit : ℕ) (records : List Record) (caller : Syscall) (items : List PathItem) → IsRest caller.pid (flat_map (runs_file limit records caller) items ++ TheAct.Exec caller.pid ∷ [])
exec_rest limit records caller items =
    calm_then caller.pid (flat_map (runs_file limit records caller) items) (TheAct.Exec caller.pid) (flat_all (IsCalmOf caller.pid) (runs_file limit records caller) items
    (λ item. one (IsCalmOf caller.pid) (calm_move caller true how.Exec (thing.File (file_of limit records item))))) refl

-- ---- all kinds

kind_rest : (limit : ℕ) (records : List Record) (caller : Syscall) (flags : ℕ) (by : Call) → IsRest caller.pid (kind_acts limit records caller flags by)
kind_rest limit records caller flags kind.Read = rest_when caller.pid (moved caller) (inward caller how.Read (thing.Fd (fd caller.a0)) ∷ []) refl
kind_rest limit records caller flags kind.Receive = rest_when caller.pid (moved caller) (inward caller how.Read (peer caller (address records)) ∷ []) refl
kind_rest limit records caller flags kind.Write = rest_when caller.pid (moved caller) (outward caller how.Write (thing.Fd (fd caller.a0)) ∷ []) refl
kind_rest limit records caller flags kind.Send = rest_when caller.pid (moved caller) (outward caller how.Write (peer caller (address records)) ∷ []) refl
kind_rest limit records caller flags kind.SendFile = passes_rest caller (fd caller.a1) (fd caller.a0)
kind_rest limit records caller flags kind.Tee = passes_rest caller (fd caller.a0) (fd caller.a1)
kind_rest limit records caller flags kind.Splice = passes_rest caller (fd caller.a0) (fd caller.a2)
kind_rest limit records caller flags kind.Open = rest_for caller.pid (answered caller) (opens_target limit records caller flags (target records)) (opens_rest limit records caller flags (target records))
kind_rest limit records caller flags kind.Close = rest_when caller.pid (is_ok caller) (TheAct.Close caller.pid (fd caller.a0) ∷ []) refl
kind_rest limit records caller flags kind.Dup = rest_for caller.pid (answered caller) (copies_to caller false) (λ n. refl)
kind_rest limit records caller flags kind.Dup2 = rest_for caller.pid (answered caller) (copies_to_other caller false) (copies_rest caller false)
kind_rest limit records caller flags kind.Dup3 = rest_for caller.pid (answered caller) _ (copies_rest caller _)
kind_rest limit records caller flags kind.Fcntl = controls_rest caller
kind_rest limit records caller flags kind.Pair = rest_when caller.pid (is_ok caller) (pairs_up caller flags (pair records)) (pair_rest caller flags (pair records))
kind_rest limit records caller flags kind.Socket = rest_for caller.pid (answered caller) (sets_socket caller flags) (λ n. refl)
kind_rest limit records caller flags kind.Bind = rest_when caller.pid (is_ok caller) (gets_address caller (address records)) (address_rest caller (address records))
kind_rest limit records caller flags kind.Connect = rest_when caller.pid (is_ok caller || goes_on caller.exit) (gets_address caller (address records)) (address_rest caller (address records))
kind_rest limit records caller flags kind.Accept = rest_for caller.pid (answered caller) (sets_accepted records caller flags) (λ n. refl)
kind_rest limit records caller flags kind.Exec = rest_when caller.pid (is_ok caller) (flat_map (runs_file limit records caller) (paths named.Normal records) ++ TheAct.Exec caller.pid ∷ []) (exec_rest limit records caller (paths named.Normal records))
kind_rest limit records caller flags kind.Fork = rest_for caller.pid (answered caller) (makes_child caller) (child_rest caller)
kind_rest limit records caller flags kind.Clone = rest_when caller.pid (not (has flags THREAD)) (forks caller) (rest_for caller.pid (answered caller) (makes_child caller) (child_rest caller))
kind_rest limit records caller flags kind.Exit = refl
kind_rest limit records caller flags kind.Map = rest_when caller.pid (is_ok caller && not (has flags 32)) (for_number (mapped records) (maps_fd caller flags)) (rest_for caller.pid (mapped records) (maps_fd caller flags) (mapped_rest caller flags))
kind_rest limit records caller flags kind.AlterPath = rest_when caller.pid (is_ok caller) (alters_target limit records caller (target records)) (target_rest limit records caller (target records))
kind_rest limit records caller flags kind.AlterFd = rest_when caller.pid (is_ok caller) (alters_target_or_fd limit records caller (target records)) (target_or_fd_rest limit records caller (target records))
kind_rest limit records caller flags kind.Rename = rest_when caller.pid (is_ok caller) (flat_map (alters_file limit records caller) (paths named.Create records)) (each_altered limit records caller (paths named.Create records))
kind_rest limit records caller flags kind.Remove = rest_when caller.pid (is_ok caller) (flat_map (alters_file limit records caller) (paths named.Delete records)) (each_altered limit records caller (paths named.Delete records))
kind_rest limit records caller flags kind.MakePath = rest_when caller.pid (is_ok caller) (flat_map (λ item. bears caller (file_of limit records item)) (paths named.Create records)) (each_made limit records caller (paths named.Create records))

by_rest : (limit : ℕ) (records : List Record) (caller : Syscall) (by : Option Row) → IsRest caller.pid (acts_by limit records caller by)
by_rest limit records caller None = tt
by_rest limit records caller (Some by) = kind_rest limit records caller (flags_of by.flags caller) by.call

from_event : (limit : ℕ) (records : List Record) (caller : Option Syscall) → IsEvent (acts_from limit records caller)
from_event limit records None = tt
from_event limit records (Some caller) = are_rest caller.pid (acts_by limit records caller (row_of caller)) (by_rest limit records caller (row_of caller))

pub one_event : (limit : ℕ) (records : List Record) → IsEvent (event_acts limit records)
one_event limit records = from_event limit records (call records)
