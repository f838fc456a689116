-- What holds of each act of a caller holds of all acts of a kind of call.
use Rattle.std.proofs.Common.{◌≡◌, refl, ℕ, ◌&&◌, ◌||◌, not, Bool, true, false, List, [], ◌∷◌, ◌++◌, Option, None, Some, if◌then◌else◌, inl, inr, ◌⊎◌}
use Rattle.std.specs.Prelude.{◌==◌, All, ⊤}
use Rattle.std.specs.List.{flat_map}
use Rattle.std.proofs.lemmas.List.Elements.{All-nil, All-cons}
use Rattle.flow_base.specs.declared.types.How.{How}
use Rattle.flow_base.specs.declared.types.How.TheVariants as how
use Rattle.audit_record.specs.declared.types.Record.{Record}
use Rattle.audit_record.specs.declared.types.Syscall.{Syscall}
use Rattle.audit_record.specs.declared.types.PathItem.{PathItem}
use Rattle.audit_record.specs.declared.types.NameKind.TheVariants as named
use Rattle.acts.specs.declared.act.FileRef.{FileRef}
use Rattle.acts.specs.declared.act.Act.{Act}
use Rattle.acts.specs.declared.act.Act.TheVariants as TheAct
use Rattle.acts.specs.declared.act.Thing.{Thing}
use Rattle.acts.specs.declared.act.Thing.TheVariants as thing
use Rattle.acts.specs.declared.act.Opens.{Opens}
use Rattle.acts.specs.declared.act.Opens.TheVariants as opens
use Rattle.call_acts.specs.declared.calls.Call.{Call}
use Rattle.call_acts.specs.declared.calls.Call.TheVariants as kind
use Rattle.call_acts.specs.Answers.{is_ok, moved, answered, goes_on, fd, has, when, for_number}
use Rattle.call_acts.specs.Calls.{TRUNCATE}
use Rattle.call_acts.specs.Records.{paths, target, file_of, address, mapped, pair, same_kind}
use Rattle.call_acts.specs.Transfers.{inward, outward, peer, passes, maps_fd}
use Rattle.call_acts.specs.Descriptors.{CLOEXEC, sets_file, opens_file, opens_target, copies_to_other, controls, pairs_up, gets_address}
use Rattle.call_acts.specs.Processes.{THREAD, runs_file, makes_child, forks}
use Rattle.call_acts.specs.Files.{alters_file, alters_target, alters_target_or_fd, bears}
use Rattle.call_acts.specs.Acts.{kind_acts}
use Rattle.call_acts.specs.Laws.{opens_descriptors}

-- the kind ends its caller
abbrev pub ends_caller : Call → Bool
ends_caller kind.Exit = true
ends_caller other = false

-- the property holds of each act that a caller can do by a call of this kind
pub record HoldsOfCaller (call : Syscall) (by : Call) (P : Act → Type 0) : Type 0 where
  pub moves : (inward : Bool) (way : How) (what : Thing) → P (TheAct.Move call.pid inward way what)
  pub births : (file : FileRef) → P (TheAct.Birth file)
  pub closes : (n : ℕ) → P (TheAct.Close call.pid n)
  pub marks : (n : ℕ) (cloexec : Bool) → P (TheAct.Mark call.pid n cloexec)
  pub forks : (child : ℕ) → P (TheAct.Fork call.pid child)
  pub execs : P (TheAct.Exec call.pid)
  pub ends : ends_caller by ≡ true → P (TheAct.End call.pid)
  pub sets : opens_descriptors by ≡ true → (n : ℕ) (what : Opens) (cloexec : Bool) → P (TheAct.Set call.pid n what cloexec)
  pub both : opens_descriptors by ≡ true → (first second : ℕ) (cloexec : Bool) → P (TheAct.SetBoth call.pid first second cloexec)
  pub copies : opens_descriptors by ≡ true → (from to : ℕ) (cloexec : Bool) → P (TheAct.Copy call.pid from to cloexec)
  pub addresses : opens_descriptors by ≡ true → (n : ℕ) (bytes : List ℕ) → P (TheAct.Address call.pid n bytes)

-- ---- parts of kinds

-- the property holds of each act
abbrev pub Each : (Act → Type 0) → List Act → Type 0
Each P [] = ⊤
Each P (act ∷ acts) = P act × Each P acts

pub all_of_each : (P : Act → Type 0) (acts : List Act) → Each P acts → All P acts
all_of_each P [] each = All-nil P
all_of_each P (act ∷ acts) each = All-cons P act acts each.0 (all_of_each P acts each.1)

each_append : (P : Act → Type 0) (xs ys : List Act) → Each P xs → Each P ys → Each P (xs ++ ys)
each_append P [] ys each others = others
each_append P (x ∷ xs) ys each others = (each.0, each_append P xs ys each.1 others)

pub when_all : (P : Act → Type 0) (b : Bool) (acts : List Act) → Each P acts → Each P (when b acts)
when_all P true acts all = all
when_all P false acts all = tt

pub one : (P : Act → Type 0) {act : Act} → P act → Each P (act ∷ [])
one P it = (it, tt)

pub two : (P : Act → Type 0) {act next : Act} → P act → P next → Each P (act ∷ next ∷ [])
two P it other = (it, (other, tt))

for_all : (P : Act → Type 0) (o : Option ℕ) (gives : ℕ → List Act) → ((n : ℕ) → Each P (gives n)) → Each P (for_number o gives)
for_all P None gives all = tt
for_all P (Some n) gives all = all n

pub flat_all : (P : Act → Type 0) (gives : PathItem → List Act) (items : List PathItem) → ((item : PathItem) → Each P (gives item)) → Each P (flat_map gives items)
flat_all P gives [] all = tt
flat_all P gives (item ∷ items) all = each_append P (gives item) (flat_map gives items) (all item) (flat_all P gives items all)

if_all : (P : Act → Type 0) (b : Bool) (xs ys : List Act) → Each P xs → Each P ys → Each P (if b then xs else ys)
if_all P true xs ys all others = all
if_all P false xs ys all others = others

passes_all : {call : Syscall} {by : Call} {P : Act → Type 0} → HoldsOfCaller call by P → (from to : ℕ) → Each P (passes call from to)
passes_all {call} {by} {P} h from to = when_all P (moved call) (inward call how.Read (thing.Fd from) ∷ outward call how.Write (thing.Fd to) ∷ []) (two P (h.moves true how.Read (thing.Fd from)) (h.moves false how.Write (thing.Fd to)))

opens_file_all : {call : Syscall} {by : Call} {P : Act → Type 0} → HoldsOfCaller call by P → opens_descriptors by ≡ true → (flags n : ℕ) (created : Bool) (file : FileRef) → Each P (opens_file call flags n created file)
opens_file_all {call} {by} {P} h opening flags n true file = (h.births file, two P (h.moves false how.Make (thing.File file)) (h.sets opening n (opens.File file) (has flags CLOEXEC)))
opens_file_all {call} {by} {P} h opening flags n false file =
    each_append P (when (has flags TRUNCATE) (outward call how.Alter (thing.File file) ∷ [])) (sets_file call flags n file ∷ [])
    (when_all P (has flags TRUNCATE) (outward call how.Alter (thing.File file) ∷ []) (one P (h.moves false how.Alter (thing.File file)))) (one P (h.sets opening n (opens.File file) (has flags CLOEXEC)))

opens_all : {call : Syscall} {by : Call} {P : Act → Type 0} → HoldsOfCaller call by P → opens_descriptors by ≡ true → (limit : ℕ) (records : List Record) (flags : ℕ) (item : Option PathItem) (n : ℕ) → Each P (opens_target limit records call flags item n)
opens_all h opening limit records flags None n = (h.closes n, tt)
opens_all h opening limit records flags (Some item) n = opens_file_all h opening flags n (same_kind item.kind named.Create) (file_of limit records item)

copies_all : {call : Syscall} {by : Call} {P : Act → Type 0} → HoldsOfCaller call by P → opens_descriptors by ≡ true → (cloexec : Bool) (n : ℕ) → Each P (copies_to_other call cloexec n)
copies_all {call} {by} {P} h opening cloexec n = if_all P (fd call.a0 == n) [] _ tt (one P (h.copies opening (fd call.a0) n cloexec))

controls_all : {call : Syscall} {by : Call} {P : Act → Type 0} → HoldsOfCaller call by P → opens_descriptors by ≡ true → Each P (controls call)
controls_all {call} {by} {P} h opening =
    if_all P (fd call.a1 == 0) _ _ (for_all P (answered call) _ (λ n. one P (h.copies opening (fd call.a0) n false)))
    (if_all P (fd call.a1 == 1030) _ _ (for_all P (answered call) _ (λ n. one P (h.copies opening (fd call.a0) n true)))
    (if_all P (fd call.a1 == 2) _ _ (when_all P (is_ok call) (TheAct.Mark call.pid (fd call.a0) (has call.a2 1) ∷ []) (one P (h.marks (fd call.a0) (has call.a2 1)))) tt))

pair_all : {call : Syscall} {by : Call} {P : Act → Type 0} → HoldsOfCaller call by P → opens_descriptors by ≡ true → (flags : ℕ) (both : Option (ℕ × ℕ)) → Each P (pairs_up call flags both)
pair_all h opening flags None = tt
pair_all {call} h opening flags (Some both) = (h.both opening both.0 both.1 (has flags CLOEXEC), tt)

address_all : {call : Syscall} {by : Call} {P : Act → Type 0} → HoldsOfCaller call by P → opens_descriptors by ≡ true → (bytes : Option (List ℕ)) → Each P (gets_address call bytes)
address_all h opening None = tt
address_all {call} h opening (Some bytes) = (h.addresses opening (fd call.a0) bytes, tt)

child_all : {call : Syscall} {by : Call} {P : Act → Type 0} → HoldsOfCaller call by P → (n : ℕ) → Each P (makes_child call n)
child_all {call} {by} {P} h n = if_all P (n == 0 || n == call.pid) [] _ tt (one P (h.forks n))

mapped_all : {call : Syscall} {by : Call} {P : Act → Type 0} → HoldsOfCaller call by P → (flags n : ℕ) → Each P (maps_fd call flags n)
mapped_all {call} {by} {P} h flags n = (h.moves true how.Read (thing.Fd n), when_all P (has flags 1 && has call.a2 2) (outward call how.Write (thing.Fd n) ∷ []) (one P (h.moves false how.Write (thing.Fd n))))

target_all : {call : Syscall} {by : Call} {P : Act → Type 0} → HoldsOfCaller call by P → (limit : ℕ) (records : List Record) (item : Option PathItem) → Each P (alters_target limit records call item)
target_all h limit records None = tt
target_all h limit records (Some item) = (h.moves false how.Alter (thing.File (file_of limit records item)), tt)

target_or_fd_all : {call : Syscall} {by : Call} {P : Act → Type 0} → HoldsOfCaller call by P → (limit : ℕ) (records : List Record) (item : Option PathItem) → Each P (alters_target_or_fd limit records call item)
target_or_fd_all {call} h limit records None = (h.moves false how.Alter (thing.Fd (fd call.a0)), tt)
target_or_fd_all h limit records (Some item) = (h.moves false how.Alter (thing.File (file_of limit records item)), tt)

-- ---- all kinds

pub all_hold : (limit : ℕ) (records : List Record) (call : Syscall) (flags : ℕ) (by : Call) (P : Act → Type 0) → HoldsOfCaller call by P → Each P (kind_acts limit records call flags by)
all_hold limit records call flags kind.Read P h = when_all P (moved call) (inward call how.Read (thing.Fd (fd call.a0)) ∷ []) (one P (h.moves true how.Read (thing.Fd (fd call.a0))))
all_hold limit records call flags kind.Receive P h = when_all P (moved call) (inward call how.Read (peer call (address records)) ∷ []) (one P (h.moves true how.Read (peer call (address records))))
all_hold limit records call flags kind.Write P h = when_all P (moved call) (outward call how.Write (thing.Fd (fd call.a0)) ∷ []) (one P (h.moves false how.Write (thing.Fd (fd call.a0))))
all_hold limit records call flags kind.Send P h = when_all P (moved call) (outward call how.Write (peer call (address records)) ∷ []) (one P (h.moves false how.Write (peer call (address records))))
all_hold limit records call flags kind.SendFile P h = passes_all h (fd call.a1) (fd call.a0)
all_hold limit records call flags kind.Tee P h = passes_all h (fd call.a0) (fd call.a1)
all_hold limit records call flags kind.Splice P h = passes_all h (fd call.a0) (fd call.a2)
all_hold limit records call flags kind.Open P h = for_all P (answered call) _ (λ n. opens_all h refl limit records flags (target records) n)
all_hold limit records call flags kind.Close P h = when_all P (is_ok call) (TheAct.Close call.pid (fd call.a0) ∷ []) (one P (h.closes (fd call.a0)))
all_hold limit records call flags kind.Dup P h = for_all P (answered call) _ (λ n. one P (h.copies refl (fd call.a0) n false))
all_hold limit records call flags kind.Dup2 P h = for_all P (answered call) _ (λ n. copies_all h refl false n)
all_hold limit records call flags kind.Dup3 P h = for_all P (answered call) _ (λ n. copies_all h refl (has flags CLOEXEC) n)
all_hold limit records call flags kind.Fcntl P h = controls_all h refl
all_hold limit records call flags kind.Pair P h = when_all P (is_ok call) (pairs_up call flags (pair records)) (pair_all h refl flags (pair records))
all_hold limit records call flags kind.Socket P h = for_all P (answered call) _ (λ n. one P (h.sets refl n (opens.Socket None None) (has flags CLOEXEC)))
all_hold limit records call flags kind.Bind P h = when_all P (is_ok call) (gets_address call (address records)) (address_all h refl (address records))
all_hold limit records call flags kind.Connect P h = when_all P (is_ok call || goes_on call.exit) (gets_address call (address records)) (address_all h refl (address records))
all_hold limit records call flags kind.Accept P h = for_all P (answered call) _ (λ n. one P (h.sets refl n (opens.Socket (address records) (Some (fd call.a0))) (has flags CLOEXEC)))
all_hold limit records call flags kind.Exec P h = when_all P (is_ok call) (flat_map (runs_file limit records call) (paths named.Normal records) ++ TheAct.Exec call.pid ∷ []) (each_append P (flat_map (runs_file limit records call) (paths named.Normal records)) (TheAct.Exec call.pid ∷ []) (flat_all P (runs_file limit records call) (paths named.Normal records) (λ item. one P (h.moves true how.Exec (thing.File (file_of limit records item))))) (one P (h.execs)))
all_hold limit records call flags kind.Fork P h = for_all P (answered call) _ (λ n. child_all h n)
all_hold limit records call flags kind.Clone P h = when_all P (not (has flags THREAD)) (forks call) (for_all P (answered call) _ (λ n. child_all h n))
all_hold limit records call flags kind.Exit P h = one P (h.ends refl)
all_hold limit records call flags kind.Map P h = when_all P (is_ok call && not (has flags 32)) (for_number (mapped records) (maps_fd call flags)) (for_all P (mapped records) (maps_fd call flags) (mapped_all h flags))
all_hold limit records call flags kind.AlterPath P h = when_all P (is_ok call) (alters_target limit records call (target records)) (target_all h limit records (target records))
all_hold limit records call flags kind.AlterFd P h = when_all P (is_ok call) (alters_target_or_fd limit records call (target records)) (target_or_fd_all h limit records (target records))
all_hold limit records call flags kind.Rename P h = when_all P (is_ok call) (flat_map (alters_file limit records call) (paths named.Create records)) (flat_all P (alters_file limit records call) (paths named.Create records) (λ item. one P (h.moves false how.Alter (thing.File (file_of limit records item)))))
all_hold limit records call flags kind.Remove P h = when_all P (is_ok call) (flat_map (alters_file limit records call) (paths named.Delete records)) (flat_all P (alters_file limit records call) (paths named.Delete records) (λ item. one P (h.moves false how.Alter (thing.File (file_of limit records item)))))
all_hold limit records call flags kind.MakePath P h = when_all P (is_ok call) (flat_map (λ item. bears call (file_of limit records item)) (paths named.Create records)) (flat_all P (λ item. bears call (file_of limit records item)) (paths named.Create records) (λ item. two P (h.births (file_of limit records item)) (h.moves false how.Make (thing.File (file_of limit records item)))))

pub ends_or_not : (by : Call) → (by ≡ kind.Exit) ⊎ (ends_caller by ≡ false)
ends_or_not kind.Read = inr refl
ends_or_not kind.Receive = inr refl
ends_or_not kind.Write = inr refl
ends_or_not kind.Send = inr refl
ends_or_not kind.SendFile = inr refl
ends_or_not kind.Tee = inr refl
ends_or_not kind.Splice = inr refl
ends_or_not kind.Open = inr refl
ends_or_not kind.Close = inr refl
ends_or_not kind.Dup = inr refl
ends_or_not kind.Dup2 = inr refl
ends_or_not kind.Dup3 = inr refl
ends_or_not kind.Fcntl = inr refl
ends_or_not kind.Pair = inr refl
ends_or_not kind.Socket = inr refl
ends_or_not kind.Bind = inr refl
ends_or_not kind.Connect = inr refl
ends_or_not kind.Accept = inr refl
ends_or_not kind.Exec = inr refl
ends_or_not kind.Fork = inr refl
ends_or_not kind.Clone = inr refl
ends_or_not kind.Exit = inl refl
ends_or_not kind.Map = inr refl
ends_or_not kind.AlterPath = inr refl
ends_or_not kind.AlterFd = inr refl
ends_or_not kind.Rename = inr refl
ends_or_not kind.Remove = inr refl
ends_or_not kind.MakePath = inr refl
