-- What a scanned line gives.
use Rattle.std.proofs.Common.{◌≡◌, ◌∙◌, sym, refl, ap, subst, ℕ, ℤ, Bool, true, false, List, length, Option, None, Some, IsSome, option_map, if◌then◌else◌, arith}
use Rattle.std.proofs.lemmas.Grind.{common_steps}
use Rattle.std.specs.Option.{option_and_then}
use Rattle.audit_lex.specs.FieldTable.{name_of}
use Rattle.audit_lex.specs.History.{is_long}
use Rattle.audit_lex.specs.LineClass.{Class, Used, Malformed, class_of, text_class}
use Rattle.audit_lex.specs.LineFields.{IsReadable, reads_if_there, text_if_there}
use Rattle.audit_lex.specs.Scanning.{IsScanned, IsUnused}
use Rattle.audit_lex.specs.Slots.{held_for}
use Rattle.audit_lex.specs.TablePlaces.{home}
use Rattle.audit_lex.specs.Values.{dec32_of, dec64_of, signed_of, hex32_of, hex64_of, device_of, handle_of, yesno_of, text_of, bytes_of}
use Rattle.audit_lex.specs.declared.faults.LineFault.TheVariants as fault
use Rattle.audit_lex.specs.declared.fields.Field.{Field}
use Rattle.audit_lex.specs.declared.fields.Field.TheVariants as field
use Rattle.audit_lex.specs.declared.fields.Kind.{Kind}
use Rattle.audit_lex.specs.declared.fields.Kind.TheVariants as kind
use Rattle.audit_lex.specs.declared.header.EventKey.{EventKey}
use Rattle.audit_lex.proofs.ReadableLemmas.{used_within, in_line}
use Rattle.audit_lex.proofs.ScanLemmas.{used_where_readable, readable_where_used, slot_is}
use Rattle.flow_base.specs.declared.types.Device.{Device}
use Rattle.flow_base.specs.declared.types.FileId.{FileId}
use Rattle.audit_record.specs.Reading.{is_end, IsGivenBy, if_read, numbers_from, call_from, numbers_of, call_of, item_from, path_from, item_of, path_of, pair_from, body_of, scanned_value, record_with}
use Rattle.audit_record.specs.Records.{value_in_line, SpellsSyscall, SpellsPath, SpellsBody, Spells, file_from, name_kind_from}
use Rattle.audit_record.specs.declared.types.Body.{Body}
use Rattle.audit_record.specs.declared.types.Body.TheVariants as body
use Rattle.audit_record.specs.declared.types.NameKind.{NameKind}
use Rattle.audit_record.specs.declared.types.PathItem.{PathItem}
use Rattle.audit_record.specs.declared.types.Read.TheVariants as read
use Rattle.audit_record.specs.declared.types.Record.{Record}
use Rattle.audit_record.specs.declared.types.Syscall.{Syscall}
use Rattle.audit_record.proofs.SpellingLaws.{syscall_body, path_body, cwd_body, sockaddr_body, pair_body, mmap_body, proctitle_body, eoe_body, body_there, spells_where_used}

-- ---- what a body that was read spells

inner : {A : Type 0} (a b : A) → Some a ≡ Some b → a ≡ b
inner a b is = cc is

there : {A B : Type 0} (f : A → Option B) (o : Option A) (b : B) → option_and_then f o ≡ Some b → (a : A) × (o ≡ Some a) × (f a ≡ Some b)
there f None b is = absurd (cc is)
there f (Some a) b is = (a, refl, is)

mapped : {A B : Type 0} (f : A → B) (o : Option A) (b : B) → option_map f o ≡ Some b → (a : A) × (o ≡ Some a) × (f a ≡ b)
mapped f None b is = absurd (cc is)
mapped f (Some a) b is = (a, refl, inner (f a) b is)

said_call : (value : Field → Option (List ℕ)) (call : Syscall) → call_of value ≡ Some call → SpellsSyscall value call
said_call value call is =
    let numbers = there _ (numbers_of value) call is in
    let exe = mapped _ (text_if_there (value field.Exe)) call numbers.2 in
    let arch = there _ (option_and_then hex32_of (value field.Arch)) numbers.0 numbers.1 in
    let number = there _ (option_and_then dec32_of (value field.Syscall)) numbers.0 arch.2 in
    let success = there _ (reads_if_there yesno_of (value field.Success)) numbers.0 number.2 in
    let exit = there _ (reads_if_there signed_of (value field.Exit)) numbers.0 success.2 in
    let a0 = there _ (option_and_then hex64_of (value field.A0)) numbers.0 exit.2 in
    let a1 = there _ (option_and_then hex64_of (value field.A1)) numbers.0 a0.2 in
    let a2 = there _ (option_and_then hex64_of (value field.A2)) numbers.0 a1.2 in
    let a3 = there _ (option_and_then hex64_of (value field.A3)) numbers.0 a2.2 in
    let ppid = there _ (option_and_then dec32_of (value field.Ppid)) numbers.0 a3.2 in
    let pid = there _ (option_and_then dec32_of (value field.Pid)) numbers.0 ppid.2 in
    let whole = ap (λ (c : Syscall). record c { exe = exe.0 }) (inner _ _ pid.2) ∙ exe.2 in
    subst (SpellsSyscall value) whole (record {
      arch = arch.1;
      number = number.1;
      success = success.1;
      exit = exit.1;
      a0 = a0.1;
      a1 = a1.1;
      a2 = a2.1;
      a3 = a3.1;
      ppid = ppid.1;
      pid = pid.1;
      exe = exe.1;
    })

said_path : (value : Field → Option (List ℕ)) (path : PathItem) → path_of value ≡ Some path → SpellsPath value path
said_path value path is =
    let kind = name_kind_from (value field.Nametype) (value field.Objtype) in
    let both = there _ (item_of value) path is in
    let name = mapped _ (option_and_then text_of (value field.Name)) path both.2 in
    let item = there _ (option_and_then dec32_of (value field.Item)) both.0 both.1 in
    let inode = there _ (reads_if_there dec64_of (value field.Inode)) both.0 item.2 in
    let device = mapped _ (reads_if_there device_of (value field.Dev)) both.0 inode.2 in
    let made : ℕ × Option FileId → PathItem = λ b. record { item = b.0; name = name.0; file = b.1; kind = kind } in
    let whole = ap made device.2 ∙ name.2 in
    subst (SpellsPath value) whole (record {
      item = item.1;
      name = name.1;
      inode = inode.0;
      inode_is = inode.1;
      device = device.0;
      device_is = device.1;
      file = refl;
      kind = refl;
    })

pub said_body : (k : Kind) (value : Field → Option (List ℕ)) (said : Body) → body_of k value ≡ Some said → SpellsBody k value said
said_body kind.Syscall value said is =
    let call = mapped body.Syscall (call_of value) said is in
    subst (SpellsBody kind.Syscall value) call.2 (said_call value call.0 call.1)
said_body kind.Path value said is =
    let path = mapped body.Path (path_of value) said is in
    subst (SpellsBody kind.Path value) path.2 (said_path value path.0 path.1)
said_body kind.Cwd value said is =
    let text = mapped body.Cwd (option_and_then text_of (value field.Cwd)) said is in
    subst (SpellsBody kind.Cwd value) text.2 text.1
said_body kind.Sockaddr value said is =
    let bytes = mapped body.Sockaddr (option_and_then bytes_of (value field.Saddr)) said is in
    subst (SpellsBody kind.Sockaddr value) bytes.2 bytes.1
said_body kind.FdPair value said is =
    let first = there _ (option_and_then dec32_of (value field.Fd0)) said is in
    let second = mapped _ (option_and_then dec32_of (value field.Fd1)) said first.2 in
    subst (SpellsBody kind.FdPair value) second.2 (record { first_is = first.1; second_is = second.1 })
said_body kind.Mmap value said is =
    let fd = mapped body.Mmap (option_and_then handle_of (value field.Fd)) said is in
    subst (SpellsBody kind.Mmap value) fd.2 fd.1
said_body kind.Proctitle value said is = subst (SpellsBody kind.Proctitle value) (inner body.Proctitle said is) tt
said_body kind.Eoe value said is = subst (SpellsBody kind.Eoe value) (inner body.Eoe said is) tt

-- ---- what is spelled is read

module _ (arch number : Option ℕ) (success : Option (Option Bool)) (exit : Option (Option ℤ)) (a0 a1 a2 a3 ppid pid : Option ℕ) (exe : Option (Option (List ℕ))) where
  call_parts : (call : Syscall) → arch ≡ Some call.arch → number ≡ Some call.number → success ≡ Some call.success → exit ≡ Some call.exit
      → a0 ≡ Some call.a0 → a1 ≡ Some call.a1 → a2 ≡ Some call.a2 → a3 ≡ Some call.a3 → ppid ≡ Some call.ppid → pid ≡ Some call.pid
      → exe ≡ Some call.exe → call_from (numbers_from arch number success exit a0 a1 a2 a3 ppid pid) exe ≡ Some call
  call_parts call is_arch is_number is_success is_exit is_a0 is_a1 is_a2 is_a3 is_ppid is_pid is_exe =
      rw is_arch (rw is_number (rw is_success (rw is_exit (rw is_a0 (rw is_a1 (rw is_a2 (rw is_a3 (rw is_ppid (rw is_pid (rw is_exe refl))))))))))

call_read : (value : Field → Option (List ℕ)) (call : Syscall) → SpellsSyscall value call → call_of value ≡ Some call
call_read value call is =
    call_parts _ _ _ _ _ _ _ _ _ _ _ call is.arch is.number is.success is.exit is.a0 is.a1 is.a2 is.a3 is.ppid is.pid is.exe

module _ (item : Option ℕ) (inode : Option (Option ℕ)) (device : Option (Option Device)) (name : Option (Option (List ℕ))) (kind : NameKind) where
  path_parts : (path : PathItem) (ino : Option ℕ) (dev : Option Device) → item ≡ Some path.item → inode ≡ Some ino → device ≡ Some dev
      → name ≡ Some path.name → path.file ≡ file_from ino dev → path.kind ≡ kind → path_from (item_from item inode device) name kind ≡ Some path
  path_parts path ino dev is_item is_inode is_device is_name is_file is_kind =
      rw is_item (rw is_inode (rw is_device (rw is_name (rw (sym is_file) (rw (sym is_kind) refl)))))

path_read : (value : Field → Option (List ℕ)) (path : PathItem) → SpellsPath value path → path_of value ≡ Some path
path_read value path is = path_parts _ _ _ _ _ path is.inode is.device is.item is.inode_is is.device_is is.name is.file is.kind

pair_parts : (first second : Option ℕ) (a b : ℕ) → first ≡ Some a → second ≡ Some b → pair_from first second ≡ Some (body.FdPair a b)
pair_parts first second a b is_first is_second = rw is_first (rw is_second refl)

pub body_read : (k : Kind) (value : Field → Option (List ℕ)) (said : Body) → SpellsBody k value said → body_of k value ≡ Some said
body_read kind.Syscall value said is =
    let call = syscall_body value said is in
    ap (option_map body.Syscall) (call_read value call.0 call.2) ∙ ap Some (sym call.1)
body_read kind.Path value said is =
    let path = path_body value said is in
    ap (option_map body.Path) (path_read value path.0 path.2) ∙ ap Some (sym path.1)
body_read kind.Cwd value said is =
    let text = cwd_body value said is in
    ap (option_map body.Cwd) text.2 ∙ ap Some (sym text.1)
body_read kind.Sockaddr value said is =
    let bytes = sockaddr_body value said is in
    ap (option_map body.Sockaddr) bytes.2 ∙ ap Some (sym bytes.1)
body_read kind.FdPair value said is =
    let pair = pair_body value said is in
    pair_parts _ _ pair.0 pair.1 pair.3.first_is pair.3.second_is ∙ ap Some (sym pair.2)
body_read kind.Mmap value said is =
    let fd = mmap_body value said is in
    ap (option_map body.Mmap) fd.2 ∙ ap Some (sym fd.1)
body_read kind.Proctitle value said is = ap Some (sym (proctitle_body value said is))
body_read kind.Eoe value said is = ap Some (sym (eoe_body value said is))

-- ---- a line whose values spell a body can be read

some : {A : Type 0} (o : Option A) (a : A) → o ≡ Some a → IsSome o
some o a is = rw is refl

pub readable_said : (k : Kind) (line : List ℕ) (said : Body) → SpellsBody k (value_in_line line) said → IsReadable k line
readable_said kind.Syscall line said is =
    let call = syscall_body (value_in_line line) said is in
    record {
      arch = some _ _ call.2.arch;
      number = some _ _ call.2.number;
      success = some _ _ call.2.success;
      exit = some _ _ call.2.exit;
      a0 = some _ _ call.2.a0;
      a1 = some _ _ call.2.a1;
      a2 = some _ _ call.2.a2;
      a3 = some _ _ call.2.a3;
      ppid = some _ _ call.2.ppid;
      pid = some _ _ call.2.pid;
      exe = some _ _ call.2.exe;
    }
readable_said kind.Path line said is =
    let path = path_body (value_in_line line) said is in
    record {
      item = some _ _ path.2.item;
      name = some _ _ path.2.name;
      inode = some _ _ path.2.inode_is;
      device = some _ _ path.2.device_is;
    }
readable_said kind.Cwd line said is = some _ _ (cwd_body (value_in_line line) said is).2
readable_said kind.Sockaddr line said is = some _ _ (sockaddr_body (value_in_line line) said is).2
readable_said kind.FdPair line said is =
    let pair = pair_body (value_in_line line) said is in
    record { first = some _ _ pair.3.first_is; second = some _ _ pair.3.second_is }
readable_said kind.Mmap line said is = some _ _ (mmap_body (value_in_line line) said is).2
readable_said kind.Proctitle line said is = tt
readable_said kind.Eoe line said is = tt

-- ---- values that agree on a kind's fields spell the same

-- two ways to find values agree on the fields of a kind
abbrev Agree : Kind → (v w : Field → Option (List ℕ)) → Type 0
Agree k v w = (f : Field) (place : ℕ) → home f ≡ Some (k, place) → w f ≡ v f

move_call : (v w : Field → Option (List ℕ)) (call : Syscall) → Agree kind.Syscall v w → SpellsSyscall v call → SpellsSyscall w call
move_call v w call same is = record {
  arch = ap (option_and_then hex32_of) (same field.Arch 0 refl) ∙ is.arch;
  number = ap (option_and_then dec32_of) (same field.Syscall 1 refl) ∙ is.number;
  success = ap (reads_if_there yesno_of) (same field.Success 2 refl) ∙ is.success;
  exit = ap (reads_if_there signed_of) (same field.Exit 3 refl) ∙ is.exit;
  a0 = ap (option_and_then hex64_of) (same field.A0 4 refl) ∙ is.a0;
  a1 = ap (option_and_then hex64_of) (same field.A1 5 refl) ∙ is.a1;
  a2 = ap (option_and_then hex64_of) (same field.A2 6 refl) ∙ is.a2;
  a3 = ap (option_and_then hex64_of) (same field.A3 7 refl) ∙ is.a3;
  ppid = ap (option_and_then dec32_of) (same field.Ppid 8 refl) ∙ is.ppid;
  pid = ap (option_and_then dec32_of) (same field.Pid 9 refl) ∙ is.pid;
  exe = ap text_if_there (same field.Exe 10 refl) ∙ is.exe;
}

move_path : (v w : Field → Option (List ℕ)) (path : PathItem) → Agree kind.Path v w → w field.Objtype ≡ v field.Objtype → SpellsPath v path → SpellsPath w path
move_path v w path same objtype is = record {
  item = ap (option_and_then dec32_of) (same field.Item 0 refl) ∙ is.item;
  name = ap (option_and_then text_of) (same field.Name 1 refl) ∙ is.name;
  inode = is.inode;
  inode_is = ap (reads_if_there dec64_of) (same field.Inode 2 refl) ∙ is.inode_is;
  device = is.device;
  device_is = ap (reads_if_there device_of) (same field.Dev 3 refl) ∙ is.device_is;
  file = is.file;
  kind = is.kind
      ∙ ap (λ o. name_kind_from o (v field.Objtype)) (sym (same field.Nametype 4 refl))
      ∙ ap (name_kind_from (w field.Nametype)) (sym objtype);
}

move_body : (k : Kind) (v w : Field → Option (List ℕ)) (said : Body) → Agree k v w → w field.Objtype ≡ v field.Objtype → SpellsBody k v said → SpellsBody k w said
move_body kind.Syscall v w said same objtype is =
    let call = syscall_body v said is in
    subst (SpellsBody kind.Syscall w) (sym call.1) (move_call v w call.0 same call.2)
move_body kind.Path v w said same objtype is =
    let path = path_body v said is in
    subst (SpellsBody kind.Path w) (sym path.1) (move_path v w path.0 same objtype path.2)
move_body kind.Cwd v w said same objtype is =
    let text = cwd_body v said is in
    subst (SpellsBody kind.Cwd w) (sym text.1) (ap (option_and_then text_of) (same field.Cwd 0 refl) ∙ text.2)
move_body kind.Sockaddr v w said same objtype is =
    let bytes = sockaddr_body v said is in
    subst (SpellsBody kind.Sockaddr w) (sym bytes.1) (ap (option_and_then bytes_of) (same field.Saddr 0 refl) ∙ bytes.2)
move_body kind.FdPair v w said same objtype is =
    let pair = pair_body v said is in
    subst (SpellsBody kind.FdPair w) (sym pair.2) (record {
      first_is = ap (option_and_then dec32_of) (same field.Fd0 0 refl) ∙ pair.3.first_is;
      second_is = ap (option_and_then dec32_of) (same field.Fd1 1 refl) ∙ pair.3.second_is;
    })
move_body kind.Mmap v w said same objtype is =
    let fd = mmap_body v said is in
    subst (SpellsBody kind.Mmap w) (sym fd.1) (ap (option_and_then handle_of) (same field.Fd 0 refl) ∙ fd.2)
move_body kind.Proctitle v w said same objtype is = subst (SpellsBody kind.Proctitle w) (sym (proctitle_body v said is)) tt
move_body kind.Eoe v w said same objtype is = subst (SpellsBody kind.Eoe w) (sym (eoe_body v said is)) tt

-- ---- what a scanned line gives

-- a field that has a slot has its value there
slotted : (slots : List (Option (List ℕ))) (raw : List ℕ) (f : Field) (k : Kind) (place : ℕ) → home f ≡ Some (k, place) → scanned_value slots raw f ≡ held_for slots f
slotted slots raw field.Objtype k place is = absurd (cc is)
slotted slots raw _ k place is = refl

none_some : {A : Type 0} (a : A) → None ≡ Some a → ⊥
none_some a is = cc is

unmapped : {A B : Type 0} (f : A → B) (o : Option A) → option_map f o ≡ None → o ≡ None
unmapped f None is = refl
unmapped f (Some a) is = absurd (cc is)

module _ (limit : ℕ) (line : List ℕ) (key : EventKey) (k : Kind) (raw : List ℕ) (slots : List (Option (List ℕ))) (scanned : IsScanned limit line key k raw slots) where
  agree : Agree k (value_in_line line) (scanned_value slots raw)
  agree f place is = slotted slots raw f k place is ∙ slot_is limit line key k raw slots scanned f place is

  objtype : scanned_value slots raw field.Objtype ≡ value_in_line line field.Objtype
  objtype = sym (in_line line raw (name_of field.Objtype) scanned.raw_is)

  said_in_line : (said : Body) → body_of k (scanned_value slots raw) ≡ Some said → SpellsBody k (value_in_line line) said
  said_in_line said is =
      move_body k (scanned_value slots raw) (value_in_line line) said (λ f place at. sym (agree f place at)) (sym objtype) (said_body k _ said is)

  used_so : (said : Body) → body_of k (scanned_value slots raw) ≡ Some said → class_of limit line ≡ Used key k
  used_so said is = used_where_readable limit line key k raw slots scanned (readable_said k line said (said_in_line said is))

  spelled_so : (said : Body) → body_of k (scanned_value slots raw) ≡ Some said → Spells line (record_with key line said)
  spelled_so said is = spells_where_used line key k line said (used_within limit line key k (used_so said is)) refl (said_in_line said is)

  -- a record that was read is the one that the line spells
  pub record_read : (item : Record) → Some item ≡ option_map (record_with key line) (body_of k (scanned_value slots raw)) → Spells line item
  record_read item is =
      let said = mapped (record_with key line) (body_of k (scanned_value slots raw)) item (sym is) in
      subst (Spells line) said.2 (spelled_so said.0 said.1)

  -- if none was read the line isn't used
  pub none_read : None ≡ option_map (record_with key line) (body_of k (scanned_value slots raw)) → IsUnused limit line
  none_read none = λ other l is.
      let can = body_there line k (readable_where_used limit line key k raw slots scanned other l is) in
      let moved = move_body k (value_in_line line) (scanned_value slots raw) can.0 agree objtype can.1 in
      none_some can.0 (sym (unmapped (record_with key line) _ (sym none)) ∙ body_read k (scanned_value slots raw) can.0 moved)

  pub gives_record : is_end k ≡ false → (item : Record) → Some item ≡ option_map (record_with key line) (body_of k (scanned_value slots raw))
      → IsGivenBy limit line read.Record item
  gives_record other item is =
      let said = mapped (record_with key line) (body_of k (scanned_value slots raw)) item (sym is) in
      record { key = key; kind = k; used = used_so said.0 said.1; gives = (other, record_read item is) }

pub was_read : {A : Type 0} (read : Bool) (a : A) (o : Option A) → read ≡ true → if_read read a ≡ o → Some a ≡ o
was_read true a o is same = same
was_read false a o is same = absurd (cc is)

pub not_read : {A : Type 0} (read : Bool) (a : A) (o : Option A) → read ≡ false → if_read read a ≡ o → None ≡ o
not_read true a o is same = absurd (cc is)
not_read false a o is same = same

-- ---- a used line is used within its length

within : (line : List ℕ) → is_long (length line) line ≡ false
within line = grind (arith, common_steps)

short_class : (long : Bool) (class : Class) → long ≡ false → (if long then Malformed fault.TooLong else class) ≡ class
short_class long class short = rw short refl

pub used_at_length : (line : List ℕ) (key : EventKey) (k : Kind) → text_class line ≡ Used key k → class_of (length line) line ≡ Used key k
used_at_length line key k is = short_class (is_long (length line) line) (text_class line) (within line) ∙ is
