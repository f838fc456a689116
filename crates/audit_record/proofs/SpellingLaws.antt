-- A line spells at most one record, and it spells one exactly where it is used.
use Rattle.std.proofs.Common.{◌≡◌, ◌∙◌, sym, refl, ap, ℕ, Bool, List, Option, None, Some, IsSome, subst, ℤ}
use Rattle.flow_base.specs.declared.types.FileId.{FileId}
use Rattle.audit_lex.specs.Header.{Head, head_of}
use Rattle.audit_lex.specs.Pieces.{named_pieces}
use Rattle.audit_lex.specs.Tokens.{NameValue, tokens_of}
use Rattle.audit_lex.specs.Values.{text_of, bytes_of, handle_of}
use Rattle.audit_lex.specs.LineClass.{Used, text_class}
use Rattle.audit_lex.specs.LineFields.{IsReadable, ReadableSyscall, ReadablePath}
use Rattle.audit_lex.specs.UsedLine.{IsUsedLine}
use Rattle.audit_lex.specs.declared.fields.Field.{Field}
use Rattle.audit_lex.specs.declared.fields.Field.TheVariants as field
use Rattle.audit_lex.specs.declared.fields.Kind.{Kind}
use Rattle.audit_lex.specs.declared.fields.Kind.TheVariants as kind
use Rattle.audit_lex.specs.declared.header.EventKey.{EventKey}
use Rattle.audit_lex.proofs.HeaderLaws.{read_where_written}
use Rattle.audit_lex.proofs.ReadableLemmas.{readable}
use Rattle.audit_lex.proofs.UsedLaws.{used_is_written, written_is_used}
use Rattle.audit_record.specs.Records.{first_value, value_in_line, Says, SpellsSyscall, SpellsPath, SpellsPair, SpellsBody, Spells, IsUsed, file_from, name_kind_from}
use Rattle.audit_record.specs.declared.types.NameKind.{NameKind}
use Rattle.audit_record.specs.declared.types.Syscall.{Syscall}
use Rattle.audit_record.specs.declared.types.PathItem.{PathItem}
use Rattle.audit_record.specs.declared.types.Body.{Body}
use Rattle.audit_record.specs.declared.types.Body.TheVariants as body
use Rattle.audit_record.specs.declared.types.Record.{Record}
use Rattle.audit_record.proofs.ValueLemmas.{tokens_are, same_values}

inner : {A : Type 0} {a b : A} (o : Option A) → o ≡ Some a → o ≡ Some b → a ≡ b
inner o p q = cc (p, q)

abbrev call_made : ℕ → ℕ → Option Bool → Option ℤ → ℕ → ℕ → ℕ → ℕ → ℕ → ℕ → Option (List ℕ) → Syscall
call_made arch number success exit a0 a1 a2 a3 ppid pid exe = record { arch = arch; number = number; success = success; exit = exit; a0 = a0; a1 = a1; a2 = a2; a3 = a3; ppid = ppid; pid = pid; exe = exe }

same_call : (a b : Syscall) → a.arch ≡ b.arch → a.number ≡ b.number → a.success ≡ b.success → a.exit ≡ b.exit → a.a0 ≡ b.a0
    → a.a1 ≡ b.a1 → a.a2 ≡ b.a2 → a.a3 ≡ b.a3 → a.ppid ≡ b.ppid → a.pid ≡ b.pid → a.exe ≡ b.exe → a ≡ b
same_call a b arch number success exit a0 a1 a2 a3 ppid pid exe =
    let same : call_made a.arch a.number a.success a.exit a.a0 a.a1 a.a2 a.a3 a.ppid a.pid a.exe ≡ call_made b.arch b.number b.success b.exit b.a0 b.a1 b.a2 b.a3 b.ppid b.pid b.exe = cc in same

one_syscall : (value : Field → Option (List ℕ)) (a b : Syscall) → SpellsSyscall value a → SpellsSyscall value b → a ≡ b
one_syscall value a b p q =
    same_call a b (inner _ p.arch q.arch) (inner _ p.number q.number) (inner _ p.success q.success) (inner _ p.exit q.exit)
    (inner _ p.a0 q.a0) (inner _ p.a1 q.a1) (inner _ p.a2 q.a2) (inner _ p.a3 q.a3)
    (inner _ p.ppid q.ppid) (inner _ p.pid q.pid) (inner _ p.exe q.exe)

abbrev path_made : ℕ → Option (List ℕ) → Option FileId → NameKind → PathItem
path_made item name file kind = record { item = item; name = name; file = file; kind = kind }

same_path : (a b : PathItem) → a.item ≡ b.item → a.name ≡ b.name → a.file ≡ b.file → a.kind ≡ b.kind → a ≡ b
same_path a b item name file kind =
    let same : path_made a.item a.name a.file a.kind ≡ path_made b.item b.name b.file b.kind = cc in same

one_path : (value : Field → Option (List ℕ)) (a b : PathItem) → SpellsPath value a → SpellsPath value b → a ≡ b
one_path value a b p q =
    let inode = inner _ p.inode_is q.inode_is in
    let device = inner _ p.device_is q.device_is in
    same_path a b (inner _ p.item q.item) (inner _ p.name q.name)
    (p.file ∙ ap (λ i. file_from i p.device) inode ∙ ap (file_from q.inode) device ∙ sym q.file)
    (p.kind ∙ sym q.kind)

pub syscall_body : (value : Field → Option (List ℕ)) (said : Body) → SpellsBody kind.Syscall value said → (call : Syscall) × (said ≡ body.Syscall call) × SpellsSyscall value call
syscall_body value (body.Syscall call) h = (call, refl, h)
syscall_body value _ h = absurd h

pub path_body : (value : Field → Option (List ℕ)) (said : Body) → SpellsBody kind.Path value said → (path : PathItem) × (said ≡ body.Path path) × SpellsPath value path
path_body value (body.Path path) h = (path, refl, h)
path_body value _ h = absurd h

pub cwd_body : (value : Field → Option (List ℕ)) (said : Body) → SpellsBody kind.Cwd value said → (text : Option (List ℕ)) × (said ≡ body.Cwd text) × (Says text_of (value field.Cwd) text)
cwd_body value (body.Cwd text) h = (text, refl, h)
cwd_body value _ h = absurd h

pub sockaddr_body : (value : Field → Option (List ℕ)) (said : Body) → SpellsBody kind.Sockaddr value said → (bytes : List ℕ) × (said ≡ body.Sockaddr bytes) × (Says bytes_of (value field.Saddr) bytes)
sockaddr_body value (body.Sockaddr bytes) h = (bytes, refl, h)
sockaddr_body value _ h = absurd h

pub pair_body : (value : Field → Option (List ℕ)) (said : Body) → SpellsBody kind.FdPair value said → (first : ℕ) × (second : ℕ) × (said ≡ body.FdPair first second) × SpellsPair value first second
pair_body value (body.FdPair first second) h = (first, second, refl, h)
pair_body value _ h = absurd h

pub mmap_body : (value : Field → Option (List ℕ)) (said : Body) → SpellsBody kind.Mmap value said → (fd : ℕ) × (said ≡ body.Mmap fd) × (Says handle_of (value field.Fd) fd)
mmap_body value (body.Mmap fd) h = (fd, refl, h)
mmap_body value _ h = absurd h

pub proctitle_body : (value : Field → Option (List ℕ)) (said : Body) → SpellsBody kind.Proctitle value said → said ≡ body.Proctitle
proctitle_body value body.Proctitle h = refl
proctitle_body value _ h = absurd h

pub eoe_body : (value : Field → Option (List ℕ)) (said : Body) → SpellsBody kind.Eoe value said → said ≡ body.Eoe
eoe_body value body.Eoe h = refl
eoe_body value _ h = absurd h

one_body : (k : Kind) (value : Field → Option (List ℕ)) (a b : Body) → SpellsBody k value a → SpellsBody k value b → a ≡ b
one_body kind.Syscall value a b p q =
    let left = syscall_body value a p in
    let right = syscall_body value b q in
    left.1 ∙ ap body.Syscall (one_syscall value left.0 right.0 left.2 right.2) ∙ sym right.1
one_body kind.Path value a b p q =
    let left = path_body value a p in
    let right = path_body value b q in
    left.1 ∙ ap body.Path (one_path value left.0 right.0 left.2 right.2) ∙ sym right.1
one_body kind.Cwd value a b p q =
    let left = cwd_body value a p in
    let right = cwd_body value b q in
    left.1 ∙ ap body.Cwd (inner _ left.2 right.2) ∙ sym right.1
one_body kind.Sockaddr value a b p q =
    let left = sockaddr_body value a p in
    let right = sockaddr_body value b q in
    left.1 ∙ ap body.Sockaddr (inner _ left.2 right.2) ∙ sym right.1
one_body kind.FdPair value a b p q =
    let left = pair_body value a p in
    let right = pair_body value b q in
    left.2 ∙ ap (λ n. body.FdPair n left.1) (inner _ left.3.first_is right.3.first_is) ∙ ap (body.FdPair right.0) (inner _ left.3.second_is right.3.second_is) ∙ sym right.2
one_body kind.Mmap value a b p q =
    let left = mmap_body value a p in
    let right = mmap_body value b q in
    left.1 ∙ ap body.Mmap (inner _ left.2 right.2) ∙ sym right.1
one_body kind.Proctitle value a b p q = proctitle_body value a p ∙ sym (proctitle_body value b q)
one_body kind.Eoe value a b p q = eoe_body value a p ∙ sym (eoe_body value b q)

abbrev record_made : EventKey → List ℕ → Body → Record
record_made key line said = record { key = key; line = line; body = said }

same_record : (a b : Record) → a.key ≡ b.key → a.line ≡ b.line → a.body ≡ b.body → a ≡ b
same_record a b key line said =
    let same : record_made a.key a.line a.body ≡ record_made b.key b.line b.body = cc in same

one_class : (key other : EventKey) (k l : Kind) → Used key k ≡ Used other l → (key ≡ other) × (k ≡ l)
one_class key other k l is = (cc is, cc is)

-- two ways to write a used line have one header, and so the same tokens
one_way : (line : List ℕ) (key other : EventKey) (k l : Kind) (p : IsUsedLine line key k) (q : IsUsedLine line other l) → named_pieces p.pieces ≡ named_pieces q.pieces
one_way line key other k l p q =
    let head : p.head ≡ q.head = inner (head_of line) (read_where_written line p.head p.headed) (read_where_written line q.head q.headed) in
    sym (tokens_are line key k p) ∙ ap (λ (h : Head). tokens_of h.raw) head ∙ tokens_are line other l q

pub one_record : (line : List ℕ) (a b : Record) → Spells line a → Spells line b → a ≡ b
one_record line a b p q =
    let class = one_class a.key b.key p.kind q.kind (sym (written_is_used line a.key p.kind p.written) ∙ written_is_used line b.key q.kind q.written) in
    let tokens = one_way line a.key b.key p.kind q.kind p.written q.written in
    let here : SpellsBody q.kind (first_value (named_pieces p.written.pieces)) a.body = subst (λ (k : Kind). SpellsBody k (first_value (named_pieces p.written.pieces)) a.body) class.1 p.body in
    let said : SpellsBody q.kind (first_value (named_pieces q.written.pieces)) a.body = subst (λ (ts : List NameValue). SpellsBody q.kind (first_value ts) a.body) tokens here in
    same_record a b class.0 (p.text ∙ sym q.text) (one_body q.kind (first_value (named_pieces q.written.pieces)) a.body b.body said q.body)

-- ---- a used line spells a record

value_there : {A : Type 0} (o : Option A) → IsSome o → (a : A) × (o ≡ Some a)
value_there None some = cc some
value_there (Some a) some = (a, refl)

syscall_there : (line : List ℕ) → ReadableSyscall line → (call : Syscall) × SpellsSyscall (value_in_line line) call
syscall_there line can =
    let arch = value_there _ can.arch in
    let number = value_there _ can.number in
    let success = value_there _ can.success in
    let exit = value_there _ can.exit in
    let a0 = value_there _ can.a0 in
    let a1 = value_there _ can.a1 in
    let a2 = value_there _ can.a2 in
    let a3 = value_there _ can.a3 in
    let ppid = value_there _ can.ppid in
    let pid = value_there _ can.pid in
    let exe = value_there _ can.exe in (
      record { arch = arch.0; number = number.0; success = success.0; exit = exit.0; a0 = a0.0; a1 = a1.0; a2 = a2.0; a3 = a3.0; ppid = ppid.0; pid = pid.0; exe = exe.0 },
      record { arch = arch.1; number = number.1; success = success.1; exit = exit.1; a0 = a0.1; a1 = a1.1; a2 = a2.1; a3 = a3.1; ppid = ppid.1; pid = pid.1; exe = exe.1 },
    )

path_there : (line : List ℕ) → ReadablePath line → (path : PathItem) × SpellsPath (value_in_line line) path
path_there line can =
    let item = value_there _ can.item in
    let name = value_there _ can.name in
    let inode = value_there _ can.inode in
    let device = value_there _ can.device in
    let kind = name_kind_from (value_in_line line field.Nametype) (value_in_line line field.Objtype) in (
      record { item = item.0; name = name.0; file = file_from inode.0 device.0; kind = kind },
      record { item = item.1; name = name.1; inode = inode.0; inode_is = inode.1; device = device.0; device_is = device.1; file = refl; kind = refl },
    )

pub body_there : (line : List ℕ) (k : Kind) → IsReadable k line → (said : Body) × SpellsBody k (value_in_line line) said
body_there line kind.Syscall can = let call = syscall_there line can in (body.Syscall call.0, call.1)
body_there line kind.Path can = let path = path_there line can in (body.Path path.0, path.1)
body_there line kind.Cwd can = let text = value_there _ can in (body.Cwd text.0, text.1)
body_there line kind.Sockaddr can = let bytes = value_there _ can in (body.Sockaddr bytes.0, bytes.1)
body_there line kind.FdPair can =
    let first = value_there _ can.first in
    let second = value_there _ can.second in
    (body.FdPair first.0 second.0, record { first_is = first.1; second_is = second.1 })
body_there line kind.Mmap can = let fd = value_there _ can in (body.Mmap fd.0, fd.1)
body_there line kind.Proctitle can = (body.Proctitle, tt)
body_there line kind.Eoe can = (body.Eoe, tt)

-- a used line spells the record of its key, its text and what its fields spell
pub spells_where_used : (line : List ℕ) (key : EventKey) (k : Kind) (copy : List ℕ) (said : Body) → text_class line ≡ Used key k
    → copy ≡ line → SpellsBody k (value_in_line line) said → Spells line (record { key = key; line = copy; body = said })
spells_where_used line key k copy said is same spelled =
    let written = used_is_written line key k is in
    record {
      kind = k;
      written = written;
      text = same;
      body = subst (λ v. SpellsBody k v said) (same_values line key k written) spelled;
    }

pub used_spells : (line : List ℕ) (key : EventKey) → IsUsed line key → (made : Record) × Spells line made
used_spells line key (k, is) =
    let said = body_there line k (readable line key k is) in
    (record { key = key; line = line; body = said.0 }, spells_where_used line key k line said.0 is refl said.1)

pub spelled_is_used : (line : List ℕ) (said : Record) → Spells line said → IsUsed line said.key
spelled_is_used line said is = (is.kind, written_is_used line said.key is.kind is.written)
