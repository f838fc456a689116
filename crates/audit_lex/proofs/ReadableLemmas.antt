-- What a used line has no fault in can be read.
use Rattle.std.proofs.Common.{◌≡◌, ◌∙◌, sym, refl, ap, ℕ, Bool, true, false, List, [], ◌∷◌, Option, None, Some, is_some, IsSome, if◌then◌else◌}
use Rattle.std.specs.List.{list_all, AllByRecursion}
use Rattle.std.specs.Option.{option_or, option_and_then}
use Rattle.audit_lex.specs.History.{is_long}
use Rattle.audit_lex.specs.Tokens.{field_of}
use Rattle.audit_lex.specs.Header.{Head, head_of}
use Rattle.audit_lex.specs.FieldTable.{name_of, kind_of, rules_of, must, may}
use Rattle.audit_lex.specs.Values.{dec32_of, dec64_of, signed_of, hex32_of, hex64_of, device_of, handle_of, yesno_of, text_of, bytes_of}
use Rattle.audit_lex.specs.LineFields.{raw_part_of, field_in_line, needed, offered, offered_text, reads_if_there, text_if_there, ReadableSyscall, ReadablePath, ReadablePair, IsReadable}
use Rattle.audit_lex.specs.LineClass.{Class, Used, Blank, Malformed, spells, fault_of, fault_in, first_fault, is_blank_byte, fields_class, kind_class, head_class, text_class, class_of}
use Rattle.audit_lex.specs.declared.fields.Kind.{Kind}
use Rattle.audit_lex.specs.declared.fields.Kind.TheVariants as kind
use Rattle.audit_lex.specs.declared.fields.Field.{Field}
use Rattle.audit_lex.specs.declared.fields.Field.TheVariants as field
use Rattle.audit_lex.specs.declared.fields.ValueKind.{ValueKind}
use Rattle.audit_lex.specs.declared.fields.ValueKind.TheVariants as value
use Rattle.audit_lex.specs.declared.fields.Rule.{Rule}
use Rattle.audit_lex.specs.declared.faults.LineFault.{LineFault}
use Rattle.audit_lex.specs.declared.faults.LineFault.TheVariants as fault
use Rattle.audit_lex.specs.declared.header.EventKey.{EventKey}

-- ---- a used line has a raw part without a fault

-- the raw part of a header, and that the table of the kind finds no fault in it
pub record Faultless (found : Option Head) (key : EventKey) (k : Kind) : Type 0 where
  pub head : Head
  pub is : found ≡ Some head
  pub key_is : head.key ≡ key
  pub kind_is : kind_of head.name ≡ Some k
  pub none : first_fault head.raw (rules_of k) ≡ None

faultless_fields : (head : Head) (found : Kind) (fault : Option LineFault) (key : EventKey) (k : Kind)
    → fields_class head found fault ≡ Used key k → kind_of head.name ≡ Some found → first_fault head.raw (rules_of found) ≡ fault → Faultless (Some head) key k
faultless_fields head found None key k is named none =
    let same_key : head.key ≡ key = cc is in
    let same_kind : found ≡ k = cc is in
    record { head = head; is = refl; key_is = same_key; kind_is = cc (named, same_kind); none = cc (none, same_kind) }
faultless_fields head found (Some fault) key k is named none = cc is

faultless_kind : (head : Head) (found : Option Kind) (key : EventKey) (k : Kind)
    → kind_class head found ≡ Used key k → kind_of head.name ≡ found → Faultless (Some head) key k
faultless_kind head None key k is named = cc is
faultless_kind head (Some found) key k is named = faultless_fields head found (first_fault head.raw (rules_of found)) key k is named refl

faultless_head : (found : Option Head) (key : EventKey) (k : Kind) → head_class found ≡ Used key k → Faultless found key k
faultless_head None key k is = cc is
faultless_head (Some head) key k is = faultless_kind head (kind_of head.name) key k is refl

faultless_text : (blank : Bool) (found : Option Head) (key : EventKey) (k : Kind)
    → (if blank then Blank else head_class found) ≡ Used key k → Faultless found key k
faultless_text true found key k is = cc is
faultless_text false found key k is = faultless_head found key k is

pub faultless : (line : List ℕ) (key : EventKey) (k : Kind) → text_class line ≡ Used key k → Faultless (head_of line) key k
faultless line key k is = faultless_text (list_all is_blank_byte line) (head_of line) key k is

short_used : (long : Bool) (class : Class) (key : EventKey) (k : Kind) → (if long then Malformed fault.TooLong else class) ≡ Used key k → class ≡ Used key k
short_used true class key k is = cc is
short_used false class key k is = is

-- a line that is used within a limit is used
pub used_within : (limit : ℕ) (line : List ℕ) (key : EventKey) (k : Kind) → class_of limit line ≡ Used key k → text_class line ≡ Used key k
used_within limit line key k is = short_used (is_long limit line) (text_class line) key k is

-- ---- a field without a fault can be read

pub or_none : {A : Type 0} (a b : Option A) → option_or a b ≡ None → (a ≡ None) × (b ≡ None)
or_none None b is = (refl, is)
or_none (Some a) b is = cc is

passes : (test : Bool) (fault : LineFault) → (if test then None else Some fault) ≡ None → test ≡ true
passes true fault is = refl
passes false fault is = cc is

needed_there : {A : Type 0} (reads : List ℕ → Option A) (v : ValueKind) (f : Field) (found : Option (List ℕ))
    → ((text : List ℕ) → spells v text ≡ is_some (reads text)) → fault_of (must f v) found ≡ None → IsSome (option_and_then reads found)
needed_there reads v f None same none = cc none
needed_there reads v f (Some text) same none = sym (same text) ∙ passes _ _ none

still_there : {A : Type 0} (reads : List ℕ → Option A) (text : List ℕ) (o : Option A) → reads text ≡ o → is_some o ≡ true → IsSome (reads_if_there reads (Some text))
still_there reads text None is some = cc some
still_there reads text (Some a) is some = rw is refl

offered_there : {A : Type 0} (reads : List ℕ → Option A) (v : ValueKind) (f : Field) (found : Option (List ℕ))
    → ((text : List ℕ) → spells v text ≡ is_some (reads text)) → fault_of (may f v) found ≡ None → IsSome (reads_if_there reads found)
offered_there reads v f None same none = refl
offered_there reads v f (Some text) same none = still_there reads text (reads text) refl (sym (same text) ∙ passes _ _ none)

text_there : (f : Field) (found : Option (List ℕ)) → fault_of (may f value.Text) found ≡ None → IsSome (text_if_there found)
text_there f None none = refl
text_there f (Some text) none = passes _ _ none

-- a field of a line is the field of its raw part
pub in_line : (line raw name : List ℕ) → raw_part_of line ≡ Some raw → field_in_line line name ≡ field_of raw name
in_line line raw name is = ap (option_and_then (λ text. field_of text name)) is

need : {A : Type 0} (reads : List ℕ → Option A) (v : ValueKind) (line raw : List ℕ) (f : Field) → raw_part_of line ≡ Some raw
    → ((text : List ℕ) → spells v text ≡ is_some (reads text)) → fault_in raw (must f v) ≡ None → IsSome (needed reads line f)
need reads v line raw f is same none = rw (in_line line raw (name_of f) is) (needed_there reads v f (field_of raw (name_of f)) same none)

offer : {A : Type 0} (reads : List ℕ → Option A) (v : ValueKind) (line raw : List ℕ) (f : Field) → raw_part_of line ≡ Some raw
    → ((text : List ℕ) → spells v text ≡ is_some (reads text)) → fault_in raw (may f v) ≡ None → IsSome (offered reads line f)
offer reads v line raw f is same none = rw (in_line line raw (name_of f) is) (offered_there reads v f (field_of raw (name_of f)) same none)

offer_text : (line raw : List ℕ) (f : Field) → raw_part_of line ≡ Some raw → fault_in raw (may f value.Text) ≡ None → IsSome (offered_text line f)
offer_text line raw f is none = rw (in_line line raw (name_of f) is) (text_there f (field_of raw (name_of f)) none)

no_faults : (raw : List ℕ) (rules : List Rule) → first_fault raw rules ≡ None → AllByRecursion (λ rule. fault_in raw rule ≡ None) rules
no_faults raw [] none = tt
no_faults raw (rule ∷ rules) none =
    let parts = or_none (fault_in raw rule) (first_fault raw rules) none in (parts.0, no_faults raw rules parts.1)

call_readable : (line raw : List ℕ) → raw_part_of line ≡ Some raw → first_fault raw (rules_of kind.Syscall) ≡ None → ReadableSyscall line
call_readable line raw is none =
    let all = no_faults raw (rules_of kind.Syscall) none in
    record {
      arch = need hex32_of value.Hex32 line raw field.Arch is (λ text. refl) all.0;
      number = need dec32_of value.Dec32 line raw field.Syscall is (λ text. refl) all.1.0;
      success = offer yesno_of value.YesNo line raw field.Success is (λ text. refl) all.1.1.0;
      exit = offer signed_of value.Signed line raw field.Exit is (λ text. refl) all.1.1.1.0;
      a0 = need hex64_of value.Hex64 line raw field.A0 is (λ text. refl) all.1.1.1.1.0;
      a1 = need hex64_of value.Hex64 line raw field.A1 is (λ text. refl) all.1.1.1.1.1.0;
      a2 = need hex64_of value.Hex64 line raw field.A2 is (λ text. refl) all.1.1.1.1.1.1.0;
      a3 = need hex64_of value.Hex64 line raw field.A3 is (λ text. refl) all.1.1.1.1.1.1.1.0;
      ppid = need dec32_of value.Dec32 line raw field.Ppid is (λ text. refl) all.1.1.1.1.1.1.1.1.0;
      pid = need dec32_of value.Dec32 line raw field.Pid is (λ text. refl) all.1.1.1.1.1.1.1.1.1.0;
      exe = offer_text line raw field.Exe is all.1.1.1.1.1.1.1.1.1.1.0;
    }

path_readable : (line raw : List ℕ) → raw_part_of line ≡ Some raw → first_fault raw (rules_of kind.Path) ≡ None → ReadablePath line
path_readable line raw is none =
    let all = no_faults raw (rules_of kind.Path) none in
    record {
      item = need dec32_of value.Dec32 line raw field.Item is (λ text. refl) all.0;
      name = need text_of value.Text line raw field.Name is (λ text. refl) all.1.0;
      inode = offer dec64_of value.Dec64 line raw field.Inode is (λ text. refl) all.1.1.0;
      device = offer device_of value.Device line raw field.Dev is (λ text. refl) all.1.1.1.0;
    }

pair_readable : (line raw : List ℕ) → raw_part_of line ≡ Some raw → first_fault raw (rules_of kind.FdPair) ≡ None → ReadablePair line
pair_readable line raw is none =
    let all = no_faults raw (rules_of kind.FdPair) none in
    record {
      first = need dec32_of value.Dec32 line raw field.Fd0 is (λ text. refl) all.0;
      second = need dec32_of value.Dec32 line raw field.Fd1 is (λ text. refl) all.1.0;
    }

raw_readable : (k : Kind) (line raw : List ℕ) → raw_part_of line ≡ Some raw → first_fault raw (rules_of k) ≡ None → IsReadable k line
raw_readable kind.Syscall line raw is none = call_readable line raw is none
raw_readable kind.Path line raw is none = path_readable line raw is none
raw_readable kind.Cwd line raw is none = need text_of value.Text line raw field.Cwd is (λ text. refl) (no_faults raw (rules_of kind.Cwd) none).0
raw_readable kind.Sockaddr line raw is none = need bytes_of value.Bytes line raw field.Saddr is (λ text. refl) (no_faults raw (rules_of kind.Sockaddr) none).0
raw_readable kind.FdPair line raw is none = pair_readable line raw is none
raw_readable kind.Mmap line raw is none = need handle_of value.Handle line raw field.Fd is (λ text. refl) (no_faults raw (rules_of kind.Mmap) none).0
raw_readable kind.Proctitle line raw is none = tt
raw_readable kind.Eoe line raw is none = tt

pub readable : (line : List ℕ) (key : EventKey) (k : Kind) → text_class line ≡ Used key k → IsReadable k line
readable line key k is =
    let found = faultless line key k is in
    raw_readable k line found.head.raw (rw found.is refl) found.none

-- ---- what can be read has no fault

both_none : {A : Type 0} (a b : Option A) → a ≡ None → b ≡ None → option_or a b ≡ None
both_none a b first second = rw first second

none_first : (raw : List ℕ) (rules : List Rule) → AllByRecursion (λ rule. fault_in raw rule ≡ None) rules → first_fault raw rules ≡ None
none_first raw [] none = refl
none_first raw (rule ∷ rules) none = both_none (fault_in raw rule) (first_fault raw rules) none.0 (none_first raw rules none.1)

passed : (test : Bool) (fault : LineFault) → test ≡ true → (if test then None else Some fault) ≡ None
passed true fault is = refl
passed false fault is = cc is

needed_passes : {A : Type 0} (reads : List ℕ → Option A) (v : ValueKind) (f : Field) (found : Option (List ℕ))
    → ((text : List ℕ) → spells v text ≡ is_some (reads text)) → IsSome (option_and_then reads found) → fault_of (must f v) found ≡ None
needed_passes reads v f None same some = cc some
needed_passes reads v f (Some text) same some = passed _ _ (same text ∙ some)

is_there : {A : Type 0} (reads : List ℕ → Option A) (text : List ℕ) (o : Option A) → reads text ≡ o → IsSome (reads_if_there reads (Some text)) → is_some o ≡ true
is_there reads text None is some = cc (rw is at some)
is_there reads text (Some a) is some = refl

offered_passes : {A : Type 0} (reads : List ℕ → Option A) (v : ValueKind) (f : Field) (found : Option (List ℕ))
    → ((text : List ℕ) → spells v text ≡ is_some (reads text)) → IsSome (reads_if_there reads found) → fault_of (may f v) found ≡ None
offered_passes reads v f None same some = refl
offered_passes reads v f (Some text) same some = passed _ _ (same text ∙ is_there reads text (reads text) refl some)

text_passes : (f : Field) (found : Option (List ℕ)) → IsSome (text_if_there found) → fault_of (may f value.Text) found ≡ None
text_passes f None some = refl
text_passes f (Some text) some = passed _ _ some

word_passes : (f : Field) (found : Option (List ℕ)) → fault_of (may f value.Word) found ≡ None
word_passes f None = refl
word_passes f (Some text) = refl

module _ (line raw : List ℕ) (is : raw_part_of line ≡ Some raw) where
  needs : {A : Type 0} (reads : List ℕ → Option A) (v : ValueKind) (f : Field)
      → ((text : List ℕ) → spells v text ≡ is_some (reads text)) → IsSome (needed reads line f) → fault_in raw (must f v) ≡ None
  needs reads v f same some = needed_passes reads v f (field_of raw (name_of f)) same (rw (in_line line raw (name_of f) is) at some)

  offers : {A : Type 0} (reads : List ℕ → Option A) (v : ValueKind) (f : Field)
      → ((text : List ℕ) → spells v text ≡ is_some (reads text)) → IsSome (offered reads line f) → fault_in raw (may f v) ≡ None
  offers reads v f same some = offered_passes reads v f (field_of raw (name_of f)) same (rw (in_line line raw (name_of f) is) at some)

  offers_text : (f : Field) → IsSome (offered_text line f) → fault_in raw (may f value.Text) ≡ None
  offers_text f some = text_passes f (field_of raw (name_of f)) (rw (in_line line raw (name_of f) is) at some)

  word : (f : Field) → fault_in raw (may f value.Word) ≡ None
  word f = word_passes f (field_of raw (name_of f))

  call_faultless : ReadableSyscall line → first_fault raw (rules_of kind.Syscall) ≡ None
  call_faultless can = none_first raw (rules_of kind.Syscall) (
    needs hex32_of value.Hex32 field.Arch (λ text. refl) can.arch,
    (
      needs dec32_of value.Dec32 field.Syscall (λ text. refl) can.number,
      (
        offers yesno_of value.YesNo field.Success (λ text. refl) can.success,
        (
          offers signed_of value.Signed field.Exit (λ text. refl) can.exit,
          (
            needs hex64_of value.Hex64 field.A0 (λ text. refl) can.a0,
            (
              needs hex64_of value.Hex64 field.A1 (λ text. refl) can.a1,
              (
                needs hex64_of value.Hex64 field.A2 (λ text. refl) can.a2,
                (
                  needs hex64_of value.Hex64 field.A3 (λ text. refl) can.a3,
                  (
                    needs dec32_of value.Dec32 field.Ppid (λ text. refl) can.ppid,
                    (
                      needs dec32_of value.Dec32 field.Pid (λ text. refl) can.pid,
                      (
                        offers_text field.Exe can.exe,
                        tt,
                      ),
                    ),
                  ),
                ),
              ),
            ),
          ),
        ),
      ),
    ),
  )

  path_faultless : ReadablePath line → first_fault raw (rules_of kind.Path) ≡ None
  path_faultless can = none_first raw (rules_of kind.Path) (
    needs dec32_of value.Dec32 field.Item (λ text. refl) can.item,
    (
      needs text_of value.Text field.Name (λ text. refl) can.name,
      (
        offers dec64_of value.Dec64 field.Inode (λ text. refl) can.inode,
        (
          offers device_of value.Device field.Dev (λ text. refl) can.device,
          (
            word field.Nametype,
            (
              word field.Objtype,
              tt,
            ),
          ),
        ),
      ),
    ),
  )

  pair_faultless : ReadablePair line → first_fault raw (rules_of kind.FdPair) ≡ None
  pair_faultless can = none_first raw (rules_of kind.FdPair) (
    needs dec32_of value.Dec32 field.Fd0 (λ text. refl) can.first,
    (
      needs dec32_of value.Dec32 field.Fd1 (λ text. refl) can.second,
      tt,
    ),
  )

  -- a line whose fields can be read has no fault
  pub readable_faultless : (k : Kind) → IsReadable k line → first_fault raw (rules_of k) ≡ None
  readable_faultless kind.Syscall can = call_faultless can
  readable_faultless kind.Path can = path_faultless can
  readable_faultless kind.Cwd can = none_first raw (rules_of kind.Cwd) (needs text_of value.Text field.Cwd (λ text. refl) can, tt)
  readable_faultless kind.Sockaddr can = none_first raw (rules_of kind.Sockaddr) (needs bytes_of value.Bytes field.Saddr (λ text. refl) can, tt)
  readable_faultless kind.FdPair can = pair_faultless can
  readable_faultless kind.Mmap can = none_first raw (rules_of kind.Mmap) (needs handle_of value.Handle field.Fd (λ text. refl) can, tt)
  readable_faultless kind.Proctitle can = refl
  readable_faultless kind.Eoe can = refl
