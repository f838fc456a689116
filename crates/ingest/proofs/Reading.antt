-- The record of a line is the one that it spells.
use Rattle.std.proofs.Common.{◌≡◌, ◌≤◌, ◌∙◌, sym, refl, ap, subst, ℕ, Bool, true, false, List, [], length, arith, Option, None, Some, if◌then◌else◌}
use Rattle.std.proofs.lemmas.Grind.{common_steps}
use Rattle.audit_lex.specs.History.{is_long}
use Rattle.audit_lex.specs.LineClass.{Class, Used, Other, Blank, Malformed, text_class, class_of}
use Rattle.audit_lex.specs.Scanning.{IsUnused}
use Rattle.audit_lex.specs.declared.faults.LineFault.TheVariants as fault
use Rattle.audit_lex.specs.declared.fields.Kind.{Kind}
use Rattle.audit_lex.specs.declared.fields.Kind.TheVariants as kind
use Rattle.audit_lex.specs.declared.header.EventKey.{EventKey}
use Rattle.audit_record.specs.Records.{Spells, IsUsed}
use Rattle.audit_record.specs.declared.types.Body.TheVariants as body
use Rattle.audit_record.specs.declared.types.Record.{Record}
use Rattle.audit_lex.proofs.ReadableLemmas.{used_within}
use Rattle.audit_record.proofs.SpellingLaws.{one_record, used_spells, spelled_is_used, spells_where_used}
use Rattle.record_join.specs.Keys.{EndsAt}
use Rattle.audit_record.specs.Reading.{is_end, GivesEntry}
use Rattle.ingest.specs.Entries.{IsEntered, IsGiven}
use Rattle.audit_record.specs.declared.types.Read.{Read}
use Rattle.audit_record.specs.declared.types.Read.TheVariants as read
use Rattle.ingest.specs.LineRecords.{record_by, record_of}

not_used : (line : List ℕ) (class : Class) (made : Record) → text_class line ≡ class → ((key : EventKey) (kind : Kind) → class ≡ Used key kind → ⊥) → Spells line made → ⊥
not_used line class made is none spelled =
    let used : IsUsed line made.key = spelled_is_used line made spelled in
    none made.key used.0 (sym is ∙ used.1)

some_by : (line : List ℕ) (class : Class) (is : text_class line ≡ class) (made : Record) → Spells line made → record_by line class is ≡ Some made
some_by line (Used key kind) is made spelled =
    let own = used_spells line key (kind, is) in
    ap Some (one_record line own.0 made own.1 spelled)
some_by line Other is made spelled = absurd (not_used line Other made is (λ key kind e. cc e) spelled)
some_by line Blank is made spelled = absurd (not_used line Blank made is (λ key kind e. cc e) spelled)
some_by line (Malformed f) is made spelled = absurd (not_used line (Malformed f) made is (λ key kind e. cc e) spelled)

inner : {A : Type 0} (a b : A) → Some a ≡ Some b → a ≡ b
inner a b e = cc e

spelled_by : (line : List ℕ) (class : Class) (is : text_class line ≡ class) (made : Record) → record_by line class is ≡ Some made → Spells line made
spelled_by line (Used key kind) is made e =
    let own = used_spells line key (kind, is) in
    subst (λ (r : Record). Spells line r) (inner own.0 made e) own.1
spelled_by line Other is made e = absurd (cc e)
spelled_by line Blank is made e = absurd (cc e)
spelled_by line (Malformed f) is made e = absurd (cc e)

module _ (line : List ℕ) where
  abbrev if_short : Bool → Option Record
  if_short long = record_by (if long then [] else line) (text_class (if long then [] else line)) refl

  abbrev class_if : Bool → Class
  class_if long = if long then Malformed fault.TooLong else text_class line

  some_if : (long : Bool) (made : Record) → long ≡ false → Spells line made → if_short long ≡ Some made
  some_if true made short spelled = absurd (cc short)
  some_if false made short spelled = some_by line (text_class line) refl made spelled

  used_if : (long : Bool) (key : EventKey) (kind : Kind) → class_if long ≡ Used key kind → long ≡ false
  used_if true key kind e = absurd (cc e)
  used_if false key kind e = refl

  spelled_if : (long : Bool) (made : Record) → if_short long ≡ Some made → (long ≡ false) × Spells line made
  spelled_if true made e = absurd (cc e)
  spelled_if false made e = (refl, spelled_by line (text_class line) refl made e)

pub reads_used : (limit : ℕ) (line : List ℕ) (key : EventKey) (kind : Kind) (made : Record) → class_of limit line ≡ Used key kind → Spells line made → record_of limit line ≡ Some made
reads_used limit line key kind made class spelled = some_if line (is_long limit line) made (used_if line (is_long limit line) key kind class) spelled

-- a line that ends its event spells the record of an end
pub end_spelled : (line : List ℕ) (key : EventKey) (k : Kind) → text_class line ≡ Used key k → is_end k ≡ true → (item : Record) × Spells line item × EndsAt key item
end_spelled line key kind.Proctitle is end =
    (record { key = key; line = line; body = body.Proctitle }, spells_where_used line key kind.Proctitle line body.Proctitle is refl tt, record { key_is = refl; ends = refl })
end_spelled line key kind.Eoe is end =
    (record { key = key; line = line; body = body.Eoe }, spells_where_used line key kind.Eoe line body.Eoe is refl tt, record { key_is = refl; ends = refl })
end_spelled line key kind.Syscall is end = absurd (cc end)
end_spelled line key kind.Path is end = absurd (cc end)
end_spelled line key kind.Cwd is end = absurd (cc end)
end_spelled line key kind.Sockaddr is end = absurd (cc end)
end_spelled line key kind.FdPair is end = absurd (cc end)
end_spelled line key kind.Mmap is end = absurd (cc end)

record_entered : (item : Record) (said : Option Record) → IsEntered read.Record item said → said ≡ Some item
record_entered item said came = came.spelled ∙ ap Some (sym came.gives)

-- of a line of which a record was read
pub record_given : (given : Read) (item : Record) (said : Option Record) → given ≡ read.Record → IsGiven given item said → said ≡ Some item
record_given given item said is so = record_entered item said (subst (λ (r : Read). IsGiven r item said) is so)

-- of a line of which an end was read
pub end_given : (given : Read) (key : EventKey) (item : Record) (said : Option Record) → given ≡ read.End key → IsGiven given item said → IsEntered (read.End key) item said
end_given given key item said is so = subst (λ (r : Read). IsGiven r item said) is so

-- of a line of which nothing was read
pub none_given : (given : Read) (item : Record) (said : Option Record) → given ≡ read.Unused → IsGiven given item said → said ≡ None
none_given given item said is so = subst (λ (r : Read). IsGiven r item said) is so

short_so : (limit : ℕ) (line : List ℕ) → is_long limit line ≡ false → length line ≤ limit
short_so limit line e = grind (arith, common_steps, e)

so_short : (limit : ℕ) (line : List ℕ) → length line ≤ limit → is_long limit line ≡ false
so_short limit line e = grind (arith, common_steps, e)

pub spelled_to : (limit : ℕ) (line : List ℕ) (made : Record) → record_of limit line ≡ Some made → (length line ≤ limit) × Spells line made
spelled_to limit line made e =
    let both = spelled_if line (is_long limit line) made e in
    (short_so limit line both.0, both.1)

pub spelled_from : (limit : ℕ) (line : List ℕ) (made : Record) → (length line ≤ limit) × Spells line made → record_of limit line ≡ Some made
spelled_from limit line made both = some_if line (is_long limit line) made (so_short limit line both.0) both.1

class_short : (line : List ℕ) (long : Bool) → long ≡ false → class_if line long ≡ text_class line
class_short line true short = absurd (cc short)
class_short line false short = refl

-- a line whose record is read is a used one
pub used_class : (limit : ℕ) (line : List ℕ) (made : Record) → record_of limit line ≡ Some made → (kind : Kind) × (class_of limit line ≡ Used made.key kind)
used_class limit line made e =
    let both = spelled_if line (is_long limit line) made e in
    let used : IsUsed line made.key = spelled_is_used line made both.1 in
    (used.0, class_short line (is_long limit line) both.0 ∙ used.1)

-- ---- what a line gives

none_made : (limit : ℕ) (line : List ℕ) (said : Option Record) → record_of limit line ≡ said → IsUnused limit line → said ≡ None
none_made limit line None is unused = refl
none_made limit line (Some made) is unused =
    let used = used_class limit line made is in absurd (unused made.key used.0 used.1)

-- what was read of a line is what it gives the joiner
pub entry_given : (limit : ℕ) (line : List ℕ) (given : Read) (item : Record) → GivesEntry limit line given item → IsGiven given item (record_of limit line)
entry_given limit line read.Unused item unused = none_made limit line (record_of limit line) refl unused
entry_given limit line read.Record item given =
    record { made = item; spelled = reads_used limit line given.key given.kind item given.used given.gives.1; gives = refl }
entry_given limit line (read.End ended) item given =
    let text = used_within limit line given.key given.kind given.used in
    let made = end_spelled line given.key given.kind text given.gives.0 in
    record {
      made = made.0;
      spelled = reads_used limit line given.key given.kind made.0 given.used made.1;
      gives = subst (λ (key : EventKey). EndsAt key made.0) (sym given.gives.1) made.2;
    }

no_text : (long : Bool) → if_short [] long ≡ None
no_text true = refl
no_text false = refl

-- an empty line gives nothing
pub empty_given : (limit : ℕ) (line : List ℕ) → line ≡ [] → record_of limit line ≡ None
empty_given limit line is = ap (record_of limit) is ∙ no_text (is_long limit [])
