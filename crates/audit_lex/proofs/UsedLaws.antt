-- A line is used exactly where it can be written as one.
use Rattle.std.proofs.Common.{◌≡◌, ◌∙◌, sym, refl, ap, ℕ, Bool, true, false, List, [], ◌∷◌, Option, None, Some, inl, inr, if◌then◌else◌}
use Rattle.std.specs.List.{list_all, AllByRecursion}
use Rattle.std.specs.Option.{option_or}
use Rattle.audit_lex.specs.Tokens.{NameValue, value_in, tokens_of, field_of}
use Rattle.audit_lex.specs.Header.{Head, head_of}
use Rattle.audit_lex.specs.Written.{IsHeaded}
use Rattle.audit_lex.specs.Pieces.{named_pieces}
use Rattle.audit_lex.specs.FieldTable.{name_of, rules_of}
use Rattle.audit_lex.specs.LineClass.{Used, Blank, spells, value_fault, fault_of, fault_in, first_fault, is_blank_byte, fields_class, kind_class, head_class, text_class}
use Rattle.audit_lex.specs.UsedLine.{IsSpelledBy, IsSpelledField, IsUsedLine}
use Rattle.audit_lex.specs.declared.fields.Kind.{Kind}
use Rattle.audit_lex.specs.declared.fields.Rule.{Rule}
use Rattle.audit_lex.specs.declared.faults.LineFault.{LineFault}
use Rattle.audit_lex.specs.declared.faults.LineFault.TheVariants as fault
use Rattle.audit_lex.specs.declared.header.EventKey.{EventKey}
use Rattle.audit_lex.proofs.HeaderLaws.{read_where_written, written_where_read}
use Rattle.audit_lex.proofs.PieceLaws.{tokens_of_pieces}
use Rattle.audit_lex.proofs.WrittenPieces.{pieces_written}
use Rattle.audit_lex.proofs.ReadableLemmas.{faultless, or_none}

-- ---- one field

no_must : (must : Bool) (f : LineFault) → (if must then Some f else None) ≡ None → must ≡ false
no_must true f none = cc none
no_must false f none = refl

passed : (test : Bool) (f : LineFault) → (if test then None else Some f) ≡ None → test ≡ true
passed true f none = refl
passed false f none = cc none

pub spelled_without_fault : (rule : Rule) (found : Option (List ℕ)) → fault_of rule found ≡ None → IsSpelledBy rule found
spelled_without_fault rule None none = no_must rule.must (fault.Missing rule.field) none
spelled_without_fault rule (Some value) none = passed (spells rule.value value) (value_fault rule.value rule.field) none

pub no_fault_spelled : (rule : Rule) (found : Option (List ℕ)) → IsSpelledBy rule found → fault_of rule found ≡ None
no_fault_spelled rule None is = rw is refl
no_fault_spelled rule (Some value) is = rw is refl

-- ---- all fields

pub all_spelled : (tokens : List NameValue) (raw : List ℕ) (rules : List Rule) → tokens_of raw ≡ tokens → first_fault raw rules ≡ None → AllByRecursion (IsSpelledField tokens) rules
all_spelled tokens raw [] is none = tt
all_spelled tokens raw (rule ∷ rules) is none =
    let parts = or_none (fault_in raw rule) (first_fault raw rules) none in
    let found : field_of raw (name_of rule.field) ≡ value_in tokens (name_of rule.field) = ap (λ ts. value_in ts (name_of rule.field)) is in
    (spelled_without_fault rule (value_in tokens (name_of rule.field)) (ap (fault_of rule) (sym found) ∙ parts.0), all_spelled tokens raw rules is parts.1)

both_none : (a b : Option LineFault) → a ≡ None → b ≡ None → option_or a b ≡ None
both_none a b none later = rw none later

none_faulty : (tokens : List NameValue) (raw : List ℕ) (rules : List Rule) → tokens_of raw ≡ tokens → AllByRecursion (IsSpelledField tokens) rules → first_fault raw rules ≡ None
none_faulty tokens raw [] is all = refl
none_faulty tokens raw (rule ∷ rules) is all =
    let found : field_of raw (name_of rule.field) ≡ value_in tokens (name_of rule.field) = ap (λ ts. value_in ts (name_of rule.field)) is in
    both_none (fault_in raw rule) (first_fault raw rules) (ap (fault_of rule) found ∙ no_fault_spelled rule (value_in tokens (name_of rule.field)) all.0) (none_faulty tokens raw rules is all.1)

-- ---- the line

-- a line with a header isn't blank
pub headed_not_blank : (line : List ℕ) (head : Head) → IsHeaded line head → list_all is_blank_byte line ≡ false
headed_not_blank line head is =
    let p = is.parts in
    elim is.node [
      | inl none ↦ rw is.written (rw none refl)
      | inr node ↦ rw is.written (rw node.3 refl)
    ]

pub used_is_written : (line : List ℕ) (key : EventKey) (k : Kind) → text_class line ≡ Used key k → IsUsedLine line key k
used_is_written line key k is =
    let found = faultless line key k is in
    let pieces = pieces_written found.head.raw in
    record {
      head = found.head;
      headed = written_where_read line found.head found.is;
      key_is = found.key_is;
      kind_is = found.kind_is;
      pieces = pieces.pieces;
      are_pieces = pieces.are;
      raw = pieces.whole;
      fields = all_spelled (named_pieces pieces.pieces) found.head.raw (rules_of k) (ap tokens_of pieces.whole ∙ tokens_of_pieces pieces.pieces pieces.are) found.none;
    }

pub written_is_used : (line : List ℕ) (key : EventKey) (k : Kind) → IsUsedLine line key k → text_class line ≡ Used key k
written_is_used line key k is =
    let tokens : tokens_of is.head.raw ≡ named_pieces is.pieces = ap tokens_of is.raw ∙ tokens_of_pieces is.pieces is.are_pieces in
    let blank = headed_not_blank line is.head is.headed in
    let head = read_where_written line is.head is.headed in
    let none = none_faulty (named_pieces is.pieces) is.head.raw (rules_of k) tokens is.fields in
    ap (λ test. if test then Blank else head_class (head_of line)) blank
    ∙ ap head_class head
    ∙ ap (kind_class is.head) is.kind_is
    ∙ ap (fields_class is.head k) none
    ∙ ap (λ key. Used key k) is.key_is
