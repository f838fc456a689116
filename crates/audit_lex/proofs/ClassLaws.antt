-- A line has a class exactly where it can be written as one of that class.
use Rattle.std.proofs.Common.{◌≡◌, ◌∙◌, sym, refl, ap, subst, ℕ, Bool, true, false, List, [], ◌∷◌, ◌++◌, length, Option, None, Some, inl, inr, if◌then◌else◌}
use Rattle.std.specs.List.{list_all, AllByRecursion}
use Rattle.std.specs.Option.{option_or}
use Rattle.std.proofs.lemmas.Bool.{ltb-true, lt-ltb, le-ltb, ltb-false, both_ways}
use Rattle.audit_lex.specs.History.{is_long}
use Rattle.audit_lex.specs.Tokens.{NameValue, value_in, tokens_of}
use Rattle.audit_lex.specs.Header.{Head, head_of}
use Rattle.audit_lex.specs.Written.{IsHeaded}
use Rattle.audit_lex.specs.Pieces.{named_pieces}
use Rattle.audit_lex.specs.FieldTable.{name_of, kind_of, rules_of}
use Rattle.audit_lex.specs.LineClass.{Class, Used, Other, Blank, Malformed, fault_of, fault_in, first_fault, is_blank_byte, fields_class, kind_class, head_class, text_class, class_of}
use Rattle.audit_lex.specs.UsedLine.{IsSpelledField}
use Rattle.audit_lex.specs.Classes.{IsHeaderless, IsFaultyLine, IsOfTextClass, IsOfClass}
use Rattle.audit_lex.specs.declared.fields.Kind.{Kind}
use Rattle.audit_lex.specs.declared.fields.Rule.{Rule}
use Rattle.audit_lex.specs.declared.faults.LineFault.{LineFault}
use Rattle.audit_lex.specs.declared.faults.LineFault.TheVariants as fault
use Rattle.audit_lex.proofs.HeaderLaws.{read_where_written, written_where_read}
use Rattle.audit_lex.proofs.PieceLaws.{tokens_of_pieces}
use Rattle.audit_lex.proofs.WrittenPieces.{pieces_written}
use Rattle.audit_lex.proofs.UsedLaws.{headed_not_blank, used_is_written, written_is_used, no_fault_spelled, spelled_without_fault}

-- ---- the first fault

-- the first rule of a table that the tokens don't meet
pub record FirstFaulty (tokens : List NameValue) (rules : List Rule) (fault : LineFault) : Type 0 where
  pub before : List Rule
  pub rule : Rule
  pub after : List Rule
  pub table : rules ≡ before ++ rule ∷ after
  pub spelled : AllByRecursion (IsSpelledField tokens) before
  pub faulty : fault_of rule (value_in tokens (name_of rule.field)) ≡ Some fault

later_fault : (tokens : List NameValue) (first : Rule) (rules : List Rule) (fault : LineFault) → IsSpelledField tokens first → FirstFaulty tokens rules fault → FirstFaulty tokens (first ∷ rules) fault
later_fault tokens first rules fault is later = record {
  before = first ∷ later.before;
  rule = later.rule;
  after = later.after;
  table = ap (λ rest. first ∷ rest) later.table;
  spelled = (is, later.spelled);
  faulty = later.faulty;
}

find_by : (tokens : List NameValue) (raw : List ℕ) (rule : Rule) (rules : List Rule) (fault : LineFault) (found : Option LineFault)
    → (first_fault raw rules ≡ Some fault → FirstFaulty tokens rules fault)
    → fault_of rule (value_in tokens (name_of rule.field)) ≡ found → option_or found (first_fault raw rules) ≡ Some fault → FirstFaulty tokens (rule ∷ rules) fault
find_by tokens raw rule rules fault None later none first =
    later_fault tokens rule rules fault (spelled_without_fault rule (value_in tokens (name_of rule.field)) none) (later first)
find_by tokens raw rule rules fault (Some this) later some first = record { before = []; rule = rule; after = rules; table = refl; spelled = tt; faulty = some ∙ first }

find_first : (tokens : List NameValue) (raw : List ℕ) (rules : List Rule) (fault : LineFault) → tokens_of raw ≡ tokens → first_fault raw rules ≡ Some fault → FirstFaulty tokens rules fault
find_first tokens raw [] fault is first = cc first
find_first tokens raw (rule ∷ rules) fault is first =
    find_by tokens raw rule rules fault (fault_in raw rule) (find_first tokens raw rules fault is) (ap (λ ts. fault_of rule (value_in ts (name_of rule.field))) (sym is)) first

first_is : (tokens : List NameValue) (raw : List ℕ) (before : List Rule) (rule : Rule) (after : List Rule) (fault : LineFault) → tokens_of raw ≡ tokens
    → AllByRecursion (IsSpelledField tokens) before → fault_of rule (value_in tokens (name_of rule.field)) ≡ Some fault → first_fault raw (before ++ rule ∷ after) ≡ Some fault
first_is tokens raw [] rule after fault is spelled faulty =
    ap (λ found. option_or found (first_fault raw after)) (ap (λ ts. fault_of rule (value_in ts (name_of rule.field))) is ∙ faulty)
first_is tokens raw (earlier ∷ before) rule after fault is spelled faulty =
    let none : fault_in raw earlier ≡ None =
    ap (λ ts. fault_of earlier (value_in ts (name_of earlier.field))) is ∙ no_fault_spelled earlier (value_in tokens (name_of earlier.field)) spelled.0 in
    ap (λ found. option_or found (first_fault raw (before ++ rule ∷ after))) none ∙ first_is tokens raw before rule after fault is spelled.1 faulty

-- ---- a line that isn't too long

faulty_line : (line : List ℕ) (head : Head) (k : Kind) (fault : LineFault) → head_of line ≡ Some head → kind_of head.name ≡ Some k
    → first_fault head.raw (rules_of k) ≡ Some fault → IsFaultyLine line fault
faulty_line line head k fault found named first =
    let pieces = pieces_written head.raw in
    let this = find_first (named_pieces pieces.pieces) head.raw (rules_of k) fault (ap tokens_of pieces.whole ∙ tokens_of_pieces pieces.pieces pieces.are) first in
    record {
      head = head;
      headed = written_where_read line head found;
      kind = k;
      kind_is = named;
      pieces = pieces.pieces;
      are_pieces = pieces.are;
      raw = pieces.whole;
      before = this.before;
      rule = this.rule;
      after = this.after;
      table = this.table;
      spelled = this.spelled;
      faulty = this.faulty;
    }

of_fields : (line : List ℕ) (head : Head) (k : Kind) (found : Option LineFault) → list_all is_blank_byte line ≡ false → head_of line ≡ Some head → kind_of head.name ≡ Some k
    → first_fault head.raw (rules_of k) ≡ found → IsOfTextClass line (fields_class head k found)
of_fields line head k None blank found named none =
    used_is_written line head.key k
    (ap (λ test. if test then Blank else head_class (head_of line)) blank ∙ ap head_class found ∙ ap (kind_class head) named ∙ ap (fields_class head k) none)
of_fields line head k (Some fault) blank found named first = inr (faulty_line line head k fault found named first)

of_kind : (line : List ℕ) (head : Head) (k : Option Kind) → list_all is_blank_byte line ≡ false → head_of line ≡ Some head → kind_of head.name ≡ k → IsOfTextClass line (kind_class head k)
of_kind line head None blank found named = record { head = head; headed = written_where_read line head found; unread = named }
of_kind line head (Some k) blank found named = of_fields line head k (first_fault head.raw (rules_of k)) blank found named refl

headerless : (line : List ℕ) → head_of line ≡ None → (head : Head) → IsHeaded line head → ⊥
headerless line none head is = let some : Some head ≡ None = sym (read_where_written line head is) ∙ none in cc some

of_head : (line : List ℕ) (found : Option Head) → list_all is_blank_byte line ≡ false → head_of line ≡ found → IsOfTextClass line (head_class found)
of_head line None blank found = inl (refl, ((λ is. both_ways (list_all is_blank_byte line) blank is), headerless line found))
of_head line (Some head) blank found = of_kind line head (kind_of head.name) blank found refl

of_blank : (line : List ℕ) (blank : Bool) → list_all is_blank_byte line ≡ blank → IsOfTextClass line (if blank then Blank else head_class (head_of line))
of_blank line true is = is
of_blank line false is = of_head line (head_of line) is refl

text_class_holds : (line : List ℕ) → IsOfTextClass line (text_class line)
text_class_holds line = of_blank line (list_all is_blank_byte line) refl

-- ---- and it has no other class

after_header : (line : List ℕ) (head : Head) → IsHeaded line head → text_class line ≡ kind_class head (kind_of head.name)
after_header line head is =
    ap (λ test. if test then Blank else head_class (head_of line)) (headed_not_blank line head is) ∙ ap head_class (read_where_written line head is)

not_blank : (blank : Bool) → (blank ≡ true → ⊥) → blank ≡ false
not_blank true isnt = absurd (isnt refl)
not_blank false isnt = refl

no_head : (line : List ℕ) (found : Option Head) → head_of line ≡ found → ((head : Head) → IsHeaded line head → ⊥) → found ≡ None
no_head line None is none = refl
no_head line (Some head) is none = absurd (none head (written_where_read line head is))

headerless_class : (line : List ℕ) → IsHeaderless line → text_class line ≡ Malformed fault.Header
headerless_class line is =
    ap (λ test. if test then Blank else head_class (head_of line)) (not_blank (list_all is_blank_byte line) is.0)
    ∙ ap head_class (no_head line (head_of line) refl is.1)

faulty_class : (line : List ℕ) (f : LineFault) → IsFaultyLine line f → text_class line ≡ Malformed f
faulty_class line f is =
    let tokens : tokens_of is.head.raw ≡ named_pieces is.pieces = ap tokens_of is.raw ∙ tokens_of_pieces is.pieces is.are_pieces in
    after_header line is.head is.headed ∙ ap (kind_class is.head) is.kind_is
    ∙ ap (fields_class is.head is.kind) (ap (first_fault is.head.raw) is.table ∙ first_is (named_pieces is.pieces) is.head.raw is.before is.rule is.after f tokens is.spelled is.faulty)

text_class_is : (line : List ℕ) (class : Class) → IsOfTextClass line class → text_class line ≡ class
text_class_is line (Used key k) is = written_is_used line key k is
text_class_is line Other is = after_header line is.head is.headed ∙ ap (kind_class is.head) is.unread
text_class_is line Blank is = ap (λ test. if test then Blank else head_class (head_of line)) is
text_class_is line (Malformed f) is = elim is [
  | inl none ↦ headerless_class line none.1 ∙ ap Malformed (sym none.0)
  | inr faulty ↦ faulty_class line f faulty
]

-- ---- any line

holds_by : (limit : ℕ) (line : List ℕ) (long : Bool) → is_long limit line ≡ long → IsOfClass limit line (if long then Malformed fault.TooLong else text_class line)
holds_by limit line true is = inl (ltb-true limit (length line) is, refl)
holds_by limit line false is = inr (ltb-false limit (length line) is, text_class_holds line)

pub class_holds : (limit : ℕ) (line : List ℕ) (class : Class) → class_of limit line ≡ class → IsOfClass limit line class
class_holds limit line class is = subst (IsOfClass limit line) is (holds_by limit line (is_long limit line) refl)

pub class_is : (limit : ℕ) (line : List ℕ) (class : Class) → IsOfClass limit line class → class_of limit line ≡ class
class_is limit line class is = elim is [
  | inl long ↦ ap (λ test. if test then Malformed fault.TooLong else text_class line) (lt-ltb limit (length line) long.0) ∙ sym long.1
  | inr short ↦ ap (λ test. if test then Malformed fault.TooLong else text_class line) (le-ltb limit (length line) short.0) ∙ text_class_is line class short.1
]
