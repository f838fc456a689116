-- The one place of a field in a table.
use Rattle.std.proofs.Common.{◌≡◌, ◌↔◌, ◌∙◌, sym, refl, ap, ℕ, zero, suc, ◌+◌, ◌<◌, ◌≤◌, List, [], ◌∷◌, length, map, get_or, Option, None, Some, option_map, Bool, true, nat_lt, arith}
use Rattle.std.specs.Option.{IfSome, option_and_then}
use Rattle.std.proofs.lemmas.Bool.{ltb-true}
use Rattle.audit_lex.specs.FieldNames.{field_called}
use Rattle.audit_lex.specs.FieldTable.{name_of, slot_rules, may}
use Rattle.audit_lex.specs.Slots.{names_of}
use Rattle.audit_lex.specs.TablePlaces.{place_in}
use Rattle.audit_lex.specs.declared.fields.Kind.{Kind}
use Rattle.audit_lex.specs.declared.fields.Kind.TheVariants as kind
use Rattle.audit_lex.specs.declared.fields.Field.{Field}
use Rattle.audit_lex.specs.declared.fields.Field.TheVariants as field
use Rattle.audit_lex.specs.declared.fields.ValueKind.TheVariants as value
use Rattle.audit_lex.specs.declared.fields.Rule.{Rule}
use Rattle.audit_lex.proofs.FieldLemmas.{same_name, not_named, exact_field}

-- the rule at a place
abbrev rule_at : Kind → ℕ → Rule
rule_at k place = get_or (slot_rules k) place (may field.Arch value.Dec32)

-- ---- the place of each rule's field

numbered : ℕ → List Rule → List (Option ℕ)
numbered from [] = []
numbered from (rule ∷ rules) = Some from ∷ numbered (from + 1) rules

numbered_at : (from : ℕ) (rules : List Rule) (place : ℕ) → place < length rules → get_or (numbered from rules) place None ≡ Some (from + place)
unfolding numbered
numbered_at from [] place below = absurd (omega arith)
numbered_at from (rule ∷ rules) zero below = ap Some (omega arith)
numbered_at from (rule ∷ rules) (suc place) below = numbered_at (from + 1) rules place (omega arith) ∙ ap Some (omega arith)

places : (k : Kind) → map (λ rule. place_in k rule.field) (slot_rules k) ≡ numbered 0 (slot_rules k)
unfolding numbered
places kind.Syscall = refl
places kind.Path = refl
places kind.Cwd = refl
places kind.Sockaddr = refl
places kind.FdPair = refl
places kind.Mmap = refl
places kind.Proctitle = refl
places kind.Eoe = refl

mapped_at : {A : Type 0} (f : Rule → A) (rules : List Rule) (place : ℕ) (a : A) → place < length rules
    → get_or (map f rules) place a ≡ f (get_or rules place (may field.Arch value.Dec32))
mapped_at f [] place a below = absurd (omega arith)
mapped_at f (rule ∷ rules) zero a below = refl
mapped_at f (rule ∷ rules) (suc place) a below = mapped_at f rules place a (omega arith)

pub place_there : (k : Kind) (place : ℕ) → place < length (slot_rules k) → place_in k (rule_at k place).field ≡ Some place
place_there k place below =
    sym (mapped_at (λ rule. place_in k rule.field) (slot_rules k) place None below)
    ∙ ap (λ xs. get_or xs place None) (places k) ∙ numbered_at 0 (slot_rules k) place below ∙ ap Some (omega arith)

name_at : (k : Kind) (place : ℕ) → place < length (slot_rules k) → get_or (names_of (slot_rules k)) place [] ≡ name_of (rule_at k place).field
name_at k place below = mapped_at (λ rule. name_of rule.field) (slot_rules k) place [] below

-- ---- the field of each place

-- each field
fields : List Field
fields = field.Arch ∷ field.Syscall ∷ field.Success ∷ field.Exit ∷ field.A0 ∷ field.A1 ∷ field.A2 ∷ field.A3 ∷ field.Ppid ∷ field.Pid ∷ field.Exe ∷ field.Item ∷ field.Name ∷ field.Inode ∷ field.Dev ∷ field.Nametype ∷ field.Objtype ∷ field.Cwd ∷ field.Saddr ∷ field.Fd0 ∷ field.Fd1 ∷ field.Fd ∷ []

-- two functions that agree on the list agree on each field
agree : {A : Type 0} (f g : Field → A) → map f fields ≡ map g fields → (x : Field) → f x ≡ g x
unfolding fields
agree f g same field.Arch = ap (λ xs. get_or xs 0 (f field.Arch)) same
agree f g same field.Syscall = ap (λ xs. get_or xs 1 (f field.Arch)) same
agree f g same field.Success = ap (λ xs. get_or xs 2 (f field.Arch)) same
agree f g same field.Exit = ap (λ xs. get_or xs 3 (f field.Arch)) same
agree f g same field.A0 = ap (λ xs. get_or xs 4 (f field.Arch)) same
agree f g same field.A1 = ap (λ xs. get_or xs 5 (f field.Arch)) same
agree f g same field.A2 = ap (λ xs. get_or xs 6 (f field.Arch)) same
agree f g same field.A3 = ap (λ xs. get_or xs 7 (f field.Arch)) same
agree f g same field.Ppid = ap (λ xs. get_or xs 8 (f field.Arch)) same
agree f g same field.Pid = ap (λ xs. get_or xs 9 (f field.Arch)) same
agree f g same field.Exe = ap (λ xs. get_or xs 10 (f field.Arch)) same
agree f g same field.Item = ap (λ xs. get_or xs 11 (f field.Arch)) same
agree f g same field.Name = ap (λ xs. get_or xs 12 (f field.Arch)) same
agree f g same field.Inode = ap (λ xs. get_or xs 13 (f field.Arch)) same
agree f g same field.Dev = ap (λ xs. get_or xs 14 (f field.Arch)) same
agree f g same field.Nametype = ap (λ xs. get_or xs 15 (f field.Arch)) same
agree f g same field.Objtype = ap (λ xs. get_or xs 16 (f field.Arch)) same
agree f g same field.Cwd = ap (λ xs. get_or xs 17 (f field.Arch)) same
agree f g same field.Saddr = ap (λ xs. get_or xs 18 (f field.Arch)) same
agree f g same field.Fd0 = ap (λ xs. get_or xs 19 (f field.Arch)) same
agree f g same field.Fd1 = ap (λ xs. get_or xs 20 (f field.Arch)) same
agree f g same field.Fd = ap (λ xs. get_or xs 21 (f field.Arch)) same

-- the field at the place that was found
back : (k : Kind) → Field → Option Field
back k f = option_map (λ place. (rule_at k place).field) (place_in k f)

own : (k : Kind) → Field → Option Field
own k f = option_map (λ place. f) (place_in k f)

backs : (k : Kind) → map (back k) fields ≡ map (own k) fields
unfolding back own fields
backs kind.Syscall = refl
backs kind.Path = refl
backs kind.Cwd = refl
backs kind.Sockaddr = refl
backs kind.FdPair = refl
backs kind.Mmap = refl
backs kind.Proctitle = refl
backs kind.Eoe = refl

same_some : (f g : Field) → Some f ≡ Some g → f ≡ g
same_some f g is = cc

field_there : (k : Kind) (f : Field) (place : ℕ) → place_in k f ≡ Some place → (rule_at k place).field ≡ f
unfolding back own
field_there k f place is =
    same_some _ _ (sym (ap (option_map (λ place. (rule_at k place).field)) is) ∙ agree (back k) (own k) (backs k) f ∙ ap (option_map (λ place. f)) is)

-- exactly one place asks for a field's name
pub exact_place : (k : Kind) (f : Field) (place : ℕ) → place < length (slot_rules k) → (place_in k f ≡ Some place) ↔ (get_or (names_of (slot_rules k)) place [] ≡ name_of f)
exact_place k f place below = (
  λ is. name_at k place below ∙ ap name_of (field_there k f place is),
  λ is. ap (place_in k) (sym (same_name (rule_at k place).field f (sym (name_at k place below) ∙ is))) ∙ place_there k place below,
)

none_some : (place : ℕ) → None ≡ Some place → ⊥
none_some place is = cc

-- a name of no field has no place
pub no_field_place : (k : Kind) (name : List ℕ) (place : ℕ) → ((f : Field) → (None ≡ Some f) ↔ (name_of f ≡ name)) → place < length (slot_rules k)
    → (None ≡ Some place) ↔ (get_or (names_of (slot_rules k)) place [] ≡ name)
no_field_place k name place never below = (
  λ is. absurd (none_some place is),
  λ is. absurd (not_named name never (rule_at k place).field (sym (name_at k place below) ∙ is)),
)

-- the place of a name's field, where it has one
pub named_place : (k : Kind) (name : List ℕ) (called : Option Field) (place : ℕ) → field_called name ≡ called → place < length (slot_rules k)
    → (option_and_then (place_in k) called ≡ Some place) ↔ (get_or (names_of (slot_rules k)) place [] ≡ name)
named_place k name None place is below =
    no_field_place k name place (λ f. (λ none. (exact_field name f).0 (is ∙ none), λ named. sym is ∙ (exact_field name f).1 named)) below
named_place k name (Some f) place is below =
    let named = (exact_field name f).0 is in
    let exact = exact_place k f place below in
    (λ there. exact.0 there ∙ named, λ there. exact.1 (there ∙ sym named))

-- ---- within the table

inside : (k : Kind) → Field → Option Bool
inside k f = option_map (λ place. nat_lt place (length (slot_rules k))) (place_in k f)

always : (k : Kind) → Field → Option Bool
always k f = option_map (λ place. true) (place_in k f)

insides : (k : Kind) → map (inside k) fields ≡ map (always k) fields
unfolding inside always fields
insides kind.Syscall = refl
insides kind.Path = refl
insides kind.Cwd = refl
insides kind.Sockaddr = refl
insides kind.FdPair = refl
insides kind.Mmap = refl
insides kind.Proctitle = refl
insides kind.Eoe = refl

same_value : (a b : Bool) → Some a ≡ Some b → a ≡ b
same_value a b is = cc

if_inside : (place : Option ℕ) (size : ℕ) → option_map (λ place. nat_lt place size) place ≡ option_map (λ place. true) place → IfSome place (λ place. place < size)
if_inside None size is = tt
if_inside (Some place) size is = ltb-true place size (same_value _ _ is)

-- each place is one of the table
pub place_within : (k : Kind) (f : Field) → IfSome (place_in k f) (λ place. place < length (slot_rules k))
unfolding inside always
place_within k f = if_inside (place_in k f) (length (slot_rules k)) (agree (inside k) (always k) (insides k) f)

pub named_within : (k : Kind) (called : Option Field) → IfSome (option_and_then (place_in k) called) (λ place. place < length (slot_rules k))
named_within k None = tt
named_within k (Some f) = place_within k f

-- no table is longer than the slots
pub tables_fit : (k : Kind) → length (slot_rules k) ≤ 11
tables_fit kind.Syscall = omega arith
tables_fit kind.Path = omega arith
tables_fit kind.Cwd = omega arith
tables_fit kind.Sockaddr = omega arith
tables_fit kind.FdPair = omega arith
tables_fit kind.Mmap = omega arith
tables_fit kind.Proctitle = omega arith
tables_fit kind.Eoe = omega arith
