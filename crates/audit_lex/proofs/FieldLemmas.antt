-- The field of a name, both ways.
use Rattle.std.proofs.Common.{◌≡◌, ◌≢◌, ◌↔◌, ◌∙◌, sym, refl, ap, ℕ, List, length, take, drop, arith, ◌==◌, Bool, true, false, Option, None, Some, is_some, option_map, if◌then◌else◌}
use Rattle.std.specs.Str.{bytes_eq}
use Rattle.std.proofs.lemmas.Slice.Eq.{bytes_eq-Decides}
use Rattle.std.proofs.lemmas.Bool.{eqb-false, false_from_ne_true}
use Rattle.std.proofs.lemmas.List.{take_all}
use Rattle.audit_lex.specs.Header.{behind}
use Rattle.audit_lex.specs.FieldTable.{name_of}
use Rattle.audit_lex.specs.FieldNames.{field_called, by_two, by_three, by_four, by_five, by_seven, by_eight}
use Rattle.audit_lex.specs.declared.fields.Field.{Field}
use Rattle.audit_lex.specs.declared.fields.Field.TheVariants as field

-- each name is called by its own field
called : (f : Field) → field_called (name_of f) ≡ Some f
called field.Arch = refl
called field.Syscall = refl
called field.Success = refl
called field.Exit = refl
called field.A0 = refl
called field.A1 = refl
called field.A2 = refl
called field.A3 = refl
called field.Ppid = refl
called field.Pid = refl
called field.Exe = refl
called field.Item = refl
called field.Name = refl
called field.Inode = refl
called field.Dev = refl
called field.Nametype = refl
called field.Objtype = refl
called field.Cwd = refl
called field.Saddr = refl
called field.Fd0 = refl
called field.Fd1 = refl
called field.Fd = refl

chosen : (test : Bool) (a b : Option Field) (f : Field) (Goal : Type 0) → (test ≡ true → a ≡ Some f → Goal) → (b ≡ Some f → Goal) → (if test then a else b) ≡ Some f → Goal
chosen true a b f Goal here later is = here refl is
chosen false a b f Goal here later is = later is

same_field : (g f : Field) → Some g ≡ Some f → g ≡ f
same_field g f is = cc

-- one name more
or_else : (name : List ℕ) (g f : Field) (rest : Option Field) → (rest ≡ Some f → name_of f ≡ name) → (if bytes_eq name (name_of g) then Some g else rest) ≡ Some f → name_of f ≡ name
or_else name g f rest later = chosen (bytes_eq name (name_of g)) (Some g) rest f (name_of f ≡ name)
    (λ same is. ap name_of (sym (same_field g f is)) ∙ sym ((bytes_eq-Decides name (name_of g)).0 same)) later

no_field : (name : List ℕ) (f : Field) → None ≡ Some f → name_of f ≡ name
no_field name f is = cc

two : (name : List ℕ) (f : Field) → by_two name ≡ Some f → name_of f ≡ name
two name f =
    or_else name field.A0 f _ (or_else name field.A1 f _ (or_else name field.A2 f _ (or_else name field.A3 f _ (or_else name field.Fd f _ (no_field name f)))))

three : (name : List ℕ) (f : Field) → by_three name ≡ Some f → name_of f ≡ name
three name f =
    or_else name field.Pid f _ (or_else name field.Exe f _ (or_else name field.Dev f _ (or_else name field.Cwd f _ (or_else name field.Fd0 f _ (or_else name field.Fd1 f _ (no_field name f))))))

four : (name : List ℕ) (f : Field) → by_four name ≡ Some f → name_of f ≡ name
four name f =
    or_else name field.Arch f _ (or_else name field.Exit f _ (or_else name field.Ppid f _ (or_else name field.Item f _ (or_else name field.Name f _ (no_field name f)))))

five : (name : List ℕ) (f : Field) → by_five name ≡ Some f → name_of f ≡ name
five name f =
    or_else name field.Inode f _ (or_else name field.Saddr f _ (no_field name f))

seven : (name : List ℕ) (f : Field) → by_seven name ≡ Some f → name_of f ≡ name
seven name f =
    or_else name field.Syscall f _ (or_else name field.Success f _ (or_else name field.Objtype f _ (no_field name f)))

eight : (name : List ℕ) (f : Field) → by_eight name ≡ Some f → name_of f ≡ name
eight name f =
    or_else name field.Nametype f _ (no_field name f)

named : (name : List ℕ) (f : Field) → field_called name ≡ Some f → name_of f ≡ name
named name f =
    let Goal : Type 0 = name_of f ≡ name in
    chosen (length name == 2) (by_two name) _ f Goal (λ _. two name f) (chosen (length name == 3) (by_three name) _ f Goal (λ _. three name f) (chosen (length name == 4) (by_four name) _ f Goal (λ _. four name f) (chosen (length name == 5) (by_five name) _ f Goal (λ _. five name f) (chosen (length name == 7) (by_seven name) _ f Goal (λ _. seven name f) (chosen (length name == 8) (by_eight name) _ f Goal (λ _. eight name f) (no_field name f))))))

pub exact_field : (name : List ℕ) (f : Field) → (field_called name ≡ Some f) ↔ (name_of f ≡ name)
exact_field name f = (named name f, λ is. ap field_called (sym is) ∙ called f)

-- fields of one name are one
pub same_name : (g f : Field) → name_of g ≡ name_of f → g ≡ f
same_name g f is = same_field g f (sym (called g) ∙ ap field_called is ∙ called f)

-- where no field has the name, none is found
pub not_named : (name : List ℕ) → ((f : Field) → (None ≡ Some f) ↔ (name_of f ≡ name)) → (f : Field) → name_of f ≢ name
not_named name never f is = let some = (never f).1 is in cc

-- ---- whole names

text_if : {A : Type 0} (begins : Bool) (rest : A) → is_some (if begins then Some rest else None) ≡ begins
text_if true rest = refl
text_if false rest = refl

mapped : {A B : Type 0} (f : A → B) (found : Option A) → is_some found ≡ is_some (option_map f found)
mapped f None = refl
mapped f (Some it) = refl

-- a text as long as a name that it begins with is the name
pub whole_name : {A : Type 0} (f : A → List ℕ) (found : Option A) (text name : List ℕ) → length text ≡ length name → option_map f found ≡ behind name text → is_some found ≡ bytes_eq text name
whole_name f found text name long is =
    mapped f found ∙ ap (λ (o : Option (List ℕ)). is_some o) is ∙ text_if (bytes_eq (take (length name) text) name) (drop (length name) text)
    ∙ ap (λ (front : List ℕ). bytes_eq front name) (take_all (length name) text (omega (arith, long)))

-- names of different lengths differ
pub other_length : (text name : List ℕ) → (length text == length name) ≡ false → bytes_eq text name ≡ false
other_length text name differs = false_from_ne_true (bytes_eq text name) (λ same. eqb-false _ _ differs (ap length ((bytes_eq-Decides text name).0 same)))
