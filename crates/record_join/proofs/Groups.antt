-- Groups by key, after one step.
use Rattle.std.proofs.Common.{◌≡◌, Bool, true, false, cond, List, [], ◌∷◌, refl, sym, ◌∙◌, ap, Some, None}
use Rattle.std.specs.Map.{lookup}
use Rattle.record_join.proofs.Keys.{one_key}
use Rattle.record_join.specs.Keys.{is_key}
use Rattle.record_join.specs.StandsFor.{grown}
use Rattle.audit_lex.specs.declared.header.EventKey.{EventKey}
use Rattle.audit_record.specs.declared.types.Record.{Record}
use Rattle.record_join.specs.declared.group.Group.{Group}

-- cases on a test, with what it answered
pub by_test : {P : Type 0} (b : Bool) → (b ≡ true → P) → (b ≡ false → P) → P
by_test true f g = f refl
by_test false f g = g refl

pub on_true : {A : Type 0} (b : Bool) (x y : A) → b ≡ true → cond b x y ≡ x
on_true b x y e = ap (λ v. cond v x y) e

pub on_false : {A : Type 0} (b : Bool) (x y : A) → b ≡ false → cond b x y ≡ y
on_false b x y e = ap (λ v. cond v x y) e

-- a fact about the group of one key is one about the group of the same key
pub same_group : (k q : EventKey) (es : List (EventKey × Group)) → is_key k q ≡ true → lookup (is_key q) es ≡ lookup (is_key k) es
same_group k q es e = ap (λ key. lookup (is_key key) es) (sym (one_key k q e))

-- what a new group is where none waits
pub first_of_key : (k q : EventKey) (es : List (EventKey × Group)) (r : Record) → lookup (is_key k) es ≡ None
    → cond (is_key k q) (Some (grown None r)) (lookup (is_key q) es) ≡ cond (is_key k q) (Some (grown (lookup (is_key q) es) r)) (lookup (is_key q) es)
first_of_key k q es r none = by_test (is_key k q)
    (λ e. ap (λ o. cond (is_key k q) (Some (grown o r)) (lookup (is_key q) es)) (sym (same_group k q es e ∙ none)))
    (λ e. on_false _ _ _ e ∙ sym (on_false _ _ _ e))

pub held_first : (k q : EventKey) (r : Record) (before lender after : List (EventKey × Group)) (records : List Record)
    → lookup (is_key q) after ≡ cond (is_key k q) (Some (record { closed = false; records = records })) (lookup (is_key q) lender)
    → lender ≡ before → records ≡ r ∷ [] → lookup (is_key k) before ≡ None
    → lookup (is_key q) after ≡ cond (is_key k q) (Some (grown (lookup (is_key q) before) r)) (lookup (is_key q) before)
held_first k q r before lender after records put same one none =
    put
    ∙ ap (λ (rs : List Record). cond (is_key k q) (Some (record { closed = false; records = rs })) (lookup (is_key q) lender)) one
    ∙ ap (λ (es : List (EventKey × Group)). cond (is_key k q) (Some (grown None r)) (lookup (is_key q) es)) same
    ∙ first_of_key k q before r none
