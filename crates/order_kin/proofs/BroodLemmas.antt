-- What is left of the forks and the children of a process.
use Rattle.std.proofs.Common.{◌≡◌, ◌∙◌, sym, refl, ap, subst, ℕ, Bool, true, List, nat_le, if◌then◌else◌}
use Rattle.std.specs.List.{filter}
use Rattle.order_kin.specs.declared.brood.Fork.{Fork}
use Rattle.order_kin.specs.declared.brood.Kid.{Kid}
use Rattle.order_kin.specs.Broods.{Kept, forks_before, kids_before, settled}

settled_same : (time : ℕ) (old : Kept) (forks : List Fork) (kids : List Kid) → nat_le (forks_before time old.forks) (kids_before time old.kids) ≡ true
    → forks ≡ filter (λ fork. nat_le time fork.ms) old.forks → kids ≡ filter (λ kid. nat_le time kid.ms) old.kids
    → record old { forks = forks; kids = kids } ≡ settled time old
settled_same time old forks kids test are those = rw (test, are, those) refl

pub settled_is : (time : ℕ) (old inside : Kept) (n m : ℕ) (forks : List Fork) (kids : List Kid) → inside ≡ old
    → n ≡ forks_before time old.forks → m ≡ kids_before time old.kids → nat_le n m ≡ true
    → forks ≡ filter (λ fork. nat_le time fork.ms) inside.forks → kids ≡ filter (λ kid. nat_le time kid.ms) inside.kids
    → record inside { forks = forks; kids = kids } ≡ settled time old
settled_is time old inside n m forks kids same these those le are left =
    settled_same time inside forks kids (ap (λ (b : Kept). nat_le (forks_before time b.forks) (kids_before time b.kids)) same ∙ ap (λ (k : ℕ). nat_le k (kids_before time old.kids)) (sym these) ∙ ap (nat_le n) (sym those) ∙ le) are left
    ∙ ap (settled time) same
