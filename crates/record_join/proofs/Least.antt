-- The least key of what waits.
use Rattle.std.proofs.Common.{◌≡◌, Bool, true, false, cond, List, [], ◌∷◌, refl, sym, ◌∙◌, ap, subst, Some, None, inl, inr}
use Rattle.std.specs.Prelude.{Option, ◌||◌}
use Rattle.std.specs.Ordering.{is_eq, is_lt, is_gt, ordering_reverse}
use Rattle.std.specs.declared.cmp.Ordering.{Ordering}
use Rattle.std.specs.declared.cmp.Ordering.TheVariants.{Less, Equal, Greater}
use Rattle.std.proofs.lemmas.Bool.{true≢false, or_cases, or_left, or_right}
use Rattle.std.proofs.lemmas.Cmp.{upto, tied_itself}
use Rattle.record_join.specs.Keys.{key_cmp, is_key, is_below}
use Rattle.record_join.specs.Events.{waits, least_key, lesser_key}
use Rattle.audit_lex.specs.declared.header.EventKey.{EventKey}
use Rattle.audit_record.specs.declared.types.Record.{Record}
use Rattle.record_join.proofs.Keys.{key_cmp_total, key_laws, one_key}
use Rattle.record_join.proofs.Groups.{by_test}

turned : (o : Ordering) → is_lt (ordering_reverse o) ≡ is_gt o
turned Less = refl
turned Equal = refl
turned Greater = refl

-- a key is below another where the other is above it
pub below_turned : (a b : EventKey) → is_below a b ≡ is_gt (key_cmp b a)
below_turned a b = ap is_lt (key_cmp_total.antisymm a b) ∙ turned (key_cmp b a)

pub not_below_itself : (k : EventKey) → is_below k k ≡ false
not_below_itself k = ap is_lt (tied_itself key_cmp_total k)

less_not_greater : (o : Ordering) → is_lt o ≡ true → is_gt o ≡ false
less_not_greater Less e = refl
less_not_greater Equal e = refl
less_not_greater Greater e = absurd (true≢false (sym e))

-- no key is below one that is below it
pub not_both : (a b : EventKey) → is_below a b ≡ true → is_below b a ≡ false
not_both a b e = below_turned b a ∙ less_not_greater (key_cmp a b) e

-- what isn't below the middle, which isn't below the least, isn't below the least
pub not_below_through : (q b r : EventKey) → is_below q b ≡ false → is_below b r ≡ false → is_below q r ≡ false
not_below_through q b r e f =
    below_turned q r ∙ upto key_cmp_total r b q (sym (below_turned b r) ∙ f) (sym (below_turned q b) ∙ e)

pub record IsLeast (m : EventKey) (records : List Record) : Type 0 where
  pub there : waits m records ≡ true
  pub none_below : (q : EventKey) → waits q records ≡ true → is_below q m ≡ false

only : (v : Bool) → (v || false) ≡ true → v ≡ true
only true e = refl
only false e = e

pub same_not_below : (q k : EventKey) → is_key q k ≡ true → is_below q k ≡ false
same_not_below q k e = subst (λ z. is_below q z ≡ false) (one_key q k e) (not_below_itself q)

none_is_some : {A : Type 0} (m : A) → None ≡ Some m → ⊥
none_is_some m e = cc

inside : {A : Type 0} (a b : A) → Some a ≡ Some b → a ≡ b
inside a b e = cc

-- the first record and the rest
join_least : (r : Record) (records : List Record) (o : Option EventKey) → least_key records ≡ o
    → ((m : EventKey) → o ≡ Some m → IsLeast m records) → (o ≡ None → records ≡ []) → IsLeast (lesser_key r.key o) (r ∷ records)
join_least r records None is rest none = record {
  there = or_left (is_key r.key r.key) (waits r.key records) (key_laws.refl r.key);
  none_below = λ q w. subst (λ (rs : List Record). waits q (r ∷ rs) ≡ true → is_below q r.key ≡ false) (sym (none refl))
      (λ v. same_not_below q r.key (only (is_key q r.key) v)) w;
}
join_least r records (Some b) is rest none = by_test (is_below b r.key)
    (λ lt. subst (λ m. IsLeast m (r ∷ records)) (sym (ap (λ v. cond v b r.key) lt)) (record {
      there = or_right (is_key b r.key) (waits b records) (rest b refl).there;
      none_below = λ q w. elim (or_cases (is_key q r.key) (waits q records) w) [
        | inl e ↦ subst (λ z. is_below z b ≡ false) (sym (one_key q r.key e)) (not_both b r.key lt)
        | inr v ↦ (rest b refl).none_below q v
      ];
    }))
    (λ ge. subst (λ m. IsLeast m (r ∷ records)) (sym (ap (λ v. cond v b r.key) ge)) (record {
      there = or_left (is_key r.key r.key) (waits r.key records) (key_laws.refl r.key);
      none_below = λ q w. elim (or_cases (is_key q r.key) (waits q records) w) [
        | inl e ↦ same_not_below q r.key e
        | inr v ↦ not_below_through q b r.key ((rest b refl).none_below q v) ge
      ];
    }))

pub least_none : (records : List Record) → least_key records ≡ None → records ≡ []
least_none [] e = refl
least_none (r ∷ records) e = absurd (none_is_some (lesser_key r.key (least_key records)) (sym e))

pub least_is : (records : List Record) (m : EventKey) → least_key records ≡ Some m → IsLeast m records
least_is [] m e = absurd (none_is_some m e)
least_is (r ∷ records) m e = subst (λ z. IsLeast z (r ∷ records)) (inside _ _ e)
    (join_least r records (least_key records) refl (least_is records) (least_none records))

tie : (o : Ordering) → is_lt o ≡ false → is_gt o ≡ false → is_eq o ≡ true
tie Less e f = absurd (true≢false e)
tie Equal e f = refl
tie Greater e f = absurd (true≢false f)

-- the least key is one
pub least_one : (a b : EventKey) (records : List Record) → IsLeast a records → IsLeast b records → a ≡ b
least_one a b records l m = one_key a b (tie (key_cmp a b) (m.none_below a l.there) (sym (below_turned b a) ∙ l.none_below b m.there))
