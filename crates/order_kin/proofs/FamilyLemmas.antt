-- What is kept of the processes of a node, once a call was read.
use Rattle.std.proofs.Common.{◌≡◌, ◌∙◌, arith, sym, refl, ap, subst, ℕ, Bool, true, false, List, Option, None, Some, if◌then◌else◌}
use Rattle.std.specs.Prelude.{unwrap_or}
use Rattle.std.specs.List.{list_any}
use Rattle.std.specs.Map.{lookup}
use Rattle.std.proofs.lemmas.Bool.Decides.{nat_tests}
use Rattle.order_kin.specs.declared.heard.Heard.{Heard}
use Rattle.order_kin.specs.declared.heard.Deed.{Deed}
use Rattle.order_kin.specs.declared.heard.Deed.TheVariants as deed
use Rattle.order_kin.specs.Broods.{Kept, no_brood, born, forked, told}
use Rattle.order_kin.specs.Families.{is_same, Known, Broods, Family, Home, kid_of, fork_of, known_met, broods_met, known_by, broods_by, met, did, family_after, child_with, is_known_at, brood_at, Keeps, IsFamily, StandsFor}

pub one_same : (a b : ℕ) → is_same a b ≡ true → a ≡ b
one_same a b same = grind (arith, nat_tests, same)

pub by_test : {P : Type 0} (b : Bool) → (b ≡ true → P) → (b ≡ false → P) → P
by_test true f g = f refl
by_test false f g = g refl

-- what is taken out leaves the others
pub taken : (old inside : Home) (broods2 : List (ℕ × Kept)) (pid : ℕ) → inside ≡ old
    → ((p : ℕ) → is_same pid p ≡ false → lookup (is_same p) broods2 ≡ lookup (is_same p) inside.broods)
    → (p : ℕ) → is_same pid p ≡ false → brood_at (record inside { broods = broods2 }) p ≡ brood_at old p
taken old inside broods2 pid same moved p isnt = ap (λ (o : Option Kept). unwrap_or o no_brood) (moved p isnt) ∙ ap (λ (h : Home). brood_at h p) same

put_as : (b : Bool) (entry before after : Option Kept) → after ≡ (if b then entry else before)
    → unwrap_or after no_brood ≡ (if b then unwrap_or entry no_brood else unwrap_or before no_brood)
put_as true entry before after is = ap (λ (o : Option Kept). unwrap_or o no_brood) is
put_as false entry before after is = ap (λ (o : Option Kept). unwrap_or o no_brood) is

-- this is kept of a process
pub kept : (old inside : Home) (broods2 : List (ℕ × Kept)) (pid : ℕ) (brood : Kept) → inside ≡ old
    → ((p : ℕ) → lookup (is_same p) broods2 ≡ (if is_same pid p then Some brood else lookup (is_same p) inside.broods))
    → Keeps old (record inside { broods = broods2 }) pid brood
kept old inside broods2 pid brood same moved = record {
  known = ap (λ (h : Home). h.known) same;
  each = λ p. put_as (is_same pid p) (Some brood) (lookup (is_same p) inside.broods) (lookup (is_same p) broods2) (moved p)
      ∙ ap (λ (h : Home). if is_same pid p then brood else brood_at h p) same;
}

here : (b : Bool) (x y z : Kept) → b ≡ true → x ≡ y → x ≡ (if b then y else z)
here true x y z e is = is
here false x y z e is = absurd (cc e)

there : (b : Bool) (x y z : Kept) → b ≡ false → x ≡ z → x ≡ (if b then y else z)
there true x y z e is = absurd (cc e)
there false x y z e is = is

under : (b : Bool) (x y : Kept) (z : Kept) → b ≡ true → x ≡ (if b then y else z) → x ≡ y
under true x y z e is = is
under false x y z e is = absurd (cc e)

past : (b : Bool) (x y : Kept) (z : Kept) → b ≡ false → x ≡ (if b then y else z) → x ≡ z
past true x y z e is = absurd (cc e)
past false x y z e is = is

-- a process whose forks and children were taken out has others now
pub changed : (old mid new : Home) (pid : ℕ) (was now : Kept) (change : Kept → Kept) → was ≡ brood_at old pid → now ≡ change was
    → ((p : ℕ) → is_same pid p ≡ false → brood_at mid p ≡ brood_at old p) → mid.known ≡ old.known → Keeps mid new pid now
    → Keeps old new pid (change (brood_at old pid))
changed old mid new pid was now change taken is others known keeps = record {
  known = keeps.known ∙ known;
  each = λ p. by_test (is_same pid p)
      (λ same. here (is_same pid p) (brood_at new p) (change (brood_at old pid)) (brood_at old p) same
      (under (is_same pid p) (brood_at new p) now (brood_at mid p) same (keeps.each p) ∙ is ∙ ap change taken))
      (λ isnt. there (is_same pid p) (brood_at new p) (change (brood_at old pid)) (brood_at old p) isnt
      (past (is_same pid p) (brood_at new p) now (brood_at mid p) isnt (keeps.each p) ∙ others p isnt));
}

-- the number of a process stands for the process
each_same : (pid : ℕ) (broods : Broods) (change : Kept → Kept) (p : ℕ) (b : Bool) → is_same pid p ≡ b
    → (if b then change (broods pid) else broods p) ≡ (if b then change (broods p) else broods p)
each_same pid broods change p true same = ap (λ (q : ℕ). change (broods q)) (one_same pid p same)
each_same pid broods change p false same = refl

pub each_changed : (old new : Home) (pid : ℕ) (change : Kept → Kept) → Keeps old new pid (change (brood_at old pid))
    → (p : ℕ) → brood_at new p ≡ (if is_same pid p then change (brood_at old p) else brood_at old p)
each_changed old new pid change keeps p = keeps.each p ∙ each_same pid (brood_at old) change p (is_same pid p) refl

known_so : (b known : Bool) → (b ≡ true → known ≡ true) → known ≡ (if b then true else known)
known_so true known f = f refl
known_so false known f = refl

-- a process that was seen before
pub met_before : (old inside : Home) (heard : Heard) → inside ≡ old → list_any (is_same heard.pid) inside.known ≡ true
    → IsFamily inside (known_met (is_known_at old) heard) (broods_met (is_known_at old heard.pid) (brood_at old) heard)
met_before old inside heard same known =
    let seen : is_known_at old heard.pid ≡ true = ap (λ (h : Home). is_known_at h heard.pid) (sym same) ∙ known in
    record {
      known = λ p. ap (λ (h : Home). is_known_at h p) same ∙ known_so (is_same heard.pid p) (is_known_at old p)
          (λ e. ap (λ (q : ℕ). is_known_at old q) (sym (one_same heard.pid p e)) ∙ seen);
      broods = λ p. ap (λ (h : Home). brood_at h p) same ∙ ap (λ (b : Bool). broods_met b (brood_at old) heard p) (sym seen);
    }

-- a process that wasn't seen before
pub met_now : (old inside mid mid2 : Home) (known2 : List ℕ) (heard : Heard) → inside ≡ old → list_any (is_same heard.pid) inside.known ≡ false
    → Keeps old mid heard.parent (born (kid_of heard) (brood_at old heard.parent)) → mid2 ≡ mid
    → ((p : ℕ) → list_any (is_same p) known2 ≡ (if is_same heard.pid p then true else list_any (is_same p) mid2.known))
    → IsFamily (record mid2 { known = known2 }) (known_met (is_known_at old) heard) (broods_met (is_known_at old heard.pid) (brood_at old) heard)
met_now old inside mid mid2 known2 heard same unknown keeps after added =
    let new : is_known_at old heard.pid ≡ false = ap (λ (h : Home). is_known_at h heard.pid) (sym same) ∙ unknown in
    let kept_known : mid2.known ≡ old.known = ap (λ (h : Home). h.known) after ∙ keeps.known in
    record {
      known = λ p. added p ∙ ap (λ (l : List ℕ). if is_same heard.pid p then true else list_any (is_same p) l) kept_known;
      broods = λ p. ap (λ (h : Home). brood_at h p) after ∙ each_changed old mid heard.parent (born (kid_of heard)) keeps p
          ∙ ap (λ (b : Bool). broods_met b (brood_at old) heard p) (sym new);
    }

-- a process that has ended
pub ended_known : (old inside : Home) (known2 : List ℕ) (pid p : ℕ) → inside ≡ old
    → ((p : ℕ) → list_any (is_same p) known2 ≡ (if is_same pid p then false else list_any (is_same p) inside.known))
    → list_any (is_same p) known2 ≡ (if is_same pid p then false else is_known_at old p)
ended_known old inside known2 pid p same moved = moved p ∙ ap (λ (h : Home). if is_same pid p then false else is_known_at h p) same

pub ended_brood : (old inside : Home) (broods2 : List (ℕ × Kept)) (pid p : ℕ) → inside ≡ old
    → ((p : ℕ) → lookup (is_same p) broods2 ≡ (if is_same pid p then None else lookup (is_same p) inside.broods))
    → unwrap_or (lookup (is_same p) broods2) no_brood ≡ (if is_same pid p then no_brood else brood_at old p)
ended_brood old inside broods2 pid p same moved =
    put_as (is_same pid p) None (lookup (is_same p) inside.broods) (lookup (is_same p) broods2) (moved p)
    ∙ ap (λ (h : Home). if is_same pid p then no_brood else brood_at h p) same

-- what a fork changes
pub forked_so : (old new : Home) (heard : Heard) (answer : ℕ) → Keeps old new heard.pid (forked (fork_of heard answer) (brood_at old heard.pid))
    → IsFamily new (known_by (deed.Forks answer) (is_known_at old) heard) (broods_by (deed.Forks answer) (brood_at old) heard)
forked_so old new heard answer keeps = record {
  known = λ p. ap (λ (l : List ℕ). list_any (is_same p) l) keeps.known;
  broods = λ p. each_changed old new heard.pid (forked (fork_of heard answer)) keeps p;
}

-- the child of a fork by what is kept
pub told_so : (home : Home) (h : Heard) (answer : ℕ) (brood : Kept) (child : Option ℕ) (known : Known) (broods : Broods) → h.deed ≡ deed.Forks answer
    → lookup (is_same h.pid) home.broods ≡ Some brood → child ≡ told h.ms h.serial brood → IsFamily home known broods → child ≡ child_with broods h h.deed
told_so home h answer brood child known broods forks there is family =
    is ∙ ap (told h.ms h.serial) (sym (ap (λ (o : Option Kept). unwrap_or o no_brood) there) ∙ family.broods h.pid)
    ∙ ap (child_with broods h) (sym forks)

-- what is kept after a call is what is known after it
known_follows : (d : Deed) (h : Heard) (a b : Known) → ((p : ℕ) → a p ≡ b p) → (p : ℕ) → known_by d a h p ≡ known_by d b h p
known_follows deed.Nothing h a b same p = same p
known_follows (deed.Forks answer) h a b same p = same p
known_follows deed.Ends h a b same p = ap (λ (k : Bool). if is_same h.pid p then false else k) (same p)

broods_follow : (d : Deed) (h : Heard) (a b : Broods) → ((p : ℕ) → a p ≡ b p) → (p : ℕ) → broods_by d a h p ≡ broods_by d b h p
broods_follow deed.Nothing h a b same p = same p
broods_follow (deed.Forks answer) h a b same p = ap (λ (k : Kept). if is_same h.pid p then forked (fork_of h answer) k else k) (same p)
broods_follow deed.Ends h a b same p = ap (λ (k : Kept). if is_same h.pid p then no_brood else k) (same p)

broods_meet : (c : Bool) (h : Heard) (a b : Broods) → ((p : ℕ) → a p ≡ b p) → (p : ℕ) → broods_met c a h p ≡ broods_met c b h p
broods_meet true h a b same p = same p
broods_meet false h a b same p = ap (λ (k : Kept). if is_same h.parent p then born (kid_of h) k else k) (same p)

pub heard_so : (old mid new : Home) (h : Heard) (family : Family)
    → IsFamily mid (known_met (is_known_at old) h) (broods_met (is_known_at old h.pid) (brood_at old) h)
    → IsFamily new (known_by h.deed (is_known_at mid) h) (broods_by h.deed (brood_at mid) h)
    → StandsFor old family → StandsFor new (family_after (Some h) family)
heard_so old mid new h family meets follows stands =
    let known_mid : (p : ℕ) → is_known_at mid p ≡ known_met family.known h p =
    λ p. meets.known p ∙ ap (λ (k : Bool). if is_same h.pid p then true else k) (stands.known p) in
    let brood_mid : (p : ℕ) → brood_at mid p ≡ broods_met (family.known h.pid) family.broods h p =
    λ p. meets.broods p ∙ ap (λ (k : Bool). broods_met k (brood_at old) h p) (stands.known h.pid)
    ∙ broods_meet (family.known h.pid) h (brood_at old) family.broods stands.broods p in
    record {
      known = λ p. follows.known p ∙ known_follows h.deed h (is_known_at mid) (known_met family.known h) known_mid p;
      broods = λ p. follows.broods p ∙ broods_follow h.deed h (brood_at mid) (broods_met (family.known h.pid) family.broods h) brood_mid p;
    }
