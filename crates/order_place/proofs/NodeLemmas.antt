-- What is known of each node.
use Rattle.std.proofs.Common.{rules, ◌≡◌, ◌∙◌, arith, sym, refl, ap, ℕ, Bool, true, false, List, ◌∷◌, ◌++◌, subst, nat_cmp}
use Rattle.std.specs.Ordering.{is_eq}
use Rattle.std.specs.declared.cmp.Ordering.{Ordering}
use Rattle.std.specs.declared.cmp.Ordering.TheVariants.{Less, Equal, Greater}
use Rattle.std.specs.Cmp.Lexicographic.{slice_cmp}
use Rattle.std.proofs.lemmas.Map.Lookups.{exact_bytes}
use Rattle.std.proofs.lemmas.Bool.Decides.{nat_tests}
use Rattle.order_text.specs.Stamp.{Stamp}
use Rattle.order_place.specs.declared.places.Place.{Place}
use Rattle.order_place.specs.declared.slot.Slot.{Slot}
use Rattle.order_place.specs.Clocks.{others_at}
use Rattle.order_place.specs.Places.{Seen, SeesNext, Forgets, node_of, is_boot, read_as}
use Rattle.order_place.specs.Sights.{Sight, Saw, Wrote, Started, StandsFor}
use Rattle.order_place.specs.Nodes.{AllSeen, is_node, none, booted, begun, node_at, SeesOf, ForgetsOf, sights_of, seen_by, slot_of, StandsForAll}
use Rattle.order_place.proofs.ClockLemmas.{by_test, sees_on}

equal : (o : Ordering) → is_eq o ≡ true → o ≡ Equal
equal Less e = absurd (cc e)
equal Equal e = refl
equal Greater e = absurd (cc e)

pub one_node : (a b : List ℕ) → is_node a b ≡ true → a ≡ b
one_node a b e = exact_bytes a b (equal (slice_cmp nat_cmp a b) e)

others_none : (serial : ℕ) → others_at none serial ≡ 0
others_none serial = grind (arith, nat_tests)

starts : (boots : Bool) (seen : Seen) (sights : List Sight) → boots ≡ true → StandsFor seen sights → StandsFor (begun boots seen) (Started ∷ sights)
starts true seen sights e stands = record {
  clock = refl;
  others = others_none;
  second = omega arith;
  calls = λ pid. refl;
  events = stands.events;
  files = record { opens = λ event. refl; held = λ p n. refl };
  entry = stands.entry;
}
starts false seen sights e stands = absurd (cc e)

-- of one more sight of a node, what was seen of a node
own : (of name : List ℕ) (sight : Sight) (before : List (List ℕ × Sight)) → is_node of name ≡ true → sights_of name ((of, sight) ∷ before) ≡ sight ∷ sights_of name before
own of name sight before same = rw same refl

apart : (of name : List ℕ) (sight : Sight) (before : List (List ℕ × Sight)) → is_node of name ≡ false → sights_of name ((of, sight) ∷ before) ≡ sights_of name before
apart of name sight before isnt = rw isnt refl

sees_own : (boots : Bool) (seen new : Seen) (s : Stamp) (line : List ℕ) (slot : Slot) (of name : List ℕ) (sights : List (List ℕ × Sight)) → is_node of name ≡ true
    → StandsFor seen (sights_of name sights) → SeesNext (begun boots seen) new s line slot → StandsFor new (sights_of name (seen_by boots of (Saw s line slot) ++ sights))
sees_own true seen new s line slot of name sights same stands sees =
    subst (λ (l : List Sight). StandsFor new l)
    (sym (own of name (Saw s line slot) ((of, Started) ∷ sights) same ∙ ap (λ (l : List Sight). Saw s line slot ∷ l) (own of name Started sights same)))
    (sees_on (booted seen) new s line slot (Started ∷ sights_of name sights) (starts true seen (sights_of name sights) refl stands) sees)
sees_own false seen new s line slot of name sights same stands sees =
    subst (λ (l : List Sight). StandsFor new l) (sym (own of name (Saw s line slot) sights same))
    (sees_on seen new s line slot (sights_of name sights) stands sees)

sees_apart : (boots : Bool) (sight : Sight) (of name : List ℕ) (sights : List (List ℕ × Sight)) → is_node of name ≡ false
    → sights_of name (seen_by boots of sight ++ sights) ≡ sights_of name sights
sees_apart true sight of name sights isnt = apart of name sight ((of, Started) ∷ sights) isnt ∙ apart of name Started sights isnt
sees_apart false sight of name sights isnt = apart of name sight sights isnt

pub sees_on_all : (old new : AllSeen) (s : Stamp) (line : List ℕ) (p : Place) (sights : List (List ℕ × Sight))
    → StandsForAll old sights → SeesOf old new s line p
    → StandsForAll new (seen_by (is_boot s.front) (node_of s.front) (Saw s (read_as old.compat s line) (slot_of p)) ++ sights)
sees_on_all old new s line p sights stands sees =
    let read : List ℕ = read_as old.compat s line in
    record {
      each = λ name. by_test (is_node (node_of s.front) name)
          (λ same. subst (λ (n : List ℕ). StandsFor (node_at new n) (sights_of name (seen_by (is_boot s.front) (node_of s.front) (Saw s read (slot_of p)) ++ sights))) (one_node _ _ same)
          (sees_own (is_boot s.front) (node_at old (node_of s.front)) (node_at new (node_of s.front)) s read (slot_of p) (node_of s.front) name sights same
          (subst (λ (n : List ℕ). StandsFor (node_at old n) (sights_of name sights)) (sym (one_node _ _ same)) (stands.each name)) sees.sees))
          (λ isnt. rw (sees.others name isnt, sees_apart (is_boot s.front) (Saw s read (slot_of p)) (node_of s.front) name sights isnt) (stands.each name));
    }

writes_one : (old new : Seen) (event : ℕ × ℕ) (sights : List Sight) → StandsFor old sights → Forgets old new event → StandsFor new (Wrote event ∷ sights)
writes_one old new event sights stands forgets = search rules

pub writes_on_all : (old new : AllSeen) (of : List ℕ) (event : ℕ × ℕ) (sights : List (List ℕ × Sight))
    → StandsForAll old sights → ForgetsOf old new of event → StandsForAll new ((of, Wrote event) ∷ sights)
writes_on_all old new of event sights stands forgets = record {
  each = λ name. by_test (is_node of name)
      (λ same. rw (own of name (Wrote event) sights same)
      (subst (λ (n : List ℕ). StandsFor (node_at new n) (Wrote event ∷ sights_of name sights)) (one_node _ _ same)
      (writes_one (node_at old of) (node_at new of) event (sights_of name sights)
      (subst (λ (n : List ℕ). StandsFor (node_at old n) (sights_of name sights)) (sym (one_node _ _ same)) (stands.each name)) forgets.forgets)))
      (λ isnt. rw (forgets.others name isnt, apart of name (Wrote event) sights isnt) (stands.each name));
}
