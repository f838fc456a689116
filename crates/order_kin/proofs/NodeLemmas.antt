-- What is kept of each node.
use Rattle.std.proofs.Common.{◌≡◌, ◌∙◌, ◌&&◌, sym, refl, ap, subst, ℕ, Bool, true, false, List, [], ◌∷◌, Option, None, Some, nat_cmp, if◌then◌else◌}
use Rattle.std.specs.Prelude.{unwrap_or, is_none, not}
use Rattle.std.specs.Map.{lookup}
use Rattle.std.specs.Ordering.{is_eq}
use Rattle.std.specs.declared.cmp.Ordering.{Ordering}
use Rattle.std.specs.declared.cmp.Ordering.TheVariants.{Less, Equal, Greater}
use Rattle.std.specs.Cmp.Lexicographic.{slice_cmp}
use Rattle.std.proofs.lemmas.Map.Lookups.{exact_bytes}
use Rattle.order_text.specs.Stamp.{Stamp, stamp_of}
use Rattle.order_place.specs.Places.{node_of, is_boot}
use Rattle.order_place.specs.Nodes.{is_node}
use Rattle.order_kin.specs.declared.heard.Heard.{Heard}
use Rattle.order_kin.specs.Heard.{heard_of, only_fork}
use Rattle.order_kin.specs.declared.heard.Deed.{Deed}
use Rattle.order_kin.specs.declared.heard.Deed.TheVariants as deed
use Rattle.order_kin.specs.Broods.{no_brood, told}
use Rattle.order_kin.specs.Families.{Family, Known, Broods, IsFamily, child_with, child_by, child_stamped, brood_at, Home, nobody, empty, AllKept, KeepsNode, TakesIn, StandsFor, StandsForLines, Reads, ReadsStamped, home_of, begun, since_start, family_after, family_with, family_in}
use Rattle.order_kin.proofs.FamilyLemmas.{by_test}
use Rattle.order_kin.proofs.HeardLemmas.{child_by_fork}

pub node_taken : (old inside : AllKept) (nodes2 : List (List ℕ × Home)) (name : List ℕ) → inside ≡ old
    → ((other : List ℕ) → is_node name other ≡ false → lookup (is_node other) nodes2 ≡ lookup (is_node other) inside.nodes)
    → (other : List ℕ) → is_node name other ≡ false → home_of (record inside { nodes = nodes2 }) other ≡ home_of old other
node_taken old inside nodes2 name same moved other isnt =
    ap (λ (o : Option Home). unwrap_or o empty) (moved other isnt) ∙ ap (λ (a : AllKept). home_of a other) same

pub node_kept : (old inside : AllKept) (nodes2 : List (List ℕ × Home)) (name : List ℕ) (home : Home) → inside ≡ old
    → lookup (is_node name) nodes2 ≡ Some home
    → ((other : List ℕ) → is_node name other ≡ false → lookup (is_node other) nodes2 ≡ lookup (is_node other) inside.nodes)
    → KeepsNode old (record inside { nodes = nodes2 }) name home
node_kept old inside nodes2 name home same put moved = record {
  compat = ap (λ (a : AllKept). a.compat) same;
  here = ap (λ (o : Option Home). unwrap_or o empty) put;
  others = node_taken old inside nodes2 name same moved;
}

equal : (o : Ordering) → is_eq o ≡ true → o ≡ Equal
equal Less e = absurd (cc e)
equal Equal e = refl
equal Greater e = absurd (cc e)

one_node : (a b : List ℕ) → is_node a b ≡ true → a ≡ b
one_node a b e = exact_bytes a b (equal (slice_cmp nat_cmp a b) e)

fresh : StandsFor empty nobody
fresh = record { known = λ p. refl; broods = λ p. refl }

started : (starts : Bool) (home : Home) (family : Family) → StandsFor home family → StandsFor (begun starts home) (since_start starts family)
started true home family stands = fresh
started false home family stands = stands

here : (b : Bool) (new : Home) (more family : Family) → b ≡ true → StandsFor new more → StandsFor new (if b then more else family)
here true new more family e stands = stands
here false new more family e stands = absurd (cc e)

there : (b : Bool) (new : Home) (more family : Family) → b ≡ false → StandsFor new family → StandsFor new (if b then more else family)
there true new more family e stands = absurd (cc e)
there false new more family e stands = stands

-- a node is taken out, hears the line, and is put back
pub takes_in : (old mid new : AllKept) (name named : List ℕ) (starts : Bool) (heard : Option Heard) (was begins now : Home) → named ≡ name
    → was ≡ home_of old named → begins ≡ begun starts was → mid.compat ≡ old.compat
    → ((other : List ℕ) → is_node named other ≡ false → home_of mid other ≡ home_of old other) → KeepsNode mid new named now
    → ((family : Family) → StandsFor begins family → StandsFor now (family_after heard family))
    → TakesIn old new name starts heard
takes_in old mid new name named starts heard was begins now same taken is of others keeps hears =
    subst (λ (n : List ℕ). TakesIn old new n starts heard) same
    (record {
      compat = keeps.compat ∙ of;
      here = λ family stands. subst (λ (h : Home). StandsFor h (family_after heard family)) (sym keeps.here)
          (hears family (subst (λ (h : Home). StandsFor h family) (ap (begun starts) (sym taken) ∙ sym is) stands));
      others = λ other isnt. keeps.others other isnt ∙ others other isnt;
    })

-- one node heard the line, and the others didn't
pub node_read : (old new : AllKept) (line : List ℕ) (s : Stamp) (starts : Bool) (heard : Option Heard) → starts ≡ is_boot s.front
    → heard ≡ heard_of old.compat s line → TakesIn old new (node_of s.front) starts heard → ReadsStamped old new line s
node_read old new line s starts heard boots says t lines stands other =
    let was_so : (node : List ℕ) → StandsFor (home_of old node) (family_in new.compat node lines) =
    λ node. subst (λ (b : Bool). StandsFor (home_of old node) (family_in b node lines)) (sym t.compat) (stands.each node) in
    let said : heard ≡ heard_of new.compat s line = says ∙ ap (λ (b : Bool). heard_of b s line) (sym t.compat) in
    let after : List ℕ → Family = λ (n : List ℕ). family_after (heard_of new.compat s line) (since_start (is_boot s.front) (family_in new.compat n lines)) in
    let family = since_start (is_boot s.front) (family_in new.compat (node_of s.front) lines) in
    let begins : StandsFor (begun starts (home_of old (node_of s.front))) family =
    subst (λ (b : Bool). StandsFor (begun b (home_of old (node_of s.front))) family) (sym boots)
    (started (is_boot s.front) (home_of old (node_of s.front)) (family_in new.compat (node_of s.front) lines) (was_so (node_of s.front))) in
    let hears : StandsFor (home_of new (node_of s.front)) (after (node_of s.front)) =
    subst (λ (o : Option Heard). StandsFor (home_of new (node_of s.front)) (family_after o family)) said (t.here family begins) in
    by_test (is_node (node_of s.front) other)
    (λ one. here (is_node (node_of s.front) other) (home_of new other) (after other) (family_in new.compat other lines) one
    (subst (λ (n : List ℕ). StandsFor (home_of new n) (after n)) (one_node (node_of s.front) other one) hears))
    (λ isnt. there (is_node (node_of s.front) other) (home_of new other) (after other) (family_in new.compat other lines) isnt
    (subst (λ (h : Home). StandsFor h (family_in new.compat other lines)) (sym (t.others other isnt)) (was_so other)))

-- a line that says nothing changes nothing
nothing_after : (b boots : Bool) (heard : Option Heard) (home : Home) (family : Family) → heard ≡ None → boots ≡ false → StandsFor home family
    → StandsFor home (if b then family_after heard (since_start boots family) else family)
nothing_after true boots heard home family none runs stands = rw (none, runs) stands
nothing_after false boots heard home family none runs stands = stands

pub nothing_read : (old : AllKept) (compat : Bool) (line : List ℕ) (s : Stamp) → compat ≡ old.compat → heard_of compat s line ≡ None → is_boot s.front ≡ false
    → ReadsStamped old old line s
nothing_read old compat line s of none runs lines stands name =
    nothing_after (is_node (node_of s.front) name) (is_boot s.front) (heard_of old.compat s line) (home_of old name) (family_in old.compat name lines)
    (ap (λ (b : Bool). heard_of b s line) (sym of) ∙ none) runs (stands.each name)

idle_none : (heard : Option Heard) (starts : Bool) → is_none heard && not starts ≡ true → (heard ≡ None) × (starts ≡ false)
idle_none None true idle = absurd (cc idle)
idle_none None false idle = (refl, refl)
idle_none (Some h) starts idle = absurd (cc idle)

pub idle_read : (old : AllKept) (compat : Bool) (line : List ℕ) (s : Stamp) (starts : Bool) (heard : Option Heard) → compat ≡ old.compat
    → starts ≡ is_boot s.front → heard ≡ heard_of compat s line → is_none heard && not starts ≡ true → ReadsStamped old old line s
idle_read old compat line s starts heard of boots says idle =
    let none = idle_none heard starts idle in
    nothing_read old compat line s of (sym says ∙ none.0) (sym boots ∙ none.1)

-- the child of a line's fork is the one of the line
pub child_told : (all : AllKept) (compat : Bool) (line : List ℕ) (s : Stamp) (lines : List (List ℕ)) (fork : Option Heard) (child : Option ℕ)
    → compat ≡ all.compat → fork ≡ only_fork (heard_of compat s line) → child ≡ child_by (family_in all.compat (node_of s.front) lines).broods fork
    → child ≡ child_stamped all.compat lines line (Some s)
child_told all compat line s lines fork child of says is =
    let broods = (family_in all.compat (node_of s.front) lines).broods in
    is ∙ ap (child_by broods) (says ∙ ap (λ (b : Bool). only_fork (heard_of b s line)) of) ∙ sym (child_by_fork broods (heard_of all.compat s line))

pub stamped_read : (old new : AllKept) (line : List ℕ) (s : Stamp) → Some s ≡ stamp_of line → ReadsStamped old new line s → Reads old new line
stamped_read old new line s is reads lines stands = record {
  each = λ name. subst (λ (o : Option Stamp). StandsFor (home_of new name) (family_with new.compat name line o (family_in new.compat name lines))) is (reads lines stands name);
}

pub unstamped_read : (old : AllKept) (line : List ℕ) → None ≡ stamp_of line → Reads old old line
unstamped_read old line is lines stands = record {
  each = λ name. subst (λ (o : Option Stamp). StandsFor (home_of old name) (family_with old.compat name line o (family_in old.compat name lines))) is (stands.each name);
}

-- ---- the child of a fork

-- what is kept of a node tells it
pub child_there : (all : AllKept) (name : List ℕ) (home : Home) (h : Heard) (child : Option ℕ) (lines : List (List ℕ)) → lookup (is_node name) all.nodes ≡ Some home
    → ((known : Known) (broods : Broods) → IsFamily home known broods → child ≡ child_with broods h h.deed) → StandsForLines all lines
    → child ≡ child_by (family_in all.compat name lines).broods (Some h)
child_there all name home h child lines there says stands =
    let family = family_in all.compat name lines in
    says family.known family.broods
    (subst (λ (k : Home). StandsFor k family) (ap (λ (o : Option Home). unwrap_or o empty) there) (stands.each name))

none_with : (d : Deed) (broods : Broods) (h : Heard) → broods h.pid ≡ no_brood → None ≡ child_with broods h d
none_with deed.Nothing broods h none = refl
none_with (deed.Forks answer) broods h none = ap (told h.ms h.serial) (sym none)
none_with deed.Ends broods h none = refl

pub child_absent : (all : AllKept) (name : List ℕ) (h : Heard) (lines : List (List ℕ)) → lookup (is_node name) all.nodes ≡ None → StandsForLines all lines
    → None ≡ child_by (family_in all.compat name lines).broods (Some h)
child_absent all name h lines none stands =
    let home : home_of all name ≡ empty = ap (λ (o : Option Home). unwrap_or o empty) none in
    none_with h.deed (family_in all.compat name lines).broods h
    (sym ((stands.each name).broods h.pid) ∙ ap (λ (k : Home). brood_at k h.pid) home)
