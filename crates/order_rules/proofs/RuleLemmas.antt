-- What is kept of each node.
use Rattle.std.proofs.Common.{◌≡◌, ◌∙◌, sym, refl, ap, subst, ℕ, Bool, true, false, List, [], ◌∷◌, Option, None, Some, nat_cmp, if◌then◌else◌}
use Rattle.std.specs.Prelude.{unwrap_or}
use Rattle.std.specs.Map.{lookup}
use Rattle.std.specs.Ordering.{is_eq}
use Rattle.std.specs.declared.cmp.Ordering.{Ordering}
use Rattle.std.specs.declared.cmp.Ordering.TheVariants.{Less, Equal, Greater}
use Rattle.std.specs.Cmp.Lexicographic.{slice_cmp}
use Rattle.std.proofs.lemmas.Map.Lookups.{exact_bytes}
use Rattle.order_text.specs.Stamp.{Stamp, stamp_of}
use Rattle.order_place.specs.Places.{node_of, is_boot}
use Rattle.order_place.specs.Nodes.{is_node}
use Rattle.order_text.specs.declared.rewrite.Rewrite.{Rewrite}
use Rattle.order_rules.specs.declared.settings.Settings.{Settings}
use Rattle.order_rules.specs.Deeds.{Said, Passes}
use Rattle.order_rules.specs.Known.{Known, nothing, Hears, StandsFor}
use Rattle.order_rules.specs.Rewrites.{class_in, said_after, rewritten}
use Rattle.order_rules.specs.Rules.{AllKnown, since_start, event_of, said_until, said_with, said_of, rewrite_stamped, known_of, begun, KeepsNode, StandsForLines, SeesStamped}
use Rattle.order_rules.proofs.TableLemmas.{by_test, heard}

pub node_taken : (old inside : AllKnown) (nodes2 : List (List ℕ × Known)) (name : List ℕ) → inside ≡ old
    → ((other : List ℕ) → is_node name other ≡ false → lookup (is_node other) nodes2 ≡ lookup (is_node other) inside.nodes)
    → (other : List ℕ) → is_node name other ≡ false → known_of (record inside { nodes = nodes2 }) other ≡ known_of old other
node_taken old inside nodes2 name same moved other isnt =
    ap (λ (o : Option Known). unwrap_or o nothing) (moved other isnt) ∙ ap (λ (a : AllKnown). known_of a other) same

pub node_kept : (old inside : AllKnown) (nodes2 : List (List ℕ × Known)) (name : List ℕ) (known : Known) → inside ≡ old
    → lookup (is_node name) nodes2 ≡ Some known
    → ((other : List ℕ) → is_node name other ≡ false → lookup (is_node other) nodes2 ≡ lookup (is_node other) inside.nodes)
    → KeepsNode old (record inside { nodes = nodes2 }) name known
node_kept old inside nodes2 name known same put moved = record {
  settings = ap (λ (a : AllKnown). a.settings) same;
  here = ap (λ (o : Option Known). unwrap_or o nothing) put;
  others = node_taken old inside nodes2 name same moved;
}

equal : (o : Ordering) → is_eq o ≡ true → o ≡ Equal
equal Less e = absurd (cc e)
equal Equal e = refl
equal Greater e = absurd (cc e)

one_node : (a b : List ℕ) → is_node a b ≡ true → a ≡ b
one_node a b e = exact_bytes a b (equal (slice_cmp nat_cmp a b) e)

fresh : StandsFor nothing []
fresh = record { clock = refl; under = refl; held = λ p n. refl; hosts = λ host. refl; places = λ place. refl; waits = λ place. refl }

-- a node that is started stands for nothing
pub started : (starts : Bool) (known : Known) (said : List Said) → StandsFor known said → StandsFor (begun starts known) (since_start starts said)
started true known said stands = fresh
started false known said stands = stands

-- the node of a line stands for what was said until the line
pub reached : (old : AllKnown) (s : Stamp) (was now : Known) (lines : List (List ℕ)) → was ≡ begun (is_boot s.front) (known_of old (node_of s.front))
    → Hears was now (event_of s) Passes → StandsForLines old lines → StandsFor now (said_until s (said_of (node_of s.front) lines))
reached old s was now lines is hears stands =
    heard was now (event_of s) Passes (since_start (is_boot s.front) (said_of (node_of s.front) lines)) hears
    (subst (λ (k : Known). StandsFor k (since_start (is_boot s.front) (said_of (node_of s.front) lines))) (sym is)
    (started (is_boot s.front) (known_of old (node_of s.front)) (said_of (node_of s.front) lines) (stands.each (node_of s.front))))

here : (b : Bool) (new : Known) (more said : List Said) → b ≡ true → StandsFor new more → StandsFor new (if b then more else said)
here true new more said e stands = stands
here false new more said e stands = absurd (cc e)

there : (b : Bool) (new : Known) (more said : List Said) → b ≡ false → StandsFor new said → StandsFor new (if b then more else said)
there true new more said e stands = absurd (cc e)
there false new more said e stands = stands

pub table_begun : (old : AllKnown) (s : Stamp) (boots : Bool) (was now : Known) (name : List ℕ) → now ≡ begun boots was → boots ≡ is_boot s.front
    → was ≡ known_of old name → name ≡ node_of s.front → now ≡ begun (is_boot s.front) (known_of old (node_of s.front))
table_begun old s boots was now name is boot taken named =
    is ∙ ap (λ (b : Bool). begun b was) boot ∙ ap (begun (is_boot s.front)) (taken ∙ ap (known_of old) named)

-- one node heard the line, and the others didn't
node_seen : (old mid new : AllKnown) (line : List ℕ) (s : Stamp) (now : Known) (lines : List (List ℕ))
    → ((other : List ℕ) → is_node (node_of s.front) other ≡ false → known_of mid other ≡ known_of old other)
    → KeepsNode mid new (node_of s.front) now → StandsForLines old lines
    → StandsFor now (said_after line (class_in line) (said_until s (said_of (node_of s.front) lines)))
    → (name : List ℕ) → StandsFor (known_of new name) (said_with name line (Some s) (said_of name lines))
node_seen old mid new line s now lines others keeps stands heard_it name = by_test (is_node (node_of s.front) name)
    (λ same. here (is_node (node_of s.front) name) (known_of new name) (said_after line (class_in line) (said_until s (said_of name lines))) (said_of name lines) same
    (subst (λ (n : List ℕ). StandsFor (known_of new n) (said_after line (class_in line) (said_until s (said_of n lines)))) (one_node _ _ same)
    (subst (λ (k : Known). StandsFor k (said_after line (class_in line) (said_until s (said_of (node_of s.front) lines)))) (sym keeps.here) heard_it)))
    (λ isnt. there (is_node (node_of s.front) name) (known_of new name) (said_after line (class_in line) (said_until s (said_of name lines))) (said_of name lines) isnt
    (subst (λ (k : Known). StandsFor k (said_of name lines)) (sym (keeps.others name isnt ∙ others name isnt)) (stands.each name)))

pub line_seen : (old mid new : AllKnown) (line : List ℕ) (s : Stamp) (was passed now : Known) (name : List ℕ) → name ≡ node_of s.front
    → was ≡ begun (is_boot s.front) (known_of old (node_of s.front)) → Hears was passed (event_of s) Passes
    → ((other : List ℕ) → is_node name other ≡ false → known_of mid other ≡ known_of old other)
    → KeepsNode mid new name now
    → ((said : List Said) → StandsFor passed said → StandsFor now (said_after line (class_in line) said))
    → SeesStamped old new line s
line_seen old mid new line s was passed now name named is hears others keeps sees lines stands =
    node_seen old mid new line s now lines
    (subst (λ (n : List ℕ). (other : List ℕ) → is_node n other ≡ false → known_of mid other ≡ known_of old other) named others)
    (subst (λ (n : List ℕ). KeepsNode mid new n now) named keeps) stands
    (sees (said_until s (said_of (node_of s.front) lines)) (reached old s was passed lines is hears stands))

pub line_rewritten : (old : AllKnown) (set settings : Settings) (line : List ℕ) (s : Stamp) (was passed : Known) (made : Option Rewrite) (lines : List (List ℕ))
    → set ≡ settings → was ≡ begun (is_boot s.front) (known_of old (node_of s.front)) → Hears was passed (event_of s) Passes → StandsForLines old lines
    → ((said : List Said) → StandsFor passed said → made ≡ rewritten set said line)
    → made ≡ rewrite_stamped settings lines line (Some s)
line_rewritten old set settings line s was passed made lines same is hears stands sees =
    sees (said_until s (said_of (node_of s.front) lines)) (reached old s was passed lines is hears stands)
    ∙ ap (λ (t : Settings). rewritten t (said_until s (said_of (node_of s.front) lines)) line) same

-- what each node stands for with a line of this stamp is what it stands for with the line
pub stamped_seen : (new : AllKnown) (line : List ℕ) (s : Stamp) (lines : List (List ℕ)) → stamp_of line ≡ Some s
    → ((name : List ℕ) → StandsFor (known_of new name) (said_with name line (Some s) (said_of name lines))) → StandsForLines new (line ∷ lines)
stamped_seen new line s lines is stands = record {
  each = λ name. subst (λ (o : Option Stamp). StandsFor (known_of new name) (said_with name line o (said_of name lines))) (sym is) (stands name);
}

pub unstamped_seen : (new : AllKnown) (line : List ℕ) (lines : List (List ℕ)) → stamp_of line ≡ None → StandsForLines new lines
    → StandsForLines new (line ∷ lines)
unstamped_seen new line lines is stands = record {
  each = λ name. subst (λ (o : Option Stamp). StandsFor (known_of new name) (said_with name line o (said_of name lines))) (sym is) (stands.each name);
}
