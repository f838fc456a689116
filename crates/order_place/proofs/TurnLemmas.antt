-- What is known of each node, if the one at hand stands before the others.
use Rattle.std.proofs.Common.{◌≡◌, ◌∙◌, sym, refl, ap, subst, ℕ, Bool, true, false, List, ◌∷◌, Some, max}
use Rattle.std.specs.Prelude.{unwrap_or}
use Rattle.std.specs.Map.{lookup}
use Rattle.std.specs.Str.{bytes_eq}
use Rattle.std.proofs.lemmas.Map.Text.{is_eq-slice_cmp}
use Rattle.order_text.specs.Stamp.{Stamp}
use Rattle.order_place.specs.declared.places.Place.{Place}
use Rattle.order_place.specs.Places.{Seen, SeesNext, Forgets, node_of, is_boot, read_as}
use Rattle.order_place.specs.Nodes.{AllSeen, is_node, fresh, begun, node_at, TurnsTo, SeesOf, ForgetsOf, name_of_first, slot_of}
use Rattle.order_place.proofs.ClockLemmas.{by_test}
use Rattle.order_place.proofs.NodeLemmas.{one_node}
use Rattle.order_place.proofs.KeptLemmas.{itself, turned}

-- what was seen, with a node at hand
abbrev pub seen_with : Bool → ℕ → Place → List ℕ → Seen → List (List ℕ × Seen) → AllSeen
seen_with compat clock last mine node others =
    record { compat = compat; clock = clock; last = last; nodes = (mine, node) ∷ others }

-- what is known of a node among these
abbrev among : List (List ℕ × Seen) → List ℕ → Seen
among nodes name = unwrap_or (lookup (is_node name) nodes) fresh

at_head : (name mine : List ℕ) (node : Seen) (others : List (List ℕ × Seen)) → is_node name mine ≡ true → among ((mine, node) ∷ others) name ≡ node
at_head name mine node others same = rw same refl

past_head : (name mine : List ℕ) (node : Seen) (others : List (List ℕ × Seen)) → is_node name mine ≡ false
    → among ((mine, node) ∷ others) name ≡ among others name
past_head name mine node others isnt = rw isnt refl

-- ---- another node comes to hand

pub not_mine : (mine name : List ℕ) → false ≡ bytes_eq mine name → is_node name mine ≡ false
not_mine mine name isnt = turned name mine ∙ is_eq-slice_cmp mine name ∙ sym isnt

-- the node at hand joins the others, and another one is taken from them
same_of_each : (mine name : List ℕ) (was node : Seen) (before between after : List (List ℕ × Seen)) → is_node name mine ≡ false → node ≡ among before name
    → ((other : List ℕ) → is_node name other ≡ false → lookup (is_node other) between ≡ lookup (is_node other) before)
    → lookup (is_node mine) after ≡ Some was
    → ((other : List ℕ) → is_node mine other ≡ false → lookup (is_node other) after ≡ lookup (is_node other) between)
    → (other : List ℕ) → among ((name, node) ∷ after) other ≡ among ((mine, was) ∷ before) other
same_of_each mine name was node before between after isnt is taken kept put other = by_test (is_node other name)
    (λ same. at_head other name node after same ∙ is ∙ ap (among before) (sym (one_node other name same))
    ∙ sym (past_head other mine was before (ap (λ (n : List ℕ). is_node n mine) (one_node other name same) ∙ isnt)))
    (λ apart. past_head other name node after apart ∙ by_test (is_node other mine)
    (λ same. ap (among after) (one_node other mine same) ∙ ap (λ o. unwrap_or o fresh) kept ∙ sym (at_head other mine was before same))
    (λ apart2. ap (λ o. unwrap_or o fresh) (put other (turned mine other ∙ apart2) ∙ taken other (turned name other ∙ apart))
    ∙ sym (past_head other mine was before apart2)))

pub turned_to : (old : AllSeen) (compat : Bool) (clock : ℕ) (last : Place) (mine : List ℕ) (was : Seen) (before between after : List (List ℕ × Seen)) (name at : List ℕ) (node put_node : Seen)
    → seen_with compat clock last mine was before ≡ old → at ≡ name → put_node ≡ node → is_node name mine ≡ false → node ≡ unwrap_or (lookup (is_node name) before) fresh
    → ((other : List ℕ) → is_node name other ≡ false → lookup (is_node other) between ≡ lookup (is_node other) before)
    → lookup (is_node mine) after ≡ Some was
    → ((other : List ℕ) → is_node mine other ≡ false → lookup (is_node other) after ≡ lookup (is_node other) between)
    → TurnsTo old (seen_with compat clock last at put_node after) name
turned_to old compat clock last mine was before between after name at node put_node whole at_is node_is isnt is taken kept put = record {
  compat = ap (λ (a : AllSeen). a.compat) whole;
  clock = ap (λ (a : AllSeen). a.clock) whole;
  last = ap (λ (a : AllSeen). a.last) whole;
  here = at_is;
  each = λ other. ap (λ (n : List ℕ). among ((n, put_node) ∷ after) other) at_is ∙ ap (λ (k : Seen). among ((name, k) ∷ after) other) node_is
      ∙ same_of_each mine name was node before between after isnt is taken kept put other
      ∙ ap (λ (a : AllSeen). node_at a other) whole;
}

-- ---- the node at hand changes

module _ (old mid : AllSeen) (compat : Bool) (clock : ℕ) (last : Place) (mine : List ℕ) (was : Seen) (others : List (List ℕ × Seen)) (name : List ℕ)
    (turns : TurnsTo old mid name) (whole : seen_with compat clock last mine was others ≡ mid) where
  mine_is : mine ≡ name
  mine_is = ap (λ (a : AllSeen). name_of_first a.nodes) whole ∙ turns.here

  is_mine : is_node name mine ≡ true
  is_mine = ap (is_node name) mine_is ∙ itself name

  was_is : was ≡ node_at old name
  was_is = sym (at_head name mine was others is_mine) ∙ ap (λ (a : AllSeen). node_at a name) whole ∙ turns.each name

  others_stay : (node : Seen) (other : List ℕ) → is_node name other ≡ false → among ((mine, node) ∷ others) other ≡ node_at old other
  others_stay node other isnt =
      let apart : is_node other mine ≡ false = ap (is_node other) mine_is ∙ (turned other name ∙ isnt) in
      past_head other mine node others apart ∙ sym (past_head other mine was others apart)
      ∙ ap (λ (a : AllSeen). node_at a other) whole ∙ turns.each other

  pub forgets_here : (node : Seen) (event : ℕ × ℕ) → Forgets was node event → ForgetsOf old (seen_with compat clock last mine node others) name event
  forgets_here node event forgets = record {
    forgets = subst (λ (k : Seen). Forgets (node_at old name) k event) (sym (at_head name mine node others is_mine))
        (subst (λ (k : Seen). Forgets k node event) was_is forgets);
    compat = ap (λ (a : AllSeen). a.compat) whole ∙ turns.compat;
    clock = ap (λ (a : AllSeen). a.clock) whole ∙ turns.clock;
    last = ap (λ (a : AllSeen). a.last) whole ∙ turns.last;
    others = others_stay node;
  }

pub sees_here : (old mid : AllSeen) (compat : Bool) (clock : ℕ) (last : Place) (mine : List ℕ) (was : Seen) (others : List (List ℕ × Seen)) (s : Stamp)
    → TurnsTo old mid (node_of s.front) → seen_with compat clock last mine was others ≡ mid
    → (clock2 : ℕ) (began node : Seen) (line : List ℕ) (p : Place) → began ≡ begun (is_boot s.front) was
    → SeesNext began node s (read_as compat s line) (slot_of p) → clock2 ≡ max clock node.clock.time
    → SeesOf old (seen_with compat clock2 p mine node others) s line p
sees_here old mid compat clock last mine was others s turns whole clock2 began node line p begins sees later =
    let name : List ℕ = node_of s.front in
    let here : node_at (seen_with compat clock2 p mine node others) name ≡ node =
    at_head name mine node others (is_mine old mid compat clock last mine was others name turns whole) in
    let compat_is : compat ≡ old.compat = ap (λ (a : AllSeen). a.compat) whole ∙ turns.compat in
    let clock_is : clock ≡ old.clock = ap (λ (a : AllSeen). a.clock) whole ∙ turns.clock in
    let began_is : began ≡ begun (is_boot s.front) (node_at old name) =
    begins ∙ ap (begun (is_boot s.front)) (was_is old mid compat clock last mine was others name turns whole) in
    record {
      sees = subst (λ (k : Seen). SeesNext (begun (is_boot s.front) (node_at old name)) k s (read_as old.compat s line) (slot_of p)) (sym here)
          (subst (λ (b : Bool). SeesNext (begun (is_boot s.front) (node_at old name)) node s (read_as b s line) (slot_of p)) compat_is
          (subst (λ (k : Seen). SeesNext k node s (read_as compat s line) (slot_of p)) began_is sees));
      others = others_stay old mid compat clock last mine was others name turns whole node;
      clock = later ∙ ap (λ (t : ℕ). max t node.clock.time) clock_is ∙ ap (λ (k : Seen). max old.clock k.clock.time) (sym here);
      compat = compat_is;
    }
