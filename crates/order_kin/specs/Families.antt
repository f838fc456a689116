-- What is known of the processes of a log by the calls that were read.
use Rattle.std.specs.Prelude.{◌≡◌, ℕ, ◌&&◌, ◌||◌, Bool, true, false, List, [], ◌∷◌, Option, None, Some, unwrap_or, if◌then◌else◌}
use Rattle.std.specs.List.{list_any}
use Rattle.std.specs.Map.{lookup}
use Rattle.std.specs.Ordering.{nat_cmp, is_eq}
use Rattle.order_text.specs.Stamp.{Stamp, stamp_of}
use Rattle.order_place.specs.Places.{node_of, is_boot}
use Rattle.order_place.specs.Nodes.{is_node}
use Rattle.order_kin.specs.declared.heard.Heard.{Heard}
use Rattle.order_kin.specs.declared.heard.Deed.{Deed}
use Rattle.order_kin.specs.declared.heard.Deed.TheVariants as deed
use Rattle.order_kin.specs.declared.brood.Fork.{Fork}
use Rattle.order_kin.specs.declared.brood.Kid.{Kid}
use Rattle.order_kin.specs.Broods.{Kept, no_brood, born, forked, told}
use Rattle.order_kin.specs.Heard.{heard_of}

-- one process
abbrev pub is_same : ℕ → ℕ → Bool
is_same a b = is_eq (nat_cmp a b)

-- ---- what is known of the processes of a node, looking back

-- which processes were seen that haven't ended, and the forks and children of each
abbrev pub Known : Type 0
Known = ℕ → Bool

abbrev pub Broods : Type 0
Broods = ℕ → Kept

pub record Family : Type 0 where
  pub known : Known
  pub broods : Broods

abbrev pub nobody : Family
nobody = record { known = λ p. false; broods = λ p. no_brood }

-- the child that a call shows, and the fork that it is
abbrev pub kid_of : Heard → Kid
kid_of h = record { pid = h.pid; ms = h.ms }

abbrev pub fork_of : Heard → ℕ → Fork
fork_of h answer = record { ms = h.ms; serial = h.serial; answer = answer }

-- a process that wasn't seen is a child of its parent from its first call on
abbrev pub known_met : Known → Heard → Known
known_met known h p = if is_same h.pid p then true else known p

abbrev pub broods_met : Bool → Broods → Heard → Broods
broods_met true broods h p = broods p
broods_met false broods h p = if is_same h.parent p then born (kid_of h) (broods p) else broods p

abbrev pub met : Heard → Family → Family
met h family = record { known = known_met family.known h; broods = broods_met (family.known h.pid) family.broods h }

-- a fork is one of its process, and of a process that has ended nothing is known
abbrev pub known_by : Deed → Known → Heard → Known
known_by deed.Ends known h p = if is_same h.pid p then false else known p
known_by _ known h p = known p

abbrev pub broods_by : Deed → Broods → Heard → Broods
broods_by (deed.Forks answer) broods h p = if is_same h.pid p then forked (fork_of h answer) (broods p) else broods p
broods_by deed.Ends broods h p = if is_same h.pid p then no_brood else broods p
broods_by deed.Nothing broods h p = broods p

abbrev pub did : Heard → Family → Family
did h family = record { known = known_by h.deed family.known h; broods = broods_by h.deed family.broods h }

-- what is known after a line that may say something
abbrev pub family_after : Option Heard → Family → Family
family_after None family = family
family_after (Some h) family = did h (met h family)

-- nothing, if a line says that the node was started
abbrev pub since_start : Bool → Family → Family
since_start starts family = if starts then nobody else family

-- what is known of a node with a line of this stamp, or of none
abbrev pub family_with : Bool → List ℕ → List ℕ → Option Stamp → Family → Family
family_with compat name line None family = family
family_with compat name line (Some s) family =
    if is_node (node_of s.front) name then family_after (heard_of compat s line) (since_start (is_boot s.front) family) else family

-- what is known of a node by the lines that were read, newest first
abbrev pub family_in : Bool → List ℕ → List (List ℕ) → Family
family_in compat name [] = nobody
family_in compat name (line ∷ before) = family_with compat name line (stamp_of line) (family_in compat name before)

-- the child that a call has begun, if it is a fork of which it can be told
abbrev pub child_with : Broods → Heard → Deed → Option ℕ
child_with broods h (deed.Forks answer) = told h.ms h.serial (broods h.pid)
child_with broods h _ = None

abbrev pub child_by : Broods → Option Heard → Option ℕ
child_by broods None = None
child_by broods (Some h) = child_with broods h h.deed

-- the child that a line's fork has begun, by the lines that were read, newest first
abbrev pub child_stamped : Bool → List (List ℕ) → List ℕ → Option Stamp → Option ℕ
child_stamped compat lines line None = None
child_stamped compat lines line (Some s) = child_by (family_in compat (node_of s.front) lines).broods (heard_of compat s line)

abbrev pub child_of : Bool → List (List ℕ) → List ℕ → Option ℕ
child_of compat lines line = child_stamped compat lines line (stamp_of line)

-- ---- what is kept

-- what is kept of the processes of a node
pub record Home : Type 0 where
  pub known : List ℕ
  pub broods : List (ℕ × Kept)

abbrev pub empty : Home
empty = record { known = []; broods = [] }

abbrev pub is_known_at : Home → Known
is_known_at home p = list_any (is_same p) home.known

abbrev pub brood_at : Home → Broods
brood_at home p = unwrap_or (lookup (is_same p) home.broods) no_brood

-- a process has this, and the rest stays
pub record Keeps (old new : Home) (pid : ℕ) (brood : Kept) : Type 0 where
  pub known : new.known ≡ old.known
  pub each : (p : ℕ) → brood_at new p ≡ (if is_same pid p then brood else brood_at old p)

-- what is kept is known
pub record IsFamily (home : Home) (seen : Known) (kin : Broods) : Type 0 where
  pub known : (p : ℕ) → is_known_at home p ≡ seen p
  pub broods : (p : ℕ) → brood_at home p ≡ kin p

abbrev pub StandsFor : Home → Family → Type 0
StandsFor home family = IsFamily home family.known family.broods

-- what is kept of all nodes, and whether it is
pub record AllKept : Type 0 where
  pub compat : Bool
  pub nodes : List (List ℕ × Home)

abbrev pub home_of : AllKept → List ℕ → Home
home_of all name = unwrap_or (lookup (is_node name) all.nodes) empty

abbrev pub begun : Bool → Home → Home
begun starts home = if starts then empty else home

-- this is kept of a node, and of the others what was
pub record KeepsNode (old new : AllKept) (name : List ℕ) (home : Home) : Type 0 where
  pub compat : new.compat ≡ old.compat
  pub here : home_of new name ≡ home
  pub others : (other : List ℕ) → is_node name other ≡ false → home_of new other ≡ home_of old other

-- a line of a node was read that says this, and starts the node if that is so; of the others what was kept stays
pub record TakesIn (old new : AllKept) (name : List ℕ) (starts : Bool) (heard : Option Heard) : Type 0 where
  pub compat : new.compat ≡ old.compat
  pub here : (family : Family) → StandsFor (begun starts (home_of old name)) family → StandsFor (home_of new name) (family_after heard family)
  pub others : (other : List ℕ) → is_node name other ≡ false → home_of new other ≡ home_of old other

-- what is kept is known by these lines, newest first
pub record StandsForLines (all : AllKept) (lines : List (List ℕ)) : Type 0 where
  pub each : (name : List ℕ) → StandsFor (home_of all name) (family_in all.compat name lines)

-- the child that is told of a call of a node, and of a line of this stamp, is that by the lines for which this stands
abbrev pub TellsOf : AllKept → List ℕ → Heard → Option ℕ → Type 0
TellsOf all name heard child = (lines : List (List ℕ)) → StandsForLines all lines → child ≡ child_by (family_in all.compat name lines).broods (Some heard)

abbrev pub Tells : AllKept → List ℕ → Option Stamp → Option ℕ → Type 0
Tells all line found child = (lines : List (List ℕ)) → StandsForLines all lines → child ≡ child_stamped all.compat lines line found

-- a line was read
abbrev pub Reads : AllKept → AllKept → List ℕ → Type 0
Reads old new line = (lines : List (List ℕ)) → StandsForLines old lines → StandsForLines new (line ∷ lines)

-- a line of this stamp was read
abbrev pub ReadsStamped : AllKept → AllKept → List ℕ → Stamp → Type 0
ReadsStamped old new line s = (lines : List (List ℕ)) → StandsForLines old lines
    → (name : List ℕ) → StandsFor (home_of new name) (family_with new.compat name line (Some s) (family_in new.compat name lines))
