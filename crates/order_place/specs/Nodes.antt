-- What was seen of the nodes of a log.
use Rattle.std.specs.Prelude.{◌≡◌, ℕ, Bool, false, List, [], ◌∷◌, Option, None, Some, max, unwrap_or, if◌then◌else◌}
use Rattle.std.specs.Map.{lookup}
use Rattle.std.specs.Ordering.{nat_cmp, is_eq}
use Rattle.std.specs.Cmp.Lexicographic.{slice_cmp}
use Rattle.order_text.specs.Stamp.{Stamp}
use Rattle.order_calls.specs.Known.{nothing}
use Rattle.order_place.specs.declared.clock.Clock.{Clock}
use Rattle.order_place.specs.declared.places.Place.{Place}
use Rattle.order_place.specs.declared.slot.Slot.{Slot}
use Rattle.order_place.specs.Places.{Seen, SeesNext, Forgets, IsPlaceOf, node_of, is_boot, read_as}
use Rattle.order_place.specs.Sights.{Sight, Started, StandsFor}

-- What was seen: the greatest time of a clock, the place of the last line, and what was seen of each node; and whether 32-bit
-- calls are read as they are rewritten.
pub record AllSeen : Type 0 where
  pub compat : Bool
  pub clock : ℕ
  pub last : Place
  pub nodes : List (List ℕ × Seen)

-- one node
abbrev pub is_node : List ℕ → List ℕ → Bool
is_node a b = is_eq (slice_cmp nat_cmp a b)

-- whether something is kept of this node
abbrev pub is_of : {T : Type 0} → List ℕ → Option (List ℕ × T) → Bool
is_of name None = false
is_of name (Some kept) = is_node name kept.0

-- nothing was seen
abbrev pub none : Clock
none = record { time = 0; greatest = 0; serial = 0; second = 0 }

abbrev pub fresh : Seen
fresh = record { clock = none; files = nothing; calls = []; events = [] }

-- a node that was started: its processes, with what they hold, and its clock are new ones
abbrev pub booted : Seen → Seen
booted seen = record seen { clock = none; files = nothing; calls = [] }

abbrev pub begun : Bool → Seen → Seen
begun boots seen = if boots then booted seen else seen

-- what was seen of a node
abbrev pub node_at : AllSeen → List ℕ → Seen
node_at all name = unwrap_or (lookup (is_node name) all.nodes) fresh

-- the name of the node at hand, which stands before the others
abbrev pub name_of_first : List (List ℕ × Seen) → List ℕ
name_of_first [] = []
name_of_first (node ∷ others) = node.0

-- the node of this name is at hand, and of each node the same was seen
pub record TurnsTo (old new : AllSeen) (name : List ℕ) : Type 0 where
  pub compat : new.compat ≡ old.compat
  pub clock : new.clock ≡ old.clock
  pub last : new.last ≡ old.last
  pub here : name_of_first new.nodes ≡ name
  pub each : (other : List ℕ) → node_at new other ≡ node_at old other

-- the slot of a place
abbrev pub slot_of : Place → Slot
slot_of p = record { time = p.time; goes_by = p.goes_by }

-- a line of this stamp, or of none, has this place after what was seen
abbrev pub HasPlace : AllSeen → Option Stamp → Place → Type 0
HasPlace all None p = p ≡ all.last
HasPlace all (Some s) p = IsPlaceOf s p

-- A line of a node was seen. If it says that the node was started, the processes and the clock from before are forgotten.
pub record SeesOf (old new : AllSeen) (s : Stamp) (line : List ℕ) (p : Place) : Type 0 where
  pub sees : SeesNext (begun (is_boot s.front) (node_at old (node_of s.front))) (node_at new (node_of s.front)) s (read_as old.compat s line) (slot_of p)
  pub others : (other : List ℕ) → is_node (node_of s.front) other ≡ false → node_at new other ≡ node_at old other
  pub clock : new.clock ≡ max old.clock (node_at new (node_of s.front)).clock.time
  pub compat : new.compat ≡ old.compat

-- a line without a stamp changes nothing
abbrev pub SeesLine : AllSeen → AllSeen → Option Stamp → List ℕ → Place → Type 0
SeesLine old new None line p = new ≡ old
SeesLine old new (Some s) line p = SeesOf old new s line p

-- an event of a node is held no longer
pub record ForgetsOf (old new : AllSeen) (name : List ℕ) (event : ℕ × ℕ) : Type 0 where
  pub forgets : Forgets (node_at old name) (node_at new name) event
  pub compat : new.compat ≡ old.compat
  pub clock : new.clock ≡ old.clock
  pub last : new.last ≡ old.last
  pub others : (other : List ℕ) → is_node name other ≡ false → node_at new other ≡ node_at old other

-- what was seen of one node, of what was seen of all, newest first
abbrev pub sights_of : List ℕ → List (List ℕ × Sight) → List Sight
sights_of name [] = []
sights_of name ((of, sight) ∷ before) = if is_node of name then sight ∷ sights_of name before else sights_of name before

-- what is seen of a node by a line: that it was started, if the line says so, and the line
abbrev pub seen_by : Bool → List ℕ → Sight → List (List ℕ × Sight)
seen_by boots name sight = if boots then (name, sight) ∷ (name, Started) ∷ [] else (name, sight) ∷ []

-- what is known of each node is what was seen of it
pub record StandsForAll (all : AllSeen) (sights : List (List ℕ × Sight)) : Type 0 where
  pub each : (name : List ℕ) → StandsFor (node_at all name) (sights_of name sights)
