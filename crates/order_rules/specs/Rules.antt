-- What of a whole log is written otherwise, node by node.
use Rattle.std.specs.Prelude.{◌≡◌, ℕ, ◌&&◌, Bool, false, List, [], ◌∷◌, Option, None, Some, unwrap_or, if◌then◌else◌}
use Rattle.std.specs.Map.{lookup}
use Rattle.audit_lex.specs.declared.header.EventKey.{EventKey}
use Rattle.order_text.specs.Stamp.{Stamp, stamp_of}
use Rattle.order_place.specs.Places.{node_of, is_boot}
use Rattle.order_place.specs.Nodes.{is_node}
use Rattle.order_text.specs.declared.rewrite.Rewrite.{Rewrite}
use Rattle.order_rules.specs.declared.settings.Settings.{Settings}
use Rattle.order_rules.specs.Deeds.{Said, Passes, of_event, under_in}
use Rattle.order_rules.specs.Known.{Known, nothing, StandsFor}
use Rattle.order_rules.specs.Rewrites.{class_in, said_after, rewritten, lacks_peer, ends_in}

-- what a node's lines said before a line of it: nothing that holds, if the line says that the node was started
abbrev pub since_start : Bool → List Said → List Said
since_start starts said = if starts then [] else said

-- the event of a line of this stamp
abbrev pub event_of : Stamp → EventKey
event_of s = record { ms = s.ms; serial = s.number }

-- what a node's lines said before a line of this stamp, and that its time has come
abbrev pub said_until : Stamp → List Said → List Said
said_until s said = (event_of s, Passes) ∷ since_start (is_boot s.front) said

-- what the lines of a node say with a line of this stamp, or of none
abbrev pub said_with : List ℕ → List ℕ → Option Stamp → List Said → List Said
said_with name line None said = said
said_with name line (Some s) said =
    if is_node (node_of s.front) name then said_after line (class_in line) (said_until s said) else said

-- what the lines of a node said, of all lines newest first
abbrev pub said_of : List ℕ → List (List ℕ) → List Said
said_of name [] = []
said_of name (line ∷ before) = said_with name line (stamp_of line) (said_of name before)

-- what becomes of a line of this stamp after these lines, newest first: a line without a stamp stays
abbrev pub rewrite_stamped : Settings → List (List ℕ) → List ℕ → Option Stamp → Option Rewrite
rewrite_stamped settings lines line None = None
rewrite_stamped settings lines line (Some s) =
    rewritten settings (said_until s (said_of (node_of s.front) lines)) line

abbrev pub rewrite_of : Settings → List (List ℕ) → List ℕ → Option Rewrite
rewrite_of settings lines line = rewrite_stamped settings lines line (stamp_of line)

-- Whether the event of a line of this stamp lacks the address of its peer after these lines, newest first: what was accepted has a
-- name of its own by the rules that hold, and no record that could get it.
abbrev pub lacks_after : Settings → List Said → EventKey → Bool
lacks_after settings said event =
    settings.join && (settings.apart && lacks_peer (ends_in said) (of_event (under_in said) event) event)

abbrev pub lacks_stamped : Settings → List (List ℕ) → Option Stamp → Bool
lacks_stamped settings lines None = false
lacks_stamped settings lines (Some s) = lacks_after settings (said_of (node_of s.front) lines) (event_of s)

abbrev pub lacks_of : Settings → List (List ℕ) → List ℕ → Bool
lacks_of settings lines line = lacks_stamped settings lines (stamp_of line)

-- what is kept of all nodes
pub record AllKnown : Type 0 where
  pub settings : Settings
  pub nodes : List (List ℕ × Known)

-- what is kept of a node
abbrev pub known_of : AllKnown → List ℕ → Known
known_of all name = unwrap_or (lookup (is_node name) all.nodes) nothing

-- a node that was started
abbrev pub begun : Bool → Known → Known
begun starts known = if starts then nothing else known

-- this is kept of a node, and of the others what was
pub record KeepsNode (old new : AllKnown) (name : List ℕ) (known : Known) : Type 0 where
  pub settings : new.settings ≡ old.settings
  pub here : known_of new name ≡ known
  pub others : (other : List ℕ) → is_node name other ≡ false → known_of new other ≡ known_of old other

-- what is kept is what these lines said, newest first
pub record StandsForLines (all : AllKnown) (lines : List (List ℕ)) : Type 0 where
  pub each : (name : List ℕ) → StandsFor (known_of all name) (said_of name lines)

-- a line of this stamp was seen
abbrev pub SeesStamped : AllKnown → AllKnown → List ℕ → Stamp → Type 0
SeesStamped old new line s = (lines : List (List ℕ)) → StandsForLines old lines
    → (name : List ℕ) → StandsFor (known_of new name) (said_with name line (Some s) (said_of name lines))
