-- What all processes hold, by the numbers of objects.
use Rattle.std.specs.Prelude.{◌≡◌, if◌then◌else◌, ◌+◌, ◌*◌, ◌≤◌, ℕ, List, Vec, vec_len, vec_capacity, unwrap_or, nat_eq}
use Rattle.std.specs.Map.{lookup}
use Rattle.indexmap.specs.IndexMap.{IndexMap, spare}
use Rattle.fd_table.specs.declared.node.Node.{Node}
use Rattle.fd_table.specs.declared.tree.Holding.{Holding}
use Rattle.acts.specs.Holding.{is_at}
use Rattle.acts.specs.declared.held.Object.{Object}
use Rattle.fd_table.specs.declared.tree.Tree.{Tree}
use Rattle.fd_table.specs.Numbers.{number_at}
use Rattle.fd_table.specs.Holdings.{nothing, IsHolding}

-- what a process holds
abbrev pub holding_of : List (ℕ × Holding) → ℕ → Holding
holding_of processes p = unwrap_or (lookup (nat_eq p) processes) nothing

-- all nodes are there, and no number is greater than top
pub record AreHoldings (processes : List (ℕ × Holding)) (nodes : List Node) (top : ℕ) : Type 0 where
  pub each : (p : ℕ) → IsHolding nodes top (holding_of processes p)

-- this many nodes and objects, with such capacities and room for this many processes, leave room for
-- this many changes: 16 nodes, one object and one process for each of them
pub record HasRoom (changes nodes node_room objects object_room spare : ℕ) : Type 0 where
  pub nodes_fit : nodes + 16 * changes ≤ node_room
  pub objects_fit : objects + changes ≤ object_room
  pub processes_fit : changes ≤ spare

-- the holding of p is what `change p` makes of what it was
abbrev pub AreChanged : List (ℕ × Holding) → List (ℕ × Holding) → (ℕ → Holding → Holding) → Type 0
AreChanged old new change = (p : ℕ) → holding_of new p ≡ change p (holding_of old p)

-- what all processes hold, and the nodes of their trees
pub record Holders : Type 0 where
  pub processes : List (ℕ × Holding)
  pub nodes : List Node

abbrev pub holders : List (ℕ × Holding) → List Node → Holders
holders processes nodes = record { processes = processes; nodes = nodes }

-- if both numbers are there, no process loses a node
abbrev pub StaySound : Holders → Holders → ℕ → ℕ → Type 0
StaySound old new kept marked =
    (top : ℕ) → AreHoldings old.processes old.nodes top → kept ≤ top → marked ≤ top
    → AreHoldings new.processes new.nodes top

-- in one of the two trees descriptor fd of pid has this number, and the others have what they had
abbrev pub GetNumber : (Holding → Tree) → Holders → Holders → ℕ → ℕ → ℕ × ℕ → ℕ → Type 0
GetNumber part old new pid fd numbers number =
    (top : ℕ) → AreHoldings old.processes old.nodes top → numbers.0 ≤ top → numbers.1 ≤ top
    → (p n : ℕ) → number_at new.nodes (part (holding_of new.processes p)) n
    ≡ (if is_at pid fd p n
    then number
    else number_at old.nodes (part (holding_of old.processes p)) n)

-- the maps and lists of a table have room for this many changes
abbrev pub Fits : {S A : Type 0} → ℕ → IndexMap ℕ Holding S → Vec Node A → Vec Object A → Type 0
Fits changes processes nodes objects =
    HasRoom changes (vec_len nodes) (vec_capacity nodes) (vec_len objects) (vec_capacity objects)
    (spare processes)
