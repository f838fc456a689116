-- Trees that move to other nodes and other objects.
use Rattle.std.specs.Prelude.{◌≡◌, ℕ, zero, suc, List, Option, None, Some, length, get_or, nat_eq, ◌&&◌, Bool}
use Rattle.std.specs.Map.{lookup}
use Rattle.acts.specs.declared.held.Object.{Object}
use Rattle.fd_table.specs.declared.node.Node.{Node}
use Rattle.fd_table.specs.declared.tree.Tree.{Tree}
use Rattle.fd_table.specs.declared.tree.Holding.{Holding}
use Rattle.fd_table.specs.declared.moving.Moving.{Moving}
use Rattle.fd_table.specs.Trees.{at, child, IsKnown}
use Rattle.fd_table.specs.Holdings.{object_at}
use Rattle.fd_table.specs.Processes.{holding_of}

-- nodes with the objects that their trees number
pub record Shelf : Type 0 where
  pub nodes : List Node
  pub objects : List Object

-- the shelf of these nodes and objects
abbrev pub shelf_of : List Node → List Object → Shelf
shelf_of nodes objects = record { nodes = nodes; objects = objects }

-- what has moved
abbrev pub shelf : Moving → Shelf
shelf moving = record { nodes = moving.nodes.items; objects = moving.objects.items }

-- the object at a path
abbrev pub found : Shelf → ℕ → List ℕ → Option Object
found shelf id path = object_at shelf.objects (at shelf.nodes id path)

-- a tree of this height on a new shelf has the objects of one on the old
pub record Means (old new : Shelf) (height id moved : ℕ) : Type 0 where
  pub known : IsKnown new.nodes (length new.objects) height moved
  pub same : (path : List ℕ) → length path ≡ height → found new moved path ≡ found old id path

-- if these children have moved before, then after it a node over them is the node that has moved
abbrev pub TakesOver : List ℕ → Shelf → Shelf → Shelf → ℕ → Type 0
TakesOver children old before after moved =
    (height id : ℕ)
    → ((d : ℕ) → Means old before height (child old.nodes id d) (get_or children d 0))
    → Means old after (suc height) id moved

-- one place in a list of moves
abbrev pub same_move : ℕ × ℕ → ℕ × ℕ → Bool
same_move a b = nat_eq a.0 b.0 && nat_eq a.1 b.1

-- each tree that has moved has its objects
pub record AreMoved (old new : Shelf) (moves : List ((ℕ × ℕ) × ℕ)) : Type 0 where
  pub each : (height id moved : ℕ)
      → lookup (same_move (height, id)) moves ≡ Some moved → Means old new height id moved

-- what had its objects still has them
abbrev pub StillMeans : Shelf → Shelf → Shelf → Type 0
StillMeans old new later =
    (height id moved : ℕ) → Means old new height id moved → Means old later height id moved

-- each tree that has moved so far has its objects
abbrev pub HasMoved : Shelf → Moving → Type 0
HasMoved old moving = AreMoved old (shelf moving) moving.moves.entries

-- where a tree of this height has moved to, on whatever shelf it was
abbrev pub MovedFrom : Moving → ℕ → ℕ → ℕ → Type 0
MovedFrom moving height id moved =
    (old : Shelf) → HasMoved old moving → Means old (shelf moving) height id moved

-- the new moves are the old ones and this tree, wherever it has moved
abbrev pub Notes : Moving → Moving → ℕ → ℕ → ℕ → Type 0
Notes before after height id moved =
    (old : Shelf) → HasMoved old before → Means old (shelf before) height id moved
    → HasMoved old after

-- a tree of numbers has the objects that it had
pub record TreeMeans (old new : Shelf) (tree moved : Tree) : Type 0 where
  pub low : Means old new 3 tree.low moved.low
  pub high : Means old new 8 tree.high moved.high

-- a process holds on the new shelf what it held on the old
pub record HoldingMeans (old new : Shelf) (holding moved : Holding) : Type 0 where
  pub kept : TreeMeans old new holding.kept moved.kept
  pub marked : TreeMeans old new holding.marked moved.marked

-- all processes do
abbrev pub ProcessesMean : Shelf → Shelf → List (ℕ × Holding) → List (ℕ × Holding) → Type 0
ProcessesMean old new processes moved =
    (p : ℕ) → HoldingMeans old new (holding_of processes p) (holding_of moved p)
