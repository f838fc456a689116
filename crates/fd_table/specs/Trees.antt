-- Trees of nodes that never change, and the numbers in them.
use Rattle.std.specs.Prelude.{◌≡◌, ◌≢◌, ◌<◌, ◌≤◌, ◌++◌, ℕ, zero, suc, List, [], ◌∷◌, length, get_or}
use Rattle.fd_table.specs.declared.node.Node.{Node}

-- a digit of a path
abbrev pub IsDigit : ℕ → Type 0
IsDigit d = d < 16

-- the children of the node at a place
abbrev pub children_at : List Node → ℕ → List ℕ
children_at [] k = []
children_at (node ∷ rest) zero = node.ids
children_at (node ∷ rest) (suc k) = children_at rest k

-- the children of the node with an id; the id 0 is that of a tree without numbers
abbrev pub children : List Node → ℕ → List ℕ
children nodes zero = []
children nodes (suc k) = children_at nodes k

-- the id of a child, 0 for a digit that the node doesn't have
abbrev pub child : List Node → ℕ → ℕ → ℕ
child nodes id digit = get_or (children nodes id) digit 0

-- the number at a path of a tree
abbrev pub at : List Node → ℕ → List ℕ → ℕ
at nodes id [] = id
at nodes id (digit ∷ path) = at nodes (child nodes id digit) path

-- all nodes of a tree of this height are there, and no number is greater than top
abbrev pub IsKnown : List Node → ℕ → ℕ → ℕ → Type 0
IsKnown nodes top zero id = id ≤ top
IsKnown nodes top (suc height) id =
    (id ≤ length nodes) × ((digit : ℕ) → IsKnown nodes top height (child nodes id digit))

-- this many nodes were appended
abbrev pub IsGrown : ℕ → List Node → List Node → Type 0
IsGrown count old new = (more : List Node) × (length more ≡ count) × (new ≡ old ++ more)

-- if the old tree and the number are there, the new tree is
abbrev pub StaysKnown : List Node → List Node → ℕ → ℕ → List ℕ → ℕ → Type 0
StaysKnown old new id changed path number =
    (top : ℕ) → IsKnown old top (length path) id → number ≤ top
    → IsKnown new top (length path) changed

-- the number stands at this path of the new tree
abbrev pub StandsAt : List Node → List Node → ℕ → ℕ → List ℕ → ℕ → Type 0
StandsAt old new id changed path number =
    (top : ℕ) → IsKnown old top (length path) id → number ≤ top → at new changed path ≡ number

-- at the other paths of this length stand the numbers that stood there
abbrev pub OthersStay : List Node → List Node → ℕ → ℕ → List ℕ → ℕ → Type 0
OthersStay old new id changed path number =
    (top : ℕ) → IsKnown old top (length path) id → number ≤ top
    → (ds : List ℕ) → length ds ≡ length path → ds ≢ path → at new changed ds ≡ at old id ds
