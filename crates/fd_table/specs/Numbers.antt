-- Numbers by descriptor.
use Rattle.std.specs.Prelude.{◌≡◌, ◌==◌, ◌≤◌, ◌++◌, ◌/◌, ◌%◌, ℕ, List, [], ◌∷◌, length, nat_lt, if◌then◌else◌}
use Rattle.fd_table.specs.declared.node.Node.{Node}
use Rattle.fd_table.specs.declared.tree.Tree.{Tree}
use Rattle.fd_table.specs.Trees.{at, IsKnown}

-- the path of a descriptor below 4,096
abbrev pub short_path : ℕ → List ℕ
short_path n = n / 256 ∷ n / 16 % 16 ∷ n % 16 ∷ []

-- the path of another one
abbrev pub long_path : ℕ → List ℕ
long_path n =
    n / 268435456 ∷ n / 16777216 % 16 ∷ n / 1048576 % 16 ∷ n / 65536 % 16
    ∷ n / 4096 % 16 ∷ n / 256 % 16 ∷ n / 16 % 16 ∷ n % 16 ∷ []

-- the number of a descriptor
abbrev pub number_at : List Node → Tree → ℕ → ℕ
number_at nodes tree n =
    if nat_lt n 4096 then at nodes tree.low (short_path n) else at nodes tree.high (long_path n)

-- all nodes of the tree are there, and no number is greater than top
pub record IsTree (nodes : List Node) (top : ℕ) (tree : Tree) : Type 0 where
  pub low : (n : ℕ) → IsKnown nodes top (length (short_path n)) tree.low
  pub high : (n : ℕ) → IsKnown nodes top (length (long_path n)) tree.high

-- nodes were appended, this many at most
abbrev pub IsLonger : ℕ → List Node → List Node → Type 0
IsLonger most old new = (more : List Node) × (length more ≤ most) × (new ≡ old ++ more)

-- if the old tree and the number are there, the new tree is
abbrev pub StaysTree : List Node → List Node → Tree → Tree → ℕ → Type 0
StaysTree old new tree changed number =
    (top : ℕ) → IsTree old top tree → number ≤ top → IsTree new top changed

-- descriptor fd has this number, and the others have what they had
abbrev pub GetsNumber : List Node → List Node → Tree → Tree → ℕ → ℕ → Type 0
GetsNumber old new tree changed fd number =
    (top : ℕ) → IsTree old top tree → number ≤ top
    → (n : ℕ) → number_at new changed n ≡ (if n == fd then number else number_at old tree n)
