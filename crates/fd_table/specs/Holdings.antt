-- What a process holds, by the numbers of objects.
use Rattle.std.specs.Prelude.{◌≡◌, ◌==◌, ◌≤◌, if◌then◌else◌, ℕ, zero, suc, Bool, false, true, List, Option, None, Some, length}
use Rattle.std.specs.List.{slice_get}
use Rattle.acts.specs.declared.held.Held.{Held}
use Rattle.acts.specs.declared.held.Object.{Object}
use Rattle.fd_table.specs.declared.node.Node.{Node}
use Rattle.fd_table.specs.declared.tree.Tree.{Tree}
use Rattle.fd_table.specs.declared.tree.Holding.{Holding}
use Rattle.fd_table.specs.Numbers.{number_at, IsTree}

-- the object with a number; the number 0 is that of none
abbrev pub object_at : List Object → ℕ → Option Object
object_at objects zero = None
object_at objects (suc k) = slice_get objects k

-- an object that is held, and whether an exec closes it
abbrev pub with_mark : Bool → Option Object → Option Held
with_mark cloexec None = None
with_mark cloexec (Some object) = Some (record { object = object; cloexec = cloexec })

-- the first, or else the other
abbrev pub or_else : Option Held → Option Held → Option Held
or_else None other = other
or_else (Some held) other = Some held

-- what two numbers say; the second is that of a descriptor that an exec closes
abbrev pub held_by : List Object → ℕ → ℕ → Option Held
held_by objects kept marked =
    or_else (with_mark false (object_at objects kept)) (with_mark true (object_at objects marked))

-- what a descriptor holds
abbrev pub held_in : List Node → List Object → Holding → ℕ → Option Held
held_in nodes objects holding n =
    held_by objects (number_at nodes holding.kept n) (number_at nodes holding.marked n)

-- all nodes are there, and no number is greater than top
pub record IsHolding (nodes : List Node) (top : ℕ) (holding : Holding) : Type 0 where
  pub kept : IsTree nodes top holding.kept
  pub marked : IsTree nodes top holding.marked

-- a tree without numbers, and a process that holds nothing
abbrev pub bare : Tree
bare = record { low = 0; high = 0 }

abbrev pub nothing : Holding
nothing = record { kept = bare; marked = bare }

-- if the old trees and both numbers are there, the new trees are
abbrev pub StaysHolding : List Node → List Node → Holding → Holding → ℕ → ℕ → Type 0
StaysHolding old new holding changed kept marked =
    (top : ℕ) → IsHolding old top holding → kept ≤ top → marked ≤ top → IsHolding new top changed

-- in one of the two trees descriptor fd has this number, and the others have what they had
abbrev pub GetsIn : (Holding → Tree) → List Node → List Node → Holding → Holding → ℕ → ℕ × ℕ → ℕ
    → Type 0
GetsIn part old new holding changed fd numbers number =
    (top : ℕ) → IsHolding old top holding → numbers.0 ≤ top → numbers.1 ≤ top
    → (n : ℕ)
    → number_at new (part changed) n ≡ (if n == fd then number else number_at old (part holding) n)
