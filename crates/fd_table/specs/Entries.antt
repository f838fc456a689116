-- What one process holds, as a list by ascending descriptors.
use Rattle.std.specs.Prelude.{⊤, ◌==◌, ◌+◌, ◌*◌, ◌/◌, ◌^◌, ◌++◌, ◌&&◌, ℕ, zero, suc, Bool, not, nat_lt, if◌then◌else◌, List, [], ◌∷◌, Option, None, Some}
use Rattle.std.specs.List.{AllByRecursion}
use Rattle.acts.specs.declared.held.Held.{Held}
use Rattle.fd_table.specs.declared.entries.FdEntry.{FdEntry}
use Rattle.fd_table.specs.declared.entries.Course.{Course}
use Rattle.fd_table.specs.Trees.{child}
use Rattle.fd_table.specs.Holdings.{held_by}

-- what the list says of descriptor n
abbrev pub entry_of : List FdEntry → ℕ → Option Held
entry_of [] n = None
entry_of (e ∷ es) n = if e.fd == n then Some e.held else entry_of es n

-- each is Less than all after it
abbrev pub Ascends : {A : Type 0} → (A → A → Type 0) → List A → Type 0
Ascends Less [] = ⊤
Ascends Less (x ∷ xs) = AllByRecursion (Less x) xs × Ascends Less xs

-- what is held; or only if an exec closes it
abbrev pub chosen : Bool → Option Held → Option Held
chosen closed_alone None = None
chosen closed_alone (Some held) = if closed_alone && not held.cloexec then None else Some held

-- the entry of a descriptor that holds something
abbrev pub entry_if : ℕ → Option Held → List FdEntry
entry_if fd None = []
entry_if fd (Some held) = record { fd = fd; held = held } ∷ []

-- the entry of a descriptor, whose numbers in the two trees are these
abbrev pub leaf : Course → ℕ → ℕ → ℕ → List FdEntry
leaf course kept marked fd =
    if nat_lt fd course.least
    then []
    else entry_if fd (chosen course.closed_alone (held_by course.objects.now kept marked))

-- what stands below each digit under this one, one after the other
abbrev pub below : (ℕ → List FdEntry) → ℕ → List FdEntry
below f zero = []
below f (suc digit) = below f digit ++ f digit

-- the entries of two trees of this height, whose descriptors begin with the digits of `first`
unfoldable pub entries_in : Course → ℕ → ℕ → ℕ → ℕ → List FdEntry
entries_in course zero kept marked first = leaf course kept marked first
entries_in course (suc height) kept marked first =
    below (λ d. entries_in course height (child course.nodes.now kept d) (child course.nodes.now marked d) (first * 16 + d)) 16

-- the digits before this many others of a number of 32 bits say less than this
abbrev pub room_below : ℕ → ℕ
room_below zero = 2 ^ 32
room_below (suc height) = room_below height / 16
