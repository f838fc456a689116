-- What was made of the lines of a log.
use Rattle.std.specs.Prelude.{ℕ, List, ◌++◌, Option}
use Rattle.audit_order.specs.Start.{Start}

-- how one stands after lines of a log that a run took since this start, with what was written up to a moment
abbrev pub Standing : Type 0 → Type 1
Standing T = Start → Option (List ℕ) → T → List (List ℕ) → Type 0

-- whatever lines were taken before, no line is taken
abbrev pub Stays : {T : Type 0} → Standing T → (was : Option (List ℕ)) → T → (now : Option (List ℕ)) → T → Type 0
Stays stands was old now new = (before : Start) (lines : List (List ℕ)) → stands before was old lines → stands before now new lines

-- whatever lines were taken before, these are taken too
abbrev pub Takes : {T : Type 0} → Standing T → (was : Option (List ℕ)) → T → (now : Option (List ℕ)) → T → List (List ℕ) → Type 0
Takes stands was old now new more =
    (before : Start) (lines : List (List ℕ)) → stands before was old lines → stands before now new (lines ++ more)
