-- Values in a pool by their ids, and their owners.
use Rattle.std.specs.Prelude.{ℕ, zero, suc, List, [], ◌∷◌, Option, Some, None}
use Rattle.reduce_source.specs.declared.slot.Slot.{Slot}
use Rattle.reduce_source.specs.declared.slot.Owner.{Owner}
use Rattle.reduce_source.specs.declared.slot.Owner.TheVariants.{Nobody, Many}

-- the value at a place
abbrev pub value_at : {T : Type 0} → List (Slot T) → ℕ → Option T
value_at [] k = None
value_at (s ∷ rest) zero = Some s.value
value_at (s ∷ rest) (suc k) = value_at rest k

-- the value with an id; the id 0 is that of none
abbrev pub value_of : {T : Type 0} → List (Slot T) → ℕ → Option T
value_of slots zero = None
value_of slots (suc k) = value_at slots k

-- who has the value at a place; nobody has one past the end
abbrev pub owner_at : {T : Type 0} → List (Slot T) → ℕ → Owner
owner_at [] k = Nobody 0
owner_at (s ∷ rest) zero = s.owner
owner_at (s ∷ rest) (suc k) = owner_at rest k

-- who has the value with an id; each set may have the id 0, that of none
abbrev pub owner_of : {T : Type 0} → List (Slot T) → ℕ → Owner
owner_of slots zero = Many
owner_of slots (suc k) = owner_at slots k
