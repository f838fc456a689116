-- Which sets have a value of a pool, as a block or a page, and what a set may do to it.
use Rattle.std.specs.Prelude.{◌≡◌, ◌≢◌, ◌⊎◌, ◌==◌, ⊤, Bool, true, false, ℕ, ◌+◌, ◌<◌, ◌≤◌, length, List, Some}
use Rattle.std.specs.Vec.{vec_len, vec_capacity}
use Rattle.std.specs.declared.vec.Vec.{Vec}
use Rattle.reduce_source.specs.Slots.{value_of, owner_of}
use Rattle.reduce_source.specs.declared.slot.Slot.{Slot}
use Rattle.reduce_source.specs.declared.slot.Owner.{Owner}
use Rattle.reduce_source.specs.declared.slot.Owner.TheVariants.{Nobody, One, Many}

-- no set has the value
abbrev pub IsFree : Owner → Type 0
IsFree (Nobody next) = ⊤
IsFree (One x) = ⊥
IsFree Many = ⊥

-- the set of x may have the value
abbrev pub may_have : ℕ → Owner → Bool
may_have x (Nobody next) = false
may_have x (One y) = x == y
may_have x Many = true

abbrev pub MayHave : ℕ → Owner → Type 0
MayHave x owner = may_have x owner ≡ true

-- a set other than that of x may have the value
abbrev pub IsKept : ℕ → Owner → Type 0
IsKept x (Nobody next) = ⊥
IsKept x (One y) = y ≢ x
IsKept x Many = ⊤

-- there is a value with this id
abbrev pub IsAt : {T : Type 0} → List (Slot T) → ℕ → Type 0
IsAt slots id = (0 < id) × (id ≤ length slots)

-- the ids of the set of x, by place, are those of values that it may have, and a value that it alone has stands at one place of it
pub record AreHeldBy {T : Type 0} (x : ℕ) (slots : List (Slot T)) (ids : ℕ → ℕ) : Type 0 where
  pub held : (k : ℕ) → MayHave x (owner_of slots (ids k))
  pub once : (j k : ℕ) → ids j ≡ ids k → owner_of slots (ids j) ≡ One x → j ≡ k

-- these ids are those of values that other sets than that of x may have
abbrev pub AreKept : {T : Type 0} → ℕ → List (Slot T) → (ℕ → ℕ) → Type 0
AreKept x slots ids = (k : ℕ) → IsKept x (owner_of slots (ids k))

-- the set of x changed values: those that other sets may have are as before, and stay theirs or become those of many; at most
-- this many were added, in the room that was made for them
pub record Changes {T A : Type 0} (x most : ℕ) (old new : Vec (Slot T) A) : Type 0 where
  pub values : (id : ℕ) → IsKept x (owner_of old.items id) → value_of new.items id ≡ value_of old.items id
  pub owners : (id : ℕ) → IsKept x (owner_of old.items id) → (owner_of new.items id ≡ owner_of old.items id) ⊎ (owner_of new.items id ≡ Many)
  pub count : vec_len new ≤ vec_len old + most
  pub capacity : vec_capacity new ≡ vec_capacity old

-- the set of x has the value `next` in place of its value `mine`: the set may have it, alone only if it is `mine` or no set had it,
-- and its other values are as before
pub record Replaces {T A : Type 0} (x mine next : ℕ) (old new : Vec (Slot T) A) : Type 0 where
  pub held : MayHave x (owner_of new.items next)
  pub fresh : owner_of new.items next ≡ One x → (next ≡ mine) ⊎ IsFree (owner_of old.items next)
  pub rest : (id : ℕ) → id ≢ mine → owner_of old.items id ≡ One x → value_of new.items id ≡ value_of old.items id
  pub own : (id : ℕ) → id ≢ mine → owner_of old.items id ≡ One x → owner_of new.items id ≡ One x
  pub changes : Changes x 1 old new

-- the value with this id is this one now, and the others are as before; at most this many were added
pub record Puts {T A : Type 0} (id : ℕ) (slot : Slot T) (most : ℕ) (old new : Vec (Slot T) A) : Type 0 where
  pub value : value_of new.items id ≡ Some slot.value
  pub owner : owner_of new.items id ≡ slot.owner
  pub others : (other : ℕ) → other ≢ id → value_of new.items other ≡ value_of old.items other
  pub owners : (other : ℕ) → other ≢ id → owner_of new.items other ≡ owner_of old.items other
  pub count : vec_len new ≤ vec_len old + most
  pub capacity : vec_capacity new ≡ vec_capacity old

-- the values are as before, and the owners of all but the one with this id
pub record Notes {T A : Type 0} (id : ℕ) (old new : Vec (Slot T) A) : Type 0 where
  pub values : (other : ℕ) → value_of new.items other ≡ value_of old.items other
  pub owners : (other : ℕ) → other ≢ id → owner_of new.items other ≡ owner_of old.items other
  pub places : length new.items ≡ length old.items
  pub count : vec_len new ≡ vec_len old
  pub capacity : vec_capacity new ≡ vec_capacity old
