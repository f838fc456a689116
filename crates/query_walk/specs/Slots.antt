-- Slots for places: of each place whether it is taken, and by which object.
use Rattle.std.specs.Prelude.{◌≡◌, ◌≢◌, ◌/◌, ◌%◌, ◌↔◌, ◌⊎◌, ℕ, ◌<◌, List, [], slice_index_or}
use Rattle.query_walk.specs.Bits.{IsSet}

-- the object of a place, in pages of 1,024 places each; a place without an object has 0
abbrev pub object_at : List (List ℕ) → ℕ → ℕ
object_at pages place = slice_index_or (slice_index_or pages (place / 1024) []) (place % 1024) 0

-- how many places have a slot, a bit for each, and the objects in pages
pub record Slots : Type 0 where
  pub places : ℕ
  pub bits : List ℕ
  pub pages : List (List ℕ)

-- an object sits at a place
pub record Sits (slots : Slots) (place object : ℕ) : Type 0 where
  pub set : IsSet slots.bits place
  pub is : object_at slots.pages place ≡ object

-- a place has a slot, and no object sits there
pub record IsFree (slots : Slots) (place : ℕ) : Type 0 where
  pub low : place < slots.places
  pub free : ¬ IsSet slots.bits place

-- an object more sits at a place
abbrev pub SitsToo : Slots → ℕ → ℕ → Slots → Type 0
SitsToo old place object new = (p x : ℕ) → Sits new p x ↔ (Sits old p x ⊎ ((place ≡ p) × (object ≡ x)))

-- one place of a page has an object, and the other places are as before
pub record IsPut (old : List ℕ) (at object : ℕ) (new : List ℕ) : Type 0 where
  pub here : slice_index_or new at 0 ≡ object
  pub others : (p : ℕ) → p ≢ at → slice_index_or new p 0 ≡ slice_index_or old p 0
