-- Arrivals that wait: the place of a flow and the object that it enters.
use Rattle.std.specs.Prelude.{◌≡◌, ◌↔◌, ◌⊎◌, ℕ, ◌+◌, ◌<◌, ◌≤◌, List, Bool, Option, Some, None, IfSome, if◌then◌else◌, nat_lt}
use Rattle.std.specs.List.{Contains}
use Rattle.std.specs.Ordering.{nat_cmp, ordering_then}
use Rattle.std.specs.declared.cmp.Ordering.{Ordering}
use Rattle.std.specs.declared.cmp.Reverse.{Reverse}
use Rattle.flow_base.specs.declared.types.Flow.{Flow}
use Rattle.reach_model.specs.Flows.{source, target, place}
use Rattle.reach_model.specs.Marks.{IsMarked}
use Rattle.reach_model.specs.Paths.{IsSince}
use Rattle.reach_model.specs.Rows.{Row, lasts}
use Rattle.query_walk.specs.Slots.{Slots, Sits}

-- the place of a flow and the object that it enters, of which the least place comes first
abbrev pub Arrival : Type 0
Arrival = Reverse (ℕ × ℕ)

abbrev pub arrival : ℕ → ℕ → Arrival
arrival place object = record { 0 = (place, object) }

abbrev pub at_place : Arrival → ℕ
at_place a = a.0.0

abbrev pub at_object : Arrival → ℕ
at_object a = a.0.1

-- the order of arrivals, in which the greatest one has the least place
abbrev pub by_place : Arrival → Arrival → Ordering
by_place a b = ordering_then (nat_cmp b.0.0 a.0.0) (nat_cmp b.0.1 a.0.1)

-- the first place after another one, or the first place of all
abbrev pub place_after : Option ℕ → ℕ
place_after None = 0
place_after (Some place) = place + 1

-- arrivals that wait: those with a slot of their own, and a heap of the other ones
pub record Held : Type 0 where
  pub slots : Slots
  pub heap : List Arrival

abbrev pub SitsAt : Slots → Arrival → Type 0
SitsAt slots a = Sits slots (at_place a) (at_object a)

abbrev pub IsDue : Held → Arrival → Type 0
IsDue held a = SitsAt held.slots a ⊎ Contains held.heap a

-- one more arrival waits
abbrev pub AddsArrival : (Arrival → Type 0) → Arrival → (Arrival → Type 0) → Type 0
AddsArrival old one new = (a : Arrival) → new a ↔ (old a ⊎ (one ≡ a))

-- the least of the arrivals that wait at a place or after it
pub record IsLeastFrom (waits : Arrival → Type 0) (low : ℕ) (a : Arrival) : Type 0 where
  pub high : low ≤ at_place a
  pub waited : waits a
  pub least : (other : Arrival) → waits other → low ≤ at_place other → at_place a ≤ at_place other

-- none waits at a place or after it
abbrev pub NoneFrom : (Arrival → Type 0) → ℕ → Type 0
NoneFrom waits low = (a : Arrival) → waits a → at_place a < low

-- of two arrivals the one with the lesser place, or the only one that is there
abbrev pub sooner : Option (ℕ × ℕ) → Option (ℕ × ℕ) → Option (ℕ × ℕ)
sooner None other = other
sooner (Some a) None = Some a
sooner (Some a) (Some b) = if nat_lt b.0 a.0 then Some b else Some a

-- the arrivals at a place or after it go on waiting, and no others come
pub record StayFrom (old : Arrival → Type 0) (low : ℕ) (new : Arrival → Type 0) : Type 0 where
  pub rest : (a : Arrival) → old a → low ≤ at_place a → new a
  pub no_more : (a : Arrival) → new a → old a

-- f leaves x from a place on and is no earlier than a time, and a is the place at which it enters its target
pub record Leads (x low : ℕ) (s : Option ℕ) (f : Flow) (a : Arrival) : Type 0 where
  pub leaves : source f ≡ x
  pub after : low ≤ place f
  pub since : IsSince s f
  pub is : arrival (place f) (target f) ≡ a

-- f leads there too, and enters an object that isn't marked
pub record LeadsOn (marks : List Bool) (x low : ℕ) (s : Option ℕ) (f : Flow) (a : Arrival) : Type 0 where
  pub leads : Leads x low s f a
  pub new : ¬ IsMarked marks (target f)

-- the arrival of f waits too, if f leaves x from a place on, is no earlier than a time and enters an object that isn't marked
abbrev pub AddsLed : List Bool → (Arrival → Type 0) → ℕ → ℕ → Option ℕ → Flow → (Arrival → Type 0) → Type 0
AddsLed marks old x low s f new = (a : Arrival) → new a ↔ (old a ⊎ LeadsOn marks x low s f a)

-- the same of each of the flows F
abbrev pub AddsAllLed : List Bool → (Arrival → Type 0) → ℕ → ℕ → Option ℕ → List Flow → (Arrival → Type 0) → Type 0
AddsAllLed marks old x low s F new = (a : Arrival) → new a ↔ (old a ⊎ ((f : Flow) × Contains F f × LeadsOn marks x low s f a))

-- if the rows are observable, the same of each of their last flows
abbrev pub AddsOver : Option (List Row) → List Bool → (Arrival → Type 0) → ℕ → ℕ → Option ℕ → (Arrival → Type 0) → Type 0
AddsOver told marks old x low s new = IfSome told (λ R. AddsAllLed marks old x low s (lasts R) new)

-- the objects of all arrivals are below a number
abbrev pub AreAtBelow : ℕ → (Arrival → Type 0) → Type 0
AreAtBelow known waits = (a : Arrival) → waits a → at_object a < known
