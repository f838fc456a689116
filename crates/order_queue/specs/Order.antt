-- Which of two lines is taken first.
use Rattle.std.specs.Prelude.{◌≡◌, ⊤, false, List, [], ◌∷◌}
use Rattle.std.specs.List.{All, Contains}
use Rattle.std.specs.declared.cmp.Ordering.{Ordering}
use Rattle.std.specs.Ordering.{nat_cmp, ordering_then, is_lt}
use Rattle.std.specs.Cmp.Lexicographic.{slice_cmp}
use Rattle.std.specs.declared.cmp.Reverse.{Reverse}
use Rattle.order_queue.specs.declared.waiting.Waiting.{Waiting}

-- the order of two lines by their ranks, then by their numbers in the log
abbrev pub rank_cmp : Waiting → Waiting → Ordering
rank_cmp a b =
    ordering_then (nat_cmp a.rank b.rank) (ordering_then (nat_cmp a.number b.number) (slice_cmp nat_cmp a.line b.line))

-- the order of two lines by their events: by the serial number, the time and the node; within an event by rank, then by number
abbrev pub event_cmp : Waiting → Waiting → Ordering
event_cmp a b =
    ordering_then (nat_cmp a.serial b.serial)
    (ordering_then (nat_cmp a.ms b.ms) (ordering_then (slice_cmp nat_cmp a.node b.node) (rank_cmp a b)))

-- The order of two lines by their places: by the time at which their event counts, then by the number by which it goes among those
-- of that time, then by their events.
abbrev pub place_cmp : Waiting → Waiting → Ordering
place_cmp a b = ordering_then (nat_cmp a.time b.time) (ordering_then (nat_cmp a.goes_by b.goes_by) (event_cmp a b))

-- the same order turned, for a heap whose greatest element is taken first
abbrev pub turned_cmp : Reverse Waiting → Reverse Waiting → Ordering
turned_cmp a b = place_cmp b.0 a.0

-- none of these lines comes before this one
abbrev pub IsLeast : Waiting → List Waiting → Type 0
IsLeast item waits = All (λ other. is_lt (place_cmp other item) ≡ false) waits

-- none of these lines comes after this one
abbrev pub IsGreatest : Waiting → List Waiting → Type 0
IsGreatest item waits = All (λ other. is_lt (place_cmp item other) ≡ false) waits

-- each of these lines comes no later than those after it
abbrev pub AreInTurn : List Waiting → Type 0
AreInTurn [] = ⊤
AreInTurn (item ∷ rest) = IsLeast item rest × AreInTurn rest

-- this is one of these lines, and none of them comes before it
pub record IsFirst (item : Waiting) (waits : List Waiting) : Type 0 where
  pub one : Contains waits item
  pub least : IsLeast item waits

-- the first of some lines comes no later than each of the others
pub record Leads (some others : List Waiting) : Type 0 where
  pub each : (item : Waiting) → IsFirst item some → IsLeast item others
  pub none : some ≡ [] → others ≡ []
