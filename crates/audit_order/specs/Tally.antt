-- How events and late lines are counted as lines are written.
use Rattle.std.specs.Prelude.{◌≡◌, ℕ, ◌+◌, ◌==◌, ◌&&◌, Bool, List, [], nat_eq, if◌then◌else◌}
use Rattle.std.specs.List.{list_any}
use Rattle.std.specs.declared.cmp.Ordering.{Ordering}
use Rattle.std.specs.Ordering.{nat_cmp, ordering_then, is_lt}
use Rattle.std.specs.Cmp.Lexicographic.{pointwise, slice_cmp}
use Rattle.order_queue.specs.declared.waiting.Waiting.{Waiting}
use Rattle.audit_order.specs.declared.counts.Tally.{Tally}
use Rattle.audit_order.specs.declared.counts.Spot.{Spot}
use Rattle.audit_order.specs.declared.sorter.Turn.{Turn}

-- where a line stands
abbrev pub spot_of : Waiting → Spot
spot_of item =
    record { time = item.time; goes_by = item.goes_by; serial = item.serial; ms = item.ms; node = item.node; rank = item.rank }

-- places by the time at which their event counts, the number by which it goes among those of that time, its serial number, its own
-- time, its node, and the rank of the line in it
abbrev pub spot_cmp : Spot → Spot → Ordering
spot_cmp a b =
    ordering_then (nat_cmp a.time b.time)
    (ordering_then (nat_cmp a.goes_by b.goes_by)
    (ordering_then (nat_cmp a.serial b.serial)
    (ordering_then (nat_cmp a.ms b.ms) (ordering_then (slice_cmp nat_cmp a.node b.node) (nat_cmp a.rank b.rank)))))

-- nothing comes before this place
abbrev pub no_spot : Spot
no_spot = record { time = 0; goes_by = 0; serial = 0; ms = 0; node = []; rank = 0 }

-- whether the first of two places is less
abbrev pub is_less : Spot → Spot → Bool
is_less a b = is_lt (spot_cmp a b)

-- whether a line that is written after these is late: one of them has a greater place
abbrev pub is_late : List Waiting → Waiting → Bool
is_late before item = list_any (λ other. is_less (spot_of item) (spot_of other)) before

abbrev pub no_tally : Tally
no_tally = record { events = 0; late = 0; greatest = no_spot }

-- one more line was written at this place
abbrev pub tally_after : Tally → Spot → Tally
tally_after t spot = if is_less spot t.greatest then record t { late = t.late + 1 } else record t { greatest = spot }

-- whether a line is of the event whose lines are written
abbrev pub is_of : Turn → Waiting → Bool
is_of turn item = turn.ms == item.ms && (turn.serial == item.serial && pointwise nat_eq turn.node item.node)
