use Rattle.std.proofs.Common.{take}
use Rattle.flow_events.specs.Rows.{lost_word, slot_cmp}
use Rattle.flow_events.specs.Since.{has_slot}
use Rattle.flow_events.proofs.Collecting.{Collects}
use Rattle.flow_events.proofs.rows.lost_of.Given as goal

-- the descriptors so far
abbrev pub invariant-loop-slot : goal.invariant-loop-slot
invariant-loop-slot l = Collects slot_cmp l.held.entries (λ q. has_slot (take l.slot-index l.slots) q.0 q.1) (lost_word l.lives.entries)
