use Rattle.std.proofs.Common.{take, Some}
use Rattle.std.specs.List.{list_any}
use Rattle.flow_base.specs.contracts.types.FileIdPartialEq.TheImpl.{ghosts as files}
use Rattle.flow_base.specs.contracts.types.FileIdOrd.TheImpl.{ghosts as order}
use Rattle.flow_events.specs.Births.{born_at}
use Rattle.flow_events.proofs.Collecting.{Collects}
use Rattle.flow_events.proofs.rows.births_of.Given as goal

-- the births of the file numbers so far
abbrev pub invariant-loop-file : goal.invariant-loop-file
invariant-loop-file l = Collects order.cmp l.counts.entries (λ f. list_any (files.eq f) (take l.file-index l.file-items)) (λ f. Some (born_at l.births f))
