use Rattle.std.proofs.Common.{take}
use Rattle.std.specs.Prelude.{nat_eq}
use Rattle.std.specs.List.{list_any}
use Rattle.std.specs.Ordering.{nat_cmp}
use Rattle.fd_table.specs.Table.{address_at}
use Rattle.flow_events.proofs.Collecting.{Collects}
use Rattle.flow_events.proofs.rows.addresses_of.Given as goal

-- the addresses of the sockets so far
abbrev pub invariant-loop-socket : goal.invariant-loop-socket
invariant-loop-socket l = Collects nat_cmp l.addresses.entries (λ s. list_any (nat_eq s) (take l.socket-index l.socket-items)) (address_at l.fds)
