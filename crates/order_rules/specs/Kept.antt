-- What is kept, as rules ask for it.
use Rattle.order_rules.specs.Known.{Known, held_at, is_host_at, is_place_at, waits_at}
use Rattle.order_rules.specs.Rewrites.{Ends}

-- what is kept of the connections of a node
abbrev pub ends_of : Known → Ends
ends_of known = record {
  clock = known.doors.clock;
  held = held_at known;
  hosts = is_host_at known;
  places = is_place_at known.doors;
  waits = waits_at known.doors;
}
