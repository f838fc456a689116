-- What is kept of what lines said.
use Rattle.std.specs.Prelude.{◌≡◌, ℕ, ◌&&◌, not, Bool, true, false, List, [], Option, None, Some, option_map, unwrap_or, if◌then◌else◌}
use Rattle.std.specs.List.{list_any}
use Rattle.std.specs.Map.{lookup}
use Rattle.audit_lex.specs.declared.header.EventKey.{EventKey}
use Rattle.order_rules.specs.declared.held.Thing.{Thing}
use Rattle.order_rules.specs.declared.held.Held.{Held}
use Rattle.order_rules.specs.declared.under.Under.{Under}
use Rattle.order_rules.specs.declared.doors.Door.{Door}
use Rattle.order_rules.specs.declared.target.Target.{Target}
use Rattle.order_rules.specs.Addresses.{Inet, is_any, inet_of, place_of}
use Rattle.order_rules.specs.Doors.{nobody}
use Rattle.order_rules.specs.Deeds.{Deed, Said, Holding, Hosts, Places, Waits, is_same, is_known, is_one, clock_after, clock_in, under_after, held_after, hosts_after, places_after, waits_after, under_in, held_in, is_host_in, is_place_in, waits_in, changed, bound_to, bound, hosted, placed, met, bound_in, of_event}

-- what a process holds: what an exec leaves open, and what it closes
pub record Fds : Type 0 where
  pub kept : List (ℕ × Thing)
  pub marked : List (ℕ × Thing)

-- a process that holds nothing that is known
abbrev pub no_fds : Fds
no_fds = record { kept = []; marked = [] }

abbrev pub with_mark : Bool → Thing → Held
with_mark stays thing = record { thing = thing; stays = stays }

-- what one of the two maps has, the first if both do
abbrev pub first_held : Option Thing → Option Thing → Option Held
first_held (Some thing) other = Some (with_mark true thing)
first_held None other = option_map (with_mark false) other

-- what a descriptor of a process holds
abbrev pub held_of : Fds → ℕ → Option Held
held_of fds n = first_held (lookup (is_same n) fds.kept) (lookup (is_same n) fds.marked)

-- what is kept of connections: the places that sockets were bound to, what waits at some of them, and the time
pub record Meetings : Type 0 where
  pub places : List (List ℕ)
  pub waits : List (List ℕ × Door)
  pub clock : ℕ

abbrev pub no_meetings : Meetings
no_meetings = record { places = []; waits = []; clock = 0 }

abbrev pub is_place_at : Meetings → Places
is_place_at doors place = list_any (is_one place) doors.places

abbrev pub waits_at : Meetings → Waits
waits_at doors place = unwrap_or (lookup (is_one place) doors.waits) nobody

-- what is kept: what each process holds, the newest call, the hosts that sockets were bound to, and connections
pub record Known : Type 0 where
  pub processes : List (ℕ × Fds)
  pub under : Option Under
  pub hosts : List (List ℕ)
  pub doors : Meetings

-- nothing is kept
abbrev pub nothing : Known
nothing = record { processes = []; under = None; hosts = []; doors = no_meetings }

-- what is kept of a process
abbrev pub fds_at : Known → ℕ → Fds
fds_at known p = unwrap_or (lookup (is_same p) known.processes) no_fds

-- what a descriptor of a process holds
abbrev pub held_at : Known → Holding
held_at known p n = held_of (fds_at known p) n

-- whether a socket was bound to a host
abbrev pub is_host_at : Known → Hosts
is_host_at known host = list_any (is_one host) known.hosts

-- what is kept of other processes, and the rest, stays
pub record Leaves (old new : Known) (pid : ℕ) : Type 0 where
  pub others : (p : ℕ) → is_same pid p ≡ false → fds_at new p ≡ fds_at old p
  pub under : new.under ≡ old.under
  pub hosts : new.hosts ≡ old.hosts
  pub doors : new.doors ≡ old.doors

-- what a process holds is this, and of the others what it was
pub record Keeps (old new : Known) (pid : ℕ) (fds : Fds) : Type 0 where
  pub here : (p : ℕ) → is_same pid p ≡ true → fds_at new p ≡ fds
  pub others : (p : ℕ) → is_same pid p ≡ false → fds_at new p ≡ fds_at old p
  pub under : new.under ≡ old.under
  pub hosts : new.hosts ≡ old.hosts
  pub doors : new.doors ≡ old.doors

-- descriptors hold this, and the rest stays
pub record Becomes (old new : Known) (held : Holding) : Type 0 where
  pub each : (p n : ℕ) → held_at new p n ≡ held p n
  pub under : new.under ≡ old.under
  pub hosts : new.hosts ≡ old.hosts
  pub doors : new.doors ≡ old.doors

-- a socket was bound to a host, unless it stands for each of this machine
pub record AddsHost (old new : Known) (host : List ℕ) : Type 0 where
  pub hosts : (other : List ℕ) → is_host_at new other ≡ (if not (is_any host) && is_one host other then true else is_host_at old other)
  pub under : new.under ≡ old.under
  pub processes : new.processes ≡ old.processes
  pub doors : new.doors ≡ old.doors

-- a record has the address that a call bound a socket to
pub record Binds (old new : Known) (socket : Option (ℕ × ℕ)) (bytes : List ℕ) : Type 0 where
  pub held : (p n : ℕ) → held_at new p n ≡ bound (held_at old) socket (place_of bytes) p n
  pub hosts : (host : List ℕ) → is_host_at new host ≡ hosted (is_host_at old) socket (inet_of bytes) host
  pub places : (place : List ℕ) → is_place_at new.doors place ≡ placed (is_place_at old.doors) socket (place_of bytes) place
  pub waits : new.doors.waits ≡ old.doors.waits
  pub clock : new.doors.clock ≡ old.doors.clock
  pub under : new.under ≡ old.under

-- a socket was bound to the host of an address, if it has one
abbrev pub AddsHostOf : Known → Known → Option Inet → Type 0
AddsHostOf old new None = new ≡ old
AddsHostOf old new (Some inet) = AddsHost old new inet.0

-- a socket was bound to a place
pub record BindsPlace (old new : Known) (pid fd : ℕ) (place : List ℕ) : Type 0 where
  pub held : (p n : ℕ) → held_at new p n ≡ changed (held_at old) pid fd (Some (bound_to place (held_at old pid fd))) p n
  pub places : (other : List ℕ) → is_place_at new.doors other ≡ (if is_known place && is_one place other then true else is_place_at old.doors other)
  pub waits : new.doors.waits ≡ old.doors.waits
  pub clock : new.doors.clock ≡ old.doors.clock
  pub hosts : new.hosts ≡ old.hosts
  pub under : new.under ≡ old.under

-- this waits at each place, and the rest stays
pub record NowWait (old new : Known) (now : Waits) : Type 0 where
  pub waits : (place : List ℕ) → waits_at new.doors place ≡ now place
  pub places : new.doors.places ≡ old.doors.places
  pub clock : new.doors.clock ≡ old.doors.clock
  pub rest : new ≡ record old { doors = new.doors }

abbrev pub target_seen : Target → List ℕ × List ℕ
target_seen target = (target.place, target.stem)

-- a record has the address of a connection
pub record Meets (old new : Known) (under : Option Under) (event : EventKey) (bytes : List ℕ) : Type 0 where
  pub waits : (place : List ℕ) → waits_at new.doors place
      ≡ met old.doors.clock under (held_at old) (is_host_at old) (is_place_at old.doors) (waits_at old.doors) event bytes place
  pub places : new.doors.places ≡ old.doors.places
  pub clock : new.doors.clock ≡ old.doors.clock
  pub rest : new ≡ record old { doors = new.doors }

-- a line of an event said this
pub record Hears (old new : Known) (event : EventKey) (said : Deed) : Type 0 where
  pub clock : new.doors.clock ≡ clock_after old.doors.clock event said
  pub under : new.under ≡ under_after old.under event said
  pub held : (p n : ℕ) → held_at new p n ≡ held_after old.under (held_at old) event said p n
  pub hosts : (host : List ℕ) → is_host_at new host ≡ hosts_after old.under (is_host_at old) event said host
  pub places : (place : List ℕ) → is_place_at new.doors place ≡ places_after old.under (is_place_at old.doors) event said place
  pub waits : (place : List ℕ) → waits_at new.doors place
      ≡ waits_after old.doors.clock old.under (held_at old) (is_host_at old) (is_place_at old.doors) (waits_at old.doors) event said place

-- a line of an event said this, or nothing
abbrev pub HearsIt : Known → Known → EventKey → Option Deed → Type 0
HearsIt old new event None = new ≡ old
HearsIt old new event (Some said) = Hears old new event said

-- what is kept is what lines said, newest first
pub record StandsFor (known : Known) (said : List Said) : Type 0 where
  pub clock : known.doors.clock ≡ clock_in said
  pub under : known.under ≡ under_in said
  pub held : (p n : ℕ) → held_at known p n ≡ held_in said p n
  pub hosts : (host : List ℕ) → is_host_at known host ≡ is_host_in said host
  pub places : (place : List ℕ) → is_place_at known.doors place ≡ is_place_in said place
  pub waits : (place : List ℕ) → waits_at known.doors place ≡ waits_in said place
