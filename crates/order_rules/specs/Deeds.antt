-- What is known by what lines said, looking back from the newest one.
use Rattle.std.specs.Prelude.{ℕ, ◌==◌, ◌&&◌, ◌||◌, not, Bool, true, false, List, [], ◌∷◌, ◌++◌, Option, None, Some, option_map, length, max, nat_le, nat_lt, codes, decimal, if◌then◌else◌}
use Rattle.std.specs.Ordering.{nat_cmp, is_eq}
use Rattle.std.specs.Cmp.Lexicographic.{slice_cmp}
use Rattle.audit_lex.specs.declared.header.EventKey.{EventKey}
use Rattle.name_text.specs.Addresses.{key_of, text_of}
use Rattle.name_text.specs.Paths.{is_absolute, joined}
use Rattle.order_rules.specs.declared.call.Act.{Act}
use Rattle.order_rules.specs.declared.call.Act.TheVariants as act
use Rattle.order_rules.specs.declared.call.Asks.{Asks}
use Rattle.order_rules.specs.declared.call.Asks.TheVariants as asks
use Rattle.order_rules.specs.declared.call.Call.{Call}
use Rattle.order_rules.specs.declared.call.SocketKind.{SocketKind}
use Rattle.order_rules.specs.declared.call.SocketKind.TheVariants as kind
use Rattle.order_rules.specs.declared.held.Thing.{Thing}
use Rattle.order_rules.specs.declared.held.Thing.TheVariants as thing
use Rattle.order_rules.specs.declared.held.Held.{Held}
use Rattle.order_rules.specs.declared.under.Under.{Under}
use Rattle.order_rules.specs.declared.under.Opened.{Opened}
use Rattle.order_rules.specs.declared.doors.Door.{Door}
use Rattle.order_rules.specs.Addresses.{Inet, inet_of, inet_key, address_of, is_any, is_loopback, is_unix, place_of}
use Rattle.order_rules.specs.Doors.{nobody, found_name, wait_name, one_more, one_in}

-- what a line says: that its time has come, a call, the working directory of one, the name of a directory that one opened, an address
pub data Deed : Type 0 where
  Passes : Deed
  Calls : Call → Deed
  Stands : Option (List ℕ) → Deed
  Names : Option (List ℕ) → Deed
  Addresses : List ℕ → Deed

-- what a line of an event said
abbrev pub Said : Type 0
Said = EventKey × Deed

-- a process or a descriptor, by its number
abbrev pub is_same : ℕ → ℕ → Bool
is_same a b = is_eq (nat_cmp a b)

-- a descriptor of a process
abbrev pub is_at : ℕ → ℕ → ℕ → ℕ → Bool
is_at pid fd p n = is_same pid p && is_same fd n

-- one event
abbrev pub is_event : EventKey → EventKey → Bool
is_event a b = a.ms == b.ms && a.serial == b.serial

-- ---- the time of a node: the greatest of its lines

abbrev pub clock_after : ℕ → EventKey → Deed → ℕ
clock_after clock event Passes = max clock event.ms
clock_after clock event _ = clock

abbrev pub clock_in : List Said → ℕ
clock_in [] = 0
clock_in ((event, said) ∷ before) = clock_after (clock_in before) event said

-- ---- the call whose records are being seen: the newest one, the working directory that its event's records named, and whether one of
-- them has an address

abbrev pub stood : EventKey → Option (List ℕ) → Under → Under
stood event cwd under = if is_event event under.key then record under { cwd = cwd } else under

abbrev pub met_at : EventKey → Under → Under
met_at event under = if is_event event under.key then record under { met = true } else under

abbrev pub under_after : Option Under → EventKey → Deed → Option Under
under_after under event (Calls call) = Some (record { key = event; call = call; cwd = None; met = false })
under_after None event (Stands cwd) = None
under_after (Some under) event (Stands cwd) = Some (stood event cwd under)
under_after None event (Addresses bytes) = None
under_after (Some under) event (Addresses bytes) = Some (met_at event under)
under_after under event _ = under

abbrev pub under_in : List Said → Option Under
under_in [] = None
under_in ((event, said) ∷ before) = under_after (under_in before) event said

-- the call that a line of an event belongs to
abbrev pub if_event : EventKey → Under → Option Under
if_event event under = if is_event event under.key then Some under else None

abbrev pub of_event : Option Under → EventKey → Option Under
of_event None event = None
of_event (Some under) event = if_event event under

-- ---- what descriptors of processes hold

abbrev pub Holding : Type 0
Holding = ℕ → ℕ → Option Held

-- one descriptor holds this
abbrev pub changed : Holding → ℕ → ℕ → Option Held → Holding
changed held pid fd what p n = if is_at pid fd p n then what else held p n

-- what a copy holds
abbrev pub copy_of : Bool → Option Held → Option Held
copy_of stays None = None
copy_of stays (Some held) = Some (record held { stays = stays })

-- what an exec leaves open
abbrev pub at_exec : Option Held → Option Held
at_exec None = None
at_exec (Some held) = if held.stays then Some held else None

-- a socket of this place and kind
abbrev pub socket : List ℕ → SocketKind → Bool → Held
socket place kind stays = record { thing = thing.Socket place kind; stays = stays }

-- a descriptor of a range
abbrev pub in_range : ℕ → ℕ → ℕ → Bool
in_range first last n = nat_le first n && nat_le n last

-- what a process that begins is known to hold of what its parent does: the descriptors below 256
abbrev pub inherited : ℕ → Option Held → Option Held
inherited n held = if nat_lt n 256 then held else None

-- what descriptors hold after a process has done this
abbrev pub acted : Holding → ℕ → Act → Holding
acted held pid act.Nothing p n = held p n
acted held pid (act.Opens fd stays) p n = changed held pid fd None p n
acted held pid (act.Makes fd stays kind) p n = changed held pid fd (Some (socket [] kind stays)) p n
acted held pid (act.Closes fd) p n = changed held pid fd None p n
acted held pid (act.ClosesRange first last) p n = if is_same pid p && in_range first last n then None else held p n
acted held pid (act.Copies from to stays) p n = changed held pid to (copy_of stays (held pid from)) p n
acted held pid (act.Begins child) p n = if is_same child p then inherited n (held pid n) else held p n
acted held pid act.Runs p n = if is_same pid p then at_exec (held p n) else held p n
acted held pid act.Ends p n = if is_same pid p then None else held p n

-- the path of a directory
abbrev pub path_of : Thing → Option (List ℕ)
path_of (thing.Directory path) = Some path
path_of _ = None

-- the path of what a descriptor holds, if that is a directory
abbrev pub path_in : Option Held → Option (List ℕ)
path_in None = None
path_in (Some held) = path_of held.thing

-- the place of a socket, if it is known
abbrev pub place_in : Thing → Option (List ℕ)
place_in (thing.Socket place kind) = if is_any place then None else Some place
place_in _ = None

-- the place of what a descriptor holds, if that is a socket that was bound
abbrev pub place_at : Option Held → Option (List ℕ)
place_at None = None
place_at (Some held) = place_in held.thing

-- the path of the directory that a call's names are relative to, if it isn't the working directory
abbrev pub directory_of : Holding → ℕ → Asks → Option (List ℕ)
directory_of held pid (asks.At fd) = path_in (held pid fd)
directory_of held pid _ = None

abbrev pub directory_in : Holding → Option Under → Option (List ℕ)
directory_in held None = None
directory_in held (Some under) = directory_of held under.call.pid under.call.asks

-- the first of two that is there
abbrev pub or_else : Option (List ℕ) → Option (List ℕ) → Option (List ℕ)
or_else None other = other
or_else (Some text) other = Some text

-- what the names of a call are relative to: the directory of its descriptor, if that is known, or the working directory if they are
-- relative to no descriptor
abbrev pub base_by : Holding → ℕ → Asks → Option (List ℕ) → Option (List ℕ)
base_by held pid (asks.At fd) cwd = path_in (held pid fd)
base_by held pid _ cwd = cwd

abbrev pub base_in : Holding → Option Under → Option (List ℕ)
base_in held None = None
base_in held (Some under) = base_by held under.call.pid under.call.asks under.cwd

-- an absolute path of at most 4,096 bytes
abbrev pub kept_path : List ℕ → Option (List ℕ)
kept_path path = if is_absolute path && nat_le (length path) 4096 then Some path else None

-- the path of a name
abbrev pub path_from : Option (List ℕ) → Option (List ℕ) → Option (List ℕ)
path_from base None = None
path_from base (Some name) = kept_path (joined base name 4097)

-- the descriptor that a call opened
abbrev pub opened_by : ℕ → Act → Option Opened
opened_by pid (act.Opens fd stays) = Some (record { pid = pid; fd = fd; stays = stays })
opened_by pid _ = None

abbrev pub opened_in : Option Under → Option Opened
opened_in None = None
opened_in (Some under) = opened_by under.call.pid under.call.act

-- a directory of this path, if it is known
abbrev pub directory : Bool → Option (List ℕ) → Option Held
directory stays None = None
directory stays (Some path) = Some (record { thing = thing.Directory path; stays = stays })

-- what descriptors hold after a record has named the directory that a call opened
abbrev pub named : Holding → Option Opened → Option (List ℕ) → Holding
named held None path p n = held p n
named held (Some opened) path p n = changed held opened.pid opened.fd (directory opened.stays path) p n

-- the process of a call that binds a socket, and the socket's descriptor
abbrev pub bound_by : ℕ → Asks → Option (ℕ × ℕ)
bound_by pid (asks.Binds fd) = Some (pid, fd)
bound_by pid _ = None

abbrev pub bound_in : Option Under → Option (ℕ × ℕ)
bound_in None = None
bound_in (Some under) = bound_by under.call.pid under.call.asks

-- a socket that is bound keeps its mark
abbrev pub stays_of : Option Held → Bool
stays_of None = true
stays_of (Some held) = held.stays

-- and its kind
abbrev pub kind_in : Thing → SocketKind
kind_in (thing.Socket place kind) = kind
kind_in _ = kind.Other

abbrev pub kind_at : Option Held → SocketKind
kind_at None = kind.Other
kind_at (Some held) = kind_in held.thing

-- a descriptor whose socket is bound to a place
abbrev pub bound_to : List ℕ → Option Held → Held
bound_to place held = socket place (kind_at held) (stays_of held)

-- what descriptors hold after a record has said which place a socket was bound to
abbrev pub bound : Holding → Option (ℕ × ℕ) → Option (List ℕ) → Holding
bound held (Some (pid, fd)) (Some place) p n = changed held pid fd (Some (bound_to place (held pid fd))) p n
bound held _ _ p n = held p n

abbrev pub held_after : Option Under → Holding → EventKey → Deed → Holding
held_after under held event Passes p n = held p n
held_after under held event (Calls call) p n = acted held call.pid call.act p n
held_after under held event (Stands cwd) p n = held p n
held_after under held event (Names name) p n =
    named held (opened_in (of_event under event)) (path_from (base_in held (of_event under event)) name) p n
held_after under held event (Addresses bytes) p n = bound held (bound_in (of_event under event)) (place_of bytes) p n

-- what a descriptor of a process holds by what lines said
abbrev pub held_in : List Said → Holding
held_in [] p n = None
held_in ((event, said) ∷ before) p n = held_after (under_in before) (held_in before) event said p n

-- ---- the hosts that sockets were bound to

abbrev pub Hosts : Type 0
Hosts = List ℕ → Bool

-- one host, or one place
abbrev pub is_one : List ℕ → List ℕ → Bool
is_one a b = is_eq (slice_cmp nat_cmp a b)

-- a socket was bound to this host, unless it stands for each of this machine
abbrev pub hosted : Hosts → Option (ℕ × ℕ) → Option Inet → Hosts
hosted hosts (Some socket) (Some inet) host = if not (is_any inet.0) && is_one inet.0 host then true else hosts host
hosted hosts _ _ host = hosts host

abbrev pub hosts_after : Option Under → Hosts → EventKey → Deed → Hosts
hosts_after under hosts event (Addresses bytes) host = hosted hosts (bound_in (of_event under event)) (inet_of bytes) host
hosts_after under hosts event _ host = hosts host

-- whether a socket was bound to a host by what lines said
abbrev pub is_host_in : List Said → Hosts
is_host_in [] host = false
is_host_in ((event, said) ∷ before) host = hosts_after (under_in before) (is_host_in before) event said host

-- whether a host is this machine
abbrev pub is_local : Hosts → List ℕ → Bool
is_local hosts host = is_loopback host || hosts host

-- ---- the address by which a peer called

-- the place of the listening socket that a call accepted a connection of
abbrev pub listening : Holding → ℕ → Asks → Option (List ℕ)
listening held pid (asks.Accepts fd silent) = place_at (held pid fd)
listening held pid _ = None

abbrev pub listening_in : Holding → Option Under → Option (List ℕ)
listening_in held None = None
listening_in held (Some under) = listening held under.call.pid under.call.asks

-- whether sockets of a kind are streams, and whether they carry datagrams
abbrev pub is_stream : SocketKind → Bool
is_stream kind.Stream = true
is_stream _ = false

abbrev pub is_datagrams : SocketKind → Bool
is_datagrams kind.Datagrams = true
is_datagrams _ = false

-- the place of a socket that isn't known to be a stream, if it is known
abbrev pub datagram_place : Option Held → Option (List ℕ)
datagram_place held = if is_stream (kind_at held) then None else place_at held

-- the address that a peer of this machine has called: its own host, and the port of that socket
abbrev pub called : Hosts → Option (List ℕ) → Option Inet → Option (List ℕ)
called hosts (Some port) (Some inet) = if is_local hosts inet.0 && length port == 2 then Some (address_of inet.0 port) else None
called hosts _ _ = None

-- ---- the places that sockets were bound to

abbrev pub Places : Type 0
Places = List ℕ → Bool

-- a place that is known: a socket that is bound to port 0 gets another one, which the log doesn't say
abbrev pub is_known : List ℕ → Bool
is_known place = not (is_any place)

-- a socket was bound to this place, if it is known
abbrev pub placed : Places → Option (ℕ × ℕ) → Option (List ℕ) → Places
placed places (Some socket) (Some new) place = if is_known new && is_one new place then true else places place
placed places _ _ place = places place

abbrev pub places_after : Option Under → Places → EventKey → Deed → Places
places_after under places event (Addresses bytes) place = placed places (bound_in (of_event under event)) (place_of bytes) place
places_after under places event _ place = places place

-- whether a socket was bound to a place by what lines said
abbrev pub is_place_in : List Said → Places
is_place_in [] place = false
is_place_in ((event, said) ∷ before) place = places_after (under_in before) (is_place_in before) event said place

-- ---- the port by which a peer called, or will be answered

-- whether nobody is known to have bound the port of an address
abbrev pub is_free : Places → Option Inet → Bool
is_free places None = false
is_free places (Some inet) = not (places inet.1)

-- The place of the socket whose port a record has instead of that of the peer: the socket that has accepted, the one that has received a
-- datagram, and the one that has sent one to a free port.
abbrev pub own_place : Holding → Bool → ℕ → Asks → Option (List ℕ)
own_place held free pid (asks.Accepts fd silent) = place_at (held pid fd)
own_place held free pid (asks.Receives fd) = datagram_place (held pid fd)
own_place held free pid (asks.Sends fd) = if free then datagram_place (held pid fd) else None
own_place held free pid _ = None

abbrev pub own_place_in : Holding → Bool → Option Under → Option (List ℕ)
own_place_in held free None = None
own_place_in held free (Some under) = own_place held free under.call.pid under.call.asks

-- ---- the connections that wait to be accepted

-- the place that a connect goes to, and the address of that which a connection's name begins with
abbrev pub Target : Type 0
Target = List ℕ × List ℕ

abbrev pub unix_target : Option (List ℕ) → Option Target
unix_target None = None
unix_target (Some key) = Some (key, key)

abbrev pub inet_target : Hosts → Option Inet → Option Target
inet_target hosts None = None
inet_target hosts (Some inet) =
    if is_local hosts inet.0 then Some (inet.1, 1 ∷ 0 ∷ text_of (inet_key inet.0 inet.1)) else None

abbrev pub target_by : Bool → Hosts → List ℕ → Option Target
target_by true hosts bytes = unix_target (key_of bytes)
target_by false hosts bytes = inet_target hosts (inet_of bytes)

abbrev pub if_placed : Places → Option Target → Option Target
if_placed places None = None
if_placed places (Some target) = if places target.0 then Some target else None

-- whether a call asks to be accepted: a connect by a socket that isn't known to carry datagrams
abbrev pub connects : Holding → ℕ → Asks → Bool
connects held pid (asks.Connects fd) = not (is_datagrams (kind_at (held pid fd)))
connects held pid _ = false

abbrev pub is_connect : Holding → Option Under → Bool
is_connect held None = false
is_connect held (Some under) = connects held under.call.pid under.call.asks

-- what a connect goes to, if it is a place of this machine that some socket was bound to
abbrev pub knocked : Holding → Hosts → Places → Option Under → List ℕ → Option Target
knocked held hosts places under bytes =
    if is_connect held under then if_placed places (target_by (is_unix bytes) hosts bytes) else None

abbrev pub is_local_inet : Hosts → Option Inet → Bool
is_local_inet hosts None = false
is_local_inet hosts (Some inet) = is_local hosts inet.0

-- whether a peer is of this machine
abbrev pub is_near : Hosts → List ℕ → Bool
is_near hosts bytes = is_unix bytes || is_local_inet hosts (inet_of bytes)

-- the place at which a peer of this machine was accepted
abbrev pub answered : Holding → Hosts → Option Under → List ℕ → Option (List ℕ)
answered held hosts under bytes = if is_near hosts bytes then listening_in held under else None

-- the name of a connection: the address that it went to, and the time and the serial number of its connect
abbrev pub name_of : List ℕ → EventKey → List ℕ
name_of stem event = stem ++ (codes "#" ++ (decimal event.ms ++ (codes ":" ++ decimal event.serial)))

-- what waits at each place
abbrev pub Waits : Type 0
Waits = List ℕ → Door

-- the address that the name of a connection begins with whose accept comes first: the place, or the peer's host with that port
abbrev pub stem_from : List ℕ → Option Inet → Option (List ℕ)
stem_from place None = None
stem_from place (Some inet) = if length place == 2 then Some (1 ∷ 0 ∷ text_of (inet_key inet.0 place)) else None

abbrev pub stem_by : Bool → List ℕ → List ℕ → Option (List ℕ)
stem_by true place bytes = if length place == 2 then None else Some place
stem_by false place bytes = stem_from place (inet_of bytes)

-- the name of a connection whose accept comes first, by its place and its peer's address
abbrev pub own_name : EventKey → List ℕ → List ℕ → Option (List ℕ)
own_name event place bytes = option_map (λ stem. name_of stem event) (stem_by (is_unix bytes) place bytes)

-- a connect has come to a place
abbrev pub waited : ℕ → Waits → EventKey → Option Target → Waits
waited now waits event None place = waits place
waited now waits event (Some target) place =
    if is_one target.0 place then one_more now (name_of target.1 event) (waits target.0) else waits place

-- a peer was accepted at a place
abbrev pub left : ℕ → Waits → EventKey → List ℕ → Option (List ℕ) → Waits
left now waits event bytes None place = waits place
left now waits event bytes (Some at) place =
    if is_one at place then one_in now (own_name event at bytes) (waits at) else waits place

abbrev pub met : ℕ → Option Under → Holding → Hosts → Places → Waits → EventKey → List ℕ → Waits
met now under held hosts places waits event bytes place =
    left now (waited now waits event (knocked held hosts places under bytes)) event bytes (answered held hosts under bytes) place

abbrev pub waits_after : ℕ → Option Under → Holding → Hosts → Places → Waits → EventKey → Deed → Waits
waits_after now under held hosts places waits event (Addresses bytes) place =
    met now (of_event under event) held hosts places waits event bytes place
waits_after now under held hosts places waits event _ place = waits place

-- what waits at each place by what lines said
abbrev pub waits_in : List Said → Waits
waits_in [] place = nobody
waits_in ((event, said) ∷ before) place =
    waits_after (clock_in before) (under_in before) (held_in before) (is_host_in before) (is_place_in before) (waits_in before) event said place

-- the name of the connection that a connect begins, or meets
abbrev pub knock_name : ℕ → Waits → EventKey → Option Target → Option (List ℕ)
knock_name now waits event None = None
knock_name now waits event (Some target) = or_else (found_name now (waits target.0)) (Some (name_of target.1 event))

-- the name of the connection that was accepted
abbrev pub answer_name : ℕ → Waits → EventKey → List ℕ → Option (List ℕ) → Option (List ℕ)
answer_name now waits event bytes None = None
answer_name now waits event bytes (Some at) = or_else (wait_name now (waits at)) (own_name event at bytes)

-- ---- accepts that didn't ask for the peer's address

-- an address of family 1 without a name, as that of a peer that isn't bound
abbrev pub blank_peer : List ℕ
blank_peer = 1 ∷ 0 ∷ []

abbrev pub accepts_silently : Asks → Bool
accepts_silently (asks.Accepts fd silent) = silent
accepts_silently _ = false

-- whether a call has accepted a peer whose address neither it nor a record of its event has named
abbrev pub is_silent : Option Under → Bool
is_silent None = false
is_silent (Some under) = accepts_silently under.call.asks && not under.met
