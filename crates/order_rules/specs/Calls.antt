-- What calls of x86-64 do to descriptors, by their numbers and arguments.
use Rattle.std.specs.Prelude.{ℕ, ◌/◌, ◌%◌, ◌==◌, ◌&&◌, ◌||◌, Bool, true, false, List, [], ◌∷◌, Option, None, Some, nat_eq, if◌then◌else◌}
use Rattle.std.specs.List.{list_any}
use Rattle.order_rules.specs.declared.call.Act.{Act}
use Rattle.order_rules.specs.declared.call.Act.TheVariants as act
use Rattle.order_rules.specs.declared.call.Asks.{Asks}
use Rattle.order_rules.specs.declared.call.Asks.TheVariants as asks
use Rattle.order_rules.specs.declared.call.Args.{Args}
use Rattle.order_rules.specs.declared.call.SocketKind.{SocketKind}
use Rattle.order_rules.specs.declared.call.SocketKind.TheVariants as kind

-- one of these calls
abbrev pub is_among : List ℕ → ℕ → Bool
is_among numbers number = list_any (nat_eq number) numbers

-- open, creat, openat, openat2
abbrev pub opens : ℕ → Bool
opens number = is_among (2 ∷ 85 ∷ 257 ∷ 437 ∷ []) number

-- socket, accept, accept4
abbrev pub makes : ℕ → Bool
makes number = is_among (41 ∷ 43 ∷ 288 ∷ []) number

-- accept, accept4
abbrev pub accepts : ℕ → Bool
accepts number = is_among (43 ∷ 288 ∷ []) number

-- recvfrom, recvmsg
abbrev pub receives : ℕ → Bool
receives number = is_among (45 ∷ 47 ∷ []) number

-- sendto, sendmsg
abbrev pub sends : ℕ → Bool
sends number = is_among (44 ∷ 46 ∷ []) number

-- execve, execveat
abbrev pub runs : ℕ → Bool
runs number = is_among (59 ∷ 322 ∷ []) number

-- whether an argument is this number
abbrev pub is_arg : ℕ → Option ℕ → Bool
is_arg wanted None = false
is_arg wanted (Some given) = given == wanted

-- dup, dup2, dup3, and fcntl with the commands that copy
abbrev pub copies : ℕ → Option ℕ → Bool
copies number command = is_among (32 ∷ 33 ∷ 292 ∷ []) number || (number == 72 && (is_arg 0 command || is_arg 1030 command))

-- fcntl with the command that sets the mark of a descriptor
abbrev pub marks : ℕ → Option ℕ → Bool
marks number command = number == 72 && is_arg 2 command

-- whether flags lack the bit of this weight; unknown flags have it
abbrev pub lacks : ℕ → Option ℕ → Bool
lacks weight None = false
lacks weight (Some flags) = (flags / weight) % 2 == 0

-- whether flags leave a descriptor open at an exec: they lack 0x80000
abbrev pub stays_by : Option ℕ → Bool
stays_by flags = lacks 524288 flags

-- fork, vfork, clone3, and a clone that makes no thread: its flags lack 0x10000
abbrev pub begins : ℕ → Option ℕ → Bool
begins number flags = is_among (57 ∷ 58 ∷ 435 ∷ []) number || (number == 56 && lacks 65536 flags)

-- whether an exec leaves open what a call opens: the flags of openat2 aren't in its record
abbrev pub open_stays : ℕ → Args → Bool
open_stays number args =
    if number == 85 then true
    else if number == 2 then stays_by args.second
    else if number == 257 then stays_by args.third else false

-- the same of a new socket, whose flags socket has second and accept4 fourth
abbrev pub socket_stays : ℕ → Args → Bool
socket_stays number args =
    if number == 43 then true
    else if number == 41 then stays_by args.second else stays_by args.fourth

-- the same of a copy
abbrev pub copy_stays : ℕ → Args → Bool
copy_stays number args =
    if number == 292 then stays_by args.third
    else if number == 72 then is_arg 0 args.second else true

abbrev pub opened : Option ℕ → Bool → Act
opened None stays = act.Nothing
opened (Some fd) stays = act.Opens fd stays

-- what a socket of this type carries: a stream by the type 1, datagrams by the type 2
abbrev pub kind_of : ℕ → SocketKind
kind_of socket_type = if socket_type == 1 then kind.Stream else if socket_type == 2 then kind.Datagrams else kind.Other

-- the type is in the low four bits
abbrev pub kind_by : Option ℕ → SocketKind
kind_by None = kind.Other
kind_by (Some flags) = kind_of (flags % 16)

-- what a new socket carries: that of an accept a stream, and that of socket by the type that it has second
abbrev pub makes_kind : ℕ → Args → SocketKind
makes_kind number args = if number == 41 then kind_by args.second else kind.Stream

abbrev pub made : Option ℕ → Bool → SocketKind → Act
made None stays kind = act.Nothing
made (Some fd) stays kind = act.Makes fd stays kind

abbrev pub closed : Option ℕ → Act
closed None = act.Nothing
closed (Some fd) = act.Closes fd

-- close_range
abbrev pub closes_range : ℕ → Bool
closes_range number = number == 436

-- whether it closes now: the flag 4 says that an exec will
abbrev pub closes_now : Option ℕ → Bool
closes_now None = true
closes_now (Some flags) = lacks 4 (Some flags)

abbrev pub ranged : Option ℕ → Option ℕ → Option ℕ → Act
ranged (Some first) (Some last) flags = if closes_now flags then act.ClosesRange first last else act.Nothing
ranged _ _ flags = act.Nothing

-- a copy of a descriptor onto itself does nothing
abbrev pub copied : Option ℕ → Option ℕ → Bool → Act
copied (Some from) (Some to) stays = if from == to then act.Nothing else act.Copies from to stays
copied _ _ stays = act.Nothing

-- A descriptor that is marked anew holds what it held. The bit 1 says that an exec closes it.
abbrev pub marked : Option ℕ → Option ℕ → Act
marked None flags = act.Nothing
marked (Some fd) flags = act.Copies fd fd (lacks 1 flags)

abbrev pub begun : Option ℕ → Act
begun None = act.Nothing
begun (Some child) = act.Begins child

-- what a call did that has succeeded, by its answer and its arguments
abbrev pub act_with : ℕ → Option ℕ → Args → Act
act_with number answer args =
    if opens number then opened answer (open_stays number args)
    else if makes number then made answer (socket_stays number args) (makes_kind number args)
    else if number == 3 then closed args.first
    else if closes_range number then ranged args.first args.second args.third
    else if copies number args.second then copied args.first answer (copy_stays number args)
    else if marks number args.second then marked args.first args.third
    else if begins number args.first then begun answer
    else if runs number then act.Runs else act.Nothing

-- mkdirat, mknodat, fchownat, unlinkat, fchmodat, openat, openat2, execveat: the directory stands first
abbrev pub is_at_first : ℕ → Bool
is_at_first number = is_among (257 ∷ 258 ∷ 259 ∷ 260 ∷ 263 ∷ 268 ∷ 322 ∷ 437 ∷ []) number

-- renameat, linkat, renameat2: a directory stands first and one third
abbrev pub is_at_both : ℕ → Bool
is_at_both number = is_among (264 ∷ 265 ∷ 316 ∷ []) number

-- names that are relative to a descriptor, unless it is that of the working directory, 0xffffff9c
abbrev pub relative : Option ℕ → Asks
relative None = asks.Nothing
relative (Some fd) = if fd == 4294967196 then asks.Nothing else asks.At fd

-- names that are relative to two descriptors, if they are one: an event has one record of a directory
abbrev pub relative_both : Option ℕ → Option ℕ → Asks
relative_both (Some one) (Some other) = if one == other then relative (Some one) else asks.Nothing
relative_both _ _ = asks.Nothing

abbrev pub binding : Option ℕ → Asks
binding None = asks.Nothing
binding (Some fd) = asks.Binds fd

-- an accept whose second argument is 0 doesn't ask for the peer's address
abbrev pub accepting : Option ℕ → Option ℕ → Asks
accepting None place = asks.Nothing
accepting (Some fd) place = asks.Accepts fd (is_arg 0 place)

abbrev pub connecting : Option ℕ → Asks
connecting None = asks.Nothing
connecting (Some fd) = asks.Connects fd

abbrev pub receiving : Option ℕ → Asks
receiving None = asks.Nothing
receiving (Some fd) = asks.Receives fd

abbrev pub sending : Option ℕ → Asks
sending None = asks.Nothing
sending (Some fd) = asks.Sends fd

-- what the records after that of a call say something about: symlinkat has its directory second, and a connect may be under way
abbrev pub asks_with : ℕ → Bool → Bool → Args → Asks
asks_with number done begun args =
    if is_at_first number then relative args.first
    else if number == 266 then relative args.second
    else if is_at_both number then relative_both args.first args.third
    else if done && number == 49 then binding args.first
    else if done && accepts number then accepting args.first args.second
    else if done && receives number then receiving args.first
    else if done && sends number then sending args.first
    else if (done || begun) && number == 42 then connecting args.first
    else asks.Nothing
