-- What waits at a place: connects to be accepted, or accepts that were recorded before their connects.
use Rattle.std.specs.Prelude.{ℕ, ◌+◌, ◌-◌, not, Bool, true, false, List, [], ◌∷◌, ◌++◌, Option, None, Some, nat_le, if◌then◌else◌}
use Rattle.order_rules.specs.declared.early.Early.{Early}
use Rattle.order_rules.specs.declared.doors.Wait.{Wait}
use Rattle.order_rules.specs.declared.doors.Door.{Door}
use Rattle.order_rules.specs.declared.doors.Door.TheVariants as door

-- an accept that waits for its connect does so for 4 milliseconds, a tick of the clock
abbrev pub is_fresh : ℕ → Early → Bool
is_fresh now early = nat_le (now - early.time) 4

-- connects that wait to be accepted do so for 20 seconds since the first of them
abbrev pub is_waiting : ℕ → Wait → Bool
is_waiting now wait = nat_le (now - wait.since) 20000

-- the accepts of a place that wait still, the earliest first: older ones wait no more
abbrev pub fresh : ℕ → List Early → List Early
fresh now [] = []
fresh now (early ∷ later) = if is_fresh now early then early ∷ later else fresh now later

-- whether the first of these accepts waits no more
abbrev pub has_passed : ℕ → List Early → Bool
has_passed now [] = false
has_passed now (early ∷ later) = not (is_fresh now early)

-- whether some accept is there
abbrev pub is_some_early : List Early → Bool
is_some_early [] = false
is_some_early (early ∷ later) = true

abbrev pub nobody : Door
nobody = door.Accepts []

-- the name of the first accept
abbrev pub first_name : List Early → Option (List ℕ)
first_name [] = None
first_name (early ∷ later) = Some early.name

-- the name that a connect finds at a place: that of the connects which wait there, or of the first accept that waits still
abbrev pub found_name : ℕ → Door → Option (List ℕ)
found_name now (door.Connects wait) = if is_waiting now wait then Some wait.name else None
found_name now (door.Accepts early) = first_name (fresh now early)

-- the name that an accept finds at a place: that of the connects which wait there
abbrev pub wait_name : ℕ → Door → Option (List ℕ)
wait_name now (door.Connects wait) = if is_waiting now wait then Some wait.name else None
wait_name now (door.Accepts early) = None

-- the first connect that waits at a place gives its name to those that come to it
abbrev pub first_wait : ℕ → List ℕ → Door
first_wait now name = door.Connects (record { name = name; count = 1; since = now })

-- a connect takes the first of these accepts, or waits itself by this name
abbrev pub taken : ℕ → List ℕ → List Early → Door
taken now name [] = first_wait now name
taken now name (early ∷ later) = door.Accepts later

abbrev pub joined : Wait → Door
joined wait = door.Connects (record wait { count = wait.count + 1 })

-- what waits at a place after one more connect
abbrev pub one_more : ℕ → List ℕ → Door → Door
one_more now name (door.Connects wait) = if is_waiting now wait then joined wait else first_wait now name
one_more now name (door.Accepts early) = taken now name (fresh now early)

-- an accept takes one of the connects that wait
abbrev pub one_less : Wait → Door
one_less wait = if nat_le wait.count 1 then nobody else door.Connects (record wait { count = wait.count - 1 })

-- an accept waits after these, if its connection has a name
abbrev pub lined_up : ℕ → Option (List ℕ) → List Early → List Early
lined_up now None early = early
lined_up now (Some name) early = fresh now early ++ record { name = name; time = now } ∷ []

-- what waits at a place after one more accept, whose connection has this name if no connect waits
abbrev pub one_in : ℕ → Option (List ℕ) → Door → Door
one_in now own (door.Connects wait) = if is_waiting now wait then one_less wait else door.Accepts (lined_up now own [])
one_in now own (door.Accepts early) = door.Accepts (lined_up now own early)
