-- The forks and the children of one process, and which child is told of a fork.
use Rattle.std.specs.Prelude.{ℕ, ◌+◌, ◌-◌, ◌==◌, ◌&&◌, ◌||◌, not, Bool, true, false, List, [], ◌∷◌, ◌++◌, Option, None, Some, length, min, nat_le, nat_lt, if◌then◌else◌}
use Rattle.std.specs.List.{list_any, filter, fold}
use Rattle.order_kin.specs.declared.brood.Fork.{Fork}
use Rattle.order_kin.specs.declared.brood.Kid.{Kid}
use Rattle.order_kin.specs.declared.brood.Found.{Found}
use Rattle.order_kin.specs.declared.brood.Found.TheVariants as found

-- what is kept of a process: whether it isn't followed, its forks, and its children, in the order of reading
pub record Kept : Type 0 where
  pub closed : Bool
  pub forks : List Fork
  pub kids : List Kid

abbrev pub no_brood : Kept
no_brood = record { closed = false; forks = []; kids = [] }

abbrev pub closed_brood : Kept
closed_brood = record { closed = true; forks = []; kids = [] }

-- whether a fork is that of an event, whether it has answered this, and whether a child has this number
abbrev pub is_fork : ℕ → ℕ → Fork → Bool
is_fork ms serial fork = fork.ms == ms && fork.serial == serial

abbrev pub is_answer : ℕ → Fork → Bool
is_answer pid fork = fork.answer == pid

abbrev pub is_kid : ℕ → Kid → Bool
is_kid pid kid = kid.pid == pid

-- how many forks were made, and how many children were there, before this time
abbrev pub forks_before : ℕ → List Fork → ℕ
forks_before time forks = length (filter (λ fork. nat_lt fork.ms time) forks)

abbrev pub kids_before : ℕ → List Kid → ℕ
kids_before time kids = length (filter (λ kid. nat_lt kid.ms time) kids)

-- forks and children of before this time are left out, if as many children are there as forks: each fork has its child then
abbrev pub settled : ℕ → Kept → Kept
settled time b =
    if nat_le (forks_before time b.forks) (kids_before time b.kids)
    then record b { forks = filter (λ fork. nat_le time fork.ms) b.forks; kids = filter (λ kid. nat_le time kid.ms) b.kids }
    else b

-- A process isn't followed if the answer of one of its forks is the number of one of its children, since then it isn't in a pid
-- namespace; nor if 1,024 of its forks or of its children would have to be kept, and one more.
abbrev pub born : Kid → Kept → Kept
born kid b =
    if b.closed then b
    else if list_any (is_answer kid.pid) b.forks || nat_le 1024 (length b.kids) then closed_brood
    else record b { kids = b.kids ++ kid ∷ [] }

-- forks from 60 seconds on before this one may wait still
abbrev pub with_fork : Fork → Kept → Kept
with_fork fork b = record b { forks = b.forks ++ fork ∷ [] }

abbrev pub forked : Fork → Kept → Kept
forked fork b =
    if b.closed then b
    else if list_any (is_kid fork.answer) b.kids || nat_le 1024 (length b.forks) then closed_brood
    else with_fork fork (settled (fork.ms - 60000) b)

-- ---- which child is told

-- the time of the next fork that isn't earlier than that of an event
abbrev pub least_of : Option ℕ → ℕ → ℕ
least_of None time = time
least_of (Some next) time = min next time

abbrev pub sooner : ℕ → ℕ → Option ℕ → Fork → Option ℕ
sooner ms serial next fork = if is_fork ms serial fork || nat_lt fork.ms ms then next else Some (least_of next fork.ms)

abbrev pub next_of : ℕ → ℕ → List Fork → Option ℕ
next_of ms serial forks = fold (sooner ms serial) None forks

-- whether a child was first seen from the time of a fork on, and before the next fork
abbrev pub may_be : ℕ → Option ℕ → Kid → Bool
may_be ms None kid = nat_le ms kid.ms
may_be ms (Some next) kid = nat_le ms kid.ms && nat_lt kid.ms next

-- the only such child
abbrev pub one_more : ℕ → Found → Found
one_more pid found.Nobody = found.One pid
one_more pid _ = found.More

abbrev pub with_kid : ℕ → Option ℕ → Found → Kid → Found
with_kid ms next found kid = if may_be ms next kid then one_more kid.pid found else found

abbrev pub only_kid : ℕ → Option ℕ → List Kid → Found
only_kid ms next kids = fold (with_kid ms next) found.Nobody kids

abbrev pub pid_of : Found → Option ℕ
pid_of (found.One pid) = Some pid
pid_of _ = None

-- The child that the fork of an event has begun: the only one that was first seen from then on and before the next fork of the
-- process, if as many children were there before as forks had been made.
abbrev pub told : ℕ → ℕ → Kept → Option ℕ
told ms serial b =
    if list_any (is_fork ms serial) b.forks && nat_le (forks_before ms b.forks) (kids_before ms b.kids)
    then pid_of (only_kid ms (next_of ms serial b.forks) b.kids) else None
