-- The flows that acts make. Acts stand newest first, objects and flows oldest first.
use Rattle.std.specs.Prelude.{⊤, ◌≤◌, ◌&&◌, ◌||◌, ◌++◌, ℕ, Bool, true, false, not, List, [], ◌∷◌, length, map, if◌then◌else◌, Option, None, Some}
use Rattle.std.specs.List.{position_or_len}
use Rattle.flow_base.specs.declared.types.Key.{Key}
use Rattle.flow_base.specs.declared.types.Flow.{Flow}
use Rattle.flow_base.specs.declared.types.How.{How}
use Rattle.flow_base.specs.declared.types.How.TheVariants.{Fork as ByFork}
use Rattle.flow_base.specs.contracts.types.KeyPartialEq.TheImpl.{ghosts}
use Rattle.acts.specs.declared.act.Act.{Act}
use Rattle.acts.specs.declared.act.Taken.{Taken}
use Rattle.acts.specs.declared.link.Link.{Link}
use Rattle.acts.specs.declared.act.Act.TheVariants.{See, Fork, Move}
use Rattle.acts.specs.Lives.{begins_by_see, has_parent, begins, is_child, linked}
use Rattle.acts.specs.Keys.{process_key, thing_key, put_new}

-- a fork by another pid makes a flow if it begins a life of the child, or claims one that was not linked
abbrev pub fork_links : List Act → ℕ → ℕ → Bool
fork_links before pid child = begins before (Fork pid child) child || (is_child pid child child && not (linked before child))

-- inward is from the thing to the process
abbrev pub between : Bool → Key → Key → How → Link
between true thing process how = record { from = thing; to = process; how = how }
between false thing process how = record { from = process; to = thing; how = how }

-- what an act links: a see its parent, a fork its child, a move its thing
abbrev pub link_of : List Act → Act → Option Link
link_of before (See pid ppid exe) =
    if begins_by_see before pid pid && has_parent before pid ppid
    then Some (record { from = process_key before ppid; to = process_key (See pid ppid exe ∷ before) pid; how = ByFork })
    else None
link_of before (Fork pid child) =
    if fork_links before pid child
    then Some (record { from = process_key before pid; to = process_key (Fork pid child ∷ before) child; how = ByFork })
    else None
link_of before (Move pid inward how what) = Some (between inward (thing_key before pid what) (process_key before pid) how)
link_of before other = None

-- the ends of a link are appended if they are new, the source before the target
abbrev pub with_ends : List Key → Option Link → List Key
with_ends seen None = seen
with_ends seen (Some link) = put_new ghosts.eq (put_new ghosts.eq seen link.from) link.to

-- the objects by number: the keys in order of their first appearance in flows
abbrev pub objects : List Act → List Key
objects [] = []
objects (act ∷ before) = with_ends (objects before) (link_of before act)

-- the acts without their times and serials
abbrev pub acts_of : List Taken → List Act
acts_of taken = map (λ t. t.act) taken

-- the number of a key among the objects
abbrev pub number_in : List Key → Key → ℕ
number_in seen key = position_or_len (ghosts.eq key) seen

-- the flow of a link at this place, by the numbers that the objects have, with the time and the serial of its act
abbrev pub flow_at : List Key → Taken → ℕ → Link → Flow
flow_at seen taken place link =
    record {
      from = record { 0 = number_in seen link.from };
      to = record { 0 = number_in seen link.to };
      how = link.how;
      at = record { ms = taken.ms; place = place };
      serial = taken.serial;
    }

-- that flow, if there is a link
abbrev pub flow_if : List Key → Taken → ℕ → Option Link → List Flow
flow_if seen taken place None = []
flow_if seen taken place (Some link) = flow_at seen taken place link ∷ []

-- the flows of the acts, each at the place that is the number of flows before it
abbrev pub flows : List Taken → List Flow
flows [] = []
flows (taken ∷ before) =
    flows before ++ flow_if (objects (taken.act ∷ acts_of before)) taken (length (flows before)) (link_of (acts_of before) taken.act)

-- the time of the newest act
abbrev pub latest : List Taken → ℕ
latest [] = 0
latest (taken ∷ before) = taken.ms

-- the time of no act is below that of the act before it
abbrev pub TimesNeverFall : List Taken → Type 0
TimesNeverFall [] = ⊤
TimesNeverFall (taken ∷ before) = (latest before ≤ taken.ms) × TimesNeverFall before
