-- The words of the plain program, which holds its acts oldest first.
use Rattle.std.specs.Prelude.{◌≡◌, ◌≤◌, ◌||◌, ℕ, ◌+◌, Bool, true, false, List, [], ◌∷◌, length, reverse, if◌then◌else◌, Option, None, Some, nat_lt}
use Rattle.flow_base.specs.declared.types.Key.{Key}
use Rattle.flow_base.specs.declared.types.Flow.{Flow}
use Rattle.flow_base.specs.declared.limits.Full.{Full}
use Rattle.flow_base.specs.declared.limits.Limit.TheVariants as limit
use Rattle.acts.specs.declared.act.Act.{Act}
use Rattle.acts.specs.declared.act.Act.TheVariants.{Set, SetBoth, Copy, Address}
use Rattle.acts.specs.declared.act.Taken.{Taken}
use Rattle.acts.specs.declared.link.Link.{Link}
use Rattle.acts.specs.Flows.{acts_of, objects, flows, with_ends}

-- the acts that were taken, reversed, newest first
abbrev pub so_far : List Taken → List Act
so_far taken = acts_of (reverse taken)

-- the act may put something at a descriptor
abbrev pub opens : Act → Bool
opens (Set pid fd what cloexec) = true
opens (SetBoth pid first second cloexec) = true
opens (Copy pid from to cloexec) = true
opens (Address pid fd bytes) = true
opens other = false

-- some act may have put something at a descriptor
abbrev pub any_opens : List Act → Bool
any_opens [] = false
any_opens (act ∷ before) = opens act || any_opens before

-- one if it is so, else none
abbrev pub as_number : Bool → ℕ
as_number true = 1
as_number false = 0

-- the limit that this many objects and flows pass; if they pass both, that of objects
abbrev pub full_by : ℕ → ℕ → ℕ → ℕ → Option Full
full_by most_objects most_flows objects flows =
    if nat_lt most_objects objects then Some (record { limit = limit.Entities; number = most_objects }) else
    if nat_lt most_flows flows then Some (record { limit = limit.Flows; number = most_flows }) else None

-- the limit that the objects and flows of these acts pass
abbrev pub full_at : ℕ → ℕ → List Taken → Option Full
full_at most_objects most_flows taken = full_by most_objects most_flows (length (objects (acts_of taken))) (length (flows taken))

-- objects and flows, and how many of each there may be
pub record Graphed : Type 0 where
  pub objects : List Key
  pub flows : List Flow
  pub most_objects : ℕ
  pub most_flows : ℕ

-- the limit that a graph passes with the flow of one more link
abbrev pub full_with : Graphed → Link → Option Full
full_with graph link = full_by graph.most_objects graph.most_flows (length (with_ends graph.objects (Some link))) (length graph.flows + 1)

-- the acts that were taken, newest first, and how many objects and flows there may be
pub record Course : Type 0 where
  pub taken : List Taken
  pub most_objects : ℕ
  pub most_flows : ℕ

-- the graph is that of the acts, oldest first, and none of them put anything at a descriptor
pub record IsGraphOf (taken : List Taken) (graph : Graphed) : Type 0 where
  pub none_opened : any_opens (so_far taken) ≡ false
  pub objects_are : graph.objects ≡ objects (so_far taken)
  pub flows_are : graph.flows ≡ flows (reverse taken)
  pub few_objects : length graph.objects ≤ graph.most_objects
  pub few_flows : length graph.flows ≤ graph.most_flows
