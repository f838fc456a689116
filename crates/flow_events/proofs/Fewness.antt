-- There are no more flows than acts.
use Rattle.std.proofs.Common.{◌≡◌, ◌≤◌, ◌+◌, ◌++◌, ◌∙◌, ap, ℕ, Option, None, Some, List, [], ◌∷◌, length, length-append, arith}
use Rattle.flow_base.specs.declared.types.Key.{Key}
use Rattle.flow_base.specs.declared.types.Flow.{Flow}
use Rattle.acts.specs.declared.act.Taken.{Taken}
use Rattle.acts.specs.declared.link.Link.{Link}
use Rattle.acts.specs.Flows.{acts_of, objects, flows, flow_if, link_of}

one_flow : (seen : List Key) (t : Taken) (place : ℕ) (link : Option Link) → length (flow_if seen t place link) ≤ 1
one_flow seen t place None = omega arith
one_flow seen t place (Some link) = omega arith

-- each act makes at most one flow
pub more_flows : (now before : List Taken) → length (flows (now ++ before)) ≤ length (flows before) + length now
more_flows [] before = omega arith
more_flows (t ∷ now) before =
    let so_far = more_flows now before in
    let one = one_flow (objects (t.act ∷ acts_of (now ++ before))) t (length (flows (now ++ before))) (link_of (acts_of (now ++ before)) t.act) in
    let sum = length-append (flows (now ++ before)) (flow_if (objects (t.act ∷ acts_of (now ++ before))) t (length (flows (now ++ before))) (link_of (acts_of (now ++ before)) t.act)) in
    omega (arith, so_far, one, sum)

pub few_flows : (taken : List Taken) → length (flows taken) ≤ length taken
few_flows [] = omega arith
few_flows (t ∷ before) =
    let so_far = few_flows before in
    let one = one_flow (objects (t.act ∷ acts_of before)) t (length (flows before)) (link_of (acts_of before) t.act) in
    let sum = length-append (flows before) (flow_if (objects (t.act ∷ acts_of before)) t (length (flows before)) (link_of (acts_of before) t.act)) in
    omega (arith, so_far, one, sum)

-- an event makes no more flows than it has acts
pub event_flows : (now before : List Taken) (F : List Flow) → flows (now ++ before) ≡ flows before ++ F → length F ≤ length now
event_flows now before F is =
    let more = more_flows now before in
    let sum : length (flows (now ++ before)) ≡ length (flows before) + length F = ap length is ∙ length-append (flows before) F in
    omega (arith, more, sum)
