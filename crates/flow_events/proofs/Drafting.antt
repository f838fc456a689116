-- One more act of an event.
use Rattle.std.proofs.Common.{◌≡◌, ◌<◌, ◌+◌, ◌++◌, ◌∙◌, ap, sym, refl, ℕ, List, ◌∷◌, Option, None, Some, length, length-append, append_assoc, arith}
use Rattle.std.proofs.lemmas.List.{length-map, map-append}
use Rattle.flow_base.specs.declared.types.Key.{Key}
use Rattle.flow_base.specs.declared.types.Flow.{Flow}
use Rattle.acts.specs.declared.act.Taken.{Taken}
use Rattle.acts.specs.declared.link.Link.{Link}
use Rattle.acts.specs.Flows.{acts_of, objects, flows, flow_if, link_of}
use Rattle.flow_events.specs.Added.{flows_if}
use Rattle.flow_events.specs.Births.{Table as Births, BornAs, BornBelow}
use Rattle.flow_events.proofs.Numbers.{born_below}

-- after so many acts no file has more births
pub few_births : (births : Births) (taken : List Taken) (most : ℕ) → BornAs births (acts_of taken) → length taken < most → BornBelow births most
few_births births taken most stands few =
    let e = length-map taken (λ t. t.act) in
    born_below births (acts_of taken) most stands (omega (arith, e, few))

-- the acts of the event stand before those before it
pub joined : (now before : List Taken) → acts_of (now ++ before) ≡ acts_of now ++ acts_of before
joined now before = map-append (λ t. t.act) now before

alike : (seen : List Key) (t : Taken) (place : ℕ) (link : Option Link) → flow_if seen t place link ≡ flows_if seen t.ms t.serial place link
alike seen t place None = refl
alike seen t place (Some link) = refl

-- the flows with one more act
pub flows_after : (before now : List Taken) (t : Taken) (F : List Flow) (seen : List Key) (link : Option Link) (place : ℕ)
    → flows (now ++ before) ≡ flows before ++ F → objects (t.act ∷ acts_of (now ++ before)) ≡ seen → link_of (acts_of (now ++ before)) t.act ≡ link
    → place ≡ length (flows before) + length F
    → flows (t ∷ (now ++ before)) ≡ flows before ++ (F ++ flows_if seen t.ms t.serial place link)
flows_after before now t F seen link place so_far objects_are link_is place_is =
    let len : length (flows (now ++ before)) ≡ place = ap length so_far ∙ length-append (flows before) F ∙ sym place_is in
    (λ i. so_far i ++ flow_if (objects_are i) t (len i) (link_is i))
    ∙ ap (λ e. (flows before ++ F) ++ e) (alike seen t place link)
    ∙ append_assoc (flows before) F (flows_if seen t.ms t.serial place link)
