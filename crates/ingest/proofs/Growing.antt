-- Objects and flows grow with the acts.
use Rattle.std.proofs.Common.{◌≡◌, ◌≤◌, ◌+◌, ◌++◌, ◌∙◌, sym, refl, ap, Bool, true, false, List, [], ◌∷◌, length, map, arith, length-append, Option, None, Some, if◌then◌else◌}
use Rattle.std.specs.Prelude.{reverse}
use Rattle.std.specs.List.{list_any, flat_map}
use Rattle.std.proofs.lemmas.List.{map-append, reverse-append}
use Rattle.std.proofs.lemmas.Grind.{flat_map-append}
use Rattle.flow_base.specs.declared.types.Key.{Key}
use Rattle.flow_base.specs.contracts.types.KeyPartialEq.TheImpl.{ghosts}
use Rattle.record_join.specs.declared.event.Event.{Event}
use Rattle.flow_base.specs.declared.limits.Limits.{Limits}
use Rattle.acts.specs.declared.act.Act.{Act}
use Rattle.acts.specs.declared.act.Taken.{Taken}
use Rattle.acts.specs.declared.link.Link.{Link}
use Rattle.acts.specs.Keys.{put_new}
use Rattle.acts.specs.Flows.{acts_of, objects, flows, flow_if, link_of, with_ends}
use Rattle.ingest.specs.Events.{taken_by, taken_in}

put_if : (seen : List Key) (x : Key) (known : Bool) → length seen ≤ length (if known then seen else seen ++ x ∷ [])
put_if seen x true = omega arith
put_if seen x false = simp length-append (omega arith)

put_grows : (seen : List Key) (x : Key) → length seen ≤ length (put_new ghosts.eq seen x)
put_grows seen x = put_if seen x (list_any (ghosts.eq x) seen)

ends_grow : (seen : List Key) (link : Option Link) → length seen ≤ length (with_ends seen link)
ends_grow seen None = omega arith
ends_grow seen (Some link) =
    let mid = put_new ghosts.eq seen link.from in
    omega (arith, put_grows seen link.from, put_grows mid link.to)

pub one_object_grows : (act : Act) (acts : List Act) → length (objects acts) ≤ length (objects (act ∷ acts))
one_object_grows act acts = ends_grow (objects acts) (link_of acts act)

pub objects_grow : (more before : List Taken) → length (objects (acts_of before)) ≤ length (objects (acts_of (more ++ before)))
objects_grow [] before = omega arith
objects_grow (taken ∷ more) before = omega (arith, objects_grow more before, one_object_grows taken.act (acts_of (more ++ before)))

pub flows_grow : (more before : List Taken) → length (flows before) ≤ length (flows (more ++ before))
flows_grow [] before = omega arith
flows_grow (taken ∷ more) before =
    let F = flows (more ++ before) in
    let new = flow_if (objects (taken.act ∷ acts_of (more ++ before))) taken (length F) (link_of (acts_of (more ++ before)) taken.act) in
    let len : length (F ++ new) ≡ length F + length new = length-append F new in
    omega (arith, flows_grow more before, len)

pub taken_more : (limits : Limits) (xs ys : List Event) → taken_in limits (xs ++ ys) ≡ taken_in limits ys ++ taken_in limits xs
taken_more limits xs ys = ap reverse (flat_map-append (taken_by limits) xs ys) ∙ reverse-append (flat_map (taken_by limits) xs) (flat_map (taken_by limits) ys)

pub map_turned : {X Y : Type 0} (f : X → Y) (xs : List X) → reverse (map f xs) ≡ map f (reverse xs)
map_turned f [] = refl
map_turned f (x ∷ xs) =
    reverse-append (f x ∷ []) (map f xs)
    ∙ ap (λ l. l ++ f x ∷ []) (map_turned f xs)
    ∙ sym (map-append f (reverse xs) (x ∷ []))
    ∙ ap (map f) (sym (reverse-append (x ∷ []) xs))
