-- Objects never go, so a limit that was passed stays passed.
use Rattle.std.proofs.Common.{◌≡◌, ◌<◌, ◌≤◌, ◌++◌, ◌∙◌, ap, refl, sym, subst, ℕ, Bool, true, false, List, [], ◌∷◌, Option, None, Some, Result, Ok, Err, length, map, take, drop, reverse, if◌then◌else◌, arith, append_assoc}
use Rattle.std.specs.List.{list_any}
use Rattle.std.proofs.lemmas.Bool.{lt-ltb, le-ltb}
use Rattle.std.proofs.lemmas.Grind.{common_steps}
use Rattle.std.proofs.lemmas.List.{map-append, reverse-append, take-append-drop}
use Rattle.flow_base.specs.declared.types.Key.{Key}
use Rattle.flow_base.specs.declared.limits.Full.{Full}
use Rattle.flow_base.specs.declared.limits.Limit.TheVariants as limit
use Rattle.flow_base.specs.contracts.types.KeyPartialEq.TheImpl.{ghosts}
use Rattle.acts.specs.declared.act.Act.{Act}
use Rattle.acts.specs.declared.act.Taken.{Taken}
use Rattle.acts.specs.declared.link.Link.{Link}
use Rattle.acts.specs.Keys.{put_new}
use Rattle.acts.specs.Flows.{acts_of, objects, link_of, with_ends}
use Rattle.acts.specs.LookBack.{full_by}
use Rattle.flow_events.specs.Added.{IsPast}
use Rattle.flow_events.specs.Drafts.{turned}

longer_by : (b : Bool) (seen : List Key) (key : Key) → length seen ≤ length (if b then seen else seen ++ key ∷ [])
longer_by true seen key = omega arith
longer_by false seen key = grind (arith, common_steps)

put_more : (seen : List Key) (key : Key) → length seen ≤ length (put_new ghosts.eq seen key)
put_more seen key = longer_by (list_any (ghosts.eq key) seen) seen key

ends_more : (seen : List Key) (link : Option Link) → length seen ≤ length (with_ends seen link)
ends_more seen None = omega arith
ends_more seen (Some link) =
    let from = put_more seen link.from in
    let to = put_more (put_new ghosts.eq seen link.from) link.to in
    omega (arith, from, to)

objects_grow : (more acts : List Act) → length (objects acts) ≤ length (objects (more ++ acts))
objects_grow [] acts = omega arith
objects_grow (act ∷ more) acts =
    let so_far = objects_grow more acts in
    let last = ends_more (objects (more ++ acts)) (link_of (more ++ acts) act) in
    omega (arith, so_far, last)

-- with more acts it is still passed
pub still_past : (most : ℕ) (full : Full) (more acts : List Act) → IsPast most full (objects acts) → IsPast most full (objects (more ++ acts))
still_past most full more acts is = record {
  limit_is = is.limit_is;
  past = (let past = is.past in let grown = objects_grow more acts in omega (arith, past, grown));
}

-- it is passed if it is passed with the ends of the link
pub link_past : (most : ℕ) (full : Full) (seen all : List Key) (link of_act : Option Link) → all ≡ seen → link ≡ of_act → IsPast most full (with_ends seen link) → IsPast most full (with_ends all of_act)
link_past most full seen all link of_act known same is = record {
  limit_is = is.limit_is;
  past = subst (λ keys. most < length keys) (λ i. with_ends (sym known i) (same i)) is.past;
}

-- acts in two parts, turned
pub turned_parts : (ms serial : ℕ) (front back : List Act) → turned ms serial (front ++ back) ≡ turned ms serial back ++ turned ms serial front
turned_parts ms serial front back =
    let at : Act → Taken = (λ act. record { act = act; ms = ms; serial = serial }) in
    ap reverse (map-append at front back) ∙ reverse-append (map at front) (map at back)

-- passed by the first acts of some, it is passed by all
pub all_past : (most : ℕ) (full : Full) (ms serial n : ℕ) (acts : List Act) (now before : List Taken)
    → IsPast most full (objects (acts_of (turned ms serial (take n acts) ++ now) ++ acts_of before))
    → IsPast most full (objects (acts_of (turned ms serial acts ++ now) ++ acts_of before))
all_past most full ms serial n acts now before is =
    let rest = turned ms serial (drop n acts) in
    let some = turned ms serial (take n acts) ++ now in
    let parts : turned ms serial acts ++ now ≡ rest ++ some =
    ap (λ all. turned ms serial all ++ now) (sym (take-append-drop n acts))
    ∙ ap (λ all. all ++ now) (turned_parts ms serial (take n acts) (drop n acts))
    ∙ append_assoc rest (turned ms serial (take n acts)) now in
    let joined : acts_of (turned ms serial acts ++ now) ++ acts_of before ≡ acts_of rest ++ (acts_of some ++ acts_of before) =
    ap (λ all. acts_of all ++ acts_of before) parts
    ∙ ap (λ all. all ++ acts_of before) (map-append (λ t. t.act) rest some)
    ∙ append_assoc (acts_of rest) (acts_of some) (acts_of before) in
    subst (λ all. IsPast most full (objects all)) (sym joined) (still_past most full (acts_of rest) (acts_of some ++ acts_of before) is)

-- the objects are past their limit
pub objects_past : (most_objects most_flows objects flows : ℕ) → most_objects < objects → full_by most_objects most_flows objects flows ≡ Some (record { limit = limit.Entities; number = most_objects })
objects_past most_objects most_flows objects flows past = rw (lt-ltb most_objects objects past) refl

-- the objects fit, and the flows are past their limit
pub flows_past : (most_objects most_flows objects flows : ℕ) → objects ≤ most_objects → most_flows < flows → full_by most_objects most_flows objects flows ≡ Some (record { limit = limit.Flows; number = most_flows })
flows_past most_objects most_flows objects flows fit past = rw (le-ltb most_objects objects fit, lt-ltb most_flows flows past) refl

-- both fit
pub both_fit : (most_objects most_flows objects flows : ℕ) → objects ≤ most_objects → flows ≤ most_flows → full_by most_objects most_flows objects flows ≡ None
both_fit most_objects most_flows objects flows fit fits = rw (le-ltb most_objects objects fit, le-ltb most_flows flows fits) refl

-- the error of a result, or else this one
abbrev pub error_or : {T E : Type 0} → E → Result T E → E
error_or other (Ok value) = other
error_or other (Err error) = error
