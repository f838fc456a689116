use Rattle.std.proofs.Common.{◌≡◌, ◌<◌, ◌∙◌, ap, sym, length, arith, Some, None}
use Rattle.std.specs.List.{position}
use Rattle.flow_base.specs.contracts.types.KeyPartialEq.TheImpl.{ghosts}
use Rattle.acts.proofs.Entering.{some_place, none_place, found_within}
use Rattle.flow_events.proofs.Numbering.{there_if, none_if, put_there, put_last}
use Rattle.flow_events.proofs.added.put_new.Goals as goal

pub returns-in-Some-clause-keys : goal.returns-in-Some-clause-keys
returns-in-Some-clause-keys c =
    let found : position (ghosts.eq c.args.key) c.args.keys.now ≡ Some c.in-Some.place = ap (position (ghosts.eq c.args.key)) (sym c.as_slice.ensures) ∙ sym c.find.ensures ∙ c.in-Some.is in
    sym (put_there c.args.keys.now c.args.key (there_if (ghosts.eq c.args.key) c.args.keys.now c.in-Some.place found))

pub returns-in-Some-clause-place : goal.returns-in-Some-clause-place
returns-in-Some-clause-place c =
    some_place (ghosts.eq c.args.key) c.args.keys.now c.in-Some.place (ap (position (ghosts.eq c.args.key)) (sym c.as_slice.ensures) ∙ sym c.find.ensures ∙ c.in-Some.is)

pub returns-in-Some-clause-within : goal.returns-in-Some-clause-within
returns-in-Some-clause-within c =
    let items = c.args.keys.now in
    let found : position (ghosts.eq c.args.key) c.args.keys.now ≡ Some c.in-Some.place = ap (position (ghosts.eq c.args.key)) (sym c.as_slice.ensures) ∙ sym c.find.ensures ∙ c.in-Some.is in
    let is = some_place (ghosts.eq c.args.key) items c.in-Some.place found in
    let below = found_within (ghosts.eq c.args.key) items (there_if (ghosts.eq c.args.key) items c.in-Some.place found) in
    omega (arith, is, below)

pub returns-in-Some-clause-few : goal.returns-in-Some-clause-few
returns-in-Some-clause-few c =
    let below : c.in-Some.place < length c.args.keys.now = returns-in-Some-clause-within c in
    omega (arith, below)

pub returns-in_ok-push-in-None-clause-keys : goal.returns-in_ok-push-in-None-clause-keys
returns-in_ok-push-in-None-clause-keys c =
    let found : position (ghosts.eq c.args.key) c.args.keys.now ≡ None = ap (position (ghosts.eq c.args.key)) (sym c.as_slice.ensures) ∙ sym c.find.ensures ∙ c.in-None.is in
    c.in_ok-push-in-None.ensures.ok ∙ sym (put_last c.args.keys.now c.args.key (none_if (ghosts.eq c.args.key) c.args.keys.now found))

pub returns-in_ok-push-in-None-clause-place : goal.returns-in_ok-push-in-None-clause-place
returns-in_ok-push-in-None-clause-place c =
    ap length c.as_slice-place.ensures ∙ none_place (ghosts.eq c.args.key) c.args.keys.now (ap (position (ghosts.eq c.args.key)) (sym c.as_slice.ensures) ∙ sym c.find.ensures ∙ c.in-None.is)
