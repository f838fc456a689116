use Rattle.std.proofs.Common.{◌∙◌, sym, ap, length, ◌≡◌}
use Rattle.std.specs.List.{list_any}
use Rattle.flow_base.specs.contracts.types.KeyPartialEq.TheImpl.{ghosts}
use Rattle.acts.specs.Flows.{number_in}
use Rattle.acts.proofs.Entering.{AreOne, put_at_end, put_inside, number_entered, there_now}
use Rattle.acts.proofs.look_back.graph.enter.Goals as goal
use Rattle.acts.proofs.look_back.graph.enter.Goals.{then-place-len, else-place-len}

pub returns-clause-objects : goal.returns-clause-objects
returns-clause-objects c =
    let items = c.args.objects.now.items in
    let place = c.place_of-place.ensures.place ∙ ap (λ xs. number_in xs c.args.key) c.as_slice.ensures.value in
    let end : c.len.result ≡ length items = c.len.ensures ∙ sym c.as_slice.ensures.len ∙ ap length c.as_slice.ensures.value in
    elim c.if-place-len.branch [
      | then-place-len w ↦ ap (λ o. o.items) w.objects-is ∙ w.put_last.ensures.last ∙ sym (put_at_end items c.args.key c.place_of-place.result place (w.if-place-len.true ∙ end))
      | else-place-len w ↦ ap (λ o. o.items) w.objects-is ∙ sym (put_inside items c.args.key c.place_of-place.result place (λ here. w.if-place-len.false (here ∙ sym end)))
    ]

pub returns-clause-id : goal.returns-clause-id
returns-clause-id c =
    let one : AreOne = record { exact = c.equal_keys_are_one.ensures.exact; same = c.equal_keys_are_one.ensures.same } in
    c.place_of-place.ensures.place ∙ ap (λ xs. number_in xs c.args.key) c.as_slice.ensures.value
    ∙ sym (number_entered one c.args.objects.now.items c.args.key)
    ∙ ap (λ xs. number_in xs c.args.key) (sym (returns-clause-objects c))

pub returns-clause-there : goal.returns-clause-there
returns-clause-there c =
    let one : AreOne = record { exact = c.equal_keys_are_one.ensures.exact; same = c.equal_keys_are_one.ensures.same } in
    ap (λ xs. list_any (ghosts.eq c.args.key) xs) (returns-clause-objects c) ∙ there_now one c.args.objects.now.items c.args.key
