use Rattle.std.proofs.Common.{◌∙◌, ◌++◌, ap, sym, arith}
use Rattle.std.specs.List.{flat_map}
use Rattle.std.proofs.lemmas.List.{take_all}
use Rattle.flow_base.specs.declared.types.Key.{Key}
use Rattle.entity_names.specs.KeyNames.{KeyNames}
use Rattle.entity_names.specs.Known.{new_pairs, pairs_of, text_if}
use Rattle.entity_names.proofs.SavedLemmas.{none_new, new_of_next, new_of_each}
use Rattle.entity_names.proofs.saving.names_from.Goals as goal

pub loop-place-init : goal.loop-place-init
loop-place-init c = ap pairs_of c.new-found.ensures ∙ sym (none_new c.args.saved c.args.names.now.entries c.requires)

pub loop-place-preserved : goal.loop-place-preserved
loop-place-preserved c =
    let e : Key × KeyNames = (c.entry_at.result.0.now, c.entry_at.result.1.now) in
    c.in_ok-push_new.ensures ∙ ap (λ ps. ps ++ new_pairs e) c.loop-place.invariant ∙ sym (new_of_next c.args.names.now.entries c.loop-place.place e c.entry_at.ensures)

pub returns : goal.returns
returns c = λ k.
    ap (flat_map (text_if k)) (c.loop-place.invariant ∙ ap (flat_map new_pairs) (take_all c.loop-place.place c.args.names.now.entries (let len = c.len-place-end.ensures.len in let past = c.loop-place-test.false in omega (arith, len, past))))
    ∙ new_of_each (record { exact = c.equal_keys_are_one.ensures.exact; same = c.equal_keys_are_one.ensures.same }) c.args.names.now.entries c.len-place-end.ensures.unique k
