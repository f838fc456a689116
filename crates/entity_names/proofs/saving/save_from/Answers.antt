use Rattle.std.proofs.Common.{◌≡◌, subst, length, arith}
use Rattle.entity_names.specs.Known.{AreSaved}
use Rattle.entity_names.proofs.SavedLemmas.{saved_few}
use Rattle.entity_names.proofs.saving.save_from.Goals as goal

pub returns-clause-saved : goal.returns-clause-saved
returns-clause-saved c = λ are.
    let so_far = c.loop-place.invariant.saved are in
    let few = saved_few c.loop-place.place c.loop-place.names.entries so_far in
    let past = c.loop-place-test.false in
    let len = c.len.ensures.len in
    let end : c.loop-place.place ≡ length c.loop-place.names.entries = omega (arith, few, past, len) in
    subst (λ n. AreSaved n c.loop-place.names.entries) end so_far
