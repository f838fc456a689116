use Rattle.std.proofs.Common.{◌∙◌, ◌+◌, ◌&&◌, not, length, sym}
use Rattle.acts.specs.LookBack.{as_number}
use Rattle.acts.proofs.Entering.{new_ends}
use Rattle.acts.proofs.look_back.graph.count_new.Goals as goal

pub returns-clause-count : goal.returns-clause-count
returns-clause-count c =
    new_ends (record { exact = c.equal_keys_are_one.ensures.exact; same = c.equal_keys_are_one.ensures.same }) c.args.objects.now c.args.link.now.from c.args.link.now.to
    ∙ (λ i. length c.args.objects.now
    + (as_number (not (sym c.is_known-from_known.ensures i)) + as_number (not (sym c.is_known-to_known.ensures i) && not (sym c.eq.ensures i))))
    ∙ (λ i. length c.args.objects.now + sym c.count_ends.ensures.count i)
