use Rattle.std.proofs.Common.{◌≡◌, false, true}
use Rattle.reduced_store.proofs.FillLemmas.{second}
use Rattle.reduced_store.proofs.apart.are_apart.Goals as goal

pub returns-then-not-branch : goal.returns-then-not-branch
returns-then-not-branch c =
    let not_apart = second c.args.lasts.now c.loop-last.last-index _ c.loop-last.places.keys c.in_ok-insert.field-0 c.loop-last-test.true c.loop-last.invariant.0 c.in_ok-insert.ensures.added c.if-not-branch.true in (
      λ t. absurd (let e : false ≡ true = t in cc),
      λ distinct. absurd (not_apart distinct),
    )
