use Rattle.std.proofs.lemmas.List.{take_all}
use Rattle.std.proofs.Common.{refl, subst}
use Rattle.std.specs.List.{All}
use Rattle.std.proofs.lemmas.List.Elements.{All-more}
use Rattle.row_codec.specs.Rows.{CanBeSpelled}
use Rattle.ingest.proofs.spellable.can_be_spelled.Goals as goal

pub loop-row-preserved : goal.loop-row-preserved
loop-row-preserved c =
    let rows = c.args.rows.now in
    let i = c.loop-row.row-index in
    All-more CanBeSpelled rows i c.row-item.result c.loop-row-test.true c.loop-row.invariant (subst CanBeSpelled c.row-item.is (c.if-not-has_spelling.ensures.0 refl))

pub returns : goal.returns
returns c =
    let rows = c.args.rows.now in
    (λ so. subst (All CanBeSpelled) (take_all c.loop-row.row-index rows c.loop-row-test.false) c.loop-row.invariant, λ all. refl)
