use Rattle.std.proofs.Common.{◌≡◌, ◌<◌, length, arith, subst, sym, ap, ◌∙◌}
use Rattle.reach_model.specs.Numbers.{known}
use Rattle.reach_model.specs.Rows.{firsts}
use Rattle.reach_rows.specs.InMemory.{InMemory}
use Rattle.reach_rows.proofs.RowLemmas.{all_rows, kept_ends}
use Rattle.reach_rows.proofs.vec_rows.VecRowsRows.row.Goals as goal

pub returns-clause-ends : goal.returns-clause-ends
returns-clause-ends g c =
    let rows = c.self.inside.rows.rows in
    let objects = c.self.inside.objects.objects in
    let all : length rows ≡ length c.args.self.now.rows = sym (all_rows rows objects c.self.invariant) ∙ ap (λ (m : InMemory). length m.rows) c.self.view_is in
    let h : c.args.index < length rows = omega (arith, c.requires, all) in
    subst (λ (m : InMemory). (c.row.result.from.0 < known (firsts m.rows)) × (c.row.result.to.0 < known (firsts m.rows))) c.self.view_is
    (kept_ends rows objects c.self.invariant c.args.index c.row.result h c.row.ensures)
