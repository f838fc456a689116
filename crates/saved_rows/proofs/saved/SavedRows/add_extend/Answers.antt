use Rattle.std.proofs.Common.{ap, sym, arith, ◌∙◌}
use Rattle.std.proofs.lemmas.Bool.{ne_eqb}
use Rattle.saved_rows.specs.Saved.{Saved, end_of}
use Rattle.saved_rows.proofs.RowLemmas.{rows_extended}
use Rattle.saved_rows.proofs.saved.SavedRows.add_extend.Goals as goal

pub returns-clause-rows : goal.returns-clause-rows
returns-clause-rows c = λ bytes R has is d.
    let row = c.args.extend.now.row in
    let updates = c.in-Ok.ensures.updates in
    rows_extended bytes c.args.self.now _ R row c.args.place c.args.extend.now.mark d has (omega (arith, c.requires.row, has.all)) is updates.1
    (λ i differ. updates.2 i (ne_eqb row i (λ e. differ (sym e))) ∙ ap (λ (s : Saved). end_of s.ends i) c.self.view_is)
    (ap (λ (s : Saved). s.runs) c.self.view_is) (ap (λ (s : Saved). s.count) c.self.view_is) (ap (λ (s : Saved). s.cache) c.self.view_is)
