use Rattle.std.proofs.Common.{[], ◌∷◌, ◌++◌, ap, subst, arith, ◌∙◌}
use Rattle.saved_rows.specs.declared.runs.Run.{Run}
use Rattle.saved_rows.specs.Runs.{AreRuns}
use Rattle.saved_rows.specs.Saved.{Saved}
use Rattle.saved_rows.proofs.RowLemmas.{rows_added}
use Rattle.saved_rows.proofs.saved.SavedRows.add_kept.Goals as goal

pub returns-clause-rows : goal.returns-clause-rows
returns-clause-rows c = λ bytes R added has long single spelled.
    let run : Run = record { first = c.self.inside.count; place = c.args.place } in
    let count = ap (λ (s : Saved). s.count) c.self.view_is in
    let are = subst (λ (s : Saved). AreRuns s.count s.runs) c.self.view_is c.self.invariant.0 in
    rows_added bytes c.args.self.now R added run _ has are count single spelled
    (c.push_reserved.ensures.items ∙ ap (λ (s : Saved). s.runs ++ run ∷ []) c.self.view_is)
    (omega (arith, count, long)) (ap (λ (s : Saved). s.ends) c.self.view_is) (ap (λ (s : Saved). s.cache) c.self.view_is)
