use Rattle.std.proofs.Common.{arith, [], ◌∷◌, ◌++◌, sym, subst, ◌∙◌}
use Rattle.std.proofs.lemmas.List.{length-append, length-set}
use Rattle.reach_model.specs.declared.modes.Mode.TheVariants.{Continuous as ContinuousMode}
use Rattle.reach_model.specs.declared.modes.Verdict.TheVariants.{Extend}
use Rattle.reach_model.specs.Rows.{row_of, rows_after}
use Rattle.reach_model.specs.ByRows.{IsVerdictByRows}
use Rattle.reduce_continuous.specs.Tables.{StandsFor, Takes}
use Rattle.reduce_continuous.proofs.Noting.{adds, extends}
use Rattle.reduce_continuous.proofs.tables.ContinuousReducer.note.Goals as goal

pub returns-in-Add-clause-rows : goal.returns-in-Add-clause-rows
returns-in-Add-clause-rows c = λ R s n.
    let f = c.args.flow.now in
    let t = c.put.ensures.tables R (R ++ row_of f ∷ []) s.tables n.after (subst (Takes R (R ++ row_of f ∷ []) f) (sym s.count) (adds R f)) in
    subst (λ d. StandsFor (record { count = c.saturating_add-self.result; runs = c.put.new.self.runs; into = c.put.new.self.into; out = c.put.new.self.out }) (rows_after R f d)) (sym c.in-Add.is)
    (record { count = simp length-append (omega (arith, c.saturating_add-self.ensures, s.count, n.few)); tables = record { runs = t.runs; into = t.into; out = t.out } })

pub returns-in-Extend-clause-rows : goal.returns-in-Extend-clause-rows
returns-in-Extend-clause-rows c = λ R s n.
    let f = c.args.flow.now in
    let i = c.in-Extend.row in
    let w = subst (IsVerdictByRows ContinuousMode R f) c.in-Extend.is n.verdict in
    subst (λ d. StandsFor c.put-in-Extend.new.self (rows_after R f d)) (sym c.in-Extend.is)
    (record { count = simp length-set (c.put-in-Extend.ensures.count ∙ s.count); tables = c.put-in-Extend.ensures.tables R (rows_after R f (Extend i)) s.tables n.after (extends R f i w.0 (λ d. (w.1 d).pair)) })
