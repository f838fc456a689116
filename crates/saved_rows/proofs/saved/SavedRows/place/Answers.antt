use Rattle.std.proofs.Common.{◌≡◌, ◌<◌, ◌+◌, ◌*◌, ◌-◌, ◌^◌, ℕ, ap, sym, subst, get_or, arith, ◌∙◌}
use Rattle.saved_rows.specs.declared.runs.Run.{Run}
use Rattle.saved_rows.specs.Runs.{IsRunOf, place_in}
use Rattle.saved_rows.specs.Saved.{Saved}
use Rattle.saved_rows.proofs.RunLemmas.{run_fits}
use Rattle.saved_rows.proofs.saved.SavedRows.place.Goals as goal

pub overflow_sub-result : goal.overflow_sub-result
overflow_sub-result c =
    let h : c.args.index < c.self.inside.count = omega (arith, c.requires, ap (λ (s : Saved). s.count) c.self.view_is) in
    (run_fits c.self.inside.runs.items c.as_slice.result.now c.run_of-run.result c.self.inside.count c.args.index c.self.invariant.0 c.as_slice.ensures.value h c.run_of-run.ensures).0

pub overflow_mul-result : goal.overflow_mul-result
overflow_mul-result c =
    let h : c.args.index < c.self.inside.count = omega (arith, c.requires, ap (λ (s : Saved). s.count) c.self.view_is) in
    let fits = run_fits c.self.inside.runs.items c.as_slice.result.now c.run_of-run.result c.self.inside.count c.args.index c.self.invariant.0 c.as_slice.ensures.value h c.run_of-run.ensures in
    omega (arith, fits.1)

pub overflow_add-result : goal.overflow_add-result
overflow_add-result c =
    let h : c.args.index < c.self.inside.count = omega (arith, c.requires, ap (λ (s : Saved). s.count) c.self.view_is) in
    let fits = run_fits c.self.inside.runs.items c.as_slice.result.now c.run_of-run.result c.self.inside.count c.args.index c.self.invariant.0 c.as_slice.ensures.value h c.run_of-run.ensures in
    omega (arith, fits.1)

pub returns-clause-place : goal.returns-clause-place
returns-clause-place c =
    let i = c.args.index in
    let found = c.run_of-run.ensures in
    let k = found.0 in
    let runs = c.as_slice.ensures.value ∙ ap (λ (s : Saved). s.runs) c.self.view_is in
    (k, subst (λ rs. IsRunOf rs i k) runs found.1, λ d. ap (λ (r : Run). place_in r i) (found.2 d) ∙ ap (λ rs. place_in (get_or rs k d) i) runs)

pub returns-clause-fits : goal.returns-clause-fits
returns-clause-fits c =
    let h : c.args.index < c.self.inside.count = omega (arith, c.requires, ap (λ (s : Saved). s.count) c.self.view_is) in
    let fits = run_fits c.self.inside.runs.items c.as_slice.result.now c.run_of-run.result c.self.inside.count c.args.index c.self.invariant.0 c.as_slice.ensures.value h c.run_of-run.ensures in
    omega (arith, fits.1)
