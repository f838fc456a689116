use Rattle.std.proofs.Common.{◌≡◌, sym, subst}
use Rattle.std.proofs.lemmas.Bool.{both_ways}
use Rattle.std.specs.Option.{option_copied}
use Rattle.reach_model.specs.Flows.{source, target}
use Rattle.reduce_continuous.specs.Tables.{IsRun, IsGreatest, MayName}
use Rattle.reduce_continuous.proofs.Deciding.{no_run, after_inflow, after_outflow, carries_run}
use Rattle.reduce_continuous.proofs.tables.ContinuousReducer.decide.Goals as goal

pub returns-in-None-clause-verdict : goal.returns-in-None-clause-verdict
returns-in-None-clause-verdict c = λ R s _. no_run R c.args.flow.now _ (s.tables.runs (source c.args.flow.now) (target c.args.flow.now)) (sym c.in-None.ensures.value)

pub returns-then-into-clause-verdict : goal.returns-then-into-clause-verdict
returns-then-into-clause-verdict c = λ R s _.
    let f = c.args.flow.now in
    let run = c.in-Some.run'.now in
    let h = subst (IsRun R (source f) (target f)) (sym c.in-Some.ensures.value) (s.tables.runs (source f) (target f)) in
    let g = subst (IsGreatest R (λ h. target h ≡ source f)) (sym c.get-in-Some.ensures.value) (s.tables.into (source f)) in
    after_inflow R f run h (option_copied c.get-in-Some.result) g (c.is_after-into.ensures.0 c.if-into.true)

pub returns-then-out-clause-verdict : goal.returns-then-out-clause-verdict
returns-then-out-clause-verdict c = λ R s _.
    let f = c.args.flow.now in
    let run = c.in-Some.run'.now in
    let h = subst (IsRun R (source f) (target f)) (sym c.in-Some.ensures.value) (s.tables.runs (source f) (target f)) in
    let g = subst (IsGreatest R (λ h. source h ≡ target f)) (sym c.get-in-Some-2.ensures.value) (s.tables.out (target f)) in
    after_outflow R f run h (option_copied c.get-in-Some-2.result) g (c.is_after-out.ensures.0 c.if-out.true)

pub returns-else-out-clause-verdict : goal.returns-else-out-clause-verdict
returns-else-out-clause-verdict c = λ R s _.
    let f = c.args.flow.now in
    let run = c.in-Some.run'.now in
    let h = subst (IsRun R (source f) (target f)) (sym c.in-Some.ensures.value) (s.tables.runs (source f) (target f)) in
    let gi = subst (IsGreatest R (λ h. target h ≡ source f)) (sym c.get-in-Some.ensures.value) (s.tables.into (source f)) in
    let go = subst (IsGreatest R (λ h. source h ≡ target f)) (sym c.get-in-Some-2.ensures.value) (s.tables.out (target f)) in
    carries_run R f run h (option_copied c.get-in-Some.result) gi (λ a. both_ways c.is_after-into.result c.if-into.false (c.is_after-into.ensures.1 a))
    (option_copied c.get-in-Some-2.result) go (λ a. both_ways c.is_after-out.result c.if-out.false (c.is_after-out.ensures.1 a))

pub returns-else-out-clause-fits : goal.returns-else-out-clause-fits
returns-else-out-clause-fits c = λ R s.
    let f = c.args.flow.now in
    let h = subst (MayName R (source f) (target f)) (sym c.in-Some.ensures.value) (s.runs (source f) (target f)) in
    (h.within, λ d. (h.from d, h.to d))
