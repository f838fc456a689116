use Rattle.std.proofs.Common.{None, sym, ◌∙◌}
use Rattle.std.proofs.lemmas.Bool.{false≢true}
use Rattle.reach_model.specs.Rows.{firsts}
use Rattle.reach_rows.specs.declared.questions.Question.TheVariants.{Fore}
use Rattle.reach_rows.specs.Kept.{IsFirstOf}
use Rattle.query_walk.specs.Ways.{IsShown}
use Rattle.kept_flows.proofs.Shown.{allowed_kept, nowhere, along}
use Rattle.kept_flows.proofs.Those.{told}
use Rattle.kept_flows.proofs.one_path.find_way.Goals as goal

pub returns-then-not-allowed-clause-exact : goal.returns-then-not-allowed-clause-exact
returns-then-not-allowed-clause-exact g c = λ F R e lawful keeps kept.
    let mode = g.M.Reducer.mode in
    let from = c.args.from in
    let first = c.first-first.result in
    let is = told (λ R. IsFirstOf (firsts R) from.0 first) (g.W.Rows.rows c.args.rows.now) c.first-first.ensures R e in
    let whole = (c.first_flows_are_told.ensures mode F R lawful keeps from.0 first).0 is in
    let same = allowed_kept mode F from first (c.what_is_allowed_is_answerable.ensures.exact mode F (Fore from None) first whole) in
    false≢true (sym c.if-not-allowed.true ∙ c.allowed-allowed.ensures.1 (same.1 kept))

pub returns-in-None-clause-exact : goal.returns-in-None-clause-exact
returns-in-None-clause-exact g c = λ F R e lawful keeps.
    let mode = g.M.Reducer.mode in
    let from = c.args.from in
    let to = c.args.to.0 in
    let until = c.args.until in
    let rows = g.W.Rows.rows c.args.rows.now in
    let first = c.first-first.result in
    let is = told (λ R. IsFirstOf (firsts R) from.0 first) rows c.first-first.ensures R e in
    let whole = (c.first_flows_are_told.ensures mode F R lawful keeps from.0 first).0 is in
    let same = allowed_kept mode F from first (c.what_is_allowed_is_answerable.ensures.exact mode F (Fore from None) first whole) in
    let kept = same.0 (c.allowed-allowed.ensures.0 c.if-not-allowed.false) in
    let shown = told (λ R. IsShown (firsts R) from.0 to until c.in_ok-path.field-0) rows c.in_ok-path.ensures.exact R e in
    (kept, nowhere F R lawful from.0 to until mode keeps kept c.in_ok-path.field-0 shown c.in-None.is)

pub returns-clause-exact : goal.returns-clause-exact
returns-clause-exact g c = λ F R e lawful keeps.
    let mode = g.M.Reducer.mode in
    let from = c.args.from in
    let to = c.args.to.0 in
    let until = c.args.until in
    let rows = g.W.Rows.rows c.args.rows.now in
    let first = c.first-first.result in
    let is = told (λ R. IsFirstOf (firsts R) from.0 first) rows c.first-first.ensures R e in
    let whole = (c.first_flows_are_told.ensures mode F R lawful keeps from.0 first).0 is in
    let same = allowed_kept mode F from first (c.what_is_allowed_is_answerable.ensures.exact mode F (Fore from None) first whole) in
    let kept = same.0 (c.allowed-allowed.ensures.0 c.if-not-allowed.false) in
    let shown = told (λ R. IsShown (firsts R) from.0 to until c.in_ok-path.field-0) rows c.in_ok-path.ensures.exact R e in
    (kept, along F R lawful from.0 to until mode keeps c.in_ok-path.field-0 c.in-Some.flows shown c.in_ok-path.ensures.itself c.in-Some.is)
