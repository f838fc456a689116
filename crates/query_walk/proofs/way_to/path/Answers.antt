use Rattle.std.proofs.Common.{◌≡◌, ◌+◌, ◌≤◌, List, Some, arith, subst, sym, ◌∙◌}
use Rattle.std.specs.List.{count_by}
use Rattle.flow_base.specs.declared.types.EntityId.{EntityId}
use Rattle.flow_base.specs.declared.types.Flow.{Flow}
use Rattle.reach_model.specs.Marks.{IsMarked}
use Rattle.reach_model.specs.Rows.{firsts}
use Rattle.query_walk.specs.Links.{enters_marked}
use Rattle.query_walk.specs.Walks.{AnswersBack, rows_into}
use Rattle.query_walk.specs.Ways.{IsShown, IsTrace}
use Rattle.query_walk.specs.WayBack.{IsBack}
use Rattle.query_walk.proofs.Told.{told, if_told}
use Rattle.query_walk.proofs.StepLemmas.{read_back}
use Rattle.query_walk.proofs.way_to.path.Goals as goal

pub returns-then-not-has-clause-steps : goal.returns-then-not-has-clause-steps
returns-then-not-has-clause-steps g c =
    let n = g.W.Rows.known c.args.rows.now in
    let back = c.in_ok-back.back in
    if_told (λ R. (ids : List EntityId) → AnswersBack (Some R) c.args.to.0 c.args.until ids → c.walk_back.new.steps ≤ c.args.steps.now + rows_into ids R) (g.W.Rows.rows c.args.rows.now) (λ R e ids answers.
    let s = told (λ R. c.walk_back.new.steps ≡ c.args.steps.now + count_by (enters_marked back.marks) (firsts R)) _ c.in_ok-back.ensures.steps R e in
    let b = told (λ R. IsBack (firsts R) n c.args.to.0 c.args.until back.marks back.hops.items) _ c.in_ok-back.ensures.exact R e in
    omega (arith, s, read_back R n c.args.to.0 c.args.until back.marks back.hops.items ids (omega (arith, c.in_ok-back.ensures.len)) b answers))

pub returns-clause-steps : goal.returns-clause-steps
returns-clause-steps g c =
    let n = g.W.Rows.known c.args.rows.now in
    let back = c.in_ok-back.back in
    if_told (λ R. (ids : List EntityId) → AnswersBack (Some R) c.args.to.0 c.args.until ids → c.walk_back.new.steps ≤ c.args.steps.now + rows_into ids R) (g.W.Rows.rows c.args.rows.now) (λ R e ids answers.
    let s = told (λ R. c.walk_back.new.steps ≡ c.args.steps.now + count_by (enters_marked back.marks) (firsts R)) _ c.in_ok-back.ensures.steps R e in
    let b = told (λ R. IsBack (firsts R) n c.args.to.0 c.args.until back.marks back.hops.items) _ c.in_ok-back.ensures.exact R e in
    omega (arith, s, read_back R n c.args.to.0 c.args.until back.marks back.hops.items ids (omega (arith, c.in_ok-back.ensures.len)) b answers))

pub returns-clause-exact : goal.returns-clause-exact
returns-clause-exact g c =
    let n = g.W.Rows.known c.args.rows.now in
    let back = c.in_ok-back.back in
    let path = c.in_ok-trace.field-0 in
    let traced : IsTrace back.hops.items c.args.from.0 path = subst (λ (hops : List Flow). IsTrace hops c.args.from.0 path) c.deref.ensures.value c.in_ok-trace.ensures in
    let marked : IsMarked back.marks c.args.from.0 = sym c.has.ensures ∙ c.if-not-has.false in
    if_told (λ R. IsShown (firsts R) c.args.from.0 c.args.to.0 c.args.until (Some path)) (g.W.Rows.rows c.args.rows.now) (λ R e.
    let b = told (λ R. IsBack (firsts R) n c.args.to.0 c.args.until back.marks back.hops.items) _ c.in_ok-back.ensures.exact R e in
    traced (firsts R) c.args.to.0 c.args.until b.way (b.led c.args.from.0 marked))
