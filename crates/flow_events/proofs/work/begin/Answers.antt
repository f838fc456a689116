use Rattle.std.proofs.Common.{◌≡◌, ◌∷◌, ◌∙◌, ap, subst, sym, Err}
use Rattle.acts.specs.declared.act.Act.TheVariants.{See}
use Rattle.acts.specs.Lives.{life_of}
use Rattle.acts.specs.Flows.{acts_of, objects}
use Rattle.std.proofs.lemmas.Result.{err_from_is_err_and}
use Rattle.flow_events.specs.Added.{IsPast}
use Rattle.flow_events.proofs.Beginning.{drafted_nothing, way_begun}
use Rattle.flow_base.specs.declared.faults.Refused.TheVariants as fault
use Rattle.flow_events.proofs.GoingOn.{none_numbered}
use Rattle.flow_events.proofs.Past.{error_or}
use Rattle.flow_events.proofs.work.begin.Goals as goal

pub returns-clause-way : goal.returns-clause-way
returns-clause-way c = λ before stands.
    let ground = c.args.ground.now in
    let exe = c.args.exe.now in
    let acting = c.see_process-seen.result.acting in
    let seen = c.see_process-seen.ensures in
    let life = seen.life stands.lives_few (acts_of before) exe stands.lives_are in
    let start = c.in_ok-expect.ensures in
    way_begun ground acting c.see.new.self before c.args.pid c.args.ppid exe stands seen.pid life (seen.held (acts_of before) exe stands.lives_are stands.admitted)
    (c.in_ok-see.ensures.next stands.lives_few before stands.flows_are stands.lives_are
    (subst (λ p. life_of (See p c.args.ppid exe ∷ acts_of before) p ≡ acting.life) (sym seen.pid) life)
    (drafted_nothing ground c.expect.new.self before stands start.births (ap (λ d. d.given) c.expect.ensures.rest ∙ c.requires.fresh.given) (ap (λ d. d.added) c.expect.ensures.rest ∙ c.requires.fresh.added)))

pub returns-clause-see : goal.returns-clause-see
returns-clause-see c = λ before stands. c.see_process-seen.ensures.change (acts_of before) c.args.exe.now stands.lives_are stands.admitted

pub returns-in_err-see-clause-full : goal.returns-in_err-see-clause-full
returns-in_err-see-clause-full c =
    let p = err_from_is_err_and c.from_residual-in_err-see.result c.from_residual-in_err-see.ensures.1 in
    rw (p.1, p.2) (λ full is before stands.
    let ground = c.args.ground.now in
    let seen = c.see_process-seen.ensures in
    let start = c.in_ok-expect.ensures in
    subst (λ pid. IsPast ground.most full (objects (See pid c.args.ppid c.args.exe.now ∷ acts_of before))) seen.pid
    (c.in_err-see.ensures.full full (ap Err (ap (error_or (fault.Full full)) is)) stands.lives_few before stands.lives_are (drafted_nothing ground c.expect.new.self before stands start.births (ap (λ d. d.given) c.expect.ensures.rest ∙ c.requires.fresh.given) (ap (λ d. d.added) c.expect.ensures.rest ∙ c.requires.fresh.added))))

pub returns-clause-numbered : goal.returns-clause-numbered
returns-clause-numbered c =
    let ground = c.args.ground.now in
    c.in_ok-see.ensures.numbered (none_numbered ground.entities.now.keys ground.ms ground.flows _ (ap (λ d. d.added) c.expect.ensures.rest ∙ c.requires.fresh.added))
