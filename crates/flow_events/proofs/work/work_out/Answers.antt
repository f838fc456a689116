use Rattle.std.proofs.Common.{ap, Err, ◌-◌, ◌++◌, ◌∙◌, [], ◌∷◌, subst, sym, length, take, arith}
use Rattle.std.specs.Prelude.{All}
use Rattle.call_acts.specs.Events.{IsCalmOf}
use Rattle.flow_events.specs.Drafts.{turned}
use Rattle.std.proofs.lemmas.Result.{err_from_is_err_and, IfErr-weaker}
use Rattle.acts.specs.Flows.{acts_of, objects}
use Rattle.acts.specs.Holding.{holds, address_of}
use Rattle.flow_events.specs.Changes.{changed}
use Rattle.flow_events.specs.Standing.{readdressed}
use Rattle.flow_events.specs.Added.{IsPast}
use Rattle.flow_events.specs.Working.{IsRefused, IsWorked, see_at}
use Rattle.flow_events.proofs.CountedBirths.{births_whole}
use Rattle.flow_events.proofs.Following.{split}
use Rattle.flow_events.proofs.Past.{still_past}
use Rattle.flow_events.proofs.Resting.{on_ok, none_left, whole, front_shorter, turned_whole}
use Rattle.flow_events.proofs.work.work_out.Goals as goal

pub go_on-requires-clause-few : goal.go_on-requires-clause-few
go_on-requires-clause-few c =
    let few = c.requires.few in
    let short = front_shorter c.args.rest.now in
    omega (arith, few, short)

pub go_on-requires-clause-calm : goal.go_on-requires-clause-calm
go_on-requires-clause-calm c =
    let rest = c.args.rest.now in
    let front = take (length rest - 1) rest in
    let begun = c.in_ok-acting.ensures in
    let shape = c.requires.rest front c.last-item.result (whole rest c.last-item.result c.in-len1-up.len_at_least c.last-item.is) in
    subst (λ pid. All (IsCalmOf pid) front) (sym begun.pid) shape.0

pub go_on-requires-clause-room : goal.go_on-requires-clause-room
go_on-requires-clause-room c =
    let rest = c.args.rest.now in
    let front = take (length rest - 1) rest in
    let room = c.in_ok-acting.ensures.room in
    let counted = c.births_in.ensures in
    let all = births_whole rest front c.last-item.result (whole rest c.last-item.result c.in-len1-up.len_at_least c.last-item.is) in
    omega (arith, room, counted, all)

pub returns-in-empty-clause-worked : goal.returns-in-empty-clause-worked
returns-in-empty-clause-worked c = λ before grounded enough.
    let ground = c.args.ground.now in
    let begun = c.in_ok-acting.ensures in
    let see = see_at ground.ms ground.serial c.args.pid c.args.ppid c.args.exe.now in
    let way = begun.way before grounded in
    let worked = c.begin.new.worked in
    let last = c.begin.ensures.last ∙ c.requires.fresh.last in
    let address = c.begin.ensures.address ∙ c.requires.fresh.address in
    subst (λ rest. IsWorked ground worked before (turned ground.ms ground.serial rest ++ see ∷ [])) (sym (none_left c.args.rest.now c.in-empty.len_below)) (record {
      drafted = way.drafted;
      held_are = λ p n. begun.see before grounded p n ∙ ap (λ change. changed change (changed worked.see (holds (acts_of before))) p n) (sym last);
      addresses_are = λ s. ap (λ new. readdressed new (address_of (acts_of before)) s) (sym address);
    })

pub returns-in-len1-up-clause-worked : goal.returns-in-len1-up-clause-worked
returns-in-len1-up-clause-worked c = on_ok c.go_on.result
    (λ does before grounded enough.
    let ground = c.args.ground.now in
    let rest = c.args.rest.now in
    let front = take (length rest - 1) rest in
    let few = enough.few in
    let short = front_shorter rest in
    let begun = c.in_ok-acting.ensures in
    let see = see_at ground.ms ground.serial c.args.pid c.args.ppid c.args.exe.now in
    subst (λ all. IsWorked ground c.go_on.new.worked before (all ++ see ∷ []))
    (sym (turned_whole ground.ms ground.serial rest front c.last-item.result (whole rest c.last-item.result c.in-len1-up.len_at_least c.last-item.is)))
    (does before see grounded (record { way = begun.way before grounded; lives_few = grounded.lives_few; acts_are = enough.acts_are; few = omega (arith, few, short) }) (begun.see before grounded)))
    c.go_on.ensures.worked

pub returns-in_err-acting-clause-full : goal.returns-in_err-acting-clause-full
returns-in_err-acting-clause-full c =
    let p = err_from_is_err_and c.from_residual.result c.from_residual.ensures.1 in
    rw (p.1, p.2) (λ full is before enough.
    let ground = c.args.ground.now in
    let rest = turned ground.ms ground.serial c.args.rest.now in
    let see = see_at ground.ms ground.serial c.args.pid c.args.ppid c.args.exe.now in
    record {
      past = subst (λ acts. IsPast ground.most full (objects acts)) (sym (split ground.ms ground.serial c.args.rest.now see before))
          (still_past _ full (acts_of rest) (see.act ∷ acts_of before) (c.in_err-acting.ensures.full full (ap Err is) before enough.grounded));
    })

pub returns-in-len1-up-clause-full : goal.returns-in-len1-up-clause-full
returns-in-len1-up-clause-full c = IfErr-weaker c.go_on.result _ _
    (λ why does full is before enough.
    let ground = c.args.ground.now in
    let rest = c.args.rest.now in
    let front = take (length rest - 1) rest in
    let few = enough.few in
    let short = front_shorter rest in
    let begun = c.in_ok-acting.ensures in
    let see = see_at ground.ms ground.serial c.args.pid c.args.ppid c.args.exe.now in
    subst (λ all. IsRefused ground full before (all ++ see ∷ []))
    (sym (turned_whole ground.ms ground.serial rest front c.last-item.result (whole rest c.last-item.result c.in-len1-up.len_at_least c.last-item.is)))
    (record { past = does full is before see (record { way = begun.way before enough.grounded; lives_few = enough.grounded.lives_few; acts_are = enough.acts_are; few = omega (arith, few, short) }) }))
    c.go_on.ensures.full
