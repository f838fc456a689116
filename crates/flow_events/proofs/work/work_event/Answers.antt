use Rattle.std.proofs.Common.{rules, ◌≡◌, ◌-◌, ◌++◌, [], ◌∷◌, ◌∙◌, ap, length, List, take, drop, subst, sym, arith}
use Rattle.std.proofs.lemmas.Result.{IfErr-weaker}
use Rattle.acts.specs.Flows.{acts_of}
use Rattle.acts.specs.Holding.{holds, address_of}
use Rattle.flow_events.specs.Changes.{changed}
use Rattle.flow_events.specs.Standing.{readdressed}
use Rattle.flow_events.specs.Drafts.{turned}
use Rattle.flow_events.specs.Working.{IsRefused, IsWorked, see_at}
use Rattle.acts.specs.declared.act.Taken.{Taken}
use Rattle.flow_events.proofs.Following.{first_turned}
use Rattle.flow_events.proofs.Beginning.{drafted_nothing}
use Rattle.flow_events.proofs.Resting.{none_left, rest_shorter}
use Rattle.flow_events.proofs.work.work_event.Goals as goal

pub returns-in-empty-clause-worked : goal.returns-in-empty-clause-worked
returns-in-empty-clause-worked c = λ before enough.
    let ground = c.args.ground.now in
    let fresh = c.requires.fresh in
    let worked = c.args.worked.now in
    subst (λ acts. IsWorked ground worked before (turned ground.ms ground.serial acts)) (sym (none_left c.args.acts.now c.in-empty.len_below)) (record {
      drafted = drafted_nothing ground worked.draft before enough.grounded fresh.births fresh.given fresh.added;
      held_are = λ p n. ap (λ change. changed change (holds (acts_of before)) p n) (sym fresh.see)
          ∙ ap (λ change. changed change (changed worked.see (holds (acts_of before))) p n) (sym fresh.last);
      addresses_are = λ s. ap (λ new. readdressed new (address_of (acts_of before)) s) (sym fresh.address);
    })

pub returns-in-See-clause-full : goal.returns-in-See-clause-full
returns-in-See-clause-full c = IfErr-weaker c.work_out.result _ _
    (λ why does full is before enough.
    let few = enough.few in
    let short = rest_shorter c.args.acts.now in
    let w = does full is before (record { grounded = enough.grounded; acts_are = enough.acts_are; few = omega (arith, few, short) }) in
    let ground = c.args.ground.now in
    let acts = c.args.acts.now in
    let rest = turned ground.ms ground.serial (take (length acts - 1) (drop 1 acts)) in
    let first : rest ++ see_at ground.ms ground.serial c.in-See.pid c.in-See.ppid c.in-See.exe ∷ [] ≡ turned ground.ms ground.serial acts =
    search (rules, first_turned) in
    let as_all : (now : List Taken) → now ≡ turned ground.ms ground.serial acts → IsRefused ground full before now → IsRefused ground full before (turned ground.ms ground.serial acts) =
    (λ now same refused. subst (λ all. IsRefused ground full before all) same refused) in
    as_all _ (search (rules, first)) w)
    c.work_out.ensures.full
