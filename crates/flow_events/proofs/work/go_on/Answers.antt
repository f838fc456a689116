use Rattle.std.proofs.Common.{Err, ◌<◌, ◌+◌, ◌-◌, ◌++◌, ◌^◌, ◌∙◌, ℕ, List, [], ◌∷◌, ap, sym, length, arith}
use Rattle.std.proofs.lemmas.Result.{err_from_is_err_and}
use Rattle.acts.specs.Holding.{holds, address_of}
use Rattle.acts.specs.Flows.{acts_of}
use Rattle.flow_events.specs.Acting.{IsBorn}
use Rattle.flow_events.specs.Changes.{changed}
use Rattle.acts.specs.declared.act.Act.{Act}
use Rattle.acts.specs.declared.act.Taken.{Taken}
use Rattle.flow_events.specs.declared.draft.Draft.{Draft}
use Rattle.flow_events.specs.declared.draft.Ground.{Ground}
use Rattle.flow_events.specs.declared.acting.Acting.{Acting}
use Rattle.flow_events.specs.Drafts.{MayGoOn, UnderWay, turned}
use Rattle.flow_events.specs.Working.{IsBegun}
use Rattle.flow_events.proofs.Applying.{changed_alike, readdressed_alike}
use Rattle.flow_events.proofs.Drafting.{few_births}
use Rattle.flow_events.proofs.Following.{calm_holds, numbered, front_length, split}
use Rattle.flow_events.proofs.Past.{still_past}
use Rattle.flow_events.proofs.work.go_on.Goals as goal

-- there are numbers for the births and moves after the see
may_begin : (ground : Ground) (acting : Acting) (draft : Draft) (before : List Taken) (first : Taken) (acts more : ℕ) → IsBegun ground acting draft before first acts more
    → MayGoOn ground acting draft before (first ∷ []) more
may_begin ground acting draft before first acts more is =
    let few = is.few in
    record { way = is.way; lives_few = is.lives_few; before_few = omega (arith, few); now_few = (let e : 1 + more < 2 ^ 63 - 1 = omega (arith, few) in e) }

-- and then for the last act
may_end : (ground : Ground) (acting : Acting) (begun draft : Draft) (before : List Taken) (first : Taken) (acts : ℕ) (front : List Act)
    → IsBegun ground acting begun before first acts (length front)
    → UnderWay ground acting draft before (turned ground.ms ground.serial front ++ first ∷ []) → MayGoOn ground acting draft before (turned ground.ms ground.serial front ++ first ∷ []) 0
may_end ground acting begun draft before first acts front is way =
    let few = is.few in
    let long = front_length ground.ms ground.serial front first in
    record { way = way; lives_few = is.lives_few; before_few = omega (arith, few); now_few = omega (arith, few, long) }

pub returns-clause-worked : goal.returns-clause-worked
returns-clause-worked c = λ before first grounded begun see.
    let ground = c.args.ground.now in
    let front = c.args.front.now in
    let few = begun.few in
    let now = turned ground.ms ground.serial front ++ first ∷ [] in
    let acts = acts_of now ++ acts_of before in
    let way = c.in_ok-calm_acts.ensures.next before (first ∷ []) (may_begin ground c.args.acting.now c.args.worked.now.draft before first c.args.acts (length front) begun) in
    let long = front_length ground.ms ground.serial front first in
    let number = numbered ground.ms ground.serial front first before c.args.acts begun.acts_are in
    let born : IsBorn ground.births.now c.calm_acts.new.self.births (acts_of before) (acts_of now) = record {
      before_are = way.drafted.before_are;
      now_are = way.drafted.now_are;
      births_few = few_births ground.births.now before (2 ^ 63) way.drafted.before_are (omega (arith, few));
      fresh_few = few_births c.calm_acts.new.self.births now (2 ^ 63) way.drafted.now_are (omega (arith, few, long));
    } in
    let change = c.in_ok-change.ensures (acts_of before) (acts_of now) born way.acting_is number in
    let address = c.in_ok-address.ensures ground.procs.now acts way.acting_is number in
    record {
      drafted = c.in_ok-act.ensures.next before now (may_end ground c.args.acting.now c.args.worked.now.draft c.calm_acts.new.self before first c.args.acts front begun way);
      held_are = λ p n.
          change p n
          ∙ changed_alike c.in_ok-change.change (holds acts) (changed c.args.worked.now.see (holds (acts_of before)))
          (λ q m.
          ap (λ all. holds all q m) (split ground.ms ground.serial front first before)
          ∙ calm_holds c.args.acting.now.pid ground.ms ground.serial front c.requires.calm (first.act ∷ acts_of before) q m
          ∙ see q m)
          p n;
      addresses_are = λ s.
          address s
          ∙ readdressed_alike c.in_ok-address.address (address_of acts) (address_of (acts_of before))
          (λ t. sym (way.acting_is.addresses_are.each t) ∙ grounded.addresses_are.each t)
          s;
    }

pub returns-in_err-calm_acts-clause-full : goal.returns-in_err-calm_acts-clause-full
returns-in_err-calm_acts-clause-full c =
    let p = err_from_is_err_and c.from_residual.result c.from_residual.ensures.1 in
    rw (p.1, p.2) (λ full is before first begun.
    let ground = c.args.ground.now in
    let now = turned ground.ms ground.serial c.args.front.now ++ first ∷ [] in
    still_past _ full (c.args.last.now ∷ []) (acts_of now ++ acts_of before) (c.in_err-calm_acts.ensures.full full (ap Err is) before (first ∷ []) (may_begin ground c.args.acting.now c.args.worked.now.draft before first c.args.acts (length c.args.front.now) begun)))

pub returns-in_err-act-clause-full : goal.returns-in_err-act-clause-full
returns-in_err-act-clause-full c =
    let p = err_from_is_err_and c.from_residual-in_err-act.result c.from_residual-in_err-act.ensures.1 in
    rw (p.1, p.2) (λ full is before first begun.
    let ground = c.args.ground.now in
    let now = turned ground.ms ground.serial c.args.front.now ++ first ∷ [] in
    let way = c.in_ok-calm_acts.ensures.next before (first ∷ []) (may_begin ground c.args.acting.now c.args.worked.now.draft before first c.args.acts (length c.args.front.now) begun) in
    c.in_err-act.ensures.full full (ap Err is) before now (may_end ground c.args.acting.now c.args.worked.now.draft c.calm_acts.new.self before first c.args.acts c.args.front.now begun way))
