use Rattle.std.proofs.Common.{◌≡◌, ◌+◌, ◌-◌, ◌++◌, ◌^◌, ◌∙◌, ap, sym, List, length, ◌∷◌, arith}
use Rattle.acts.specs.Flows.{acts_of, objects, flows, link_of, with_ends}
use Rattle.flow_events.specs.Acting.{IsBorn}
use Rattle.flow_events.specs.Added.{flows_if}
use Rattle.acts.specs.declared.act.Taken.{Taken}
use Rattle.flow_events.specs.declared.acting.Acting.{Acting}
use Rattle.flow_events.specs.declared.draft.Draft.{Draft}
use Rattle.flow_events.specs.declared.draft.Ground.{Ground}
use Rattle.flow_events.specs.Drafts.{MayGoOn}
use Rattle.std.proofs.lemmas.Result.{err_from_is_err_and}
use Rattle.flow_events.proofs.Drafting.{few_births, joined, flows_after}
use Rattle.flow_events.proofs.KnownNames.{named_after}
use Rattle.flow_events.proofs.Past.{link_past}
use Rattle.flow_events.proofs.draft.Draft.act.Goals as goal

-- the births so far can be counted
few_born : (ground : Ground) (acting : Acting) (draft : Draft) (before now : List Taken) → MayGoOn ground acting draft before now 0 → IsBorn ground.births.now draft.births (acts_of before) (acts_of now)
few_born ground acting draft before now may =
    let drafted = may.way.drafted in record {
      before_are = drafted.before_are;
      now_are = drafted.now_are;
      births_few = few_births ground.births.now before (2 ^ 63) drafted.before_are (let b = may.before_few in omega (arith, b));
      fresh_few = few_births draft.births now (2 ^ 63) drafted.now_are (let b = may.now_few in omega (arith, b));
    }

pub returns-clause-next : goal.returns-clause-next
returns-clause-next c = λ before now may.
    let so_far = may.way.drafted in
    let acting = may.way.acting_is in
    let base = may.way.base in
    let born = few_born c.args.ground.now c.args.acting.now c.args.self.now before now may in
    let act = c.args.act.now in
    let known = c.args.ground.now.entities.now.keys in
    let acts = acts_of now ++ acts_of before in
    let link = c.in_ok-link.ensures.link may.lives_few (acts_of before) (acts_of now) born acting in
    let named = c.in_ok-name.ensures (acts_of before) (acts_of now) born in
    let objects_are : objects (act ∷ acts) ≡ known ++ c.add_link.new.added.keys =
    (λ i. with_ends (so_far.objects_are i) (sym link i)) ∙ sym c.in_ok-add_link.ensures.keys in
    record {
      before_are = so_far.before_are;
      now_are = c.bear.ensures.next (few_births c.args.self.now.births now (2 ^ 64 - 1) so_far.now_are (let b = may.now_few in omega (arith, b))) (acts_of now) so_far.now_are;
      known_are = so_far.known_are;
      names_are = named_after c.args.ground.now.entities.now _ _ _ _ _ _ so_far.known_are so_far.names_are named c.in_ok-put_name.ensures;
      objects_are = objects_are;
      flows_are =
          flows_after before now (record { act = act; ms = c.args.ground.now.ms; serial = c.args.ground.now.serial }) c.args.self.now.added.flows (known ++ c.add_link.new.added.keys) c.in_ok-link.link
          (c.args.ground.now.flows + length c.args.self.now.added.flows) so_far.flows_are
          (ap (λ all. objects (act ∷ all)) (joined now before) ∙ objects_are)
          (ap (λ all. link_of all act) (joined now before) ∙ sym link)
          (ap (λ n. n + length c.args.self.now.added.flows) base)
          ∙ ap (λ added. flows before ++ added) (ap (λ n. c.args.self.now.added.flows ++ flows_if (known ++ c.add_link.new.added.keys) c.args.ground.now.ms c.args.ground.now.serial (c.args.ground.now.flows + n) c.in_ok-link.link) (sym c.count.ensures) ∙ sym c.in_ok-add_link.ensures.flows);
    }

pub returns-in_err-add_link-clause-full : goal.returns-in_err-add_link-clause-full
returns-in_err-add_link-clause-full c =
    let p = err_from_is_err_and c.from_residual-in_err-add_link.result c.from_residual-in_err-add_link.ensures.1 in
    rw (p.1, p.2) (λ full is before now may.
    let born = few_born c.args.ground.now c.args.acting.now c.args.self.now before now may in
    link_past _ full _ (objects (acts_of now ++ acts_of before)) _ _ may.way.drafted.objects_are (c.in_ok-link.ensures.link may.lives_few (acts_of before) (acts_of now) born may.way.acting_is) (c.in_err-add_link.ensures.full full is))
