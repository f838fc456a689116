use Rattle.std.proofs.Common.{◌++◌, ap, refl}
use Rattle.acts.specs.Flows.{acts_of}
use Rattle.entity_names.specs.Known.{Known}
use Rattle.flow_events.proofs.Rooming.{all_saved, known_marked, marked_again, stands_marked}
use Rattle.flow_events.proofs.tables.Tables.mark_saved.Goals as goal

pub returns-clause-since : goal.returns-clause-since
returns-clause-since c = λ text before now has. record {
  stands = stands_marked text c.args.self.now _ (now ++ before) refl refl refl c.mark_saved.ensures.rest c.mark_saved.ensures.names refl refl refl has.stands;
  since = c.mark_event.ensures (acts_of before) (acts_of now) (acts_of (now ++ before)) (known_marked c.args.self.now.entities c.mark_saved.new.self _ (now ++ before) c.mark_saved.ensures.rest c.count.ensures has.stands.objects_are) has.since;
  saved = all_saved text c.args.self.now.entities c.mark_saved.new.self (now ++ before) (ap (λ (e : Known). e.most_names) c.mark_saved.ensures.rest) has.stands.names_are c.mark_saved.ensures.names c.mark_saved.ensures.saved;
}

pub returns-clause-marks : goal.returns-clause-marks
returns-clause-marks c = λ text taken stands marks.
    let still = stands_marked text c.args.self.now _ taken refl refl refl c.mark_saved.ensures.rest c.mark_saved.ensures.names refl refl refl stands in
    (still, marked_again text c.args.self.now _ taken (returns-clause-since c) c.marked_at-self.ensures stands.acts_are marks)

pub returns-clause-counts : goal.returns-clause-counts
returns-clause-counts c = record {
  acts = refl;
  flows = refl;
  keys = ap (λ (e : Known). e.keys) c.mark_saved.ensures.rest;
  most_names = ap (λ (e : Known). e.most_names) c.mark_saved.ensures.rest;
  limits = refl;
}
