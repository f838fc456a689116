use Rattle.std.proofs.Common.{ap, refl, Some}
use Rattle.acts.specs.Flows.{acts_of}
use Rattle.entity_names.specs.Known.{Known}
use Rattle.flow_events.proofs.Rooming.{all_saved, known_marked, marked_now, stands_marked}
use Rattle.flow_events.proofs.tables.Tables.remember.Goals as goal

pub returns-clause-since : goal.returns-clause-since
returns-clause-since c = λ text taken stands. record {
  stands = stands_marked text c.args.self.now _ taken refl refl refl c.mark_saved.ensures.rest c.mark_saved.ensures.names refl refl refl stands;
  since = c.new.ensures (acts_of taken) (known_marked c.args.self.now.entities c.mark_saved.new.self _ taken c.mark_saved.ensures.rest c.count.ensures stands.objects_are);
  saved = all_saved text c.args.self.now.entities c.mark_saved.new.self taken (ap (λ (e : Known). e.most_names) c.mark_saved.ensures.rest) stands.names_are c.mark_saved.ensures.names c.mark_saved.ensures.saved;
}

pub returns-clause-marks : goal.returns-clause-marks
returns-clause-marks c = λ text taken stands.
    let since = returns-clause-since c text taken stands in
    (since.stands, marked_now text _ taken (ap (λ n. Some n) stands.acts_are) since)

pub returns-clause-counts : goal.returns-clause-counts
returns-clause-counts c = record {
  acts = refl;
  flows = refl;
  keys = ap (λ (e : Known). e.keys) c.mark_saved.ensures.rest;
  most_names = ap (λ (e : Known). e.most_names) c.mark_saved.ensures.rest;
  limits = refl;
}
