use Rattle.std.proofs.Common.{◌++◌, ap, ◌∙◌}
use Rattle.record_join.specs.History.{events}
use Rattle.ingest.specs.Events.{events_of, state_of, taken_in, tells_after, told_of}
use Rattle.ingest.proofs.Growing.{taken_more}
use Rattle.ingest.proofs.Telling.{events_more}
use Rattle.ingest.proofs.StoreMoments.{may_commit}
use Rattle.ingest.proofs.store_laws.histories_may_be_committed.Goals as goal

pub returns-clause-may : goal.returns-clause-may
returns-clause-may g c = λ limits engine h more p0 p stands part. may_commit c.lines_are_counted.ensures.each c.acts_are_few.ensures limits engine h more p0 p (c.states_are_sound.ensures limits (told_of limits (h ++ more))) part stands

pub returns-clause-since : goal.returns-clause-since
returns-clause-since g c = λ limits h more p0 p.
    let later = events limits (state_of limits h) (tells_after limits h more) in
    (taken_in limits later, ap (taken_in limits) (events_more limits h more) ∙ taken_more limits (events_of limits h) later)
