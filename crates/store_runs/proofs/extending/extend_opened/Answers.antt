use Rattle.store_runs.proofs.extending.extend_opened.Goals as goal

pub returns-in-Plain-clause-reduced : goal.returns-in-Plain-clause-reduced
returns-in-Plain-clause-reduced g c = λ resume is. rw c.in-Plain.is (c.extend_with.ensures.reduced resume is)

pub returns-in-Continuous-clause-reduced : goal.returns-in-Continuous-clause-reduced
returns-in-Continuous-clause-reduced g c = λ resume is. rw c.in-Continuous.is (c.extend_with-in-Continuous.ensures.reduced resume is)

pub returns-in-Full-clause-reduced : goal.returns-in-Full-clause-reduced
returns-in-Full-clause-reduced g c = λ resume is. rw c.in-Full.is (c.extend_with-in-Full.ensures.reduced resume is)

pub returns-in-Source-clause-reduced : goal.returns-in-Source-clause-reduced
returns-in-Source-clause-reduced g c = λ resume is. rw c.in-Source.is (c.extend_with-in-Source.ensures.reduced resume is)

pub returns-in-Plain-clause-lacks : goal.returns-in-Plain-clause-lacks
returns-in-Plain-clause-lacks g c = rw c.in-Plain.is c.extend_with.ensures.lacks

pub returns-in-Continuous-clause-lacks : goal.returns-in-Continuous-clause-lacks
returns-in-Continuous-clause-lacks g c = rw c.in-Continuous.is c.extend_with-in-Continuous.ensures.lacks

pub returns-in-Full-clause-lacks : goal.returns-in-Full-clause-lacks
returns-in-Full-clause-lacks g c = rw c.in-Full.is c.extend_with-in-Full.ensures.lacks

pub returns-in-Source-clause-lacks : goal.returns-in-Source-clause-lacks
returns-in-Source-clause-lacks g c = rw c.in-Source.is c.extend_with-in-Source.ensures.lacks

pub returns-in-Plain-clause-heard : goal.returns-in-Plain-clause-heard
returns-in-Plain-clause-heard g c = λ is. rw c.in-Plain.is (c.extend_with.ensures.heard is)

pub returns-in-Continuous-clause-heard : goal.returns-in-Continuous-clause-heard
returns-in-Continuous-clause-heard g c = λ is. rw c.in-Continuous.is (c.extend_with-in-Continuous.ensures.heard is)

pub returns-in-Full-clause-heard : goal.returns-in-Full-clause-heard
returns-in-Full-clause-heard g c = λ is. rw c.in-Full.is (c.extend_with-in-Full.ensures.heard is)

pub returns-in-Source-clause-heard : goal.returns-in-Source-clause-heard
returns-in-Source-clause-heard g c = λ is. rw c.in-Source.is (c.extend_with-in-Source.ensures.heard is)

pub returns-in-Plain-clause-adds : goal.returns-in-Plain-clause-adds
returns-in-Plain-clause-adds g c = λ resume is. rw c.in-Plain.is (c.extend_with.ensures.adds resume is)

pub returns-in-Continuous-clause-adds : goal.returns-in-Continuous-clause-adds
returns-in-Continuous-clause-adds g c = λ resume is. rw c.in-Continuous.is (c.extend_with-in-Continuous.ensures.adds resume is)

pub returns-in-Full-clause-adds : goal.returns-in-Full-clause-adds
returns-in-Full-clause-adds g c = λ resume is. rw c.in-Full.is (c.extend_with-in-Full.ensures.adds resume is)

pub returns-in-Source-clause-adds : goal.returns-in-Source-clause-adds
returns-in-Source-clause-adds g c = λ resume is. rw c.in-Source.is (c.extend_with-in-Source.ensures.adds resume is)

pub returns-in-Plain-clause-watch_adds : goal.returns-in-Plain-clause-watch_adds
returns-in-Plain-clause-watch_adds g c = λ is. rw c.in-Plain.is (c.extend_with.ensures.watch_adds is)

pub returns-in-Continuous-clause-watch_adds : goal.returns-in-Continuous-clause-watch_adds
returns-in-Continuous-clause-watch_adds g c = λ is. rw c.in-Continuous.is (c.extend_with-in-Continuous.ensures.watch_adds is)

pub returns-in-Full-clause-watch_adds : goal.returns-in-Full-clause-watch_adds
returns-in-Full-clause-watch_adds g c = λ is. rw c.in-Full.is (c.extend_with-in-Full.ensures.watch_adds is)

pub returns-in-Source-clause-watch_adds : goal.returns-in-Source-clause-watch_adds
returns-in-Source-clause-watch_adds g c = λ is. rw c.in-Source.is (c.extend_with-in-Source.ensures.watch_adds is)
