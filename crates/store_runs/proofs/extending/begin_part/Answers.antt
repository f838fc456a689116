use Rattle.std.proofs.Common.{◌∙◌}
use Rattle.store_runs.proofs.StoreRuns.{at_new_part, begun_on, enough_on, short_on}
use Rattle.dialogue.proofs.LackLemmas.{left_all, left_passed}
use Rattle.store_runs.proofs.extending.begin_part.Goals as goal

pub returns-then-resume-clause-begun : goal.returns-then-resume-clause-begun
returns-then-resume-clause-begun g c = λ limits h before bytes x told.
    begun_on g.D.Disk.state limits g.R.Reducer.mode c.args.session.now.engine _ h before bytes c.args.resume c.part_taken-taken.result c.go_on.result c.what_is_saved_stays_saved.ensures g.met.D.Disk.lawful
    c.if-resume.true c.part_taken-taken.ensures x (c.go_on.ensures.passed bytes told)

pub returns-then-resume-clause-enough : goal.returns-then-resume-clause-enough
returns-then-resume-clause-enough g c = λ limits h before bytes x told.
    enough_on g.D.Disk.state limits g.R.Reducer.mode c.args.session.now.engine h before bytes c.args.resume c.part_taken-taken.result c.go_on.result c.if-resume.true c.part_taken-taken.ensures x (c.go_on.ensures.enough bytes told)

pub returns-then-resume-clause-short : goal.returns-then-resume-clause-short
returns-then-resume-clause-short g c = λ limits h before bytes x told all had is.
    short_on g.D.Disk.state limits g.R.Reducer.mode c.args.session.now.engine h before bytes c.args.resume c.part_taken-taken.result all had c.if-resume.true c.part_taken-taken.ensures x (c.go_on.ensures.short bytes told all had is)

pub returns-clause-begun : goal.returns-clause-begun
returns-clause-begun g c = λ limits h before bytes x told.
    rw c.if-resume.false (at_new_part g.D.Disk.state limits g.R.Reducer.mode c.args.session.now.engine c.new_part.new.self (g.L.Source.left c.args.log.now) h before bytes c.what_is_saved_stays_saved.ensures g.met.D.Disk.lawful
    c.new_part.ensures.part c.new_part.ensures.stands x told)

pub returns-clause-enough : goal.returns-clause-enough
returns-clause-enough g c = λ limits h before bytes x told. rw c.if-resume.false tt

pub returns-then-resume-clause-left : goal.returns-then-resume-clause-left
returns-then-resume-clause-left g c = λ limits h before bytes x told.
    rw c.if-resume.true (left_passed c.part_taken-taken.result before bytes _ (c.part_taken-taken.ensures ∙ x.stands.has_part.counted) (c.go_on.ensures.left bytes told))

pub returns-clause-left : goal.returns-clause-left
returns-clause-left g c = λ limits h before bytes x told. left_all _ bytes _ told

pub returns-then-resume-clause-causes : goal.returns-then-resume-clause-causes
returns-then-resume-clause-causes g c = rw c.if-resume.true c.go_on.ensures.causes
