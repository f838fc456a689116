use Rattle.dialogue.proofs.HearLemmas.{on_ok}
use Rattle.audit_cli.proofs.JobLemmas.{trial_talked, no_read}
use Rattle.audit_cli.proofs.run.run.Goals as goal

pub returns-in-Trial-clause-talked : goal.returns-in-Trial-clause-talked
returns-in-Trial-clause-talked g c = λ bytes asked told tells. rw c.in-Trial.is (trial_talked c.args.limits.now _ _ bytes asked _ _ _ c.trial.result c.trial.ensures.tried)

pub returns-in-Trial-clause-within : goal.returns-in-Trial-clause-within
returns-in-Trial-clause-within g c = λ bytes asked told tells. rw c.in-Trial.is (on_ok c.trial.result _ tt)

pub returns-in-Trial-clause-left : goal.returns-in-Trial-clause-left
returns-in-Trial-clause-left g c = λ bytes asked told tells. rw c.in-Trial.is (on_ok c.trial.result _ tt)

pub returns-in-Trial-clause-causes : goal.returns-in-Trial-clause-causes
returns-in-Trial-clause-causes g c = no_read c.trial.result _ _ c.trial.ensures.causes
