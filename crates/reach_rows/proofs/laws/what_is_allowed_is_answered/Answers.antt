use Rattle.reach_rows.proofs.AskedLemmas.{allowed_answered, answers_sound}
use Rattle.reach_rows.proofs.laws.what_is_allowed_is_answered.Goals as goal

pub returns-clause-exact : goal.returns-clause-exact
returns-clause-exact c = allowed_answered

pub returns-clause-sound : goal.returns-clause-sound
returns-clause-sound c = answers_sound
