use Rattle.record_join.proofs.Sound.{always_sound}
use Rattle.record_join.proofs.laws.states_are_sound.Goals as goal

pub returns : goal.returns
returns c = always_sound
