use Rattle.reduce_full.proofs.LaterStarts.{both, kept, are_lawful, are_kept, not_all}
use Rattle.reduce_full.proofs.laws.full_mode_loses_later_starts.Goals as goal

pub returns : goal.returns
returns c = (both, kept, are_lawful, are_kept, not_all)
