use Rattle.reduce_source.proofs.OtherStarts.{all, kept, are_lawful, are_kept, not_all}
use Rattle.reduce_source.proofs.laws.source_mode_loses_other_starts.Goals as goal

pub returns : goal.returns
returns c = (all, kept, are_lawful, are_kept, not_all)
