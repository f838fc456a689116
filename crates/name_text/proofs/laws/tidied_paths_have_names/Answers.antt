use Rattle.name_text.proofs.TidyLemmas.{tidy_of}
use Rattle.name_text.proofs.laws.tidied_paths_have_names.Goals as goal

pub returns : goal.returns
returns c = tidy_of
