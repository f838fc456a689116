use Rattle.reach_rows.specs.InMemory.{InMemory}
use Rattle.dialogue.specs.Saves.{hides_none, rises_never, uses_none}
use Rattle.dialogue.proofs.SaveLemmas.{reads_in_memory}
use Rattle.dialogue.proofs.saving.VecRowsSaves.reads_lawfully.Goals as goal

pub returns : goal.returns
returns c = reads_in_memory (λ (s : InMemory). s.rows) hides_none uses_none rises_never (λ a b uses hidden. hidden)
