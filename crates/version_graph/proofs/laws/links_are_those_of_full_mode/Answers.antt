use Rattle.version_graph.proofs.Linking.{same_links}
use Rattle.version_graph.proofs.laws.links_are_those_of_full_mode.Goals as goal

pub returns : goal.returns
returns c = same_links
