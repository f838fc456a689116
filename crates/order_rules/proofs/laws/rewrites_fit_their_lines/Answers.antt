use Rattle.order_rules.proofs.LawLemmas.{rewrite_fits}
use Rattle.order_rules.proofs.laws.rewrites_fit_their_lines.Goals as goal

pub returns : goal.returns
returns c = rewrite_fits
