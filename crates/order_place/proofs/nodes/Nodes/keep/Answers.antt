use Rattle.std.proofs.Common.{◌∙◌, ap, ◌++◌}
use Rattle.std.specs.Prelude.{option_to_list}
use Rattle.std.specs.Map.{lookup}
use Rattle.order_place.specs.Nodes.{is_node}
use Rattle.order_place.proofs.KeptLemmas.{kept_here, kept_others}
use Rattle.order_place.proofs.nodes.Nodes.keep.Goals as goal

pub returns-clause-here : goal.returns-clause-here
returns-clause-here g c = kept_here c.args.name c.args.item c.put.new.others.entries

pub returns-clause-others : goal.returns-clause-others
returns-clause-others g c = kept_others c.args.name c.args.item c.args.self.now c.put.new.others.entries
    (λ other. c.in_ok-put.ensures other
    ∙ ap (λ l. lookup (is_node other) (option_to_list l ++ c.self.inside.others.entries)) c.take.ensures.value
    ∙ ap (lookup (is_node other)) c.self.view_is)
