use Rattle.std.proofs.Common.{◌∙◌, sym, ap, ◌++◌}
use Rattle.std.specs.Prelude.{option_to_list}
use Rattle.std.specs.Map.{lookup}
use Rattle.order_place.specs.Nodes.{is_node}
use Rattle.order_place.proofs.KeptLemmas.{put_first}
use Rattle.order_place.proofs.nodes.put.Goals as goal

pub returns-in_ok-insert-in-Some : goal.returns-in_ok-insert-in-Some
returns-in_ok-insert-in-Some g c = λ name.
    put_first (c.in-Some.kept, c.in-Some.item) c.args.others.now.entries c.insert.new.self.entries c.in_ok-insert-in-Some.ensures.updates.0 name
    ∙ ap (λ l. lookup (is_node name) (option_to_list l ++ c.args.others.now.entries)) (sym c.in-Some.is)
