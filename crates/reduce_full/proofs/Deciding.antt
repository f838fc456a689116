-- What a linked flow has among the rows.
use Rattle.std.proofs.Common.{List, ap, ◌∙◌, inl, inr, get_or}
use Rattle.std.specs.List.{Contains}
use Rattle.std.proofs.lemmas.List.Elements.{Contains-get_or}
use Rattle.flow_base.specs.declared.types.Flow.{Flow}
use Rattle.reach_model.specs.Flows.{source, target}
use Rattle.reach_model.specs.Rows.{Row, SamePair, firsts}
use Rattle.reach_model.proofs.Members.{from_map}
use Rattle.reach_rows.specs.Verdicts.{HasEnd}
use Rattle.version_graph.specs.Links.{HasLink}

pub linked_ends : (R : List Row) (f : Flow) → ((r : Row) → Contains R r → SamePair r.last r.first) → HasLink (firsts R) (source f) (target f) → HasEnd R (source f) × HasEnd R (target f)
linked_ends R f pairs l =
    let m = from_map (λ (r : Row). r.first) R (get_or (firsts R) l.index f) (Contains-get_or (firsts R) l.index f l.within) in
    let same = pairs m.0 m.1 in (
      (m.0, m.1, inl (same.0 ∙ ap source m.2 ∙ l.from f)),
      (m.0, m.1, inr (same.1 ∙ ap target m.2 ∙ l.to f)),
    )
