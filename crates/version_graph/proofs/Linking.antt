-- Links by the order of a list and links by places.
use Rattle.std.proofs.Common.{◌≡◌, ◌≢◌, ◌↔◌, List, get_or, sym, ap, ◌∙◌, arith, inl, inr}
use Rattle.std.specs.List.{Contains}
use Rattle.std.proofs.lemmas.List.{get_or_default}
use Rattle.std.proofs.lemmas.List.Elements.{Contains-get_or}
use Rattle.std.proofs.lemmas.Bool.{cases_eq, cases_lt}
use Rattle.flow_base.specs.declared.types.Flow.{Flow}
use Rattle.reach_model.specs.Flows.{source, target, place}
use Rattle.reach_model.specs.Laws.{AscendsByFirst}
use Rattle.reach_model.specs.Rows.{Row, IsLinked, firsts}
use Rattle.reach_model.proofs.Members.{from_map}
use Rattle.version_graph.specs.Links.{EndsDiffer, HasLink}

module _ (R : List Row) (f : Flow) (up : AscendsByFirst R) (differ : EndsDiffer R) where
  -- no first flow has one object at both ends
  apart : (g : Flow) → Contains (firsts R) g → source g ≢ target g
  apart g c e = let m = from_map (λ (r : Row). r.first) R g c in differ m.0 m.1 (ap source m.2 ∙ e ∙ sym (ap target m.2))

  by_places : HasLink (firsts R) (source f) (target f) → IsLinked R f
  by_places l =
      let g = get_or (firsts R) l.index f in
      let there = Contains-get_or (firsts R) l.index f l.within in
      record {
        by = g;
        kept = there;
        pair = (l.from f, l.to f);
        no_inflow_since = λ h c into.
            let at : get_or (firsts R) c.0 f ≡ h = get_or_default (firsts R) c.0 f h c.1 ∙ c.2 in
            elim (cases_lt c.0 l.index) [
              | inl low ↦ let a = up c.0 l.index f low l.within in omega (arith, ap place at)
              | inr high ↦ elim (cases_eq c.0 l.index) [
                | inl e ↦ absurd (apart g there (l.from f ∙ sym into ∙ ap target (sym at) ∙ ap (λ k. target (get_or (firsts R) k f)) e))
                | inr n ↦ absurd (l.no_inflow_since c.0 f (omega arith) c.1 (ap target at ∙ into))
              ]
            ];
      }

  by_order : IsLinked R f → HasLink (firsts R) (source f) (target f)
  by_order l =
      let c = l.kept in
      let at = λ (d : Flow). get_or_default (firsts R) c.0 d l.by c.1 ∙ c.2 in
      record {
        index = c.0;
        within = c.1;
        from = λ d. ap source (at d) ∙ l.pair.0;
        to = λ d. ap target (at d) ∙ l.pair.1;
        no_inflow_since = λ k d low h e.
            let a = up c.0 k d low h in
            let b = l.no_inflow_since (get_or (firsts R) k d) (Contains-get_or (firsts R) k d h) e in
            omega (arith, ap place (at d));
      }

  pub same_links : HasLink (firsts R) (source f) (target f) ↔ IsLinked R f
  same_links = (by_places, by_order)
