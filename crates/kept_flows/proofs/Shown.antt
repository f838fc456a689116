-- From a path over the rows to one over all flows.
use Rattle.std.proofs.Common.{◌≡◌, ℕ, ◌↔◌, List, [], Option, None, Some, sym, subst, ap, ◌∙◌, arith}
use Rattle.std.specs.Option.{unwrap_or}
use Rattle.flow_base.specs.declared.types.EntityId.{EntityId}
use Rattle.flow_base.specs.declared.types.Flow.{Flow}
use Rattle.reach_model.specs.declared.modes.Mode.{Mode}
use Rattle.reach_model.specs.declared.modes.Mode.TheVariants.{Plain, Continuous, Full, Source}
use Rattle.reach_model.specs.Flows.{IsLawful}
use Rattle.reach_model.specs.Paths.{Back}
use Rattle.reach_model.specs.Rows.{Row, Keeps, firsts}
use Rattle.reach_model.proofs.Faithful.{kept_first}
use Rattle.reach_model.proofs.PathLemmas.{path_weaker}
use Rattle.reach_model.proofs.TheLaws.{answers}
use Rattle.reach_rows.specs.declared.questions.Question.TheVariants.{Fore}
use Rattle.reach_rows.specs.declared.questions.First.{First}
use Rattle.reach_rows.specs.Asked.{IsAnswerable}
use Rattle.reach_rows.specs.Questions.{IsAllowed}
use Rattle.query_walk.specs.Ways.{IsHopOf, IsShown}
use Rattle.kept_flows.specs.Answering.{IsPathKept, IsPathTo}

-- paths from an object are kept exactly if the mode allows the question what it reaches by all flows
pub allowed_kept : (mode : Mode) (F : List Flow) (of : EntityId) (first : First)
    → (IsAllowed mode (Fore of None) first ↔ IsAnswerable mode F (Fore of None)) → IsAllowed mode (Fore of None) first ↔ IsPathKept mode F of.0
allowed_kept Plain F of first law = law
allowed_kept Continuous F of first law = law
allowed_kept Full F of first law = (λ a. tt, λ k. tt)
allowed_kept Source F of first law = (λ a. (law.0 a).0, λ s. law.1 (s, tt))

module _ (F : List Flow) (R : List Row) (l : IsLawful F) (from to : ℕ) (until : Option ℕ) where
  -- an object with kept paths reaches by the rows what it reaches by all flows
  reached_by_rows : (mode : Mode) → Keeps mode F R → IsPathKept mode F from → Back F to until from → Back (firsts R) to until from
  reached_by_rows Plain k kept b = ((answers Plain F R l k).back to until from).1 b
  reached_by_rows Continuous k kept b = ((answers Continuous F R l k).back to until from).1 b
  reached_by_rows Full k kept b = ((answers Full F R l k).back to until from).1 b
  reached_by_rows Source k kept b = ((answers Source F R l k).back to until from kept).1 b

  -- no path is shown over the rows, so there is none
  pub nowhere : (mode : Mode) → Keeps mode F R → IsPathKept mode F from → (found : Option (List Flow)) → IsShown (firsts R) from to until found → found ≡ None → ¬ Back F to until from
  nowhere mode k kept found shown none b = subst (IsShown (firsts R) from to until) none shown (reached_by_rows mode k kept b)

  -- a path over the rows is one over all flows
  pub along : (mode : Mode) (k : Keeps mode F R) (found : Option (List Flow)) (p : List Flow) → IsShown (firsts R) from to until found → (from ≡ to → found ≡ Some []) → found ≡ Some p → IsPathTo F from to until p
  along mode k found p shown itself some = record {
    leads = path_weaker (IsHopOf (firsts R) until) (IsHopOf F until) (λ f h. (kept_first l k f h.0, h.1)) 0 0 from to p (omega arith) (subst (IsShown (firsts R) from to until) some shown);
    itself = λ e. ap (λ o. unwrap_or o []) (sym some ∙ itself e);
  }
