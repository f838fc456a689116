-- From what is found over the rows to the answers by all flows.
use Rattle.std.proofs.Common.{◌≡◌, ℕ, ◌≤◌, ◌↔◌, List, true, sym, ◌∙◌, arith}
use Rattle.std.proofs.lemmas.Bool.{false≢true}
use Rattle.flow_base.specs.declared.types.EntityId.{EntityId}
use Rattle.flow_base.specs.declared.types.Flow.{Flow}
use Rattle.reach_model.specs.declared.modes.Mode.{Mode}
use Rattle.reach_model.specs.declared.modes.Mode.TheVariants.{Plain, Continuous, Full, Source}
use Rattle.reach_model.specs.Laws.{KeepsFirstFlows}
use Rattle.reach_model.specs.Numbers.{known}
use Rattle.reach_model.specs.Rows.{Row, firsts}
use Rattle.reach_model.specs.Sources.{IsSource}
use Rattle.reach_model.proofs.Exists.{first_member}
use Rattle.reach_model.proofs.Numbering.{ends_known}
use Rattle.reach_rows.specs.declared.questions.Question.{Question}
use Rattle.reach_rows.specs.declared.questions.Question.TheVariants.{Back, Fore}
use Rattle.reach_rows.specs.Asked.{IsAnswer, IsAnsweredFor, counted}
use Rattle.kept_flows.specs.Answering.{AreAnswers, AreFound, is_for_sources}

-- an object past the known ones is no source
pub no_source : (K : List Flow) (x : ℕ) → known K ≤ x → ¬ IsSource K x
no_source K x past s =
    let b = ends_known K s.0 (first_member K x s.0 s.1) in
    let low = b.0 in
    let here = s.2 in
    omega (arith, low, here, past)

-- the answers for sources alone are those for sources
pub for_sources : (mode : Mode) (question : Question) → is_for_sources mode question ≡ true → (K : List Flow) (x : ℕ) → IsSource K x ↔ IsAnsweredFor mode K question x
for_sources Plain question e K x = absurd (false≢true e)
for_sources Continuous question e K x = absurd (false≢true e)
for_sources Full question e K x = absurd (false≢true e)
for_sources Source (Back of until) e K x = (λ s. s, λ s. s)
for_sources Source (Fore of since) e K x = absurd (false≢true e)

-- a mode answers for the same objects by its rows as by all flows
answered_for : (mode : Mode) (F : List Flow) (R : List Row) → KeepsFirstFlows F R → (question : Question) (x : ℕ) → IsAnsweredFor mode (firsts R) question x ↔ IsAnsweredFor mode F question x
answered_for Plain F R same question x = (λ s. s, λ s. s)
answered_for Continuous F R same question x = (λ s. s, λ s. s)
answered_for Full F R same question x = (λ s. s, λ s. s)
answered_for Source F R same (Back of until) x = (λ s. (s.0, sym (same x) ∙ s.1, s.2), λ s. (s.0, same x ∙ s.1, s.2))
answered_for Source F R same (Fore of since) x = (λ s. s, λ s. s)

-- what is found over the rows of a question that they answer are the answers
pub answers_of : (mode : Mode) (F : List Flow) (R : List Row) (question : Question) (ids : List EntityId) → KeepsFirstFlows F R
    → ((x : ℕ) → IsAnsweredFor mode F question x → IsAnswer question (counted question R) x ↔ IsAnswer question F x)
    → AreFound mode R question ids → AreAnswers mode F question ids
answers_of mode F R question ids same law found = record {
  ascend = found.ascend;
  exact = λ x. let for = answered_for mode F R same question x in (
    λ c. let b = (found.exact x).0 c in (for.0 b.0, (law x (for.0 b.0)).0 b.1),
    λ both. (found.exact x).1 (for.1 both.0, (law x both.0).1 both.1),
  );
}
