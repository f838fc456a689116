-- What is answered to a question about the flows that were taken.
use Rattle.std.specs.Prelude.{◌≡◌, ◌↔◌, ℕ, List, [], ◌∷◌, ◌++◌, Option, None, Some, Bool, true, false, ⊤}
use Rattle.std.specs.List.{Contains}
use Rattle.flow_base.specs.declared.types.EntityId.{EntityId}
use Rattle.flow_base.specs.declared.types.Flow.{Flow}
use Rattle.reach_model.specs.declared.modes.Mode.{Mode}
use Rattle.reach_model.specs.declared.modes.Mode.TheVariants.{Plain, Continuous, Full, Source}
use Rattle.reach_model.specs.Flows.{IsLawful}
use Rattle.reach_model.specs.Ids.{IsAscending, numbers}
use Rattle.reach_model.specs.Paths as paths
use Rattle.reach_model.specs.Rows.{Row, Keeps, firsts}
use Rattle.reach_model.specs.Sources.{IsSource}
use Rattle.reach_rows.specs.declared.questions.Question.{Question}
use Rattle.reach_rows.specs.declared.questions.Question.TheVariants.{Back, Fore}
use Rattle.reach_rows.specs.Asked.{IsAnswer, IsAnswerable, IsAnsweredFor, counted}
use Rattle.query_walk.specs.Ways.{IsHopOf}
use Rattle.kept_flows.specs.KeptFlows.{KeptFlows, StandsFor}
use Rattle.kept_flows.specs.declared.one_path.Way.{Way}
use Rattle.kept_flows.specs.declared.one_path.Way.TheVariants.{NotKept, Nowhere, Along}

-- the ids ascend, and are the answers by the flows F: in source mode backward the sources among them, and else all
pub record AreAnswers (mode : Mode) (F : List Flow) (question : Question) (ids : List EntityId) : Type 0 where
  pub ascend : IsAscending (numbers ids)
  pub exact : (x : ℕ) → Contains (numbers ids) x ↔ (IsAnsweredFor mode F question x × IsAnswer question F x)

-- the answers if the mode answers the question, and none exactly if it doesn't
abbrev pub AnswersFor : Mode → List Flow → Question → Option (List EntityId) → Type 0
AnswersFor mode F question None = ¬ IsAnswerable mode F question
AnswersFor mode F question (Some ids) = IsAnswerable mode F question × AreAnswers mode F question ids

-- what is found answers the question by whatever flows are kept
abbrev pub AnswersBy : Mode → KeptFlows → Question → Option (List EntityId) → Type 0
AnswersBy mode kept question found = (F : List Flow) → StandsFor kept F → AnswersFor mode F question found

-- the same by whatever flows the observable rows are kept of
abbrev pub AnswersOver : Mode → Option (List Row) → Question → Option (List EntityId) → Type 0
AnswersOver mode told question found = (F : List Flow) (R : List Row) → told ≡ Some R → IsLawful F
    → Keeps mode F R → AnswersFor mode F question found

-- of which objects a mode answers by which path they reach others: source mode of sources alone, and every other mode of all
abbrev pub IsPathKept : Mode → List Flow → ℕ → Type 0
IsPathKept Plain F from = ⊤
IsPathKept Continuous F from = ⊤
IsPathKept Full F from = ⊤
IsPathKept Source F from = IsSource F from

-- p is a path by flows of F no later than a time, and from an object to itself the one without a flow
pub record IsPathTo (F : List Flow) (from to : ℕ) (until : Option ℕ) (p : List Flow) : Type 0 where
  pub leads : paths.Path (IsHopOf F until) 0 from to p
  pub itself : from ≡ to → p ≡ []

-- How an object reached another by the flows F: not kept exactly if the mode doesn't answer it, nowhere exactly if it does and
-- there is no path by flows no later than a time, and else along such a path.
abbrev pub ShowsFor : Mode → List Flow → (from to : ℕ) → Option ℕ → Way → Type 0
ShowsFor mode F from to until NotKept = ¬ IsPathKept mode F from
ShowsFor mode F from to until Nowhere = IsPathKept mode F from × ¬ paths.Back F to until from
ShowsFor mode F from to until (Along p) = IsPathKept mode F from × IsPathTo F from to until p

-- that by whatever flows the observable rows are kept of
abbrev pub ShowsOver : Mode → Option (List Row) → (from to : ℕ) → Option ℕ → Way → Type 0
ShowsOver mode told from to until way = (F : List Flow) (R : List Row) → told ≡ Some R → IsLawful F → Keeps mode F R → ShowsFor mode F from to until way

-- that by whatever flows are kept
abbrev pub ShowsBy : Mode → KeptFlows → (from to : ℕ) → Option ℕ → Way → Type 0
ShowsBy mode kept from to until way = (F : List Flow) → StandsFor kept F → ShowsFor mode F from to until way

-- of the numbers xs those that meet P, in their order
pub record AreThose (P : ℕ → Type 0) (xs those : List ℕ) : Type 0 where
  pub ascend : IsAscending xs → IsAscending those
  pub exact : (x : ℕ) → Contains those x ↔ (P x × Contains xs x)

-- whichever numbers xs gave those, with x they give the others
abbrev pub ChoosesNext : (P : ℕ → Type 0) → ℕ → (old new : List ℕ) → Type 0
ChoosesNext P x old new = (xs : List ℕ) → AreThose P xs old → AreThose P (xs ++ x ∷ []) new

-- the ids are all answers by the rows R, also of objects for which the mode doesn't answer
abbrev pub AreAllFound : List Row → Question → List EntityId → Type 0
AreAllFound R question ids =
    (x : ℕ) → Contains (numbers ids) x ↔ IsAnswer question (counted question R) x

-- the ids ascend, and are the answers by the rows R, of the objects for which the mode answers
pub record AreFound (mode : Mode) (R : List Row) (question : Question) (ids : List EntityId) : Type 0 where
  pub ascend : IsAscending (numbers ids)
  pub exact : (x : ℕ) → Contains (numbers ids) x ↔ (IsAnsweredFor mode (firsts R) question x × IsAnswer question (counted question R) x)

-- whether a mode answers a question for sources alone: source mode backward
abbrev pub is_for_sources : Mode → Question → Bool
is_for_sources Plain question = false
is_for_sources Continuous question = false
is_for_sources Full question = false
is_for_sources Source (Back of until) = true
is_for_sources Source (Fore of since) = false

-- no read of such rows ever fails
abbrev pub NeverFail : {K : Type 0} → (faults : K → ℕ) → (spent : K → Type 0) → Type 0
NeverFail {K} faults spent = (s : K) → (faults s ≡ 0) × ¬ spent s

-- such rows are always observable
abbrev pub AlwaysTold : {K : Type 0} → (rows : K → Option (List Row)) → Type 0
AlwaysTold {K} rows = (s : K) → (R : List Row) × (rows s ≡ Some R)
