-- What a question asks of a list of flows, and what the laws of the modes ask of a question.
use Rattle.std.specs.Prelude.{ℕ, List, ⊤}
use Rattle.flow_base.specs.declared.types.Flow.{Flow}
use Rattle.reach_model.specs.declared.modes.Mode.{Mode}
use Rattle.reach_model.specs.declared.modes.Mode.TheVariants.{Plain, Continuous, Full, Source}
use Rattle.reach_model.specs.Paths as paths
use Rattle.reach_model.specs.Rows.{Row, firsts, lasts}
use Rattle.reach_model.specs.Sources.{IsSource, IsStartAllowed}
use Rattle.reach_rows.specs.declared.questions.Question.{Question}
use Rattle.reach_rows.specs.declared.questions.Question.TheVariants.{Back, Fore}

-- the object that a question is about
abbrev pub subject : Question → ℕ
subject (Back of until) = of.0
subject (Fore of since) = of.0

-- x is an answer by the flows K: backward a path leads from it to the object, forward from the object to it
abbrev pub IsAnswer : Question → List Flow → ℕ → Type 0
IsAnswer (Back of until) K x = paths.Back K of.0 until x
IsAnswer (Fore of since) K x = paths.Fore K of.0 since x

-- the flows that rows count as: backward their first ones, forward their last ones
abbrev pub counted : Question → List Row → List Flow
counted (Back of until) R = firsts R
counted (Fore of since) R = lasts R

-- Which questions about the flows F a mode answers, in the words of its laws: backward all. Forward, full mode asks for a start
-- no later than the object's first flow, and source mode also that this flow leaves the object.
abbrev pub IsAnswerable : Mode → List Flow → Question → Type 0
IsAnswerable Plain F question = ⊤
IsAnswerable Continuous F question = ⊤
IsAnswerable Full F (Back of until) = ⊤
IsAnswerable Full F (Fore of since) = IsStartAllowed F of.0 since
IsAnswerable Source F (Back of until) = ⊤
IsAnswerable Source F (Fore of since) = IsSource F of.0 × IsStartAllowed F of.0 since

-- the objects for which a mode answers: in source mode backward sources alone, and else all
abbrev pub IsAnsweredFor : Mode → List Flow → Question → ℕ → Type 0
IsAnsweredFor Plain F question x = ⊤
IsAnsweredFor Continuous F question x = ⊤
IsAnsweredFor Full F question x = ⊤
IsAnsweredFor Source F (Back of until) x = IsSource F x
IsAnsweredFor Source F (Fore of since) x = ⊤
