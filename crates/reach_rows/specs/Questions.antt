-- Which questions a mode answers.
use Rattle.std.specs.Prelude.{◌≡◌, ℕ, ◌≤◌, Option, Some, None, ⊤, true}
use Rattle.reach_model.specs.declared.modes.Mode.{Mode}
use Rattle.reach_model.specs.declared.modes.Mode.TheVariants.{Plain, Continuous, Full, Source}
use Rattle.reach_rows.specs.declared.questions.First.{First}
use Rattle.reach_rows.specs.declared.questions.Question.{Question}
use Rattle.reach_rows.specs.declared.questions.Question.TheVariants.{Back, Fore}

-- no start, or one that is no later than the first flow
abbrev pub IsStartBy : First → Option ℕ → Type 0
IsStartBy first None = ⊤
IsStartBy first (Some since) = since ≤ first.at.ms

-- what full mode answers of an object with this first flow: all that reaches it, and what it reaches if no flow of it is
-- left out
abbrev pub IsAllowedInFull : Question → First → Type 0
IsAllowedInFull (Back of until) first = ⊤
IsAllowedInFull (Fore of since) first = IsStartBy first since

-- what source mode answers: the same, forward from sources alone
abbrev pub IsAllowedInSource : Question → First → Type 0
IsAllowedInSource (Back of until) first = ⊤
IsAllowedInSource (Fore of since) first = (first.out ≡ true) × IsStartBy first since

-- a question that a mode answers of an object with this first flow
abbrev pub IsAllowed : Mode → Question → First → Type 0
IsAllowed Plain question first = ⊤
IsAllowed Continuous question first = ⊤
IsAllowed Full question first = IsAllowedInFull question first
IsAllowed Source question first = IsAllowedInSource question first
