-- The verdict of a mode by the rows alone, as the code finds it.
use Rattle.std.specs.Prelude.{⊤, ◌≢◌, ◌<◌, List, length, slice_index_or}
use Rattle.std.specs.List.{Contains}
use Rattle.flow_base.specs.declared.types.Flow.{Flow}
use Rattle.reach_model.specs.declared.modes.Mode.{Mode}
use Rattle.reach_model.specs.declared.modes.Mode.TheVariants.{Plain, Continuous, Full, Source}
use Rattle.reach_model.specs.declared.modes.Verdict.{Verdict}
use Rattle.reach_model.specs.declared.modes.Verdict.TheVariants.{Drop, Add, Extend}
use Rattle.reach_model.specs.Flows.{source, target, place}
use Rattle.reach_model.specs.Rows.{Row, SamePair, IsVerdict, firsts}

-- Continuous: f carries on from r if it has r's pair, and no row of that pair, into f's source or out of its target ends after r
pub record CarriesOnRow (R : List Row) (r : Row) (f : Flow) : Type 0 where
  pub pair : SamePair r.last f
  pub nothing_after : (s : Row) → Contains R s → place r.last < place s.last → (target s.last ≢ source f) × (source s.last ≢ target f)
  pub no_later : (s : Row) → Contains R s → place r.last < place s.last → ¬ SamePair s.last f

-- the verdict of a mode on f after the rows R, which looks at nothing else: in full and source mode the kept flows stand for all
abbrev pub IsVerdictByRows : Mode → List Row → Flow → Verdict → Type 0
IsVerdictByRows Plain R f Drop = ⊥
IsVerdictByRows Plain R f Add = ⊤
IsVerdictByRows Plain R f (Extend i) = ⊥
IsVerdictByRows Continuous R f Drop = ⊥
IsVerdictByRows Continuous R f Add = (r : Row) → Contains R r → ¬ CarriesOnRow R r f
IsVerdictByRows Continuous R f (Extend i) = (i < length R) × ((d : Row) → CarriesOnRow R (slice_index_or R i d) f)
IsVerdictByRows Full R f d = IsVerdict Full (firsts R) R f d
IsVerdictByRows Source R f d = IsVerdict Source (firsts R) R f d
