-- Kept flows that are made again from the rows of an earlier run.
use Rattle.std.specs.Prelude.{◌≡◌, ℕ, ◌≤◌, List, Option, Some, Result, Ok, Err}
use Rattle.flow_base.specs.declared.types.Flow.{Flow}
use Rattle.reach_model.specs.declared.modes.Mode.{Mode}
use Rattle.reach_model.specs.Flows.{IsLawful}
use Rattle.reach_model.specs.Rows.{Row, Keeps}
use Rattle.query_walk.specs.Fault.{IsWalkOver}
use Rattle.kept_flows.specs.KeptFlows.{KeptFlows, OverRows, StandsFor}
use Rattle.kept_flows.specs.declared.restoring.Unrestored.{Unrestored}

-- whatever lawful flows the observable rows are kept of, the kept flows stand for them
abbrev pub StandsAgain : Mode → Option (List Row) → KeptFlows → Type 0
StandsAgain mode told kept = (F : List Flow) (R : List Row) → told ≡ Some R → IsLawful F
    → Keeps mode F R → StandsFor kept F

-- Restoring from rows. Their count of faults doesn't fall, and spent rows stay spent. A store fault comes only if the count rose
-- or the rows are spent, and a bad store only if the rows aren't observable.
abbrev pub RestoresFrom : {K : Type 0} → (rows : K → Option (List Row)) → (faults : K → ℕ)
    → (spent : K → Type 0) → K → Result (OverRows K) (Unrestored K) → Type 0
RestoresFrom rows faults spent old (Ok kept) =
    (faults old ≤ faults kept.keep) × (spent old → spent kept.keep)
RestoresFrom {K} rows faults spent old (Err back) =
    IsWalkOver {T = K} rows faults spent old back.rows (Err back.fault)

-- the rows of the result, or those that a refusal hands back, are like the ones that were given
abbrev pub RestoresAlike : {K : Type 0} → (alike : K → K → Type 0) → K → Result (OverRows K) (Unrestored K) → Type 0
RestoresAlike alike old (Ok kept) = alike old kept.keep
RestoresAlike alike old (Err back) = alike old back.rows
