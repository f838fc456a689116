-- What stands in a plan.
use Rattle.std.specs.Prelude.{◌≡◌, [], false, reverse}
use Rattle.flow_events.specs.declared.plan.Plan.{Plan}
use Rattle.flow_events.specs.declared.work.Worked.{Worked}
use Rattle.flow_events.specs.Working.{IsFresh}

-- the plan of no acts
pub record PlansNothing (plan : Plan) : Type 0 where
  pub acts : plan.acts ≡ []
  pub work : IsFresh plan.work
  pub unmapped : plan.unmapped ≡ false

-- the same work, with the newest name and the newest object first
pub record IsTurned (old new : Worked) : Type 0 where
  pub see : new.see ≡ old.see
  pub last : new.last ≡ old.last
  pub address : new.address ≡ old.address
  pub given : new.draft.given ≡ reverse old.draft.given
  pub keys : new.draft.added.keys ≡ reverse old.draft.added.keys
  pub flows : new.draft.added.flows ≡ old.draft.added.flows
