-- What a question leaves, and why it isn't answered.
use Rattle.std.specs.Prelude.{◌≡◌, ◌≤◌, ◌<◌, ◌⊎◌, ℕ, None, Result, Err}
use Rattle.flow_base.specs.declared.limits.Limits.{Limits}
use Rattle.audit_lex.specs.History.{History}
use Rattle.query_walk.specs.Fault.{IsWalk}
use Rattle.query_walk.specs.declared.fault.WalkFault.{WalkFault}
use Rattle.report_json.specs.declared.reply.Reply.{Reply}
use Rattle.ingest.specs.Owing.{MayOwe}
use Rattle.ingest.specs.Parts.{Joined, Engine}
use Rattle.ingest.specs.StandsFor.{StandsFor}
use Rattle.ingest.specs.declared.ask_fault.AskFault.{AskFault}
use Rattle.ingest.specs.declared.ask_fault.AskFault.TheVariants as fault

-- a walk over the rows, whose faults have their causes
abbrev pub WalkHasCauses : {K T : Type 0} → (faults : K → ℕ) → (spent : K → Type 0) → Joined K → Joined K → Result T WalkFault → Type 0
WalkHasCauses faults spent old new result = IsWalk old.kept.told (faults old.keep) (faults new.keep) (spent old.keep) (spent new.keep) result

-- The rows' count of faults doesn't fall, and spent rows stay spent. A store fault comes only if the count rose or the rows are
-- spent, and a bad store only if the rows aren't observable.
pub record FaultsHaveCauses {K : Type 0} (faults : K → ℕ) (spent : K → Type 0) (old new : Joined K) (result : Result Reply AskFault) : Type 0 where
  pub later : faults old.keep ≤ faults new.keep
  pub stays : spent old.keep → spent new.keep
  pub store_fault : result ≡ Err fault.StoreFault → (faults old.keep < faults new.keep) ⊎ spent new.keep
  pub bad_store : (place : ℕ) → result ≡ Err (fault.BadStore place) → old.kept.told ≡ None

-- the same of an engine
abbrev pub AskHasCauses : {K : Type 0} → (faults : K → ℕ) → (spent : K → Type 0) → Engine K → Engine K → Result Reply AskFault → Type 0
AskHasCauses faults spent old new result = FaultsHaveCauses faults spent old.joined new.joined result

-- at most the rows are others
abbrev pub SameButRows : {K : Type 0} → Engine K → Engine K → Type 0
SameButRows old new = new ≡ record old { joined = record old.joined { keep = new.joined.keep } }

-- whatever history the engine stood for, it stands for, and whatever it may owe, it may owe
pub record StandsStill {K : Type 0} (old new : Engine K) : Type 0 where
  pub stands : (limits : Limits) (h : History) → StandsFor limits old h → StandsFor limits new h
  pub owes : (limits : Limits) (h : History) → MayOwe limits old h → MayOwe limits new h
