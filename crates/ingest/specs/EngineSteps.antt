-- How an engine goes on from whatever history it stood for, or may owe events of.
use Rattle.std.specs.Prelude.{ℕ, List, [], ◌++◌, ◌∷◌}
use Rattle.flow_base.specs.declared.limits.Limits.{Limits}
use Rattle.audit_lex.specs.History.{History, Settle, with_bytes}
use Rattle.ingest.specs.Owing.{MayOwe, Halts}
use Rattle.ingest.specs.Parts.{Engine}
use Rattle.ingest.specs.StandsFor.{StandsFor}
use Rattle.ingest.specs.Stops.{StopsFor}
use Rattle.ingest.specs.declared.stop.Stop.{Stop}

-- ---- to the end of a piece

-- it has taken these bytes, and owes nothing
abbrev pub Takes : {K : Type 0} → List ℕ → (old new : Engine K) → Type 0
Takes piece old new = (limits : Limits) (h : History)
    → StandsFor limits old h → StandsFor limits new (with_bytes h piece)

-- it may have owed events, has taken these bytes, and owes nothing
abbrev pub CatchesUp : {K : Type 0} → List ℕ → (old new : Engine K) → Type 0
CatchesUp piece old new = (limits : Limits) (h : History)
    → MayOwe limits old h → StandsFor limits new (with_bytes h piece)

-- it has taken these bytes, and may owe the events that they release
abbrev pub OwesAfter : {K : Type 0} → List ℕ → (old new : Engine K) → Type 0
OwesAfter piece old new = (limits : Limits) (h : History)
    → StandsFor limits old h → MayOwe limits new (with_bytes h piece)

-- it has settled, and owes nothing
abbrev pub SettlesTo : {K : Type 0} → (old new : Engine K) → Type 0
SettlesTo old new = (limits : Limits) (h : History)
    → StandsFor limits old h → StandsFor limits new (h ++ Settle ∷ [])

-- it may have owed events, has settled, and owes nothing
abbrev pub SettlesUp : {K : Type 0} → (old new : Engine K) → Type 0
SettlesUp old new = (limits : Limits) (h : History)
    → MayOwe limits old h → StandsFor limits new (h ++ Settle ∷ [])

-- ---- to a stop within a piece

-- this stop is if the history stops within these bytes
abbrev pub StopsIn : {K : Type 0} → List ℕ → Engine K → Stop → Type 0
StopsIn piece old stop = (limits : Limits) (h : History)
    → StandsFor limits old h → StopsFor limits h piece stop

-- after this stop it stands for the bytes of the piece that were done
abbrev pub HaltsIn : {K : Type 0} → List ℕ → (old new : Engine K) → Stop → Type 0
HaltsIn piece old new stop = (limits : Limits) (h : History)
    → StandsFor limits old h → Halts limits new h piece stop

-- the same of one that may have owed events
abbrev pub HaltsOwing : {K : Type 0} → List ℕ → (old new : Engine K) → Stop → Type 0
HaltsOwing piece old new stop = (limits : Limits) (h : History)
    → MayOwe limits old h → Halts limits new h piece stop
