-- The part of a log that an engine takes, as a run does from a file of its own.
use Rattle.std.specs.Prelude.{◌≡◌, ◌≤◌, ◌+◌, ◌-◌, ◌^◌, min, ℕ, List, length, Result, Ok, Err}
use Rattle.flow_base.specs.declared.limits.Limits.{Limits}
use Rattle.audit_lex.specs.History.{History}
use Rattle.ingest.specs.Counting.{bytes_in}
use Rattle.ingest.specs.Owing.{MayOwe}
use Rattle.ingest.specs.Parts.{Engine}
use Rattle.ingest.specs.StandsFor.{StandsFor}
use Rattle.ingest.specs.declared.stop.Stop.{Stop}

-- how many bytes of a piece were done
abbrev pub done_in : {T : Type 0} → List ℕ → Result T Stop → ℕ
done_in piece (Ok value) = length piece
done_in piece (Err stop) = stop.done

-- this many bytes more are counted, up to the end of the counter
abbrev pub count_on : ℕ → ℕ → ℕ
count_on part more = min (part + more) (2 ^ 64 - 1)

-- of the bytes of the history this many were taken in this part
pub record HasPart {K : Type 0} (engine : Engine K) (h : History) (part : ℕ) : Type 0 where
  pub counted : engine.part ≡ part
  pub within : part ≤ bytes_in h

-- the engine stands for the history, of whose bytes this many were taken in this part
pub record StandsWith {K : Type 0} (limits : Limits) (engine : Engine K) (h : History) (part : ℕ) : Type 0 where
  pub stands : StandsFor limits engine h
  pub has_part : HasPart engine h part

-- the engine may owe events of the history, of whose bytes this many were taken in this part
pub record OwesWith {K : Type 0} (limits : Limits) (engine : Engine K) (h : History) (part : ℕ) : Type 0 where
  pub owes : MayOwe limits engine h
  pub has_part : HasPart engine h part
