use Rattle.std.proofs.Common.{◌≡◌, ◌≤◌, ◌+◌, ◌-◌, length, take}
use Rattle.flow_base.specs.declared.limits.Limits.{Limits}
use Rattle.audit_lex.specs.History.{History, with_bytes}
use Rattle.record_join.specs.StandsFor.{NothingRipe}
use Rattle.ingest.specs.StandsFor.{StandsFor}
use Rattle.ingest.proofs.engine.Ingest.feed_within.Given as goal

-- the bytes before `done` were taken
abbrev pub invariant-loop-done : goal.invariant-loop-done
invariant-loop-done g l = record {
  within : l.done ≤ length l.piece;
  bytes : l.self.reader.bytes ≡ l.initial.self.reader.bytes + l.done;
  limits : l.self.reader.limits ≡ l.initial.self.reader.limits;
  quiet : NothingRipe l.self.joined.join;
  alike : g.K.Rows.alike l.initial.self.joined.keep l.self.joined.keep;
  marked : l.self.joined.tables.marked ≡ l.initial.self.joined.tables.marked;
  taken : (limits : Limits) (h : History) → StandsFor limits l.initial.self h → StandsFor limits l.self (with_bytes h (take l.done l.piece));
}

abbrev pub decreases-loop-done : goal.decreases-loop-done
decreases-loop-done g l = length l.piece - l.done
