-- How much an engine can hold at most.
use Rattle.std.specs.Prelude.{◌≡◌, ◌≤◌, ◌+◌, ◌*◌, ◌^◌, ℕ, length}
use Rattle.flow_base.specs.declared.limits.Limits.{Limits}
use Rattle.record_join.specs.Events.{Joining}
use Rattle.record_join.specs.StandsFor.{StandsFor as JoinStandsFor}
use Rattle.ingest.specs.Parts.{Reader, Joined}

-- An event of n records has at most 4 + 2 * n acts, which is no more than six for each record, and a store says at most 2^62
-- acts. So after this many records, with those that waited in a store, there are no more acts than that and six for each
-- record, less six for each that still waits.
pub record IsFew {K : Type 0} (records : ℕ) (joined : Joined K) : Type 0 where
  pub limits : Limits
  pub s : Joining
  pub join : JoinStandsFor limits joined.join s
  pub few : joined.tables.acts + 6 * length s.waiting ≤ 2 ^ 62 + 6 * records

-- after some number of records: no log has more than 2^59, and in no store do more than 2^57 wait
pub record IsBounded {K : Type 0} (joined : Joined K) : Type 0 where
  pub records : ℕ
  pub few : IsFew records joined
  pub within : records ≤ 2 ^ 59 + 2 ^ 57

-- after some number of records, each of two bytes at least, except those that waited in a store; the tail's bytes are of none
-- of them
pub record HasFewRecords {K : Type 0} (reader : Reader) (joined : Joined K) : Type 0 where
  pub records : ℕ
  pub few : IsFew records joined
  pub paid : 2 * records + length reader.cut.tail ≤ 2 ^ 58 + reader.bytes
  pub within : reader.bytes ≤ 2 ^ 60

-- whatever was few stays few
abbrev pub StaysFew : {K : Type 0} → Joined K → Joined K → Type 0
StaysFew old new = (records : ℕ) → IsFew records old → IsFew records new

-- one record more has come
abbrev pub OneMore : {K : Type 0} → Joined K → Joined K → Type 0
OneMore old new = (records : ℕ) → IsFew records old → IsFew (records + 1) new

-- this many bytes apart from the tail's were taken, and the bytes can be counted
pub record Pays (more : ℕ) (old new : Reader) : Type 0 where
  pub paid : more + (old.bytes + length new.cut.tail) ≤ new.bytes + length old.cut.tail
  pub within : new.bytes ≤ 2 ^ 60

-- one line more has ended, which took two bytes at least, and the lines can be counted
pub record EndsLine (old new : Reader) : Type 0 where
  pub one : new.cut.lines ≡ old.cut.lines + 1
  pub within : new.cut.lines ≤ 2 ^ 60
  pub pays : Pays 2 old new

-- no line was taken back, and the lines can be counted
pub record KeepsLines (old new : Reader) : Type 0 where
  pub no_less : old.cut.lines ≤ new.cut.lines
  pub within : new.cut.lines ≤ 2 ^ 60
  pub pays : Pays 0 old new
