-- What fits can be spelled.
use Rattle.std.proofs.Common.{◌≡◌, Option, Some, None}
use Rattle.std.specs.Prelude.{⊤}
use Rattle.flow_base.specs.declared.types.Key.{Key}
use Rattle.flow_base.specs.declared.types.Key.TheVariants.{Process, Inode, Path, Address as AddressKey, Made, Lost}
use Rattle.acts.specs.declared.held.Held.{Held as AHeld}
use Rattle.acts.specs.declared.held.Object.{Object}
use Rattle.acts.specs.declared.held.Object.TheVariants.{File, Pipe, Sock}
use Rattle.row_codec.specs.declared.rows.StoreRow.{StoreRow}
use Rattle.row_codec.specs.declared.rows.StoreRow.TheVariants.{Entity, Kept, Extend, Name, Life, Held, Address, Born, Waiting, State}
use Rattle.row_codec.specs.Keys.{FitsKey, FitsObject, FitsHeld}
use Rattle.row_codec.specs.Parsing.{FitsOption}
use Rattle.row_codec.specs.Rows.{Fits, IsShortKey, CanBeHeld, CanBeSpelled}

short : (k : Key) → FitsKey k → IsShortKey k
short (Process pid life) h = tt
short (Inode f born) h = tt
short (Path path) h = h
short (AddressKey bytes) h = h
short (Made act) h = tt
short (Lost pid life fd) h = tt

held : (o : Object) → FitsObject o → CanBeHeld o
held (File k) h = (short k h.0, h.1)
held (Pipe act) h = tt
held (Sock act) h = tt

all_held : (h : Option AHeld) → FitsOption FitsHeld h → FitsOption (λ h. CanBeHeld h.object) h
all_held None h = tt
all_held (Some x) h = held x.object h

pub spelled : (r : StoreRow) → Fits r → CanBeSpelled r
spelled (Entity k) h = short k h
spelled (Kept r) h = (h.before_to, h.before_from)
spelled (Extend x) h = tt
spelled (Name k name) h = (short k h.0, h.1)
spelled (Life pid l) h = tt
spelled (Held pid fd o) h = all_held o h.1.1
spelled (Address act bytes) h = h.1
spelled (Born f born) h = tt
spelled (Waiting ms serial closed texts) h = h.1.1.1
spelled (State s) h = record { unseen = h.clock.unseen; unreleased_ms = h.clock.unreleased_ms; unreleased_serial = h.clock.unreleased_serial; none = h.tail.none; tail = h.tail.tail; bad = h.tail.bad.0 }
