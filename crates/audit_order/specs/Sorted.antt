-- What a sorter stands for.
use Rattle.std.specs.Prelude.{◌≡◌, ◌⊎◌, ◌≤◌, ℕ, ◌+◌, Bool, false, List, [], Option, None, Some, nat_lt}
use Rattle.std.specs.List.{list_any}
use Rattle.order_queue.specs.declared.waiting.Waiting.{Waiting}
use Rattle.order_queue.specs.Queue.{bytes_of}
use Rattle.order_place.specs.declared.places.Place.{Place}
use Rattle.order_kin.specs.Families.{StandsForLines, child_of}
use Rattle.audit_order.specs.Start.{Start}
use Rattle.audit_order.specs.Shown.{Told}
use Rattle.audit_order.specs.Course.{Course, Gives}
use Rattle.audit_order.specs.Turns.{Event, State, Turns, Phase, Between, AtEnd, Comes, GoesLeast, waiting_of}
use Rattle.audit_order.specs.Taken.{Stays}
use Rattle.audit_order.specs.declared.counts.Counts.{Counts}
use Rattle.audit_order.specs.declared.sorter.Sorter.{Sorter}
use Rattle.audit_order.specs.declared.sorter.Turn.{Turn}

-- the event whose lines are written
abbrev pub event_of : Turn → Event
event_of turn = record { node = turn.node; ms = turn.ms; serial = turn.serial }

-- what a sorter has of the turns of lines
abbrev pub state_of : Sorter → State
state_of s = record {
  bounds = s.bounds;
  places = s.places;
  kin = s.kin;
  event = event_of s.turn;
  number = s.number;
  waits = s.queue.waits;
  tally = s.tally;
}

-- of these lines of the log, some were given to be written when it was their turn, and the sorter holds the others
pub record SortsAt (at : Phase) (before : Start) (now : Option (List ℕ)) (s : Sorter) (lines : List (List ℕ)) : Type 0 where
  pub given : List Told
  pub course : Course before now s.writer given
  pub turns : Turns before.switches.compat at (state_of s) given lines
  pub bounds_are : s.bounds ≡ before.bounds

-- the clock is more than the window past a time, if there is one
abbrev pub is_past : ℕ → Option ℕ → ℕ → Bool
is_past window None clock = false
is_past window (Some time) clock = nat_lt (time + window) clock

-- a line waits whose place is past
abbrev pub any_is_past : ℕ → ℕ → List Waiting → Bool
any_is_past window clock waits = list_any (λ item. is_past window (Some item.time) clock) waits

-- the same between two lines of the log, and no line waits whose place is past
pub record Sorts (before : Start) (now : Option (List ℕ)) (s : Sorter) (lines : List (List ℕ)) : Type 0 where
  pub at : SortsAt Between before now s lines
  pub past : any_is_past s.bounds.window s.places.clock s.queue.waits ≡ false

-- no line waits, or those that do are within the memory with this many bytes more
abbrev pub HasRoom : ℕ → ℕ → List Waiting → Type 0
HasRoom memory more waits = (waits ≡ []) ⊎ (bytes_of waits + more ≤ memory)

-- a line is written, with the child that the lines tell which were read so far
pub record GivesTold (old new : Sorter) (line : List ℕ) : Type 0 where
  pub child : Option ℕ
  pub told : (lines : List (List ℕ)) → StandsForLines old.kin lines → child ≡ child_of old.kin.compat lines line
  pub gives : Gives old.writer new.writer (record { line = line; child = child })

-- the line of the least place is written
pub record GivesLeast (old new : Sorter) : Type 0 where
  pub item : Waiting
  pub goes : GoesLeast (state_of old) (state_of new) item
  pub gives : GivesTold old new item.line

-- the line of the least place is written, if one waits
abbrev pub Moves : Sorter → Sorter → Type 0
Moves old new = (new ≡ old) ⊎ GivesLeast old new

-- the line that was read waits with its place
pub record Holds (old new : Sorter) (place : Place) (line : List ℕ) : Type 0 where
  pub comes : Comes (state_of old) (state_of new) (waiting_of place old.number line)
  pub writer : new.writer ≡ old.writer

-- what also writes loses nothing and keeps to the turns, in such a phase
abbrev pub Goes : Phase → (was : Option (List ℕ)) → Sorter → (now : Option (List ℕ)) → Sorter → Type 0
Goes at was old now new = Stays (SortsAt at) was old now new

-- the same in each phase of which this holds
abbrev pub GoesIf : (Phase → Type 0) → (was : Option (List ℕ)) → Sorter → (now : Option (List ℕ)) → Sorter → Type 0
GoesIf may was old now new = (at : Phase) → may at → Goes at was old now new

-- the same up to the end of the log
abbrev pub Finishes : (was : Option (List ℕ)) → Sorter → (now : Option (List ℕ)) → Sorter → Type 0
Finishes was old now new =
    (before : Start) (lines : List (List ℕ)) → Sorts before was old lines → SortsAt AtEnd before now new lines

-- what a sorter has done
abbrev pub counts_of : Sorter → Counts
counts_of s =
    record { added_ends = s.writer.added; added_peers = s.writer.peers; events = s.tally.events; late = s.tally.late; rewrites = s.writer.rewritten; times_raised = s.writer.raised }
