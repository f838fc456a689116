-- Lines that are written.
use Rattle.std.specs.Prelude.{◌≡◌, ◌⊎◌, ℕ, ◌+◌, Bool, true, false, List, [], ◌∷◌, ◌++◌, Option, None, Some, max, length, nat_lt, codes, option_map, option_to_list, if◌then◌else◌}
use Rattle.std.specs.List.{flat_map, filter}
use Rattle.order_text.specs.Stamp.{Stamp, stamp_of}
use Rattle.order_text.specs.Laws.{time_in, number_in, IsOneLine}
use Rattle.order_text.specs.Undo.{undone, written_of, is_rewritten, takes_rewrite}
use Rattle.order_text.specs.declared.rewrite.Rewrite.{Rewrite}
use Rattle.order_rules.specs.Rules.{AllKnown, StandsForLines, lacks_of}
use Rattle.audit_order.specs.declared.switches.Switches.{Switches}
use Rattle.audit_order.specs.Shown.{Latest, later_of, no_time, rules_of, Told, untold, seen_as, change_by}

-- lines with a line feed after each
abbrev pub text_of : List (List ℕ) → List ℕ
text_of lines = flat_map (λ line. line ++ 10 ∷ []) lines

-- the times that lines bear, in milliseconds, in their order
abbrev pub times_of : List (List ℕ) → List ℕ
times_of lines = flat_map (λ line. option_to_list (time_in line)) lines

-- the serial numbers that lines bear, in their order
abbrev pub numbers_of : List (List ℕ) → List ℕ
numbers_of lines = flat_map (λ line. option_to_list (number_in line)) lines

-- the text of a record of this kind: a node or nothing, a time and a serial number, and what it says
pub record Spells (kind says line : List ℕ) : Type 0 where
  pub node : List ℕ
  pub time : List ℕ
  pub serial : List ℕ
  pub is : line ≡ node ++ (codes "type=" ++ (kind ++ (codes " msg=audit(" ++ (time ++ 58 ∷ (serial ++ (codes "): " ++ says))))))

-- a record of some event that is one line
pub record IsAdded (kind says line : List ℕ) : Type 0 where
  pub spells : Spells kind says line
  pub one : IsOneLine line

-- an EOE record of some event: the line that ends it
abbrev pub IsEnd : List ℕ → Type 0
IsEnd line = IsAdded (codes "EOE") [] line

-- the record of a peer without an address that is marked as added
abbrev pub IsPeer : List ℕ → Type 0
IsPeer line = IsAdded (codes "SOCKADDR") (codes "saddr=0100" ++ 29 ∷ codes "ADDED=yes") line

-- a line as it is written has a line feed only if it had one before
abbrev pub AddsNoFeed : List ℕ → Type 0
AddsNoFeed out = IsOneLine (undone out) → IsOneLine out

-- whether the first of two times is less
abbrev pub is_less : Option ℕ → Option ℕ → Bool
is_less (Some time) (Some other) = nat_lt time other
is_less _ _ = false

-- whether the time of a line as it is written was raised
abbrev pub is_raised : List ℕ → Bool
is_raised out = is_less (time_in (undone out)) (time_in out)

-- how many times were raised
abbrev pub raised_in : List (List ℕ) → ℕ
raised_in outs = length (filter is_raised outs)

-- how many lines have a part that was rewritten
abbrev pub rewritten_in : List (List ℕ) → ℕ
rewritten_in outs = length (filter is_rewritten outs)

-- the greatest time after a line too
abbrev pub risen : ℕ → Option ℕ → ℕ
risen ms None = ms
risen ms (Some time) = max ms time

-- which lines are rewritten, what is known for that, what waits to be written, the greatest time that was written, how many times
-- were raised, how many lines were rewritten, and how many ends and peers were added
pub record Written : Type 0 where
  pub switches : Switches
  pub rules : AllKnown
  pub pending : List ℕ
  pub latest : Latest
  pub raised : ℕ
  pub rewritten : ℕ
  pub added : ℕ
  pub peers : ℕ

-- nothing was written
pub record IsBlank (switches : Switches) (w : Written) : Type 0 where
  pub is : w ≡ record { switches = switches; rules = w.rules; pending = []; latest = no_time; raised = 0; rewritten = 0; added = 0; peers = 0 }
  pub settings : w.rules.settings ≡ rules_of switches
  pub rules : StandsForLines w.rules []

-- one more if a test is passed
abbrev pub more_if : Bool → ℕ → ℕ
more_if b n = if b then n + 1 else n

-- the time of a line of this stamp, if it has one
abbrev pub ms_in : Option Stamp → Option ℕ
ms_in found = option_map (λ s. s.ms) found

-- what there is after a line of this stamp was written too, with this rewrite
abbrev pub wrote : Written → List ℕ → Option Stamp → Option Rewrite → Written
wrote w line found change = record w {
  pending = w.pending ++ (written_of w.latest.time w.latest.ms line found change ++ 10 ∷ []);
  latest = later_of w.latest found;
  raised = more_if (is_less (ms_in found) (Some w.latest.ms)) w.raised;
  rewritten = more_if (takes_rewrite change found) w.rewritten;
}

-- a line was seen by the rules, which say how it is rewritten
pub record Asks (old new : Written) (told : Told) (change : Option Rewrite) : Type 0 where
  pub same : new ≡ record old { rules = new.rules }
  pub settings : new.rules.settings ≡ old.rules.settings
  pub by : (before : List (List ℕ)) → StandsForLines old.rules before → change ≡ change_by old.switches old.rules.settings before told
  pub stands : (before : List (List ℕ)) → StandsForLines old.rules before → StandsForLines new.rules (seen_as told ∷ before)

-- one more line is written, as the rules say
pub record Writes (old new : Written) (told : Told) : Type 0 where
  pub mid : Written
  pub change : Option Rewrite
  pub asks : Asks old mid told change
  pub is : new ≡ wrote mid told.line (stamp_of told.line) change

-- one more line is written, and counted as an end that was added
pub record Adds (old new : Written) (line : List ℕ) : Type 0 where
  pub mid : Written
  pub writes : Writes old mid (untold line)
  pub is : new ≡ record mid { added = mid.added + 1 }

-- one more line is written because it is lacking, as the rules say, and counted as a peer that was added
pub record AddsPeer (old new : Written) (line : List ℕ) : Type 0 where
  pub lacks : (before : List (List ℕ)) → StandsForLines old.rules before → true ≡ lacks_of old.rules.settings before line
  pub mid : Written
  pub writes : Writes old mid (untold line)
  pub is : new ≡ record mid { peers = mid.peers + 1 }

abbrev pub MayAddPeer : Written → Written → List ℕ → Type 0
MayAddPeer old new line = (new ≡ old) ⊎ AddsPeer old new line
