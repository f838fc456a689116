-- How far a log was read.
use Rattle.std.specs.Prelude.{◌≡◌, ℕ, ◌&&◌, false, List, [], ◌∷◌, ◌++◌, Option, None, Some, map, length, IsPermutation}
use Rattle.std.specs.List.{All}
use Rattle.std.specs.List.Sorted.{IsNonDecreasing}
use Rattle.std.specs.Io.KnownBytes.{Appends}
use Rattle.audit_lex.specs.History.{History, Settle, lines_of, with_bytes}
use Rattle.audit_lex.specs.LineCut.{Cutter, StandsFor}
use Rattle.audit_lex.specs.declared.line_cut.Line.{Line}
use Rattle.order_text.specs.Undo.{undone}
use Rattle.order_text.specs.Laws.{IsOneLine}
use Rattle.audit_order.specs.declared.counts.Counts.{Counts}
use Rattle.audit_order.specs.declared.switches.Switches.{Switches}
use Rattle.order_place.specs.Nodes.{AllSeen}
use Rattle.order_queue.specs.Queue.{texts_of}
use Rattle.audit_order.specs.declared.bounds.Bounds.{Bounds}
use Rattle.audit_order.specs.Start.{Start}
use Rattle.audit_order.specs.Woven.{IsWoven}
use Rattle.audit_order.specs.Turns.{Motion, came, went, told_in, events_in, late_in, InTurn}
use Rattle.audit_order.specs.Shown.{Told, untold, lines_in, WasLacking, shown_after}
use Rattle.audit_order.specs.Lines.{text_of, times_of, raised_in, rewritten_in, IsEnd, IsPeer}
use Rattle.audit_order.specs.Taken.{Standing, Stays, Takes}

-- the lines of a history were cut out and taken
pub record Took {T : Type 0} (stands : Standing T) (before : Start) (now : Option (List ℕ)) (cut : Cutter) (s : T) (history : History) : Type 0 where
  pub cuts : StandsFor cut history
  pub takes : stands before now s (lines_of history)

-- whatever was taken, these steps are taken after it
abbrev pub TakesAlso : {T : Type 0} → Standing T → (was : Option (List ℕ)) → Cutter → T → (now : Option (List ℕ)) → Cutter → T → History → Type 0
TakesAlso stands was cut s now cut2 s2 steps =
    (before : Start) (history : History) → Took stands before was cut s history → Took stands before now cut2 s2 (history ++ steps)

-- a line that was cut out is taken, if there is one
abbrev pub TakesNext : {T : Type 0} → Standing T → (was : Option (List ℕ)) → T → (now : Option (List ℕ)) → T → Option Line → Type 0
TakesNext stands was old now new None = Stays stands was old now new
TakesNext stands was old now new (Some line) = (line.long ≡ false) × Takes stands was old now new (line.text ∷ [])

-- the lines of a log, the last of which may have no line feed
abbrev pub log_lines : List ℕ → List (List ℕ)
log_lines bytes = lines_of (with_bytes [] bytes ++ Settle ∷ [])

-- What was written orders a log: with what was changed undone it is the lines of the log and the ends and peers that were added, in
-- some order, none of them lost, doubled or made up, and each peer was lacking; the times in it don't fall; and each of its lines is
-- one line. The lines are changed exactly as the greatest time before each and the rules say. Raised times, rewritten lines, and
-- added ends and peers are counted. The lines of the log came in their order and went in turn, and in that order they are written;
-- the events among them are counted, and those that went late.
pub record Orders (bounds : Bounds) (switches : Switches) (bytes : List ℕ) (before now : Option (List ℕ)) (counts : Counts) : Type 0 where
  pub outs : List (List ℕ)
  pub told : List Told
  pub added : List (List ℕ)
  pub peers : List (List ℕ)
  pub written : Appends before now (text_of outs)
  pub same : IsPermutation (added ++ (peers ++ log_lines bytes)) (map undone outs)
  pub rises : IsNonDecreasing (times_of outs)
  pub ends : All IsEnd added
  pub blank : All IsPeer peers
  pub lacked : All (WasLacking switches told) peers
  pub one : All IsOneLine outs
  pub counts_raised : counts.times_raised ≡ raised_in outs
  pub counts_added : counts.added_ends ≡ length added
  pub counts_peers : counts.added_peers ≡ length peers
  pub counts_rewritten : counts.rewrites ≡ rewritten_in outs
  pub are : map undone outs ≡ lines_in told
  pub exact : outs ≡ shown_after switches [] told
  pub seen : AllSeen
  pub motions : List Motion
  pub read : texts_of (came motions) ≡ log_lines bytes
  pub all_went : IsPermutation (came motions) (went motions)
  pub in_turn : InTurn switches.compat bounds seen motions
  pub order : IsWoven (map untold added) (map untold peers) (told_in switches.compat motions) told
  pub counts_events : counts.events ≡ events_in motions
  pub counts_late : counts.late ≡ late_in motions

-- What was written is the lines of the log, each as it was before it was changed, in their order.
abbrev pub Undoes : List ℕ → (before now : Option (List ℕ)) → Type 0
Undoes bytes before now = Appends before now (text_of (map undone (log_lines bytes)))

-- What was written is the lines of a log and the ends and peers that were added, in some order: none of them is lost, doubled or
-- made up.
pub record GivesBack (bytes : List ℕ) (before now : Option (List ℕ)) : Type 0 where
  pub lines : List (List ℕ)
  pub added : List (List ℕ)
  pub peers : List (List ℕ)
  pub written : Appends before now (text_of lines)
  pub same : IsPermutation (added ++ (peers ++ log_lines bytes)) lines
  pub ends : All IsEnd added
  pub blank : All IsPeer peers
  pub one : All IsOneLine lines

-- undoing what orders a log gives the lines of the log and the ends and peers that were added
abbrev pub UndoesOrders : Type 0
UndoesOrders =
    (bounds : Bounds) (switches : Switches) (bytes ordered : List ℕ) (before now : Option (List ℕ)) (counts : Counts)
    → Orders bounds switches bytes (Some []) (Some ordered) counts → Undoes ordered before now → GivesBack bytes before now

-- a text of such lines has these lines
abbrev pub TextHasLines : Type 0
TextHasLines = (lines : List (List ℕ)) → All IsOneLine lines → log_lines (text_of lines) ≡ lines

-- without the rules no line is rewritten
abbrev pub RewritesByRules : Type 0
RewritesByRules =
    (bounds : Bounds) (switches : Switches) (bytes : List ℕ) (before now : Option (List ℕ)) (counts : Counts)
    → switches.join ≡ false → switches.names ≡ false → switches.own ≡ false → switches.compat ≡ false → Orders bounds switches bytes before now counts → counts.rewrites ≡ 0

-- without connections that are apart no peer is added
abbrev pub AddsPeersByRules : Type 0
AddsPeersByRules =
    (bounds : Bounds) (switches : Switches) (bytes : List ℕ) (before now : Option (List ℕ)) (counts : Counts)
    → switches.join && switches.apart ≡ false → Orders bounds switches bytes before now counts → counts.added_peers ≡ 0
