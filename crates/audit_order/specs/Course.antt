-- How far the ordering of a log has come.
use Rattle.std.specs.Prelude.{◌≡◌, ℕ, ◌≤◌, List, [], ◌∷◌, ◌++◌, Option, map, length, reverse}
use Rattle.std.specs.List.{All}
use Rattle.std.specs.List.Sorted.{IsNonDecreasing}
use Rattle.std.specs.Io.KnownBytes.{Appends}
use Rattle.order_text.specs.Undo.{undone}
use Rattle.order_rules.specs.Rules.{StandsForLines}
use Rattle.audit_order.specs.Start.{Start}
use Rattle.audit_order.specs.Woven.{IsWoven}
use Rattle.audit_order.specs.Shown.{latest, rules_of, Told, untold, lines_in, seen_in, WasLacking, shown_after}
use Rattle.audit_order.specs.Lines.{text_of, times_of, raised_in, rewritten_in, IsEnd, IsPeer, AddsNoFeed, Written}

-- Of the lines that were given to be written none is lost, doubled, made up or moved: what was written is undone to them, in their
-- order, to the ends that were added, and to the peers that were because they were lacking. Times don't fall in what is written.
-- Each line is rewritten by the rules. Raised times, rewritten lines, and added ends and peers are counted.
pub record Course (before : Start) (now : Option (List ℕ)) (w : Written) (given : List Told) : Type 0 where
  pub outs : List (List ℕ)
  pub told : List Told
  pub added : List (List ℕ)
  pub peers : List (List ℕ)
  pub done : List ℕ
  pub appends : Appends before.written now done
  pub text : done ++ w.pending ≡ text_of outs
  pub are : map undone outs ≡ lines_in told
  pub woven : IsWoven (map untold added) (map untold peers) given told
  pub rises : IsNonDecreasing (times_of outs)
  pub below : All (λ time. time ≤ w.latest.ms) (times_of outs)
  pub ends : All IsEnd added
  pub blank : All IsPeer peers
  pub lacked : All (WasLacking before.switches told) peers
  pub own : All AddsNoFeed outs
  pub counts_raised : w.raised ≡ raised_in outs
  pub counts_added : w.added ≡ length added
  pub counts_peers : w.peers ≡ length peers
  pub counts_rewritten : w.rewritten ≡ rewritten_in outs
  pub switches : w.switches ≡ before.switches
  pub settings : w.rules.settings ≡ rules_of before.switches
  pub rules : StandsForLines w.rules (seen_in (reverse told))
  pub greatest : w.latest ≡ latest (lines_in (reverse told))
  pub exact : outs ≡ shown_after before.switches [] told

-- whatever lines were given, what is written besides loses nothing
abbrev pub Keeps : Written → Written → Type 0
Keeps old new =
    (before : Start) (now : Option (List ℕ)) (given : List Told) → Course before now old given → Course before now new given

-- one more line is given, and written
abbrev pub Gives : Written → Written → Told → Type 0
Gives old new told =
    (before : Start) (now : Option (List ℕ)) (given : List Told) → Course before now old given → Course before now new (given ++ told ∷ [])
