-- Forks whose child is told.
use Rattle.std.proofs.Common.{◌≡◌, ◌∙◌, sym, refl, ap, subst, ℕ, List, ◌∷◌, Option, None, Some}
use Rattle.order_text.specs.Stamp.{Stamp, stamp_of}
use Rattle.order_text.specs.declared.rewrite.Rewrite.{Rewrite}
use Rattle.order_lines.specs.Answers.{with_answer}
use Rattle.order_lines.specs.Rules.{or_else}
use Rattle.order_place.specs.Places.{read_with}
use Rattle.order_rules.specs.Rules.{AllKnown, StandsForLines, rewrite_of}
use Rattle.order_rules.specs.declared.settings.Settings as rules
use Rattle.audit_order.specs.declared.switches.Switches.{Switches}
use Rattle.audit_order.specs.Shown.{Told, untold, answered, seen_with, seen_as, change_alone, change_by}
use Rattle.audit_order.specs.Lines.{Written, Asks, Writes}

-- a line with a child that is told
abbrev pub fork : List ℕ → ℕ → Told
fork line child = record { line = line; child = Some child }

plain_change : (switches : Switches) (settings : rules.Settings) (before : List (List ℕ)) (line : List ℕ) (child : ℕ) (found : Option Stamp) → found ≡ None
    → or_else (change_alone switches found) (rewrite_of settings before line)
    ≡ answered (Some child) found (or_else (change_alone switches found) (rewrite_of settings before (seen_with line (Some child) found)))
plain_change switches settings before line child found none = rw none refl

-- without a stamp it is written as one of which nothing is told
pub unstamped : (old new : Written) (line : List ℕ) (child : ℕ) → None ≡ stamp_of line → Writes old new (untold line) → Writes old new (fork line child)
unstamped old new line child none w = record {
  mid = w.mid;
  change = w.change;
  asks = record {
    same = w.asks.same;
    settings = w.asks.settings;
    by = λ before stands. w.asks.by before stands ∙ plain_change old.switches old.rules.settings before line child (stamp_of line) (sym none);
    stands = λ before stands. subst (λ (l : List ℕ). StandsForLines w.mid.rules (l ∷ before)) (ap (seen_with line (Some child)) none) (w.asks.stands before stands);
  };
  is = w.is;
}

-- with one the rules see it with its answer
asks_seen : (old : Written) (rules2 : AllKnown) (line seen : List ℕ) (child : ℕ) (s : Stamp) (found alone made : Option Rewrite) → Some s ≡ stamp_of line
    → seen ≡ read_with s line (with_answer s.rest child None) → rules2.settings ≡ old.rules.settings
    → ((lines : List (List ℕ)) → StandsForLines old.rules lines → found ≡ rewrite_of old.rules.settings lines seen)
    → ((lines : List (List ℕ)) → StandsForLines old.rules lines → StandsForLines rules2 (seen ∷ lines))
    → alone ≡ change_alone old.switches (Some s) → made ≡ with_answer s.rest child (or_else alone found)
    → Asks old (record old { rules = rules2 }) (fork line child) made
asks_seen old rules2 line seen child s found alone made is shown settings by stands own made_is =
    let same : seen ≡ seen_as (fork line child) = shown ∙ ap (seen_with line (Some child)) is in
    record {
      same = refl;
      settings = settings;
      by = λ lines told. made_is ∙ ap (λ (a : Option Rewrite). with_answer s.rest child (or_else a found)) own
          ∙ ap (λ (f : Option Rewrite). with_answer s.rest child (or_else (change_alone old.switches (Some s)) f))
          (by lines told ∙ ap (rewrite_of old.rules.settings lines) same)
          ∙ ap (λ (o : Option Stamp). answered (Some child) o (or_else (change_alone old.switches o) (rewrite_of old.rules.settings lines (seen_as (fork line child))))) is;
      stands = λ lines told. subst (λ (l : List ℕ). StandsForLines rules2 (l ∷ lines)) same (stands lines told);
    }

-- the same of what there was
pub asks_fork : (old inside : Written) (rules2 : AllKnown) (line seen : List ℕ) (child : ℕ) (s : Stamp) (found alone made : Option Rewrite) → inside ≡ old → Some s ≡ stamp_of line
    → seen ≡ read_with s line (with_answer s.rest child None) → rules2.settings ≡ inside.rules.settings
    → ((lines : List (List ℕ)) → StandsForLines inside.rules lines → found ≡ rewrite_of inside.rules.settings lines seen)
    → ((lines : List (List ℕ)) → StandsForLines inside.rules lines → StandsForLines rules2 (seen ∷ lines))
    → alone ≡ change_alone inside.switches (Some s) → made ≡ with_answer s.rest child (or_else alone found)
    → Asks old (record inside { rules = rules2 }) (fork line child) made
asks_fork old inside rules2 line seen child s found alone made same is shown settings by stands own made_is =
    subst (λ (w : Written). Asks w (record inside { rules = rules2 }) (fork line child) made) same
    (asks_seen inside rules2 line seen child s found alone made is shown settings by stands own made_is)
