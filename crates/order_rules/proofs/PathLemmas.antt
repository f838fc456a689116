-- A path's record says nothing that changes what is known, unless the newest call opened what it names.
use Rattle.std.proofs.Common.{◌≡◌, sym, refl, ap, subst, ℕ, Bool, true, false, List, Option, None, Some, if◌then◌else◌}
use Rattle.std.specs.Prelude.{◌&&◌, not, is_none, is_some}
use Rattle.audit_lex.specs.LineClass.{Class, Used, Other, Blank, Malformed}
use Rattle.audit_lex.specs.declared.header.EventKey.{EventKey}
use Rattle.audit_lex.specs.declared.fields.Kind.{Kind}
use Rattle.audit_lex.specs.declared.fields.Kind.TheVariants as kind
use Rattle.order_calls.proofs.MinorLemmas.{OfKind, begins_path}
use Rattle.order_rules.specs.declared.settings.Settings.{Settings}
use Rattle.order_rules.specs.declared.under.Under.{Under}
use Rattle.order_rules.specs.declared.under.Opened.{Opened}
use Rattle.order_rules.specs.Deeds.{Said, Names, is_event, of_event, opened_in, named, base_in, path_from, under_in, under_after}
use Rattle.order_rules.specs.Known.{Known, held_at, Hears, StandsFor}
use Rattle.order_lines.specs.Own.{own_in}
use Rattle.order_lines.specs.declared.own.Own.{Own}
use Rattle.order_rules.specs.Lines.{is_path_opened, directory_name, path_said, deed_of_kind}
use Rattle.order_rules.specs.Quiet.{is_path}
use Rattle.order_rules.specs.Rewrites.{Ends, ends_in, rewrite_kind, rewrite_class, class_in, saying, said_after, rewritten}
use Rattle.order_rules.proofs.TableLemmas.{heard}

kind_rewritten : (settings : Settings) (under : Option Under) (ends : Ends) (line : List ℕ) (class : Class) → OfKind kind.Path class
    → None ≡ rewrite_class settings under ends line class
kind_rewritten settings under ends line (Used key of) is = ap (λ (k : Kind). rewrite_kind settings ends (of_event under key) key line k) (sym is)
kind_rewritten settings under ends line Other of = absurd of
kind_rewritten settings under ends line Blank of = absurd of
kind_rewritten settings under ends line (Malformed fault) of = refl

none_of : (found : Option Opened) → is_some found ≡ false → found ≡ None
none_of None is = refl
none_of (Some opened) is = absurd (cc is)

if_of : (b : Bool) (under : Under) → opened_in (Some under) ≡ None → opened_in (if b then Some under else None) ≡ None
if_of true under none = none
if_of false under none = refl

-- what no call opened, no event's call opened
none_opened : (under : Option Under) (key : EventKey) → is_some (opened_in under) ≡ false → opened_in (of_event under key) ≡ None
none_opened None key none = refl
none_opened (Some under) key none = if_of (is_event key under.key) under (none_of (opened_in (Some under)) none)

under_same : (under : Option Under) (key : EventKey) (name : Option (List ℕ)) → under ≡ under_after under key (Names name)
under_same None key name = refl
under_same (Some under) key name = refl

nothing_named : (known : Known) (key : EventKey) (name : Option (List ℕ)) → is_some (opened_in known.under) ≡ false → Hears known known key (Names name)
nothing_named known key name none = record {
  clock = refl;
  under = under_same known.under key name;
  held = λ p n. ap (λ (o : Option Opened). named (held_at known) o (path_from (base_in (held_at known) (of_event known.under key)) name) p n)
      (sym (none_opened known.under key none));
  hosts = λ host. refl;
  places = λ place. refl;
  waits = λ place. refl;
}

path_stands : (known : Known) (said : List Said) (key : EventKey) (opened : Bool) (own : Option Own) (line : List ℕ) → is_some (opened_in known.under) ≡ false
    → is_none own ≡ true → StandsFor known said → StandsFor known (saying key (if opened then Some (path_said own line) else None) said)
path_stands known said key true None line none free stands = heard known known key (Names (directory_name line)) said (nothing_named known key (directory_name line) none) stands
path_stands known said key true (Some own) line none free stands = absurd (cc free)
path_stands known said key false own line none free stands = stands

kind_said : (known : Known) (said : List Said) (line : List ℕ) (class : Class) → OfKind kind.Path class → is_some (opened_in known.under) ≡ false
    → is_none (own_in line) ≡ true → StandsFor known said → StandsFor known (said_after line class said)
kind_said known said line (Used key of) is none free stands =
    subst (λ (k : Kind). StandsFor known (saying key (deed_of_kind line k) said)) (sym is)
    (path_stands known said key (is_path_opened line) (own_in line) line none free stands)
kind_said known said line Other of none free stands = absurd of
kind_said known said line Blank of none free stands = absurd of
kind_said known said line (Malformed fault) of none free stands = stands

both : (a b c : Bool) → (a && (not b && c)) ≡ true → (a ≡ true) × (b ≡ false) × (c ≡ true)
both true true c is = absurd (cc is)
both true false true is = (refl, refl, refl)
both true false false is = absurd (cc is)
both false b c is = absurd (cc is)

pub passed_rewritten : (settings : Settings) (said : List Said) (known : Known) (line : List ℕ)
    → (is_path line && (not (is_some (opened_in known.under)) && is_none (own_in line))) ≡ true → None ≡ rewritten settings said line
passed_rewritten settings said known line passes = kind_rewritten settings (under_in said) (ends_in said) line (class_in line)
    (begins_path line (both (is_path line) (is_some (opened_in known.under)) (is_none (own_in line)) passes).0)

pub passed_said : (known : Known) (said : List Said) (line : List ℕ)
    → (is_path line && (not (is_some (opened_in known.under)) && is_none (own_in line))) ≡ true → StandsFor known said
    → StandsFor known (said_after line (class_in line) said)
passed_said known said line passes stands =
    let is = both (is_path line) (is_some (opened_in known.under)) (is_none (own_in line)) passes in
    kind_said known said line (class_in line) (begins_path line is.0) is.1 is.2 stands
