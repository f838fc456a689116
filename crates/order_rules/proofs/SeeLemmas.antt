-- What becomes of a line by what is kept is what becomes of it by what lines said.
use Rattle.std.proofs.Common.{◌≡◌, ◌∙◌, sym, refl, ap, subst, ℕ, List, ◌∷◌, Option, None, Some, option_map}
use Rattle.audit_lex.specs.LineClass.{Class, Used, Other, Blank, Malformed}
use Rattle.audit_lex.specs.declared.header.EventKey.{EventKey}
use Rattle.audit_lex.specs.declared.fields.Kind.{Kind}
use Rattle.audit_lex.specs.declared.fields.Kind.TheVariants as kind
use Rattle.order_text.specs.declared.rewrite.Rewrite.{Rewrite}
use Rattle.order_rules.specs.declared.settings.Settings.{Settings}
use Rattle.order_rules.specs.declared.under.Under.{Under}
use Rattle.order_rules.specs.Deeds.{Deed, Said, Calls, of_event, under_in}
use Rattle.order_rules.specs.Known.{Known, HearsIt, StandsFor}
use Rattle.order_rules.specs.Kept.{ends_of}
use Rattle.order_rules.specs.declared.call.Call.{Call}
use Rattle.order_rules.specs.Copies.{rewrite_call}
use Rattle.order_rules.specs.Lines.{call_in, deed_of_kind}
use Rattle.order_rules.specs.Rewrites.{Ends, ends_in, owned_in, rewrite_kind, rewrite_class, class_in, saying, said_after, rewritten}
use Rattle.order_rules.proofs.TableLemmas.{heard}

ends_same : (known : Known) (said : List Said) → StandsFor known said → ends_of known ≡ ends_in said
ends_same known said stands = λ i. record {
  clock = stands.clock i;
  held = λ p n. stands.held p n i;
  hosts = λ host. stands.hosts host i;
  places = λ place. stands.places place i;
  waits = λ place. stands.waits place i;
}

pub used_rewritten : (known : Known) (said : List Said) (settings : Settings) (line lent : List ℕ) (key : EventKey) (of : Kind) (made : Option Rewrite)
    → StandsFor known said → class_in line ≡ Used key of → lent ≡ line
    → made ≡ rewrite_kind settings (ends_of known) (of_event known.under key) key lent of
    → made ≡ rewritten settings said line
used_rewritten known said settings line lent key of made stands class same is =
    is ∙ ap (λ (l : List ℕ). rewrite_kind settings (ends_of known) (of_event known.under key) key l of) same
    ∙ ap (λ (e : Ends). rewrite_kind settings e (of_event known.under key) key line of) (ends_same known said stands)
    ∙ ap (λ (u : Option Under). rewrite_kind settings (ends_in said) (of_event u key) key line of) stands.under
    ∙ ap (rewrite_class settings (under_in said) (ends_in said) line) (sym class)

said_kept : (old new : Known) (key : EventKey) (deed : Option Deed) (said : List Said) → HearsIt old new key deed → StandsFor old said
    → StandsFor new (saying key deed said)
said_kept old new key None said hears stands = subst (λ (k : Known). StandsFor k said) (sym hears) stands
said_kept old new key (Some deed) said hears stands = heard old new key deed said hears stands

pub used_said : (old new : Known) (said : List Said) (line lent : List ℕ) (key : EventKey) (of : Kind)
    → class_in line ≡ Used key of → lent ≡ line → HearsIt old new key (deed_of_kind lent of) → StandsFor old said
    → StandsFor new (said_after line (class_in line) said)
used_said old new said line lent key of class same hears stands =
    subst (λ (c : Class). StandsFor new (said_after line c said)) (sym class)
    (subst (λ (l : List ℕ). StandsFor new (saying key (deed_of_kind l of) said)) same
    (said_kept old new key (deed_of_kind lent of) said hears stands))

-- the same of the record of a call that was noted

pub noted_rewritten : (known : Known) (said : List Said) (settings : Settings) (line : List ℕ) (key : EventKey) (call : Option Call) (made : Option Rewrite)
    → StandsFor known said → class_in line ≡ Used key kind.Syscall → call ≡ call_in line
    → made ≡ rewrite_call settings.own (owned_in (of_event known.under key)) line call
    → made ≡ rewritten settings said line
noted_rewritten known said settings line key call made stands class same is =
    used_rewritten known said settings line line key kind.Syscall made stands class refl
    (is ∙ ap (rewrite_call settings.own (owned_in (of_event known.under key)) line) same)

pub noted_said : (old new : Known) (said : List Said) (line : List ℕ) (key : EventKey) (call : Option Call)
    → class_in line ≡ Used key kind.Syscall → call ≡ call_in line → HearsIt old new key (option_map Calls call) → StandsFor old said
    → StandsFor new (said_after line (class_in line) said)
noted_said old new said line key call class same hears stands =
    used_said old new said line line key kind.Syscall class refl (subst (λ (c : Option Call). HearsIt old new key (option_map Calls c)) same hears) stands
