-- Calls that are no forks.
use Rattle.std.proofs.Common.{◌≡◌, ◌∙◌, sym, refl, ap, ℕ, Bool, true, false, List, Option, None, Some}
use Rattle.std.specs.Prelude.{codes}
use Rattle.audit_lex.specs.LineClass.{Class, Used}
use Rattle.audit_lex.specs.declared.header.EventKey.{EventKey}
use Rattle.audit_lex.specs.declared.fields.Kind.TheVariants as kind
use Rattle.order_rules.specs.declared.call.Act.{Act}
use Rattle.order_rules.specs.declared.call.Act.TheVariants as act
use Rattle.order_rules.specs.declared.call.Call.{Call}
use Rattle.order_rules.specs.Lines.{number_in, call_in}
use Rattle.order_rules.specs.Rewrites.{class_in}
use Rattle.order_text.specs.Stamp.{Stamp}
use Rattle.order_kin.specs.declared.heard.Heard.{Heard}
use Rattle.order_kin.specs.declared.heard.Deed.{Deed}
use Rattle.order_kin.specs.declared.heard.Deed.TheVariants as deed
use Rattle.order_kin.specs.Heard.{deed_of, heard_call, heard_class, heard_in, is_fork, has_begun, fork_if, only_fork}
use Rattle.order_kin.specs.Families.{Broods, child_with, child_by}

no_fork : (d : Deed) (h : Heard) → is_fork d ≡ false → None ≡ fork_if h d
no_fork deed.Nothing h none = refl
no_fork (deed.Forks answer) h none = absurd (cc none)
no_fork deed.Ends h none = refl

not_begun : (key : EventKey) (parent : Option ℕ) (call : Option Call) → has_begun call ≡ false
    → None ≡ only_fork (heard_call key parent call)
not_begun key None call none = refl
not_begun key (Some parent) None none = refl
not_begun key (Some parent) (Some call) none =
    no_fork (deed_of call.act) (record { ms = key.ms; serial = key.serial; pid = call.pid; parent = parent; deed = deed_of call.act }) none

-- a call that was noted, and has begun no child, is no fork
pub noted_none : (line : List ℕ) (key : EventKey) (call : Option Call) → class_in line ≡ Used key kind.Syscall → call ≡ call_in line
    → has_begun call ≡ false → None ≡ only_fork (heard_in line)
noted_none line key call class same none =
    not_begun key (number_in line (codes "ppid")) call none
    ∙ ap (λ (c : Option Call). only_fork (heard_call key (number_in line (codes "ppid")) c)) same
    ∙ ap (λ (c : Class). only_fork (heard_class line c)) (sym class)

-- only a fork begins a child
child_forks : (broods : Broods) (h : Heard) (d : Deed) → h.deed ≡ d → child_with broods h d ≡ child_by broods (fork_if h d)
child_forks broods h deed.Nothing is = refl
child_forks broods h (deed.Forks answer) is = ap (child_with broods h) (sym is)
child_forks broods h deed.Ends is = refl

pub child_by_fork : (broods : Broods) (heard : Option Heard) → child_by broods heard ≡ child_by broods (only_fork heard)
child_by_fork broods None = refl
child_by_fork broods (Some h) = child_forks broods h h.deed refl
