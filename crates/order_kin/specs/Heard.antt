-- What the record of a call says of processes.
use Rattle.std.specs.Prelude.{ℕ, ◌&&◌, Bool, true, false, List, Option, None, Some, codes, if◌then◌else◌}
use Rattle.audit_lex.specs.LineClass.{Class, Used}
use Rattle.audit_lex.specs.declared.header.EventKey.{EventKey}
use Rattle.audit_lex.specs.declared.fields.Kind.{Kind}
use Rattle.audit_lex.specs.declared.fields.Kind.TheVariants as kind
use Rattle.order_text.specs.Stamp.{Stamp}
use Rattle.order_lines.specs.Rules.{is_call}
use Rattle.order_place.specs.Places.{read_as}
use Rattle.order_rules.specs.declared.call.Act.{Act}
use Rattle.order_rules.specs.declared.call.Act.TheVariants as act
use Rattle.order_rules.specs.declared.call.Call.{Call}
use Rattle.order_rules.specs.Lines.{number_in, call_in}
use Rattle.order_rules.specs.Rewrites.{class_in}
use Rattle.order_kin.specs.declared.heard.Heard.{Heard}
use Rattle.order_kin.specs.declared.heard.Deed.{Deed}
use Rattle.order_kin.specs.declared.heard.Deed.TheVariants as deed

-- what a call did to processes
abbrev pub deed_of : Act → Deed
deed_of (act.Begins child) = deed.Forks child
deed_of act.Ends = deed.Ends
deed_of _ = deed.Nothing

-- what a call says whose process has this parent
abbrev pub heard_call : EventKey → Option ℕ → Option Call → Option Heard
heard_call key (Some parent) (Some call) =
    Some (record { ms = key.ms; serial = key.serial; pid = call.pid; parent = parent; deed = deed_of call.act })
heard_call key _ _ = None

-- what a line of a kind and an event says
abbrev pub heard_kind : List ℕ → EventKey → Kind → Option Heard
heard_kind line key kind.Syscall = heard_call key (number_in line (codes "ppid")) (call_in line)
heard_kind line key _ = None

abbrev pub heard_class : List ℕ → Class → Option Heard
heard_class line (Used key kind) = heard_kind line key kind
heard_class line _ = None

-- what a line says
abbrev pub heard_in : List ℕ → Option Heard
heard_in line = heard_class line (class_in line)

-- whether a call has begun a child
abbrev pub is_fork : Deed → Bool
is_fork (deed.Forks answer) = true
is_fork _ = false

abbrev pub has_begun : Option Call → Bool
has_begun None = false
has_begun (Some call) = is_fork (deed_of call.act)

-- a fork alone
abbrev pub fork_if : Heard → Deed → Option Heard
fork_if h (deed.Forks answer) = Some h
fork_if h _ = None

abbrev pub only_fork : Option Heard → Option Heard
only_fork None = None
only_fork (Some h) = fork_if h h.deed

-- what a line of this stamp says, if 32-bit calls are rewritten: the record of a call, read as it will be rewritten
abbrev pub heard_of : Bool → Stamp → List ℕ → Option Heard
heard_of compat s line = if compat && is_call s.front then heard_in (read_as compat s line) else None
