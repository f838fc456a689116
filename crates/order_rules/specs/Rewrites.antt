-- What is written otherwise, by what lines said before.
use Rattle.std.specs.Prelude.{ℕ, ◌&&◌, Bool, List, ◌∷◌, Option, None, Some, is_some, codes, if◌then◌else◌}
use Rattle.hex.specs.Hex.{encode_upper}
use Rattle.audit_lex.specs.LineClass.{Class, Used, class_of}
use Rattle.audit_lex.specs.declared.header.EventKey.{EventKey}
use Rattle.audit_lex.specs.declared.fields.Kind.{Kind}
use Rattle.audit_lex.specs.declared.fields.Kind.TheVariants as kind
use Rattle.order_text.specs.declared.rewrite.Rewrite.{Rewrite}
use Rattle.order_rules.specs.declared.settings.Settings.{Settings}
use Rattle.order_rules.specs.declared.under.Under.{Under}
use Rattle.order_rules.specs.Addresses.{inet_of}
use Rattle.order_rules.specs.Deeds.{Deed, Holding, Hosts, Places, Waits, Said, directory_in, is_free, own_place_in, called, knocked, answered, knock_name, answer_name, is_silent, blank_peer, or_else, of_event, clock_in, under_in, held_in, is_host_in, is_place_in, waits_in}
use Rattle.order_lines.specs.declared.own.Own.{Own}
use Rattle.order_rules.specs.Copies.{owned_by, rewrite_call}
use Rattle.order_rules.specs.Lines.{bytes_in, call_in, deed_of_kind}
use Rattle.order_rules.specs.Texts.{written_text, rewrite_line}

-- the record of a working directory has the directory that the names of its call are relative to
abbrev pub at_directory : List ℕ → Option (List ℕ) → Option Rewrite
at_directory line None = None
at_directory line (Some path) = rewrite_line (codes "cwd") (written_text path) line

-- the record of an address has this one
abbrev pub at_address : List ℕ → Option (List ℕ) → Option Rewrite
at_address line None = None
at_address line (Some address) = rewrite_line (codes "saddr") (encode_upper address) line

-- what is known of the connections of a node
pub record Ends : Type 0 where
  pub clock : ℕ
  pub held : Holding
  pub hosts : Hosts
  pub places : Places
  pub waits : Waits

-- the name of the connection that a call of an event begins or has accepted
abbrev pub name_at : Ends → Option Under → EventKey → List ℕ → Option (List ℕ)
name_at ends under event bytes = or_else
    (knock_name ends.clock ends.waits event (knocked ends.held ends.hosts ends.places under bytes))
    (answer_name ends.clock ends.waits event bytes (answered ends.held ends.hosts under bytes))

-- the address that the peer of an accept or a datagram has called, or calls in answer to one
abbrev pub called_at : Ends → Option Under → List ℕ → Option (List ℕ)
called_at ends under bytes = called ends.hosts (own_place_in ends.held (is_free ends.places (inet_of bytes)) under) (inet_of bytes)

-- the address of a connection: its own name, if connections are apart, or else the one that a peer has called
abbrev pub address_at : Bool → Ends → Option Under → EventKey → List ℕ → Option (List ℕ)
address_at apart ends under event bytes =
    if apart then or_else (name_at ends under event bytes) (called_at ends under bytes) else called_at ends under bytes

-- the record of an address that has these bytes has the address of its connection
abbrev pub at_end : Bool → Ends → Option Under → EventKey → List ℕ → Option (List ℕ) → Option Rewrite
at_end apart ends under event line None = None
at_end apart ends under event line (Some bytes) = at_address line (address_at apart ends under event bytes)

-- the descriptor that records of an event have named before that of its call
abbrev pub owned_in : Option Under → Option Own
owned_in None = None
owned_in (Some under) = owned_by under.call.asks

-- what becomes of a line of a kind and an event, if the call that it belongs to is this
abbrev pub rewrite_kind : Settings → Ends → Option Under → EventKey → List ℕ → Kind → Option Rewrite
rewrite_kind settings ends under event line kind.Syscall = rewrite_call settings.own (owned_in under) line (call_in line)
rewrite_kind settings ends under event line kind.Cwd =
    if settings.names then at_directory line (directory_in ends.held under) else None
rewrite_kind settings ends under event line kind.Sockaddr =
    if settings.join then at_end settings.apart ends under event line (bytes_in line (codes "saddr")) else None
rewrite_kind settings ends under event line _ = None

-- what becomes of a line of a class, by what is known
abbrev pub rewrite_class : Settings → Option Under → Ends → List ℕ → Class → Option Rewrite
rewrite_class settings under ends line (Used key kind) = rewrite_kind settings ends (of_event under key) key line kind
rewrite_class settings under ends line _ = None

-- whether a call of an event has accepted a peer whose address no record has, by a connection that has a name
abbrev pub lacks_peer : Ends → Option Under → EventKey → Bool
lacks_peer ends under event = is_silent under && is_some (name_at ends under event blank_peer)

-- what a line of an event said, before what was said so far
abbrev pub saying : EventKey → Option Deed → List Said → List Said
saying event None before = before
saying event (Some said) before = (event, said) ∷ before

abbrev pub said_after : List ℕ → Class → List Said → List Said
said_after line (Used key kind) before = saying key (deed_of_kind line kind) before
said_after line _ before = before

-- the class of a line, if it has at most 65,536 bytes
abbrev pub class_in : List ℕ → Class
class_in line = class_of 65536 line

-- what is known by what lines said
abbrev pub ends_in : List Said → Ends
ends_in said = record { clock = clock_in said; held = held_in said; hosts = is_host_in said; places = is_place_in said; waits = waits_in said }

-- what becomes of a line, by what the lines of its node said before
abbrev pub rewritten : Settings → List Said → List ℕ → Option Rewrite
rewritten settings said line = rewrite_class settings (under_in said) (ends_in said) line (class_in line)
