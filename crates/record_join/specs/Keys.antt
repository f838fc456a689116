-- Keys, their order, and the kinds of record that joining tells apart.
use Rattle.std.specs.Prelude.{◌≡◌, Bool, true, false}
use Rattle.std.specs.declared.cmp.Ordering.{Ordering}
use Rattle.std.specs.Ordering.{nat_cmp, ordering_then, is_eq, is_lt}
use Rattle.audit_lex.specs.declared.header.EventKey.{EventKey}
use Rattle.audit_record.specs.declared.types.Record.{Record}
use Rattle.audit_record.specs.declared.types.Body.{Body}
use Rattle.audit_record.specs.declared.types.Body.TheVariants.{Syscall, Proctitle, Eoe}

-- keys are ordered by time, then by serial
abbrev pub key_cmp : EventKey → EventKey → Ordering
key_cmp a b = ordering_then (nat_cmp a.ms b.ms) (nat_cmp a.serial b.serial)

-- one key
abbrev pub is_key : EventKey → EventKey → Bool
is_key a b = is_eq (key_cmp a b)

-- the first is below the second
abbrev pub is_below : EventKey → EventKey → Bool
is_below a b = is_lt (key_cmp a b)

-- the body of a record that ends its event
abbrev pub is_end : Body → Bool
is_end Proctitle = true
is_end Eoe = true
is_end _ = false

-- an EOE or a PROCTITLE
abbrev pub ends_event : Record → Bool
ends_event r = is_end r.body

-- the record ends the event of this key
pub record EndsAt (key : EventKey) (item : Record) : Type 0 where
  pub key_is : item.key ≡ key
  pub ends : ends_event item ≡ true

-- the body of a record of a call
abbrev pub is_call_body : Body → Bool
is_call_body (Syscall call) = true
is_call_body _ = false

-- the record of a call
abbrev pub is_call : Record → Bool
is_call r = is_call_body r.body
