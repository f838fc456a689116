-- Groups by key as they are kept: those of lesser keys, and the last one.
use Rattle.std.specs.Prelude.{◌≡◌, ◌++◌, [], ◌∷◌, List, Option, None, Some, true, option_to_list}
use Rattle.std.specs.declared.cmp.Ordering.{Ordering}
use Rattle.std.specs.declared.cmp.Ordering.TheVariants.{Greater}
use Rattle.std.specs.List.Sorted.{IsStrictlySortedBy}
use Rattle.std.specs.Map.{keys_of}
use Rattle.record_join.specs.Keys.{key_cmp}
use Rattle.audit_lex.specs.declared.header.EventKey.{EventKey}
use Rattle.audit_record.specs.declared.types.Record.{Record}
use Rattle.record_join.specs.declared.group.Group.{Group}

-- a group with its key
abbrev pub Entry : Type 0
Entry = EventKey × Group

-- all groups
abbrev pub joined : List Entry → Option Entry → List Entry
joined lesser last = lesser ++ option_to_list last

-- the keys ascend up to the last one, and without a last group there is no other
abbrev pub IsSplit : List Entry → Option Entry → Type 0
IsSplit lesser None = lesser ≡ []
IsSplit lesser (Some last) = IsStrictlySortedBy key_cmp (keys_of (lesser ++ last ∷ []))

-- how a key stands to that of the last group: it is greater if there is none
abbrev pub against : Option Entry → EventKey → Ordering
against None key = Greater
against (Some last) key = key_cmp key last.0

-- the first group
abbrev pub first_of : List Entry → Option Entry
first_of [] = None
first_of (e ∷ es) = Some e

-- a group with one more record
abbrev pub more_of : Record → Entry → Entry
more_of r e = (e.0, record e.1 { records = e.1.records ++ r ∷ [] })

-- a group whose end has come
abbrev pub shut_entry : Entry → Entry
shut_entry e = (e.0, record e.1 { closed = true })
