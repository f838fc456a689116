-- What is known of descriptors by what lines said of them, looking back from the newest one.
use Rattle.std.specs.Prelude.{ℕ, ◌==◌, ◌&&◌, Bool, true, false, List, [], ◌∷◌, Option, None, Some, nat_le, if◌then◌else◌}
use Rattle.std.specs.Option.{option_and_then}
use Rattle.std.specs.declared.cmp.Ordering.{Ordering}
use Rattle.std.specs.Ordering.{nat_cmp, ordering_then, is_eq}
use Rattle.order_calls.specs.declared.deed.Deed.{Deed}
use Rattle.order_calls.specs.declared.deed.Deed.TheVariants as deed
use Rattle.order_calls.specs.declared.held.Thing.{Thing}
use Rattle.order_calls.specs.declared.held.Thing.TheVariants as thing

-- an event, by its time and its serial number
abbrev pub Event : Type 0
Event = ℕ × ℕ

-- what a line of an event said
abbrev pub Said : Type 0
Said = Event × Deed

-- what was last said of each descriptor of each process, if anything was
abbrev pub Holding : Type 0
Holding = ℕ → ℕ → Option Thing

-- a process or a descriptor, by its number
abbrev pub is_same : ℕ → ℕ → Bool
is_same a b = is_eq (nat_cmp a b)

-- a descriptor of a process
abbrev pub is_at : ℕ → ℕ → ℕ → ℕ → Bool
is_at pid fd p n = is_same pid p && is_same fd n

-- events by time, then by serial number
abbrev pub event_cmp : Event → Event → Ordering
event_cmp a b = ordering_then (nat_cmp a.0 b.0) (nat_cmp a.1 b.1)

-- one event
abbrev pub is_event : Event → Event → Bool
is_event a b = is_eq (event_cmp a b)

-- which descriptor the call of an event opened, if nothing said of what kind it is: after a line too
abbrev pub opened_after : (Event → Option (ℕ × ℕ)) → Event → Deed → Event → Option (ℕ × ℕ)
opened_after before event (deed.Opens pid fd) other = if is_event event other then Some (pid, fd) else before other
opened_after before event (deed.Names file) other = if is_event event other then None else before other
opened_after before event deed.Ends other = if is_event event other then None else before other
opened_after before event _ other = before other

abbrev pub opened_in : List Said → Event → Option (ℕ × ℕ)
opened_in [] event = None
opened_in ((event, said) ∷ before) other = opened_after (opened_in before) event said other

-- what an event says that a call opened: a regular file, or another thing
abbrev pub told : ℕ → Bool → Thing
told ms file = if file then thing.File ms None else thing.Other

-- a descriptor that was opened holds this, and others what they held
abbrev pub named : Option (ℕ × ℕ) → Thing → ℕ → ℕ → Option Thing → Option Thing
named None what p n before = before
named (Some (pid, fd)) what p n before = if is_at pid fd p n then Some what else before

-- a copy holds a regular file since it was made
abbrev pub copy_of : ℕ → Option Thing → Thing
copy_of ms None = thing.Other
copy_of ms (Some thing.Other) = thing.Other
copy_of ms (Some (thing.File since from)) = thing.File ms from

-- what a process holds itself counts, and what it inherited does if this is the parent that it has it from
abbrev pub counts : Option ℕ → Option ℕ → Bool
counts parent None = true
counts None (Some from) = false
counts (Some parent) (Some from) = parent == from

-- What a process of this parent gives to a child that begins at this time: a regular file that it held by then.
abbrev pub gift_of : ℕ → ℕ → Option ℕ → Thing → Option Thing
gift_of ms pid parent thing.Other = None
gift_of ms pid parent (thing.File since from) = if nat_le since ms && counts parent from then Some (thing.File since (Some pid)) else None

abbrev pub given : ℕ → ℕ → Option ℕ → Option Thing → Option Thing
given ms pid parent held = option_and_then (gift_of ms pid parent) held

-- what was said of a process before it began at this time is known no longer
abbrev pub since : ℕ → Thing → Thing
since ms thing.Other = thing.Other
since ms (thing.File at from) = if nat_le ms at then thing.File at from else thing.Other

-- what a process holds that begins at this time: what was said of it, or else what it is given
abbrev pub born : ℕ → Option Thing → Option Thing → Option Thing
born ms None gift = gift
born ms (Some own) gift = Some (since ms own)

-- what was said of the descriptors of a range holds no longer, since they were closed
abbrev pub in_range : ℕ → ℕ → ℕ → Bool
in_range first last n = nat_le first n && nat_le n last

abbrev pub not_file : Option Thing → Option Thing
not_file None = None
not_file (Some held) = Some thing.Other

abbrev pub closed_in : ℕ → ℕ → ℕ → Option Thing → Option Thing
closed_in first last n held = if in_range first last n then not_file held else held

-- What was last said of a descriptor of a process, after a line too. A process that runs another program is known to keep its
-- standard input alone, and of one that ended nothing is known.
abbrev pub held_after : (Event → Option (ℕ × ℕ)) → Holding → Event → Deed → Holding
held_after opened held event (deed.Opens pid fd) p n = if is_at pid fd p n then Some thing.Other else held p n
held_after opened held event (deed.Names file) p n = named (opened event) (told event.0 file) p n (held p n)
held_after opened held event deed.Ends p n = held p n
held_after opened held event (deed.Closes pid fd) p n = if is_at pid fd p n then Some thing.Other else held p n
held_after opened held event (deed.ClosesRange pid first last) p n = if is_same pid p then closed_in first last n (held pid n) else held p n
held_after opened held event (deed.Copies pid from to) p n = if is_at pid to p n then Some (copy_of event.0 (held pid from)) else held p n
held_after opened held event (deed.Runs pid) p n = if is_same pid p then (if is_same 0 n then held pid 0 else Some thing.Other) else held p n
held_after opened held event (deed.Begins pid) p n = if is_same pid p then None else held p n
held_after opened held event (deed.Forks pid parent child) p n =
    if is_same child p then born event.0 (held child n) (given event.0 pid parent (held pid n)) else held p n

abbrev pub held_in : List Said → Holding
held_in [] p n = None
held_in ((event, said) ∷ before) p n = held_after (opened_in before) (held_in before) event said p n

-- whether this is a regular file, for a process of this parent
abbrev pub is_regular : Option ℕ → Option Thing → Bool
is_regular parent None = false
is_regular parent (Some thing.Other) = false
is_regular parent (Some (thing.File since from)) = counts parent from

-- whether a descriptor of a process of this parent is known to be a regular file
abbrev pub is_file_in : List Said → ℕ → Option ℕ → ℕ → Bool
is_file_in said p parent n = is_regular parent (held_in said p n)
