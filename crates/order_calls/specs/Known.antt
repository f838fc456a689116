-- What is kept of what lines said.
use Rattle.std.specs.Prelude.{◌≡◌, ℕ, ◌&&◌, not, Bool, true, false, List, [], Option, None, Some, unwrap_or, if◌then◌else◌}
use Rattle.std.specs.Option.{option_or}
use Rattle.std.specs.Map.{lookup}
use Rattle.order_calls.specs.declared.deed.Deed.{Deed}
use Rattle.order_calls.specs.declared.held.Thing.{Thing}
use Rattle.order_calls.specs.declared.held.Thing.TheVariants as thing
use Rattle.order_calls.specs.Deeds.{Event, Said, is_same, is_event, opened_after, held_after, opened_in, held_in, is_regular}

-- what was said of descriptors of a process, and whether it runs another program since
pub record Fds : Type 0 where
  pub said : List (ℕ × Thing)
  pub ran : Bool

-- nothing was said
abbrev pub no_fds : Fds
no_fds = record { said = []; ran = false }

-- what is kept: of each process, and which descriptors were opened of whose kind nothing was said so far
pub record Known : Type 0 where
  pub held : List (ℕ × Fds)
  pub opens : List (Event × (ℕ × ℕ))

-- nothing is kept
abbrev pub nothing : Known
nothing = record { held = []; opens = [] }

-- a program may have closed what it held when it began, but for its standard input
abbrev pub at_run : Bool → ℕ → Option Thing
at_run ran n = if ran && not (is_same 0 n) then Some thing.Other else None

-- what was last said of a descriptor
abbrev pub thing_of : Fds → ℕ → Option Thing
thing_of fds n = option_or (lookup (is_same n) fds.said) (at_run fds.ran n)

-- what is left of what one says, if another says nothing
abbrev pub left_by : Option Thing → Option Thing → Option Thing
left_by None held = held
left_by (Some thing) held = None

-- what is kept of a process
abbrev pub fds_at : Known → ℕ → Fds
fds_at known p = unwrap_or (lookup (is_same p) known.held) no_fds

-- what was last said of a descriptor of a process
abbrev pub held_at : Known → ℕ → ℕ → Option Thing
held_at known p n = thing_of (fds_at known p) n

-- whether a descriptor of a process of this parent is known to be a regular file
abbrev pub is_file_at : Known → ℕ → Option ℕ → ℕ → Bool
is_file_at known p parent n = is_regular parent (held_at known p n)

-- which descriptor the call of an event opened
abbrev pub opened_at : Known → Event → Option (ℕ × ℕ)
opened_at known event = lookup (is_event event) known.opens

-- this is kept of one process, and of the others what was
pub record Keeps (old new : Known) (pid : ℕ) (fds : Fds) : Type 0 where
  pub here : (p : ℕ) → is_same pid p ≡ true → fds_at new p ≡ fds
  pub others : (p : ℕ) → is_same pid p ≡ false → fds_at new p ≡ fds_at old p
  pub opens : new.opens ≡ old.opens

-- this is known of descriptors, and what was opened stays
pub record Becomes (old new : Known) (held : ℕ → ℕ → Option Thing) : Type 0 where
  pub each : (p n : ℕ) → held_at new p n ≡ held p n
  pub opens : new.opens ≡ old.opens

-- a line of an event said this
pub record Hears (old new : Known) (event : Event) (said : Deed) : Type 0 where
  pub opens : (other : Event) → opened_at new other ≡ opened_after (opened_at old) event said other
  pub held : (p n : ℕ) → held_at new p n ≡ held_after (opened_at old) (held_at old) event said p n

-- what is kept is what lines said, newest first
pub record StandsFor (known : Known) (said : List Said) : Type 0 where
  pub opens : (event : Event) → opened_at known event ≡ opened_in said event
  pub held : (p n : ℕ) → held_at known p n ≡ held_in said p n
