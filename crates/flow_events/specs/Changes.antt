-- What a change of descriptors does.
use Rattle.std.specs.Prelude.{◌≡◌, ◌==◌, ◌||◌, ℕ, if◌then◌else◌, Option, None, Some}
use Rattle.acts.specs.declared.held.Held.{Held}
use Rattle.acts.specs.declared.held.Object.TheVariants.{Pipe}
use Rattle.acts.specs.Holding.{is_at, marked, unless_marked}
use Rattle.fd_table.specs.Table.{Table as Fds, held_at}
use Rattle.flow_events.specs.declared.change.Change.{Change}
use Rattle.flow_events.specs.declared.change.Change.TheVariants.{Nothing, Set, Pair, Close, Mark, Exec, Clear, Share}

-- what descriptor n of p holds after the change, if before it descriptors held what `held` says
abbrev pub changed : Change → (ℕ → ℕ → Option Held) → ℕ → ℕ → Option Held
changed Nothing held p n = held p n
changed (Set pid fd what) held p n = if is_at pid fd p n then Some what else held p n
changed (Pair pid first second act cloexec) held p n =
    if is_at pid first p n || is_at pid second p n then Some (record { object = Pipe act; cloexec = cloexec }) else held p n
changed (Close pid fd) held p n = if is_at pid fd p n then None else held p n
changed (Mark pid fd cloexec) held p n = if is_at pid fd p n then marked cloexec (held p n) else held p n
changed (Exec pid) held p n = if pid == p then unless_marked (held p n) else held p n
changed (Clear pid) held p n = if pid == p then None else held p n
changed (Share pid parent) held p n = if pid == p then held parent n else held p n

-- how many changes of the table it may take
abbrev pub need : Change → ℕ
need (Set pid fd what) = 1
need (Pair pid first second act cloexec) = 2
need (Close pid fd) = 1
need (Mark pid fd cloexec) = 1
need (Share pid parent) = 1
need other = 0

-- both descriptors of the pid hold this, and the others what they held
abbrev pub SetsBoth : Fds → Fds → ℕ → ℕ → ℕ → Held → Type 0
SetsBoth old new pid first second held =
    (p n : ℕ) → held_at new p n ≡ (if is_at pid first p n || is_at pid second p n then Some held else held_at old p n)
