-- The table of lives, and what it stands for.
use Rattle.std.specs.Prelude.{◌≡◌, ◌==◌, ℕ, ◌+◌, true, false, List, if◌then◌else◌, Option, None, Some, nat_eq}
use Rattle.std.specs.Map.{lookup}
use Rattle.acts.specs.declared.act.Act.{Act}
use Rattle.acts.specs.declared.look_back.lives.Standing.{Standing}
use Rattle.acts.specs.Lives.{live, linked, awaits, has_parent}
use Rattle.acts.specs.Standing.{standing}
use Rattle.proc_table.specs.declared.life.Life.{Life}
use Rattle.proc_table.specs.declared.life.Seen.{Seen}
use Rattle.proc_table.specs.declared.life.Seen.TheVariants.{Known, Alone, Linked}
use Rattle.proc_table.specs.declared.life.Forked.{Forked}
use Rattle.proc_table.specs.declared.life.Forked.TheVariants.{Nothing, Claimed, Joined, Began}

-- the last life of each pid, and the room for pids that are new
pub record Table : Type 0 where
  pub all : List (ℕ × Life)
  pub spare : ℕ

abbrev pub at : Table → ℕ → Option Life
at table p = lookup (nat_eq p) table.all

-- a pid that is not in the table was never begun
abbrev pub standing_of : Option Life → Standing
standing_of None = record { beginnings = 0; live = false; awaits = None; linked = false }
standing_of (Some life) = record { beginnings = life.life + 1; live = life.live; awaits = life.awaits; linked = life.linked }

-- the table says of each pid what the acts say
pub record StandsFor (table : Table) (acts : List Act) : Type 0 where
  pub each : (p : ℕ) → standing_of (at table p) ≡ standing acts p

-- a pid that its parent claims awaits nobody, and is linked
abbrev pub claimed : Standing → Standing
claimed s = record { beginnings = s.beginnings; live = s.live; awaits = None; linked = true }

-- what a see of pid answers after these acts
abbrev pub seen_after : List Act → ℕ → ℕ → Seen
seen_after acts pid ppid = if live acts pid then Known else if has_parent acts pid ppid then Linked else Alone

-- what a fork of child by pid answers after these acts
abbrev pub forked_after : List Act → ℕ → ℕ → Forked
forked_after acts pid child =
    if child == pid then Nothing else if awaits acts child pid then (if linked acts child then Claimed else Joined) else Began
