-- A first commit, after one see of a process whose parent wasn't seen.
use Rattle.std.specs.Prelude.{true, false, [], ◌∷◌, Some, None}
use Rattle.acts.specs.declared.act.Act.TheVariants.{See}
use Rattle.acts.specs.declared.act.Taken.{Taken}
use Rattle.proc_table.specs.declared.life.Life.{Life as ALife}
use Rattle.stored.specs.Moment.{Moment, nothing, state_at}
use Rattle.stored.specs.Batch.{Batch}

-- pid 100 is seen, with a parent that wasn't
abbrev pub first_see : Taken
first_see = record { act = See 100 1 None; ms = 1000; serial = 1 }

-- the moment after it
abbrev pub seen : Moment
seen = record nothing { taken = first_see ∷ []; events = 1 }

-- its life awaits the parent
abbrev pub first_life : ALife
first_life = record { life = 0; live = true; awaits = Some 1; linked = false }

-- one Life row, and the State
abbrev pub first_batch : Batch
first_batch = record { entities = []; kept = []; extends = []; names = []; lives = (100, first_life) ∷ []; held = []; addresses = []; births = []; waiting = []; state = state_at seen }
