-- The clock of a log.
--
-- It keeps the greatest time that a line bore, and the greatest one that a line of another serial number bore.
use Rattle.std.specs.Prelude.{ℕ, ◌-◌, ◌==◌, max, nat_lt, nat_le, if◌then◌else◌}
use Rattle.order_place.specs.declared.clock.Clock.{Clock}

-- the greatest time that a line of another serial number bore
abbrev pub others_at : Clock → ℕ → ℕ
others_at clock serial = if serial == clock.serial then clock.second else clock.greatest

-- A clock follows a time that is at most 20 seconds past the greatest time of the other events.
abbrev pub time_after : ℕ → ℕ → ℕ → ℕ
time_after time others ms = if nat_le (ms - 20000) others then max time ms else time

-- the clock after a line of this time and this serial number
abbrev pub clock_after : Clock → ℕ → ℕ → Clock
clock_after clock ms serial =
    let time = time_after clock.time (others_at clock serial) ms in
    if serial == clock.serial then record clock { time = time; greatest = max clock.greatest ms }
    else if nat_lt clock.greatest ms then record { time = time; greatest = ms; serial = serial; second = clock.greatest }
    else record clock { time = time; second = max clock.second ms }
