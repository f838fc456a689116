-- What holds of raised times.
use Rattle.std.specs.Prelude.{◌≡◌, ℕ, ◌==◌, Bool, true, List, Option, max, option_map, not}
use Rattle.std.specs.List.{list_all}
use Rattle.order_text.specs.Stamp.{stamp_of}

-- whether no byte of a text is a line feed
abbrev pub is_one_line : List ℕ → Bool
is_one_line text = list_all (λ byte. not (byte == 10)) text

-- a text without a line feed
abbrev pub IsOneLine : List ℕ → Type 0
IsOneLine text = is_one_line text ≡ true

-- the time of a line in milliseconds, if it bears one
abbrev pub time_in : List ℕ → Option ℕ
time_in line = option_map (λ s. s.ms) (stamp_of line)

-- the serial number of a line, if it bears one
abbrev pub number_in : List ℕ → Option ℕ
number_in line = option_map (λ s. s.number) (stamp_of line)

-- what stands before the stamp of a line, if it bears one: its node and its type
abbrev pub front_in : List ℕ → Option (List ℕ)
front_in line = option_map (λ s. s.front) (stamp_of line)

-- A line as it is written after times up to this one, and what it was: its time is the greater of the two, and its serial
-- number, its node and its type are the same.
pub record StaysAfter (ms : ℕ) (line written : List ℕ) : Type 0 where
  pub time : time_in written ≡ option_map (max ms) (time_in line)
  pub number : number_in written ≡ number_in line
  pub front : front_in written ≡ front_in line
