-- The job table: what the words of a command line mean.
use Rattle.std.specs.Prelude.{true, false, ◌≡◌, ⊤, ℕ, ◌^◌, nat_lt, nat_le, List, [], ◌∷◌, length, Option, None, Some, codes, ◌&&◌, if◌then◌else◌, option_map}
use Rattle.std.specs.List.{list_all}
use Rattle.std.specs.Option.{option_and_then}
use Rattle.std.specs.Char.{is_ascii_digit}
use Rattle.std.specs.Str.{bytes_eq}
use Rattle.std.specs.Str.Parse.{digits_value}
use Rattle.clap.specs.Kinds.{Kinds}
use Rattle.clap.specs.Words.{Row, fault_of, first_of, matches_of}
use Rattle.reach_model.specs.declared.modes.Mode.{Mode}
use Rattle.reach_model.specs.declared.modes.Mode.TheVariants as mode
use Rattle.audit_cli.specs.declared.words.Job.{Job}
use Rattle.audit_cli.specs.declared.words.Job.TheVariants as job
use Rattle.audit_cli.specs.declared.words.WordsFault.{WordsFault}
use Rattle.audit_cli.specs.declared.words.WordsFault.TheVariants as fault
use Rattle.audit_cli.specs.CommandLine.{command, is_resumed, own_name, words_in}

-- one or more decimal digits with a value of at most this many bits
abbrev pub number_of : (bits : ℕ) → List ℕ → Option ℕ
number_of bits text =
    if list_all is_ascii_digit text && (nat_lt 0 (length text) && nat_lt (digits_value 10 text) (2 ^ bits))
    then Some (digits_value 10 text) else None

-- the number of an object
abbrev pub id_of : List ℕ → Option ℕ
id_of text = number_of 32 text

-- the seed of a generated log
abbrev pub seed_of : List ℕ → Option ℕ
seed_of text = number_of 64 text

-- a trial has from 1 to 200000 events
abbrev pub count_of : List ℕ → Option ℕ
count_of text = option_and_then
    (λ count. if nat_lt 0 count && nat_le count 200000 then Some count else None) (number_of 32 text)

-- `back ID`
abbrev pub back_job : List ℕ → List ℕ → Option Job
back_job word id = if bytes_eq word (codes "back") then option_map (λ of. job.Back of) (id_of id) else None

-- a mode by its name
abbrev pub mode_of : List ℕ → Option Mode
mode_of word =
    if bytes_eq word (codes "plain") then Some mode.Plain
    else if bytes_eq word (codes "continuous") then Some mode.Continuous
    else if bytes_eq word (codes "full") then Some mode.Full
    else if bytes_eq word (codes "source") then Some mode.Source
    else None

-- `query STORE`: a store has a name of at least one byte
abbrev pub query_of : List ℕ → Option Job
query_of store = if nat_lt 0 (length store) then Some (job.Query store) else None

-- `query STORE`, or else `back ID`
abbrev pub one_word_job : List ℕ → List ℕ → Option Job
one_word_job word only = if bytes_eq word (codes "query") then query_of only else back_job word only

-- the one mode in which a job is done that keeps its rows in memory: `back` in plain mode, `watch` in the one that it names. `trial`
-- is done in all of them
abbrev pub mode_for : Job → Option Mode
mode_for (job.Back of) = Some mode.Plain
mode_for (job.Watch kept log) = Some kept
mode_for (job.Trial seed events) = None
mode_for (job.Reduce kept log store resume) = None
mode_for (job.WatchStore kept log store) = None
mode_for (job.Query store) = None

-- a log has a name of at least one byte
abbrev pub watch_of : Option Mode → List ℕ → Option Job
watch_of None log = None
watch_of (Some kept) log = if nat_lt 0 (length log) then Some (job.Watch kept log) else None

-- `watch MODE LOG`
abbrev pub watch_job : List ℕ → List ℕ → List ℕ → Option Job
watch_job word kept log = if bytes_eq word (codes "watch") then watch_of (mode_of kept) log else None

-- a log and a store have names of at least one byte
abbrev pub reduce_of : Option Mode → List ℕ → List ℕ → Option Job
reduce_of None log store = None
reduce_of (Some kept) log store =
    if nat_lt 0 (length log) then (if nat_lt 0 (length store) then Some (job.Reduce kept log store false) else None) else None

abbrev pub watch_store_of : Option Mode → List ℕ → List ℕ → Option Job
watch_store_of None log store = None
watch_store_of (Some kept) log store =
    if nat_lt 0 (length log) then (if nat_lt 0 (length store) then Some (job.WatchStore kept log store) else None) else None

-- `watch MODE LOG STORE`
abbrev pub watch_store_job : List ℕ → List ℕ → List ℕ → List ℕ → Option Job
watch_store_job word kept log store = if bytes_eq word (codes "watch") then watch_store_of (mode_of kept) log store else None

-- `reduce MODE LOG STORE`, or else `watch MODE LOG STORE`
abbrev pub three_word_job : List ℕ → List ℕ → List ℕ → List ℕ → Option Job
three_word_job word kept log store =
    if bytes_eq word (codes "reduce") then reduce_of (mode_of kept) log store else watch_store_job word kept log store

-- a trial needs both of its numbers
abbrev pub trial_of : Option ℕ → Option ℕ → Option Job
trial_of None count = None
trial_of (Some seed) None = None
trial_of (Some seed) (Some count) = Some (job.Trial seed count)

-- `trial SEED EVENTS`, or else `watch MODE LOG`
abbrev pub two_word_job : List ℕ → List ℕ → List ℕ → Option Job
two_word_job word first second =
    if bytes_eq word (codes "trial") then trial_of (seed_of first) (count_of second)
    else watch_job word first second

-- the row of the table that a job's name and the words after it are
abbrev pub row_of : List ℕ → List (List ℕ) → Option Job
row_of name [] = None
row_of name (a ∷ []) = one_word_job name a
row_of name (a ∷ b ∷ []) = two_word_job name a b
row_of name (a ∷ b ∷ c ∷ []) = three_word_job name a b c
row_of name (a ∷ b ∷ c ∷ d ∷ more) = None

-- the same job with `--resume`, which `reduce` alone may have
abbrev pub resumed : Option Job → Option Job
resumed None = None
resumed (Some (job.Back of)) = None
resumed (Some (job.Watch kept log)) = None
resumed (Some (job.WatchStore kept log store)) = None
resumed (Some (job.Trial seed events)) = None
resumed (Some (job.Reduce kept log store resume)) = Some (job.Reduce kept log store true)
resumed (Some (job.Query store)) = None

-- the row without `--resume`
abbrev pub plain_row : List Row → Option Job
plain_row rows = option_and_then (λ name. row_of name (words_in rows)) (first_of (codes "JOB") rows)

-- the row that was parsed
abbrev pub row_in : List Row → Option Job
row_in rows = if is_resumed rows then resumed (plain_row rows) else plain_row rows

-- what is parsed, if the command refuses the words by none of these faults
abbrev pub row_by : Kinds → List Row → Option Job
row_by [] rows = row_in rows
row_by (fault ∷ more) rows = None

-- the job of the words, if the command takes them and they are a row of the table
abbrev pub job_of : List (List ℕ) → Option Job
job_of words = row_by (fault_of command (own_name ∷ words)) (matches_of command (own_name ∷ words))

-- bad words name no job. If memory ran out nothing is known of the words
abbrev pub RefusesWords : Option Job → WordsFault → Type 0
RefusesWords found fault.BadWords = found ≡ None
RefusesWords found fault.NoMemory = ⊤

-- the job keeps its rows in memory
abbrev pub IsInMemory : Job → Type 0
IsInMemory (job.Back of) = ⊤
IsInMemory (job.Watch kept log) = ⊤
IsInMemory (job.Trial seed events) = ⊤
IsInMemory (job.Reduce kept log store resume) = ⊥
IsInMemory (job.WatchStore kept log store) = ⊥
IsInMemory (job.Query store) = ⊥
