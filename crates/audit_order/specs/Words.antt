-- The words of the program.
--
-- `--undo` alone, or `--no-join`, `--shared-connections`, `--no-names`, `--no-compat`, `--no-descriptors`, `--report`,
-- `--window SECONDS` and `--memory MB`, each of which may be left out, in this order.
use Rattle.std.specs.Prelude.{ℕ, ◌*◌, Bool, true, false, List, [], ◌∷◌, Option, None, Some, codes, not, option_map, if◌then◌else◌}
use Rattle.std.specs.Option.{option_and_then}
use Rattle.std.specs.Str.{bytes_eq}
use Rattle.audit_lex.specs.Values.{dec32_of}
use Rattle.audit_order.specs.declared.switches.Switches.{Switches}
use Rattle.audit_order.specs.declared.bounds.Bounds.{Bounds}
use Rattle.audit_order.specs.declared.words.Job.{Job}
use Rattle.audit_order.specs.declared.words.Job.TheVariants as job

-- words
abbrev pub Words : Type 0
Words = List (List ℕ)

-- whether a word is this one
abbrev pub is_word : List ℕ → List ℕ → Bool
is_word word text = bytes_eq word text

-- the number that the first word spells, and the words after that
abbrev pub number_first : Words → Option (ℕ × Words)
number_first [] = None
number_first (word ∷ rest) = option_map (λ n. (n, rest)) (dec32_of word)

-- the number after a switch, if the words begin with the switch, else the usual one; and the words after that
abbrev pub switch_value : List ℕ → ℕ → Words → Option (ℕ × Words)
switch_value name usual [] = Some (usual, [])
switch_value name usual (word ∷ rest) = if is_word word name then number_first rest else Some (usual, word ∷ rest)

-- bounds of this many seconds and this many units of 2^20 bytes
abbrev pub bounds_of : ℕ → ℕ → Bounds
bounds_of seconds megabytes = record { window = seconds * 1000; memory = megabytes * 1048576 }

-- a job that orders, if no words are left
abbrev pub at_end : Switches → Bool → ℕ → ℕ × Words → Option Job
at_end switches report seconds (megabytes, []) = Some (job.Order (bounds_of seconds megabytes) switches report)
at_end switches report seconds (megabytes, word ∷ rest) = None

-- a job that orders, by the words from the switch of the memory on, which is 64 MiB without it
abbrev pub with_memory : Switches → Bool → ℕ × Words → Option Job
with_memory switches report found = option_and_then (at_end switches report found.0) (switch_value (codes "--memory") 64 found.1)

-- a job that orders, by the words from the switch of the window on, which is 20 seconds without it
abbrev pub with_window : Switches → Bool → Words → Option Job
with_window switches report words = option_and_then (with_memory switches report) (switch_value (codes "--window") 20 words)

-- whether the words ask that a log is undone
abbrev pub is_undo : Words → Bool
is_undo [] = false
is_undo (word ∷ []) = is_word word (codes "--undo")
is_undo (word ∷ other ∷ rest) = false

-- whether the words begin with this one, and the words after it
abbrev pub has_word : List ℕ → Words → Bool × Words
has_word name [] = (false, [])
has_word name (word ∷ rest) = if is_word word name then (true, rest) else (false, word ∷ rest)

-- a job that orders and makes these rewrites, by the words from the report on
abbrev pub with_report : Switches → Bool × Words → Option Job
with_report switches found = with_window switches found.0 found.1

-- a job that orders, by what the words leave out, and the words from the next switch on
abbrev pub with_own : Bool → Bool → Bool → Bool → Bool × Words → Option Job
with_own no_join shared no_names no_compat found =
    with_report (record { join = not no_join; apart = not shared; names = not no_names; own = not found.0; compat = not no_compat })
    (has_word (codes "--report") found.1)

abbrev pub with_compat : Bool → Bool → Bool → Bool × Words → Option Job
with_compat no_join shared no_names found = with_own no_join shared no_names found.0 (has_word (codes "--no-descriptors") found.1)

abbrev pub with_names : Bool → Bool → Bool × Words → Option Job
with_names no_join shared found = with_compat no_join shared found.0 (has_word (codes "--no-compat") found.1)

abbrev pub with_shared : Bool → Bool × Words → Option Job
with_shared no_join found = with_names no_join found.0 (has_word (codes "--no-names") found.1)

abbrev pub with_join : Bool × Words → Option Job
with_join found = with_shared found.0 (has_word (codes "--shared-connections") found.1)

-- a job that orders
abbrev pub order_of : Words → Option Job
order_of words = with_join (has_word (codes "--no-join") words)

-- the job that the words name
abbrev pub job_of : Words → Option Job
job_of words = if is_undo words then Some job.Undo else order_of words
