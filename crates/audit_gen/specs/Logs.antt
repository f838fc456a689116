-- Generated logs: each event by a word of a generator.
use Rattle.std.specs.Prelude.{ℕ, ◌+◌, ◌/◌, ◌%◌, List, ◌++◌, ◌==◌, if◌then◌else◌}
use Rattle.std.specs.List.{flat_map, range_with_len}
use Rattle.rand_pcg.specs.Lcg.{Lcg, advance, increment_of, started}
use Rattle.rand_pcg.specs.Pcg.{multiplier_64, pcg32}
use Rattle.audit_gen.specs.Lines.{call_line, end_line, file_line, stamp_text}
use Rattle.audit_gen.specs.declared.deeds.Deed.{Deed}
use Rattle.audit_gen.specs.declared.deeds.Deed.TheVariants as deed

-- the generator that begins with a 64-bit seed, on stream 1
abbrev pub generator_of : ℕ → Lcg
generator_of seed = started 64 multiplier_64 seed (increment_of 64 1)

-- the word that a generator gives after this many others
abbrev pub word_after : ℕ → Lcg → ℕ
word_after count generator = (pcg32 (advance 64 multiplier_64 count generator)).0

-- the process of an event, by the low four bits of its word
abbrev pub pid_of : ℕ → ℕ
pid_of word = 100 + word % 16

-- what it does, by the next two bits, and to which file or with which child, by the bits above those
abbrev pub deed_of : ℕ → Deed
deed_of word =
    let kind = word / 16 % 4 in
    let file = 1 + word / 64 % 32 in
    let child = 100 + word / 64 % 16 in
    if kind == 1 then deed.Exec file else if kind == 3 then deed.Fork child else deed.Alter file

-- the lines of what a process does: chmod is call 90, execve 59, fork 57
abbrev pub lines_of : List ℕ → ℕ → Deed → List ℕ
lines_of stamp pid (deed.Alter file) = call_line stamp 90 pid 0 ++ (file_line stamp file ++ end_line stamp)
lines_of stamp pid (deed.Exec file) = call_line stamp 59 pid 0 ++ (file_line stamp file ++ end_line stamp)
lines_of stamp pid (deed.Fork child) = call_line stamp 57 pid child ++ end_line stamp

-- an event by its number, from 0 on, and its word: a thousand seconds after the epoch and a millisecond for each event
-- before it, with serial numbers from 1 on
abbrev pub event_text : ℕ → ℕ → List ℕ
event_text number word = lines_of (stamp_text (1000000 + number) (number + 1)) (pid_of word) (deed_of word)

-- the log of this many events by a 64-bit seed, a word of its generator for each event
abbrev pub generated : ℕ → ℕ → List ℕ
generated seed events =
    flat_map (λ number. event_text number (word_after number (generator_of seed))) (range_with_len 0 events)
