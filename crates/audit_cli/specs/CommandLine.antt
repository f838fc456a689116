-- The command line as one simple command.
use Rattle.std.specs.Prelude.{◌≡◌, ◌≢◌, ⊤, ℕ, List, [], Bool, true, false, Option, None, Some, codes, unwrap_or}
use Rattle.std.specs.Str.{bytes_eq}
use Rattle.clap.specs.Lexer.{usize_max}
use Rattle.clap.specs.Words.{App, Row, Rule, all_of, fault_of, first_of, matches_of, new_app, new_rule, with_rule}
use Rattle.clap.specs.Simple.{on_top}
use Rattle.clap.specs.declared.builder.action.ArgAction.TheVariants.{Append, Set, SetTrue}
use Rattle.clap.specs.declared.error.kind.ErrorKind.{ErrorKind}
use Rattle.clap.specs.declared.error.kind.ErrorKind.TheVariants as kind
use Rattle.audit_cli.specs.declared.words.WordsFault.{WordsFault}
use Rattle.audit_cli.specs.declared.words.WordsFault.TheVariants as fault

-- the name of the command, which is handed to it before the words
abbrev pub own_name : List ℕ
own_name = codes "audit_cli"

-- the job's name, which must be there
abbrev pub job_rule : Rule
job_rule = record (new_rule (codes "JOB")) { required = true; action = Some Set }

-- any number of words after it
abbrev pub words_rule : Rule
words_rule = record (new_rule (codes "WORDS")) {
  action = Some Append;
  range = Some (record { start_inclusive = 0; end_inclusive = usize_max });
}

-- the flag `--resume`
abbrev pub resume_rule : Rule
resume_rule = record (new_rule (codes "resume")) { long = Some (codes "resume"); action = Some SetTrue }

-- the command with no argument, and without the flags that clap adds
abbrev pub bare : App
bare = on_top (λ s. record s { disable_help_flag = true; disable_version_flag = true }) (new_app own_name)

-- the command with the job's name alone
abbrev pub with_job : App
with_job = with_rule bare job_rule

-- the command without its flag
abbrev pub with_words : App
with_words = with_rule with_job words_rule

-- the command
abbrev pub command : App
command = with_rule with_words resume_rule

-- the words after the job's name
abbrev pub words_in : List Row → List (List ℕ)
words_in rows = unwrap_or (all_of (codes "WORDS") rows) []

-- the value of a flag that was given is the text `true`
abbrev pub is_true : Option (List ℕ) → Bool
is_true None = false
is_true (Some text) = bytes_eq text (codes "true")

-- whether `--resume` was given
abbrev pub is_resumed : List Row → Bool
is_resumed rows = is_true (first_of (codes "resume") rows)

-- the command takes the words, and this is what is found in them
pub record Parses (words : List (List ℕ)) (rows : List Row) : Type 0 where
  pub taken : fault_of command words ≡ []
  pub found : rows ≡ matches_of command words

-- bad words are those that the command refuses. If memory ran out nothing is known of the words
abbrev pub Refuses : List (List ℕ) → WordsFault → Type 0
Refuses words fault.BadWords = fault_of command words ≢ []
Refuses words fault.NoMemory = ⊤

-- what a kind of error says of the words
abbrev pub fault_by : ErrorKind → WordsFault
fault_by kind.OutOfMemory = fault.NoMemory
fault_by _ = fault.BadWords
