-- How lines are written: with times that never fall, and rewritten by rules.
use Rattle.std.specs.Prelude.{◌≡◌, ℕ, true, List, [], ◌∷◌, ◌++◌, map, reverse, Option, None, Some, nat_lt, codes, if◌then◌else◌}
use Rattle.order_text.specs.Stamp.{Stamp, stamp_of}
use Rattle.order_text.specs.Undo.{written_after}
use Rattle.order_text.specs.declared.rewrite.Rewrite.{Rewrite}
use Rattle.order_lines.specs.Rules.{change_of, or_else}
use Rattle.order_lines.specs.Answers.{with_answer}
use Rattle.order_lines.specs.declared.rules.Settings as alone
use Rattle.order_place.specs.Places.{read_with}
use Rattle.order_rules.specs.Rules.{rewrite_of, lacks_of}
use Rattle.order_rules.specs.declared.settings.Settings as rules
use Rattle.audit_order.specs.declared.switches.Switches.{Switches}

-- the greatest time that lines bear, as a text and in milliseconds
pub record Latest : Type 0 where
  pub time : List ℕ
  pub ms : ℕ

-- the greatest time after a line of this stamp too
abbrev pub later_of : Latest → Option Stamp → Latest
later_of t None = t
later_of t (Some s) = if nat_lt t.ms s.ms then record { time = s.time; ms = s.ms } else t

-- no line bears a time
abbrev pub no_time : Latest
no_time = record { time = codes "0.000"; ms = 0 }

-- the greatest time that lines bear, the newest of which stands first
abbrev pub latest : List (List ℕ) → Latest
latest [] = no_time
latest (line ∷ before) = later_of (latest before) (stamp_of line)

-- which rules hold that look at one line alone, and which that look at the lines before it too
abbrev pub alone_of : Switches → alone.Settings
alone_of switches = record { join = switches.join; compat = switches.compat }

abbrev pub rules_of : Switches → rules.Settings
rules_of switches = record { names = switches.names; own = switches.own; join = switches.join; apart = switches.apart }

-- how a line of this stamp is rewritten by what it says alone
abbrev pub change_alone : Switches → Option Stamp → Option Rewrite
change_alone switches None = None
change_alone switches (Some s) = change_of (alone_of switches) s

-- ---- lines with what is told of them

-- a line that is to be written, and the child that its fork has begun, if one is told
pub record Told : Type 0 where
  pub line : List ℕ
  pub child : Option ℕ

-- no child is told of a line
abbrev pub untold : List ℕ → Told
untold line = record { line = line; child = None }

abbrev pub line_in : Told → List ℕ
line_in told = told.line

-- lines without what is told of them
abbrev pub lines_in : List Told → List (List ℕ)
lines_in told = map line_in told

-- how a line of this stamp is rewritten if such a child is told, beside another rewrite: the fork has its number as its answer
abbrev pub answered : Option ℕ → Option Stamp → Option Rewrite → Option Rewrite
answered None found change = change
answered (Some child) None change = change
answered (Some child) (Some s) change = with_answer s.rest child change

-- a line of this stamp with that answer, and without a mark
abbrev pub seen_with : List ℕ → Option ℕ → Option Stamp → List ℕ
seen_with line None found = line
seen_with line (Some child) None = line
seen_with line (Some child) (Some s) = read_with s line (with_answer s.rest child None)

-- a line as the rules see it that look at the lines before it too
abbrev pub seen_as : Told → List ℕ
seen_as told = seen_with told.line told.child (stamp_of told.line)

abbrev pub seen_in : List Told → List (List ℕ)
seen_in told = map seen_as told

-- how a line is rewritten by what it says alone, or else by what these lines said before it, newest first; and by the child that is
-- told
abbrev pub change_by : Switches → rules.Settings → List (List ℕ) → Told → Option Rewrite
change_by switches settings before told =
    answered told.child (stamp_of told.line) (or_else (change_alone switches (stamp_of told.line)) (rewrite_of settings before (seen_as told)))

abbrev pub change_after : Switches → List Told → Told → Option Rewrite
change_after switches before told = change_by switches (rules_of switches) (seen_in before) told

-- a line as it is written after these, the newest of which stands first
abbrev pub shown : Switches → List Told → Told → List ℕ
shown switches before told =
    written_after (latest (lines_in before)).time (latest (lines_in before)).ms told.line (change_after switches before told)

-- a line stands among these, and after those before it the rules said that it was lacking
pub record WasLacking (switches : Switches) (lines : List Told) (line : List ℕ) : Type 0 where
  pub before : List Told
  pub after : List Told
  pub is : lines ≡ before ++ untold line ∷ after
  pub lacks : true ≡ lacks_of (rules_of switches) (seen_in (reverse before)) line

-- lines as they are written one after the other, after these, the newest of which stands first
abbrev pub shown_after : Switches → List Told → List Told → List (List ℕ)
shown_after switches before [] = []
shown_after switches before (told ∷ more) = shown switches before told ∷ shown_after switches (told ∷ before) more
