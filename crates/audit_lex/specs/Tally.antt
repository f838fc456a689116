-- What is counted of lines: how many there are of each class, and which malformed ones come first.
use Rattle.std.specs.Prelude.{ℕ, ◌+◌, Bool, true, false, List, [], ◌∷◌, ◌++◌, length, take, nat_lt, if◌then◌else◌, count_by, flat_map}
use Rattle.flow_base.specs.declared.types.Bad.{Bad}
use Rattle.audit_lex.specs.LineClass.{Class, Used, Other, Blank, Malformed}
use Rattle.audit_lex.specs.declared.faults.LineFault.{LineFault}
use Rattle.audit_lex.specs.declared.faults.LineFault.TheVariants as fault
use Rattle.audit_lex.specs.declared.tally.Tally.{Tally}

-- the number of a fault
abbrev pub fault_number : LineFault → ℕ
fault_number fault.TooLong = 1
fault_number fault.Header = 2
fault_number (fault.Missing field) = 3
fault_number (fault.Number field) = 4
fault_number (fault.Text field) = 5

-- a line, by its number and its class
pub record Classed : Type 0 where
  pub number : ℕ
  pub class : Class

-- no lines are counted
abbrev pub nothing_counted : Tally
nothing_counted = record { used = 0; other = 0; blank = 0; malformed = 0; bad = [] }

-- a malformed line is listed while fewer than `shown` are
abbrev pub listed : ℕ → List Bad → Bad → List Bad
listed shown bad line = if nat_lt (length bad) shown then bad ++ line ∷ [] else bad

-- one more line of this number and class is counted
abbrev pub class_counted : ℕ → Tally → ℕ → Class → Tally
class_counted shown tally number (Used key kind) = record tally { used = tally.used + 1 }
class_counted shown tally number Other = record tally { other = tally.other + 1 }
class_counted shown tally number Blank = record tally { blank = tally.blank + 1 }
class_counted shown tally number (Malformed f) =
    record tally { malformed = tally.malformed + 1; bad = listed shown tally.bad (record { line = number; fault = fault_number f }) }

-- one more line is counted
abbrev pub one_counted : ℕ → Tally → Classed → Tally
one_counted shown tally line = class_counted shown tally line.number line.class

-- a used line
abbrev pub is_used : Class → Bool
is_used (Used key kind) = true
is_used _ = false

-- a line of a type that isn't read
abbrev pub is_other : Class → Bool
is_other Other = true
is_other _ = false

-- a blank line
abbrev pub is_blank : Class → Bool
is_blank Blank = true
is_blank _ = false

-- a malformed line
abbrev pub is_malformed : Class → Bool
is_malformed (Malformed f) = true
is_malformed _ = false

-- a line as it is listed, if it is malformed
abbrev pub bad_of : ℕ → Class → List Bad
bad_of number (Malformed f) = record { line = number; fault = fault_number f } ∷ []
bad_of number _ = []

-- the counts of a list of lines
abbrev pub tally_of : ℕ → List Classed → Tally
tally_of shown lines = record {
  used = count_by (λ line. is_used line.class) lines;
  other = count_by (λ line. is_other line.class) lines;
  blank = count_by (λ line. is_blank line.class) lines;
  malformed = count_by (λ line. is_malformed line.class) lines;
  bad = take shown (flat_map (λ line. bad_of line.number line.class) lines);
}
