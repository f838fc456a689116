-- The record that a line spells.
use Rattle.std.specs.Prelude.{◌≡◌, ℕ, List, Option, None, Some, refl}
use Rattle.audit_lex.specs.LineClass.{Class, Used, text_class}
use Rattle.audit_lex.specs.History.{short_text}
use Rattle.audit_record.specs.declared.types.Record.{Record}
use Rattle.audit_record.proofs.SpellingLaws.{used_spells}

-- a used line spells one record, and another line none
abbrev pub record_by : (line : List ℕ) (class : Class) → text_class line ≡ class → Option Record
record_by line (Used key kind) is = Some (used_spells line key (kind, is)).0
record_by line _ is = None

-- the record that a line spells, if it is a used one that isn't longer than a line may be
abbrev pub record_of : ℕ → List ℕ → Option Record
record_of limit line = record_by (short_text limit line) (text_class (short_text limit line)) refl
