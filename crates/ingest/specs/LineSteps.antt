-- How the reader of lines goes on from whatever history it stood for.
use Rattle.std.specs.Prelude.{◌≡◌, ℕ, List, [], ◌++◌, ◌∷◌, Some, None}
use Rattle.flow_base.specs.declared.limits.Limits.{Limits}
use Rattle.audit_lex.specs.History.{History, Settle, with_bytes, lines_of, tail_of}
use Rattle.audit_lex.specs.LineCut.{Cutter, StandsFor as CutStandsFor}
use Rattle.audit_lex.specs.declared.tally.Tally.{Tally}
use Rattle.audit_record.specs.declared.types.Record.{Record}
use Rattle.ingest.specs.Counting.{tally_of_lines}
use Rattle.ingest.specs.LineRecords.{record_of}
use Rattle.ingest.specs.Parts.{Reader}
use Rattle.ingest.specs.StandsFor.{ReaderStandsFor}

-- it holds these bytes, which have no line feed, after what it held
abbrev pub HoldsMore : List ℕ → (old new : Reader) → Type 0
HoldsMore part old new = (limits : Limits) (h : History)
    → ReaderStandsFor limits old h → ReaderStandsFor limits new (with_bytes h part)

-- a line has ended with these bytes and a line feed, if it spells a record
abbrev pub EndsUsed : List ℕ → (old new : Reader) → Type 0
EndsUsed part old new = (limits : Limits) (h : History) (item : Record)
    → ReaderStandsFor limits old h → record_of limits.line (tail_of h ++ part) ≡ Some item
    → ReaderStandsFor limits new (with_bytes h (part ++ 10 ∷ []))

-- a line has ended with these bytes and a line feed, if it spells no record
abbrev pub EndsOther : List ℕ → (old new : Reader) → Type 0
EndsOther part old new = (limits : Limits) (h : History)
    → ReaderStandsFor limits old h → record_of limits.line (tail_of h ++ part) ≡ None
    → ReaderStandsFor limits new (with_bytes h (part ++ 10 ∷ []))

-- a settle has ended the last line, if the line spells a record
abbrev pub SettlesUsed : (old new : Reader) → Type 0
SettlesUsed old new = (limits : Limits) (h : History) (item : Record)
    → ReaderStandsFor limits old h → record_of limits.line (tail_of h) ≡ Some item
    → ReaderStandsFor limits new (h ++ Settle ∷ [])

-- a settle has ended the last line, if the line spells no record
abbrev pub SettlesOther : (old new : Reader) → Type 0
SettlesOther old new = (limits : Limits) (h : History)
    → ReaderStandsFor limits old h → record_of limits.line (tail_of h) ≡ None
    → ReaderStandsFor limits new (h ++ Settle ∷ [])

-- the line that ends with these bytes is counted
abbrev pub CountsOne : Limits → Cutter → List ℕ → (old new : Tally) → Type 0
CountsOne limits cut part old new = (h : History)
    → CutStandsFor cut h → cut.limit ≡ limits.line → old ≡ tally_of_lines limits (lines_of h)
    → new ≡ tally_of_lines limits (lines_of h ++ (tail_of h ++ part) ∷ [])
