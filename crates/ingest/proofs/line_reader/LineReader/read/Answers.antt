use Rattle.std.proofs.Common.{◌≡◌, ◌≢◌, ◌≤◌, ◌+◌, ◌++◌, ◌∙◌, sym, ap, refl, subst, List, [], ℕ, Bool, false, length, length-append, arith, None, Ok, Err, Result, if◌then◌else◌}
use Rattle.std.specs.Prelude.{IfOk}
use Rattle.flow_base.specs.declared.limits.Limits.{Limits}
use Rattle.audit_lex.specs.History.{History, tail_of}
use Rattle.audit_lex.specs.LineCut.{Cutter, StandsFor as CutStandsFor}
use Rattle.audit_record.specs.Reading.{GivesEntry}
use Rattle.audit_record.specs.declared.types.Read.{Read}
use Rattle.audit_record.specs.declared.types.Read.TheVariants as read
use Rattle.audit_record.specs.declared.types.Record.{Record}
use Rattle.ingest.specs.Entries.{IsGiven}
use Rattle.ingest.specs.LineRecords.{record_of}
use Rattle.ingest.specs.Parts.{Reader}
use Rattle.ingest.specs.StandsFor.{ReaderStandsFor}
use Rattle.ingest.proofs.Reading.{entry_given, empty_given}
use Rattle.ingest.proofs.KeyTimes.{record_text}
use Rattle.ingest.proofs.ReaderSteps.{reader_at, two_seen}
use Rattle.ingest.proofs.line_reader.LineReader.read.Goals as goal

-- a tail that isn't too long is held whole
held_whole : (cut : Cutter) (h : History) → CutStandsFor cut h → cut.long ≡ false → cut.tail ≡ tail_of h
held_whole cut h stands short = stands.rest ∙ ap (λ (long : Bool). if long then [] else tail_of h) (sym stands.over ∙ short)

then_ok : {T E : Type 0} (r : Result T E) (P Q : T → Type 0) → ((t : T) → P t → Q t) → IfOk r P → IfOk r Q
then_ok (Ok t) P Q more p = more t p
then_ok (Err e) P Q more p = p

two_given : (limit : ℕ) (line : List ℕ) (given : Read) (item : Record) → GivesEntry limit line given item → given ≢ read.Unused → 2 ≤ length line
two_given limit line read.Unused item gives some = absurd (some refl)
two_given limit line read.Record item gives some =
    let made = entry_given limit line read.Record item gives in record_text limit line made.made made.spelled
two_given limit line (read.End key) item gives some =
    let made = entry_given limit line (read.End key) item gives in record_text limit line made.made made.spelled

module _ (reader : Reader) (part line : List ℕ) (short : reader.cut.long ≡ false) (text : line ≡ reader.cut.tail ++ part) where
  -- the line that was read is the one that ends
  same_line : (limits : Limits) (h : History) → ReaderStandsFor limits reader h → record_of reader.limits.line line ≡ record_of limits.line (tail_of h ++ part)
  same_line limits h own =
      let whole : reader.cut.tail ≡ tail_of h = held_whole reader.cut h own.cut short in
      let here : line ≡ tail_of h ++ part = text ∙ ap (λ (tail : List ℕ). tail ++ part) whole in
      ap (record_of reader.limits.line) here ∙ ap (λ (l : Limits). record_of l.line (tail_of h ++ part)) own.limits_are

  reads_so : (given : Read) (item : Record) → GivesEntry reader.limits.line line given item → (limits : Limits) (h : History) → ReaderStandsFor limits reader h
      → IsGiven given item (record_of limits.line (tail_of h ++ part))
  reads_so given item gives limits h own = subst (IsGiven given item) (same_line limits h own) (entry_given reader.limits.line line given item gives)

  empty_so : line ≡ [] → (limits : Limits) (h : History) → ReaderStandsFor limits reader h → record_of limits.line (tail_of h ++ part) ≡ None
  empty_so none limits h own = sym (same_line limits h own) ∙ empty_given reader.limits.line line none

  two_so : (given : Read) (item : Record) → GivesEntry reader.limits.line line given item → given ≢ read.Unused → 2 ≤ length reader.cut.tail + length part
  two_so given item gives some =
      let two = two_given reader.limits.line line given item gives some in
      omega (arith, two, ap length text, length-append reader.cut.tail part)

pub returns-clause-reads : goal.returns-clause-reads
returns-clause-reads c =
    let reader : Reader = record { limits = c.self.inside.limits; cut = c.self.inside.cut; tally = c.self.inside.tally; bytes = c.self.inside.bytes } in
    then_ok c.read_line.result _ _ (λ given gives limits h stands.
    reads_so reader c.args.part.now c.text_of_line-line.result.now (sym c.if-long.ensures) c.text_of_line-line.ensures given c.read_line.new.item gives limits h
    (reader_at limits _ _ h c.self.view_is stands)) c.read_line.ensures

pub returns-clause-two : goal.returns-clause-two
returns-clause-two c =
    let reader : Reader = record { limits = c.self.inside.limits; cut = c.self.inside.cut; tally = c.self.inside.tally; bytes = c.self.inside.bytes } in
    then_ok c.read_line.result _ _ (λ given gives some.
    two_seen _ _ (length c.args.part.now) c.self.view_is
    (two_so reader c.args.part.now c.text_of_line-line.result.now (sym c.if-long.ensures) c.text_of_line-line.ensures given c.read_line.new.item gives some)) c.read_line.ensures
