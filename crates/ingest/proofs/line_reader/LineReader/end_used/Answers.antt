use Rattle.std.proofs.Common.{◌+◌, ◌++◌, refl, arith, length}
use Rattle.audit_lex.specs.History.{tail_of, lines_of}
use Rattle.ingest.proofs.Reading.{used_class}
use Rattle.ingest.proofs.ReaderSteps.{next_so, ends_line, reader_at, two_so, fits_so, room_fed, within_fed, stands_fed, own_tally, own_reads}
use Rattle.ingest.proofs.Tallying.{used_more}
use Rattle.ingest.proofs.line_reader.LineReader.end_used.Goals as goal

pub overflow_add-self : goal.overflow_add-self
overflow_add-self c =
    let room = room_fed _ _ _ _ c.args.part.now c.self.invariant (fits_so _ _ (length c.args.part.now + 1) c.self.view_is c.requires.room) in
    omega (arith, room.counted)

pub end_line-requires : goal.end_line-requires
end_line-requires c =
    let room = room_fed _ _ _ _ c.args.part.now c.self.invariant (fits_so _ _ (length c.args.part.now + 1) c.self.view_is c.requires.room) in
    omega (arith, room.lines)

pub invariant_of-self : goal.invariant_of-self
invariant_of-self c =
    within_fed _ _ _ _ _ _ c.args.part.now c.self.invariant (fits_so _ _ (length c.args.part.now + 1) c.self.view_is c.requires.room) (next_so c.self.inside.limits c.self.inside.cut c.end_line.new.self c.self.invariant.line c.end_line.ensures) (omega arith) c.self.invariant.listed

pub returns-clause-stands : goal.returns-clause-stands
returns-clause-stands c = λ limits h item stands reads.
    let own = reader_at limits _ _ h c.self.view_is stands in
    let text = tail_of h ++ c.args.part.now in
    let used = used_class c.self.inside.limits.line text item (own_reads limits _ h own _ text reads) in
    stands_fed limits _ _ h c.args.part.now own c.requires.no_feed refl (next_so c.self.inside.limits c.self.inside.cut c.end_line.new.self c.self.invariant.line c.end_line.ensures)
    (used_more c.self.inside.limits c.self.inside.tally (lines_of h) text item.key used.0 (own_tally limits _ h own) used.1)
    refl

pub returns-clause-lines : goal.returns-clause-lines
returns-clause-lines c =
    let fits = fits_so _ _ (length c.args.part.now + 1) c.self.view_is c.requires.room in
    let room = room_fed _ _ _ _ c.args.part.now c.self.invariant fits in
    let two = two_so _ _ (length c.args.part.now) c.self.view_is c.requires.two in
    ends_line _ _ _ _ c.self.view_is (next_so c.self.inside.limits c.self.inside.cut c.end_line.new.self c.self.invariant.line c.end_line.ensures) room.lines (omega (arith, two)) (omega (arith, fits, c.self.invariant.input))
