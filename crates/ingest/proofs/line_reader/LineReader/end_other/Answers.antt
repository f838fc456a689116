use Rattle.std.proofs.Common.{◌+◌, arith, refl, length}
use Rattle.ingest.proofs.ReaderSteps.{next_so, keeps_line, reader_at, fits_so, room_fed, within_fed, stands_fed, own_tally, own_line}
use Rattle.ingest.proofs.line_reader.LineReader.end_other.Goals as goal

pub count_line-requires-clause-lines : goal.count_line-requires-clause-lines
count_line-requires-clause-lines c =
    (room_fed _ _ _ _ c.args.part.now c.self.invariant (fits_so _ _ (length c.args.part.now + 1) c.self.view_is c.requires.room)).lines

pub count_line-requires-clause-room : goal.count_line-requires-clause-room
count_line-requires-clause-room c =
    (room_fed _ _ _ _ c.args.part.now c.self.invariant (fits_so _ _ (length c.args.part.now + 1) c.self.view_is c.requires.room)).counted

pub end_line-requires : goal.end_line-requires
end_line-requires c =
    let room = room_fed _ _ _ _ c.args.part.now c.self.invariant (fits_so _ _ (length c.args.part.now + 1) c.self.view_is c.requires.room) in
    omega (arith, room.lines)

pub invariant_of-self-2 : goal.invariant_of-self-2
invariant_of-self-2 c =
    within_fed _ _ _ _ _ _ c.args.part.now c.self.invariant (fits_so _ _ (length c.args.part.now + 1) c.self.view_is c.requires.room) (next_so c.self.inside.limits c.self.inside.cut c.end_line.new.self c.self.invariant.line c.end_line.ensures) c.in_ok-count_line.ensures.one
    (c.in_ok-count_line.ensures.listed c.self.invariant.listed)

pub returns-clause-stands : goal.returns-clause-stands
returns-clause-stands c = λ limits h stands reads.
    let own = reader_at limits _ _ h c.self.view_is stands in
    stands_fed limits _ _ h c.args.part.now own c.requires.no_feed refl (next_so c.self.inside.limits c.self.inside.cut c.end_line.new.self c.self.invariant.line c.end_line.ensures)
    (c.in_ok-count_line.ensures.counted h own.cut (own_line limits _ h own) (own_tally limits _ h own))
    refl

pub returns-clause-lines : goal.returns-clause-lines
returns-clause-lines c =
    let fits = fits_so _ _ (length c.args.part.now + 1) c.self.view_is c.requires.room in
    let room = room_fed _ _ _ _ c.args.part.now c.self.invariant fits in
    keeps_line _ _ _ _ c.self.view_is (next_so c.self.inside.limits c.self.inside.cut c.end_line.new.self c.self.invariant.line c.end_line.ensures) room.lines (omega arith) (omega (arith, fits, c.self.invariant.input))
