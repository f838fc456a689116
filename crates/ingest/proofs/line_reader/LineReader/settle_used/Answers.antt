use Rattle.std.proofs.Common.{refl, arith}
use Rattle.audit_lex.specs.History.{tail_of, lines_of}
use Rattle.ingest.proofs.Reading.{used_class}
use Rattle.ingest.proofs.ReaderSteps.{next_so, ends_line, reader_at, two_so, two_begin, begun_own, begun_so, room_settled, within_settled, stands_settled, own_tally, own_reads}
use Rattle.ingest.proofs.Tallying.{used_more}
use Rattle.ingest.proofs.line_reader.LineReader.settle_used.Goals as goal

pub overflow_add-self : goal.overflow_add-self
overflow_add-self c = omega (arith, (room_settled _ _ _ _ c.self.invariant (begun_own _ _ c.self.view_is (two_begin _ c.requires.two))).counted)

pub end_line-requires : goal.end_line-requires
end_line-requires c = omega (arith, (room_settled _ _ _ _ c.self.invariant (begun_own _ _ c.self.view_is (two_begin _ c.requires.two))).lines)

pub invariant_of-self : goal.invariant_of-self
invariant_of-self c = within_settled _ _ _ _ _ _ c.self.invariant (begun_own _ _ c.self.view_is (two_begin _ c.requires.two)) (next_so c.self.inside.limits c.self.inside.cut c.end_line.new.self c.self.invariant.line c.end_line.ensures) (omega arith) c.self.invariant.listed

pub returns-clause-stands : goal.returns-clause-stands
returns-clause-stands c = λ limits h item stands reads.
    let own = reader_at limits _ _ h c.self.view_is stands in
    let used = used_class c.self.inside.limits.line (tail_of h) item (own_reads limits _ h own _ (tail_of h) reads) in
    stands_settled limits _ _ h own (begun_so _ _ h c.self.view_is (two_begin _ c.requires.two) own.cut) refl (next_so c.self.inside.limits c.self.inside.cut c.end_line.new.self c.self.invariant.line c.end_line.ensures)
    (used_more c.self.inside.limits c.self.inside.tally (lines_of h) (tail_of h) item.key used.0 (own_tally limits _ h own) used.1)
    refl

pub returns-clause-lines : goal.returns-clause-lines
returns-clause-lines c =
    let w = c.self.invariant in
    let two = two_so _ _ 0 c.self.view_is (omega (arith, c.requires.two)) in
    ends_line _ _ _ _ c.self.view_is (next_so c.self.inside.limits c.self.inside.cut c.end_line.new.self c.self.invariant.line c.end_line.ensures) (room_settled _ _ _ _ w (begun_own _ _ c.self.view_is (two_begin _ c.requires.two))).lines
    (omega (arith, two)) (omega (arith, w.within, w.input))
