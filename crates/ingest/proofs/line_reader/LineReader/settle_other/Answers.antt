use Rattle.std.proofs.Common.{◌++◌, ◌∷◌, [], ◌∙◌, ap, refl, arith, ℕ, List, append-nil}
use Rattle.audit_lex.specs.History.{lines_of, tail_of}
use Rattle.ingest.specs.Counting.{tally_of_lines}
use Rattle.ingest.proofs.ReaderSteps.{next_so, keeps_own, keeps_line, reader_at, begun_own, begun_so, room_settled, within_settled, stands_settled, own_tally, own_line}
use Rattle.ingest.proofs.line_reader.LineReader.settle_other.Goals as goal

pub count_line-requires-clause-lines : goal.count_line-requires-clause-lines
count_line-requires-clause-lines c = (room_settled _ _ _ _ c.self.invariant (begun_own _ _ c.self.view_is (c.if-is_between_lines.ensures.no refl))).lines

pub count_line-requires-clause-room : goal.count_line-requires-clause-room
count_line-requires-clause-room c = (room_settled _ _ _ _ c.self.invariant (begun_own _ _ c.self.view_is (c.if-is_between_lines.ensures.no refl))).counted

pub end_line-requires : goal.end_line-requires
end_line-requires c = omega (arith, (room_settled _ _ _ _ c.self.invariant (begun_own _ _ c.self.view_is (c.if-is_between_lines.ensures.no refl))).lines)

pub invariant_of-self-2 : goal.invariant_of-self-2
invariant_of-self-2 c =
    within_settled _ _ _ _ _ _ c.self.invariant (begun_own _ _ c.self.view_is (c.if-is_between_lines.ensures.no refl)) (next_so c.self.inside.limits c.self.inside.cut c.end_line.new.self c.self.invariant.line c.end_line.ensures) c.in_ok-count_line.ensures.one
    (c.in_ok-count_line.ensures.listed c.self.invariant.listed)

pub returns-clause-stands : goal.returns-clause-stands
returns-clause-stands c = λ limits h stands reads.
    let own = reader_at limits _ _ h c.self.view_is stands in
    stands_settled limits _ _ h own (begun_so _ _ h c.self.view_is (c.if-is_between_lines.ensures.no refl) own.cut) refl (next_so c.self.inside.limits c.self.inside.cut c.end_line.new.self c.self.invariant.line c.end_line.ensures)
    (c.in_ok-count_line.ensures.counted h own.cut (own_line limits _ h own) (own_tally limits _ h own)
    ∙ ap (λ (text : List ℕ). tally_of_lines c.self.inside.limits (lines_of h ++ text ∷ [])) (append-nil (tail_of h)))
    refl

pub returns-clause-lines : goal.returns-clause-lines
returns-clause-lines c =
    let w = c.self.invariant in
    keeps_line _ _ _ _ c.self.view_is (next_so c.self.inside.limits c.self.inside.cut c.end_line.new.self c.self.invariant.line c.end_line.ensures) (room_settled _ _ _ _ w (begun_own _ _ c.self.view_is (c.if-is_between_lines.ensures.no refl))).lines
    (omega arith) (omega (arith, w.within, w.input))

pub returns-then-is_between_lines-clause-lines : goal.returns-then-is_between_lines-clause-lines
returns-then-is_between_lines-clause-lines c = keeps_own _ _ c.self.view_is c.self.invariant
