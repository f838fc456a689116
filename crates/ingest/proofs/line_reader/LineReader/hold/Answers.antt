use Rattle.std.proofs.Common.{◌≡◌, refl, ap, subst, arith, length, List, ℕ}
use Rattle.std.proofs.lemmas.Grind.{common_steps}
use Rattle.std.proofs.lemmas.List.{take_all}
use Rattle.audit_lex.specs.History.{Cuts, with_bytes}
use Rattle.audit_lex.specs.LineCut.{StandsFor as CutStandsFor}
use Rattle.audit_lex.proofs.HistoryLemmas.{more_tail}
use Rattle.ingest.proofs.Bytes.{bytes_more}
use Rattle.ingest.proofs.HeldTails.{has_more}
use Rattle.ingest.proofs.ReaderSteps.{keeps_own, keeps_lines, reader_at, fits_so, few, within_more, stands_none}
use Rattle.ingest.proofs.line_reader.LineReader.hold.Goals as goal

pub next-requires : goal.next-requires
next-requires c = omega (arith, few _ _ _ _ c.self.invariant, c.self.invariant.within, c.self.invariant.input)

pub invariant_of-self-2 : goal.invariant_of-self-2
invariant_of-self-2 c =
    let part = c.args.part.now in
    let all : c.in_ok-count.count ≡ length part = omega (arith, c.in_ok-count.ensures.taken, c.requires.no_feed) in
    let more = has_more _ _ part c.in_ok-count.count c.self.invariant.held c.in_ok-count.ensures.limit c.requires.no_feed all c.in_ok-count.ensures.stands in
    within_more _ _ _ _ _ c.in_ok-count.count part c.self.invariant more c.in_ok-count.ensures.limit all (grind (arith, common_steps, c.is_empty.ensures, c.if-is_empty.false))
    (omega (arith, all, fits_so _ _ (length part) c.self.view_is c.requires.room))

pub returns-clause-stands : goal.returns-clause-stands
returns-clause-stands c = λ limits h stands.
    let part = c.args.part.now in
    let all : c.in_ok-count.count ≡ length part = omega (arith, c.in_ok-count.ensures.taken, c.requires.no_feed) in
    let own = reader_at limits _ _ h c.self.view_is stands in
    let cut = subst (λ (l : List ℕ). CutStandsFor c.next.new.self (with_bytes h l)) (take_all c.in_ok-count.count part (omega (arith, all))) (c.in_ok-count.ensures.stands h own.cut) in
    stands_none limits _ _ h (with_bytes h part) own refl cut c.in_ok-count.ensures.limit refl
    (ap (λ (k : Cuts). k.lines) (more_tail h part c.requires.no_feed))
    (omega (arith, all, own.bytes, bytes_more h part))

pub returns-clause-lines : goal.returns-clause-lines
returns-clause-lines c =
    let part = c.args.part.now in
    let all : c.in_ok-count.count ≡ length part = omega (arith, c.in_ok-count.ensures.taken, c.requires.no_feed) in
    let more = has_more _ _ part c.in_ok-count.count c.self.invariant.held c.in_ok-count.ensures.limit c.requires.no_feed all c.in_ok-count.ensures.stands in
    keeps_lines _ _ _ part c.self.view_is (invariant_of-self-2 c) more (omega (arith, all))

pub returns-then-is_empty-clause-lines : goal.returns-then-is_empty-clause-lines
returns-then-is_empty-clause-lines c = keeps_own _ _ c.self.view_is c.self.invariant
