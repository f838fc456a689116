use Rattle.std.proofs.Common.{◌≡◌, ◌∙◌, sym, subst, ℕ, List, length}
use Rattle.std.specs.List.{position_or_len}
use Rattle.memchr.specs.Find.{is_byte}
use Rattle.ingest.specs.Parts.{Reader}
use Rattle.ingest.specs.StandsFor.{ReaderStandsFor}
use Rattle.ingest.proofs.HeldTails.{plain_tail}
use Rattle.ingest.proofs.Restored.{parts_restored, stands_restored}
use Rattle.ingest.proofs.line_reader.LineReader.restore.Goals as goal

pub resume-requires-clause-no_feed : goal.resume-requires-clause-no_feed
resume-requires-clause-no_feed c =
    let tail : c.in_ok-tail.tail ≡ c.args.state.now.tail = c.in_ok-tail.ensures ∙ c.as_slice.ensures in
    subst (λ (l : List ℕ). position_or_len (is_byte 10) l ≡ length l) (sym tail) (plain_tail c.args.state.now.tail c.requires.tail.no_feed)

pub returns-clause-stands : goal.returns-clause-stands
returns-clause-stands c = λ h p is.
    let limits = c.args.limits.now in
    let tail : c.in_ok-tail.tail ≡ c.args.state.now.tail = c.in_ok-tail.ensures ∙ c.as_slice.ensures in
    let bad : c.in_ok-bad.bad ≡ c.args.state.now.bad = c.in_ok-bad.ensures ∙ c.as_slice-2.ensures in
    subst (λ (r : Reader). ReaderStandsFor limits r h) (sym (parts_restored limits c.args.state.now _ _ _ c.resume.ensures tail bad))
    (stands_restored c.lines_are_counted.ensures.each limits c.args.state.now h p is)
