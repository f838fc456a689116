use Rattle.std.proofs.Common.{sym}
use Rattle.ingest.proofs.Answered.{on_ok_so}
use Rattle.ingest.proofs.Reading.{end_given, none_given, record_given}
use Rattle.ingest.proofs.FewActs.{few_either, few_ended}
use Rattle.ingest.proofs.EngineSteps.{engine_own, room_so, few_excess, line_came, line_passed, EndsOther}
use Rattle.ingest.proofs.engine.Ingest.join_line.Goals as goal

pub returns-in_ok-take-in-Record-clause-ok : goal.returns-in_ok-take-in-Record-clause-ok
returns-in_ok-take-in-Record-clause-ok g c = λ limits h stands.
    let own = engine_own limits _ _ h c.self.view_is stands in
    let item = c.read.new.item in
    let spelled = record_given _ item _ c.in-Record.is (c.in_ok-read.ensures.reads limits h own.reader) in
    line_came limits _ h c.args.part.now item c.requires.no_feed (room_so limits _ h _ stands.reader c.requires.room) (sym spelled)
    (c.end_used.ensures.stands limits h item own.reader spelled)
    (c.in_ok-take-in-Record.ensures.ok limits _ _ own.joined (few_excess limits h own.fits))

pub returns-in-End-clause-ok : goal.returns-in-End-clause-ok
returns-in-End-clause-ok g c = λ limits h stands.
    let own = engine_own limits _ _ h c.self.view_is stands in
    let came = end_given _ c.in-End.key c.read.new.item _ c.in-End.is (c.in_ok-read.ensures.reads limits h own.reader) in
    line_came limits _ h c.args.part.now came.made c.requires.no_feed (room_so limits _ h _ stands.reader c.requires.room) (sym came.spelled)
    (c.end_used-in-End.ensures.stands limits h came.made own.reader came.spelled)
    (c.end.ensures.ends came.made came.gives limits _ _ own.joined (few_excess limits h own.fits))

pub returns-in-Unused-clause-ok : goal.returns-in-Unused-clause-ok
returns-in-Unused-clause-ok g c =
    on_ok_so _ (EndsOther c.self.inside.reader c.end_other.new.self c.args.part.now) _ (λ reads limits h stands.
    let own = engine_own limits _ _ h c.self.view_is stands in
    let none = none_given _ c.read.new.item _ c.in-Unused.is (c.in_ok-read.ensures.reads limits h own.reader) in
    line_passed limits _ h c.args.part.now c.requires.no_feed (room_so limits _ h _ stands.reader c.requires.room) (sym none) (reads limits h own.reader none) own.joined)
    c.end_other.ensures.stands

pub invariant_of-self-in-Unused : goal.invariant_of-self-in-Unused
invariant_of-self-in-Unused g c = few_either c.end_other.result _ _ _ c.self.invariant c.end_other.ensures.lines c.end_other.ensures.err

pub invariant_of-self-in-Record : goal.invariant_of-self-in-Record
invariant_of-self-in-Record g c = few_ended _ _ _ _ c.self.invariant c.in_ok-take-in-Record.ensures.few c.end_used.ensures.lines

pub invariant_of-self-in-End : goal.invariant_of-self-in-End
invariant_of-self-in-End g c = few_ended _ _ _ _ c.self.invariant c.end.ensures.few c.end_used-in-End.ensures.lines
