use Rattle.std.proofs.Common.{◌∙◌, sym, ap, append-nil}
use Rattle.audit_lex.specs.History.{tail_of}
use Rattle.ingest.specs.LineRecords.{record_of}
use Rattle.ingest.proofs.Answered.{on_ok_so}
use Rattle.ingest.proofs.Reading.{end_given, none_given, record_given}
use Rattle.ingest.proofs.FewActs.{few_either, few_ended}
use Rattle.ingest.proofs.EngineSteps.{engine_own, few_excess, last_came, last_passed, SettlesOther}
use Rattle.ingest.proofs.engine.Ingest.end_last.Goals as goal

pub returns-in_ok-take-in-Record-clause-ok : goal.returns-in_ok-take-in-Record-clause-ok
returns-in_ok-take-in-Record-clause-ok g c = λ limits h stands.
    let own = engine_own limits _ _ h c.self.view_is stands in
    let item = c.read.new.item in
    let spelled = ap (record_of limits.line) (sym (append-nil (tail_of h))) ∙ record_given _ item _ c.in-Record.is (c.in_ok-read.ensures.reads limits h own.reader) in
    last_came limits _ h item (sym spelled)
    (c.settle_used.ensures.stands limits h item own.reader spelled)
    (c.in_ok-take-in-Record.ensures.ok limits _ _ own.joined (few_excess limits h own.fits))

pub returns-in-End-clause-ok : goal.returns-in-End-clause-ok
returns-in-End-clause-ok g c = λ limits h stands.
    let own = engine_own limits _ _ h c.self.view_is stands in
    let came = end_given _ c.in-End.key c.read.new.item _ c.in-End.is (c.in_ok-read.ensures.reads limits h own.reader) in
    let spelled = ap (record_of limits.line) (sym (append-nil (tail_of h))) ∙ came.spelled in
    last_came limits _ h came.made (sym spelled)
    (c.settle_used-in-End.ensures.stands limits h came.made own.reader spelled)
    (c.end.ensures.ends came.made came.gives limits _ _ own.joined (few_excess limits h own.fits))

pub returns-in-Unused-clause-ok : goal.returns-in-Unused-clause-ok
returns-in-Unused-clause-ok g c =
    on_ok_so _ (SettlesOther c.self.inside.reader c.settle_other.new.self) _ (λ reads limits h stands.
    let own = engine_own limits _ _ h c.self.view_is stands in
    let none = ap (record_of limits.line) (sym (append-nil (tail_of h))) ∙ none_given _ c.read.new.item _ c.in-Unused.is (c.in_ok-read.ensures.reads limits h own.reader) in
    last_passed limits _ h (sym none) (reads limits h own.reader none) own.joined)
    c.settle_other.ensures.stands

pub invariant_of-self-in-Unused : goal.invariant_of-self-in-Unused
invariant_of-self-in-Unused g c = few_either c.settle_other.result _ _ _ c.self.invariant c.settle_other.ensures.lines c.settle_other.ensures.err

pub invariant_of-self-in-Record : goal.invariant_of-self-in-Record
invariant_of-self-in-Record g c = few_ended _ _ _ _ c.self.invariant c.in_ok-take-in-Record.ensures.few c.settle_used.ensures.lines

pub invariant_of-self-in-End : goal.invariant_of-self-in-End
invariant_of-self-in-End g c = few_ended _ _ _ _ c.self.invariant c.end.ensures.few c.settle_used-in-End.ensures.lines
