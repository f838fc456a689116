use Rattle.std.proofs.Common.{◌≡◌, subst, Option, Some}
use Rattle.std.specs.Prelude.{MatchOption, ⊤}
use Rattle.audit_record.specs.declared.types.Record.{Record}
use Rattle.ingest.specs.LineRecords.{record_of}
use Rattle.ingest.specs.Waiting.{IsLineOf}
use Rattle.ingest.proofs.PutBack.{line_put}
use Rattle.ingest.proofs.waiting.put_line.Goals as goal

pub returns : goal.returns
returns c =
    let limits = c.args.limits.now in
    let line = c.args.line.now in
    let own : IsLineOf limits.line c.args.key line =
    subst (λ (o : Option Record). MatchOption o (¬ IsLineOf limits.line c.args.key line) (λ item. IsLineOf limits.line c.args.key line)) c.in-Some.is c.in_ok-item.ensures.own in
    let spelled : record_of limits.line line ≡ Some c.in-Some.item =
    subst (λ (o : Option Record). MatchOption o ⊤ (λ item. record_of limits.line line ≡ Some item)) c.in-Some.is c.in_ok-item.ensures.spelled in
    line_put limits c.args.key c.in_ok-put_record.field-0 line c.in-Some.item c.args.join.now c.put_record.new.join own spelled (c.in_ok-put_record.ensures limits)
