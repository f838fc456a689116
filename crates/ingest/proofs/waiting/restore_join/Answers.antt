use Rattle.std.proofs.Common.{◌∙◌, ap, sym}
use Rattle.stored.specs.Reading.{clock_of}
use Rattle.ingest.specs.Events.{told_of, state_of}
use Rattle.ingest.specs.LineRecords.{record_of}
use Rattle.ingest.specs.Storing.{moment_of}
use Rattle.ingest.proofs.Waited.{stands_again}
use Rattle.ingest.proofs.WaitingStates.{closed_wait, waiting_spelled}
use Rattle.stored.proofs.WaitingLaws.{clock_restored}
use Rattle.ingest.proofs.PutBack.{all_refused, all_put, ripe_unsound, unripe_is}
use Rattle.ingest.proofs.waiting.restore_join.Goals as goal

pub returns-then-not-branch-clause-exact : goal.returns-then-not-branch-clause-exact
returns-then-not-branch-clause-exact c =
    all_refused c.args.limits.now c.args.state.now c.args.rows.now c.in_ok-put_rows.field-0 c.clock_in.result c.resume-again.result c.put_rows.new.join c.requires.ascend c.clock_in.ensures c.resume-again.ensures.stands
    c.if-not-branch.true c.in_ok-put_rows.ensures

pub returns-then-ripe-clause-exact : goal.returns-then-ripe-clause-exact
returns-then-ripe-clause-exact c =
    let put = all_put c.args.limits.now c.args.state.now c.args.rows.now c.in_ok-put_rows.field-0 c.clock_in.result c.resume-again.result c.put_rows.new.join c.clock_in.ensures c.resume-again.ensures.stands
    c.if-not-branch.false c.in_ok-put_rows.ensures in
    ripe_unsound c.args.limits.now c.args.state.now c.args.rows.now (sym (c.ripe.ensures.ripe c.args.limits.now _ put.1.stands) ∙ c.if-ripe.true)

pub returns-clause-exact : goal.returns-clause-exact
returns-clause-exact c =
    let put = all_put c.args.limits.now c.args.state.now c.args.rows.now c.in_ok-put_rows.field-0 c.clock_in.result c.resume-again.result c.put_rows.new.join c.clock_in.ensures c.resume-again.ensures.stands
    c.if-not-branch.false c.in_ok-put_rows.ensures in
    record { lines = put.0; held = put.1.sound; unripe = unripe_is _ (sym (c.ripe.ensures.ripe c.args.limits.now _ put.1.stands) ∙ c.if-ripe.false) }

pub returns-clause-stands : goal.returns-clause-stands
returns-clause-stands c =
    (all_put c.args.limits.now c.args.state.now c.args.rows.now c.in_ok-put_rows.field-0 c.clock_in.result c.resume-again.result c.put_rows.new.join c.clock_in.ensures c.resume-again.ensures.stands
    c.if-not-branch.false c.in_ok-put_rows.ensures).1.stands

pub returns-clause-quiet : goal.returns-clause-quiet
returns-clause-quiet c = c.ripe.ensures.nothing.0 c.if-ripe.false

pub returns-clause-history : goal.returns-clause-history
returns-clause-history c = λ h part closes is.
    let limits = c.args.limits.now in
    let m = moment_of limits h part in
    let put = all_put limits c.args.state.now c.args.rows.now c.in_ok-put_rows.field-0 c.clock_in.result c.resume-again.result c.put_rows.new.join c.clock_in.ensures c.resume-again.ensures.stands
    c.if-not-branch.false c.in_ok-put_rows.ensures in
    stands_again limits c.a_joiner_is_made_again.ensures (state_of limits h) c.args.state.now c.args.rows.now c.put_rows.new.join c.requires.ascend
    (record { lines = put.0; held = put.1.sound; unripe = unripe_is _ (sym (c.ripe.ensures.ripe limits _ put.1.stands) ∙ c.if-ripe.false) })
    (ap clock_of is ∙ clock_restored m)
    (c.states_are_sound.ensures limits (told_of limits h)) (closed_wait limits h)
    (c.tables_are_restored.ensures.waiting (record_of limits.line) m c.args.rows.now (waiting_spelled limits h) closes)
    put.1.stands
