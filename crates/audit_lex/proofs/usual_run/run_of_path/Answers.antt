use Rattle.audit_lex.specs.Slots.{held}
use Rattle.audit_lex.specs.declared.fields.Kind.TheVariants.{Path}
use Rattle.audit_lex.proofs.usual_run.run_of_path.Goals as goal

-- one step after the other
pub returns : goal.returns
returns c =
    let raw = c.args.raw.now in
    let read = c.beginning-run.ensures Path (held c.args.slots.now.values) c.requires in
    let read = c.take_usual-run.ensures raw read in
    let read = c.take_usual-run-2.ensures raw read in
    let read = c.take_usual-run-3.ensures raw read in
    let read = c.take_usual.ensures raw read in
    read
