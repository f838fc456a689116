use Rattle.std.proofs.Common.{ap, Some}
use Rattle.audit_cli.proofs.trial.line_in.Goals as goal

pub line_after-requires-clause-begun : goal.line_after-requires-clause-begun
line_after-requires-clause-begun g c = (c.args.limits.now, (c.new-engine.ensures.stands (ap Some c.new.ensures)))

pub returns-clause-line : goal.returns-clause-line
returns-clause-line g c = c.line_after.ensures.line c.args.limits.now (c.new-engine.ensures.stands (ap Some c.new.ensures))

pub returns-clause-fits : goal.returns-clause-fits
returns-clause-fits g c = c.line_after.ensures.fits c.args.limits.now (c.new-engine.ensures.stands (ap Some c.new.ensures))

pub returns-clause-due : goal.returns-clause-due
returns-clause-due g c = c.line_after.ensures.due c.args.limits.now (c.new-engine.ensures.stands (ap Some c.new.ensures))
