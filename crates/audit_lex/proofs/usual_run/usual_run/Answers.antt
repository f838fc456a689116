use Rattle.audit_lex.specs.Slots.{held}
use Rattle.audit_lex.proofs.usual_run.usual_run.Goals as goal

pub returns-in-Syscall : goal.returns-in-Syscall
returns-in-Syscall c = rw c.in-Syscall.is c.run_of_syscall.ensures

pub returns-in-Path : goal.returns-in-Path
returns-in-Path c = rw c.in-Path.is c.run_of_path.ensures

pub returns-in_default : goal.returns-in_default
returns-in_default c = c.beginning.ensures c.args.kind (held c.args.slots.now.values) c.requires
