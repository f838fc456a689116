use Rattle.std.proofs.Common.{rules, ◌∙◌, sym}
use Rattle.std.proofs.lemmas.Result.{on_ok_weaker}
use Rattle.audit_order.proofs.ForkLemmas.{unstamped}
use Rattle.audit_order.proofs.writer.Writer.write_fork.Goals as goal

pub returns-in-None : goal.returns-in-None
returns-in-None c = on_ok_weaker c.write.result (λ w. unstamped c.args.self.now c.write.new.self c.args.line.now c.args.child (search rules) w) c.write.ensures
