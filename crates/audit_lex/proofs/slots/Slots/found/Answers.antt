use Rattle.std.proofs.Common.{[]}
use Rattle.audit_lex.proofs.SlotLemmas.{slots_listed}
use Rattle.audit_lex.proofs.slots.Slots.found.Goals as goal

pub returns : goal.returns
returns c = slots_listed c.args.self.now.values (record { ref_ptr = (0, 0); now = [] }) c.args.self.now.size
