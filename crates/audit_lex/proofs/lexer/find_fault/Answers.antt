use Rattle.audit_lex.proofs.SlotLemmas.{slots_fault}
use Rattle.audit_lex.proofs.lexer.find_fault.Goals as goal

pub loop-place-init : goal.loop-place-init
loop-place-init c = slots_fault c.args.raw.now c.args.kind
