use Rattle.std.proofs.Common.{[], sym, ◌∙◌, arith}
use Rattle.audit_lex.proofs.SlotLemmas.{offered_empty}
use Rattle.audit_lex.proofs.slots.Slots.offer.Goals as goal

pub returns-then-is_empty : goal.returns-then-is_empty
returns-then-is_empty c =
    offered_empty c.args.self.now.values c.args.place (record { ref_ptr = (0, 0); now = [] }) c.args.value (omega (arith, c.requires.place, c.args.self.now.size))
    (sym c.is_empty.ensures ∙ c.if-is_empty.true)
