use Rattle.std.proofs.Common.{◌≡◌, ◌+◌, ◌∙◌, ap, sym, length, arith}
use Rattle.audit_lex.specs.FieldTable.{slot_rules}
use Rattle.audit_lex.specs.Slots.{held, slot_value}
use Rattle.audit_lex.specs.Tokens.{field_of}
use Rattle.audit_lex.proofs.SlotLemmas.{slot_within, last_found, last_missing, value_none}
use Rattle.audit_lex.proofs.field_values.fill_slots.Goals as goal

pub loop-run-preserved : goal.loop-run-preserved
loop-run-preserved c = c.take_front-run.ensures.reads c.args.raw.now c.loop-run.invariant

pub returns-then-not-is_empty-2 : goal.returns-then-not-is_empty-2
returns-then-not-is_empty-2 c =
    let rules = slot_rules c.args.kind in
    let run = c.loop-run.run in
    let slots = c.loop-run.slots in
    let only : run.full + 1 ≡ length rules = c.if-run-rules.true ∙ ap length c.slot_rules-rules.ensures in
    last_found rules c.args.raw.now run.rest.now (held slots.values) run.full (slot_value c.slot_of_one-last.result.now) only c.loop-run.invariant.filled c.loop-run.invariant.finding
    (c.slot_of_one-last.ensures ∙ ap (field_of run.rest.now) c.field_at.ensures)
    (held c.offer.new.self.values) (slot_within c.args.kind slots.values run.full slots.size (omega (arith, only)))
    c.offer.ensures

pub returns-else-not-is_empty-2 : goal.returns-else-not-is_empty-2
returns-else-not-is_empty-2 c =
    let rules = slot_rules c.args.kind in
    let run = c.loop-run.run in
    let last = c.slot_of_one-last.result.now in
    let only : run.full + 1 ≡ length rules = c.if-run-rules.true ∙ ap length c.slot_rules-rules.ensures in
    last_missing rules c.args.raw.now run.rest.now (held c.loop-run.slots.values) run.full (slot_value last) only c.loop-run.invariant.filled c.loop-run.invariant.finding
    (c.slot_of_one-last.ensures ∙ ap (field_of run.rest.now) c.field_at.ensures) (value_none last (sym c.is_empty-then-run-rules.ensures ∙ c.if-not-is_empty-2.false))
