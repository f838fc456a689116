use Rattle.std.proofs.Common.{◌∙◌, sym}
use Rattle.order_calls.proofs.ModeLemmas.{mode_found, mode_missed, mode_none, cut_shorter}
use Rattle.order_calls.proofs.mode.has_file_mode.Goals as goal

pub returns-then-is_file_mode : goal.returns-then-is_file_mode
returns-then-is_file_mode c =
    sym (c.loop-rest.invariant ∙ mode_found c.loop-rest.text.now _ c.in-Some.rest.now c.is_file_mode.result (sym c.in-Some.ensures) c.is_file_mode.ensures c.if-is_file_mode.true)

pub loop-rest-smaller : goal.loop-rest-smaller
loop-rest-smaller c = cut_shorter c.loop-rest.text.now _ c.in-Some.rest.now (sym c.in-Some.ensures)

pub loop-rest-preserved : goal.loop-rest-preserved
loop-rest-preserved c =
    c.loop-rest.invariant ∙ mode_missed c.loop-rest.text.now _ c.in-Some.rest.now c.is_file_mode.result (sym c.in-Some.ensures) c.is_file_mode.ensures c.if-is_file_mode.false

pub returns : goal.returns
returns c = sym (c.loop-rest.invariant ∙ mode_none c.loop-rest.text.now (sym c.in_default.ensures))
