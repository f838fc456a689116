use Rattle.std.proofs.Common.{◌≡◌, ◌<◌, ◌++◌, ◌∙◌, ◌/◌, ap, ℕ, List, length, take, drop, arith}
use Rattle.std.proofs.lemmas.List.{take-append-drop}
use Rattle.call_acts.specs.declared.calls.Row.{Row}
use Rattle.call_acts.specs.Calls.{ascend}
use Rattle.call_acts.proofs.TableLemmas.{take_ascends, drop_ascends, in_front, in_back}
use Rattle.call_acts.proofs.calls.half_with.Goals as goal

both : (k : ℕ) (front back rows : List Row) → front ≡ take k rows → back ≡ drop k rows → front ++ back ≡ rows
both k front back rows is rest =
    ap (λ (one : List Row). one ++ back) is ∙ ap (λ (one : List Row). take k rows ++ one) rest ∙ take-append-drop k rows

pub returns-then-number-back-clause-same : goal.returns-then-number-back-clause-same
returns-then-number-back-clause-same c =
    let halves = c.split_at.ensures in
    let some : 0 < length c.split_at.result.1.now = omega (arith, halves.back_len, c.requires.several) in
    in_front c.args.number c.split_at.result.0.now c.split_at.result.1.now c.args.rows.now _ c.requires.ascend (both _ _ _ _ halves.front halves.back) some c.if-number-back.true

pub returns-then-number-back-clause-ascend : goal.returns-then-number-back-clause-ascend
returns-then-number-back-clause-ascend c = ap ascend c.split_at.ensures.front ∙ take_ascends (length c.args.rows.now / 2) c.args.rows.now c.requires.ascend

pub returns-else-number-back-clause-same : goal.returns-else-number-back-clause-same
returns-else-number-back-clause-same c =
    let halves = c.split_at.ensures in
    let some : 0 < length c.split_at.result.1.now = omega (arith, halves.back_len, c.requires.several) in
    in_back c.args.number c.split_at.result.0.now c.split_at.result.1.now c.args.rows.now _ c.requires.ascend (both _ _ _ _ halves.front halves.back) some c.if-number-back.false

pub returns-else-number-back-clause-ascend : goal.returns-else-number-back-clause-ascend
returns-else-number-back-clause-ascend c = ap ascend c.split_at.ensures.back ∙ drop_ascends (length c.args.rows.now / 2) c.args.rows.now c.requires.ascend
