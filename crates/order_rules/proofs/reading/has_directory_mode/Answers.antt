use Rattle.std.proofs.Common.{◌≡◌, ◌∙◌, map, rules, tests, sym, ap, true, false, List, ℕ, length, get_or}
use Rattle.std.specs.List.{slice_split, list_any}
use Rattle.std.proofs.lemmas.List.Folds.{list_any_at}
use Rattle.std.proofs.lemmas.Iterator.{YieldsList}
use Rattle.std.proofs.lemmas.Iterator.Consumers.{YieldsList-at, YieldsList-end, YieldsList-turn}
use Rattle.std.proofs.lemmas.Iterator.Splits.{YieldsList-from_slice_split}
use Rattle.order_rules.specs.Lines.{is_blank, is_directory_mode}
use Rattle.order_rules.proofs.reading.has_directory_mode.Given as given
use Rattle.order_rules.proofs.reading.has_directory_mode.Goals as goal

pub returns : goal.returns
returns c =
    let words : YieldsList given.iterator-loop-word.next_gives (λ w. w.now) c.into_iter-word-iterator.result (slice_split is_blank c.args.line.now) =
    YieldsList-at c.into_iter-word-iterator.ensures.into_iter_gives (YieldsList-from_slice_split _ is_blank c.args.line.now c.split-word-items.ensures.rest c.split-word-items.ensures.done c.split-word-items.ensures.closure
    (λ x r q k. search (rules, tests))) in
    let all = YieldsList-end words c.loop-word.yielded _ c.loop-word.yielded_by _ _ c.in-None.is c.next.ensures.steps in
    sym (sym (ap (list_any is_directory_mode) all.0) ∙ c.loop-word.invariant)

pub returns-then-starts_with : goal.returns-then-starts_with
returns-then-starts_with c =
    let words : YieldsList given.iterator-loop-word.next_gives (λ w. w.now) c.into_iter-word-iterator.result (slice_split is_blank c.args.line.now) =
    YieldsList-at c.into_iter-word-iterator.ensures.into_iter_gives (YieldsList-from_slice_split _ is_blank c.args.line.now c.split-word-items.ensures.rest c.split-word-items.ensures.done c.split-word-items.ensures.closure
    (λ x r q k. search (rules, tests))) in
    let turn = YieldsList-turn words c.loop-word.yielded _ c.loop-word.yielded_by _ _ _ c.in-Some.is c.next.ensures.steps in
    let passes : is_directory_mode c.in-Some.word.now ≡ true = sym c.starts_with.ensures.value ∙ c.if-starts_with.true in
    sym (list_any_at is_directory_mode (slice_split is_blank c.args.line.now) (length c.loop-word.yielded) c.in-Some.word.now turn.0
    (sym (ap is_directory_mode turn.1) ∙ passes))
