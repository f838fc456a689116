use Rattle.std.proofs.Common.{map, rules, tests, subst}
use Rattle.std.specs.List.{slice_split}
use Rattle.std.proofs.lemmas.Iterator.{YieldsList}
use Rattle.std.proofs.lemmas.Iterator.Consumers.{YieldsList-at, YieldsList-end}
use Rattle.std.proofs.lemmas.Iterator.Splits.{YieldsList-from_slice_split}
use Rattle.name_text.specs.Paths.{Gains, is_slash}
use Rattle.name_text.proofs.PartLemmas.{now}
use Rattle.name_text.proofs.paths.put_parts.Given as given
use Rattle.name_text.proofs.paths.put_parts.Goals as goal

pub returns : goal.returns
returns c =
    let parts : YieldsList given.iterator-loop-part.next_gives now c.into_iter-part-iterator.result (slice_split is_slash c.args.text.now) =
    YieldsList-at c.into_iter-part-iterator.ensures.into_iter_gives (YieldsList-from_slice_split _ is_slash c.args.text.now c.split-part-items.ensures.rest c.split-part-items.ensures.done c.split-part-items.ensures.closure
    (λ x r q k. search (rules, tests))) in
    let all = YieldsList-end parts c.loop-part.yielded _ c.loop-part.yielded_by _ _ c.in-None.is c.next.ensures.steps in
    subst (Gains c.args.absolute (map now c.args.parts.now.items) (map now c.loop-part.parts.items)) all.0 c.loop-part.invariant
