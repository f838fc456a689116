use Rattle.store_check.specs.Conditions.{bounds_of}
use Rattle.reduced_store.proofs.ReadLemmas.{same_mode, other_mode}
use Rattle.reduced_store.proofs.reading.check_for.Goals as goal

pub returns-then-is_same : goal.returns-then-is_same
returns-then-is_same c = λ batches payloads checked.
    same_mode (bounds_of c.args.limits.now) batches payloads c.args.checked c.in-Some.checked c.args.mode c.in-Some.is (c.is_same.ensures.0 c.if-is_same.true) checked

pub returns-else-is_same : goal.returns-else-is_same
returns-else-is_same c = λ batches payloads checked.
    other_mode c.args.checked c.in-Some.checked c.args.mode c.in-Some.is (λ e. let t = c.is_same.ensures.1 e in absurd (let f = c.if-is_same.false in cc))
