use Rattle.std.proofs.Common.{◌∙◌, subst}
use Rattle.std.specs.List.Sorted.{IsPermutation}
use Rattle.std.proofs.lemmas.List.Sorted.{IsNonDecreasingBy-from_sort}
use Rattle.saved_rows.proofs.ExtendLemmas.{are_listed}
use Rattle.saved_rows.proofs.extending.listed_rows.Goals as goal

pub returns : goal.returns
returns c =
    let entries = c.args.renewed.now.entries in
    let keys = c.in_ok-rows.ensures.items ∙ c.as_slice.ensures ∙ c.keys.ensures.rest in
    let ks = c.sort.new.self.items in
    are_listed entries ks c.keys.ensures.unique (subst (λ xs. IsPermutation xs ks) keys c.sort.ensures.permutation) (IsNonDecreasingBy-from_sort (λ x. x) ks c.in_ok-sort.ensures.sorted)
