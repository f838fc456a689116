use Rattle.std.proofs.Common.{◌+◌, ◌*◌, sym, subst}
use Rattle.reduce_source.specs.BitsOf.{HasBit}
use Rattle.reduce_source.specs.Pools.{words_on}
use Rattle.reduce_source.proofs.SetBits.{number_at}
use Rattle.reduce_source.proofs.ids.is_within.Goals as goal

pub returns-then-not-covered-clause-no : goal.returns-then-not-covered-clause-no
returns-then-not-covered-clause-no c = λ f.
    let pools = c.args.pools.now in
    let page = c.loop-place.place in
    let (place, j, low, fits, has, lacks) = c.is_within-covered.ensures.no c.if-not-covered.true in (
      8192 * page + 512 * place + j,
      (number_at pools c.args.small.now page place j low fits).0 has,
      λ t. lacks (subst (λ i. HasBit (words_on pools i place) j) (sym c.id_at.ensures) ((number_at pools c.args.large.now page place j low fits).1 t)),
    )
