use Rattle.std.proofs.Common.{◌∙◌, sym, subst, arith}
use Rattle.saved_rows.specs.Joining.{AreListed, extend_of, mark_in}
use Rattle.saved_rows.proofs.ExtendLemmas.{extends_all, extends_more, from_zero, listed_extends}
use Rattle.saved_rows.proofs.extending.extend_rows.Goals as goal

pub loop-row-preserved : goal.loop-row-preserved
loop-row-preserved c =
    let find = mark_in c.args.renewed.now.entries in
    extends_more (λ k. extend_of (find k) k) c.deref-row-items.result.now c.loop-row.row-index c.loop-row.extends c.put_extend.new.to c.loop-row-test.true c.loop-row.invariant c.in_ok-put_extend.ensures

pub returns : goal.returns
returns c = λ R ends.
    let find = mark_in c.args.renewed.now.entries in
    let ks = c.deref-row-items.result.now in
    let are = subst (AreListed find) (sym c.deref-row-items.ensures.value) c.in_ok-listed.ensures in
    extends_all (λ k. extend_of (find k) k) ks c.loop-row.row-index c.loop-row.extends c.loop-row-test.false c.loop-row.invariant
    ∙ sym (listed_extends find 0 R ks are.ascend (from_zero ks) (λ j le. are.each j) (λ j le. ends j (omega (arith, le))))
