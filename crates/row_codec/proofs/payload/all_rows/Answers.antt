use Rattle.std.proofs.Common.{◌≡◌, ◌∙◌, ap, nat_eq, length, true, [], subst, arith, None, refl}
use Rattle.std.specs.List.{flat_map}
use Rattle.std.proofs.lemmas.Result.{err_from_is_err_and}
use Rattle.row_codec.specs.declared.fault.RowRead.TheVariants.{Malformed}
use Rattle.row_codec.specs.Parsing.{IsFaultOf}
use Rattle.row_codec.specs.Rows.{row, row_at}
use Rattle.row_codec.proofs.ExactLaws.{IsBytes, IsBytes-after}
use Rattle.row_codec.proofs.RowLaws.{exact-row}
use Rattle.row_codec.proofs.ManyLaws.{no_values, shorter, read_more}
use Rattle.row_codec.proofs.payload.all_rows.Goals as goal

pub returns-in_err-next-clause-malformed : goal.returns-in_err-next-clause-malformed
returns-in_err-next-clause-malformed c = λ is rows s.
    let p = err_from_is_err_and c.from_residual.result c.from_residual.ensures.1 in
    let same : c.in_err-next.field-0.0 ≡ Malformed = cc in
    let unread : row_at c.loop-rest.rest.now ≡ None = subst (λ e. IsFaultOf e (row_at c.loop-rest.rest.now)) same c.in_err-next.ensures in
    no_values exact-row refl c.loop-rest.rows rows c.args.bytes.now c.loop-rest.rest.now c.loop-rest.invariant.0 c.loop-rest.invariant.1
    (λ none. let empty : c.is_empty.result ≡ true = c.is_empty.ensures ∙ ap (λ bytes. nat_eq (length bytes) 0) none in let not = c.loop-rest-test.true in absurd cc)
    unread s.fit s.are

pub loop-rest-smaller : goal.loop-rest-smaller
loop-rest-smaller c =
    shorter exact-row refl c.loop-rest.rest.now c.in_ok-next.next c.in_ok-next.after.now
    (IsBytes-after (flat_map row c.loop-rest.rows) c.loop-rest.rest.now (subst IsBytes c.loop-rest.invariant.1 (λ i. omega (arith, c.type_inv.bytes i)))) c.in_ok-next.ensures

pub loop-rest-preserved : goal.loop-rest-preserved
loop-rest-preserved c =
    rw c.in_ok-push.ensures.ok (read_more exact-row c.loop-rest.rows c.args.bytes.now c.loop-rest.rest.now c.in_ok-next.next c.in_ok-next.after.now (λ i. omega (arith, c.type_inv.bytes i)) c.loop-rest.invariant c.in_ok-next.ensures)
