use Rattle.std.proofs.Common.{◌≡◌, ◌-◌, length, subst, arith, None}
use Rattle.row_codec.specs.declared.fault.RowRead.TheVariants.{Malformed}
use Rattle.row_codec.specs.Parsing.{IsFaultOf}
use Rattle.row_codec.specs.Rows.{row_at}
use Rattle.row_codec.proofs.ExactLaws.{prefix_of, no_prefix}
use Rattle.row_codec.proofs.RowLaws.{exact-row}
use Rattle.row_codec.proofs.readers.read_row.Goals as goal

pub overflow_sub-result : goal.overflow_sub-result
overflow_sub-result c = (prefix_of exact-row c.args.bytes.now c.in-Ok.row c.in-Ok.rest.now (λ i. omega (arith, c.type_inv.bytes i)) c.in-Ok.ensures).3

pub returns-in-Ok-clause-found : goal.returns-in-Ok-clause-found
returns-in-Ok-clause-found c =
    let found = prefix_of exact-row c.args.bytes.now c.in-Ok.row c.in-Ok.rest.now (λ i. omega (arith, c.type_inv.bytes i)) c.in-Ok.ensures in
    record { spelling = record { fits = found.0; is = found.1 }; within = found.2 }

pub returns-in-Err-clause-malformed : goal.returns-in-Err-clause-malformed
returns-in-Err-clause-malformed c = λ is r n s.
    let same : c.in-Err.fault ≡ Malformed = cc in
    no_prefix exact-row c.args.bytes.now (subst (λ e. IsFaultOf e (row_at c.args.bytes.now)) same c.in-Err.ensures) r n s.fits s.is
