use Rattle.std.proofs.Common.{◌-◌, length, arith}
use Rattle.row_codec.proofs.ExactLaws.{exact-after, prefix_of, no_prefix}
use Rattle.row_codec.proofs.FieldLaws.{exact-extend}
use Rattle.row_codec.proofs.readers.read_extend.Goals as goal

pub returns-in-Ok-clause-found : goal.returns-in-Ok-clause-found
returns-in-Ok-clause-found c =
    let found = prefix_of (exact-after 3 exact-extend) c.args.bytes.now c.in-Ok.row c.in-Ok.field-0-1.now (λ i. omega (arith, c.type_inv.bytes i)) c.in-Ok.ensures in
    (length c.args.bytes.now - length c.in-Ok.field-0-1.now, record { spelling = record { fits = found.0; is = found.1 }; within = found.2 })

pub returns-in-Err-clause-none : goal.returns-in-Err-clause-none
returns-in-Err-clause-none c = λ none r n s. no_prefix (exact-after 3 exact-extend) c.args.bytes.now c.in-Err.ensures r n s.fits s.is
