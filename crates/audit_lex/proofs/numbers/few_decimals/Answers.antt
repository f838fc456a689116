use Rattle.std.proofs.Common.{◌^◌, ◌∙◌, sym, length, arith, lit<}
use Rattle.std.proofs.lemmas.Bool.{eqb-false}
use Rattle.audit_lex.proofs.NumberLemmas.{number_by_value, below_most}
use Rattle.audit_lex.proofs.numbers.few_decimals.Goals as goal

pub returns : goal.returns
returns c =
    c.decimal_value.ensures
    ∙ sym (number_by_value 10 c.args.most (10 ^ c.args.most) c.args.text.now (omega (arith, eqb-false (length c.args.text.now) 0 (sym c.if-is_empty.ensures))) c.if-text-most.false (below_most 10 c.args.most c.args.text.now (lit< tt) c.if-text-most.false))
