use Rattle.std.proofs.Common.{◌∙◌}
use Rattle.audit_lex.proofs.NumberLemmas.{few_number}
use Rattle.audit_lex.proofs.numbers.decimal.Goals as goal

pub returns : goal.returns
returns c = c.few_decimals.ensures ∙ few_number c.args.most c.args.bound c.args.text.now c.if-text-gt16.false c.requires.most.0 c.requires.bound.0
