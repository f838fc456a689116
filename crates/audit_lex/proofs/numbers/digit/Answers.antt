use Rattle.std.proofs.Common.{◌∙◌, ap, refl, arith, get_or}
use Rattle.audit_lex.specs.declared.numbers.TheConstants.{DIGITS}
use Rattle.audit_lex.proofs.NumberLemmas.{digit_from_table}
use Rattle.audit_lex.proofs.numbers.digit.Goals as goal

pub returns : goal.returns
returns c = c.from-2.ensures ∙ ap (λ place. get_or DIGITS place 0) c.from.ensures ∙ digit_from_table DIGITS c.args.byte (omega arith) refl
