use Rattle.audit_lex.proofs.PastTokens.{no_sign}
use Rattle.audit_lex.proofs.field_values.may_be_named.Goals as goal

pub returns : goal.returns
returns c = record { no = no_sign c.args.text.now c.args.name.now }
