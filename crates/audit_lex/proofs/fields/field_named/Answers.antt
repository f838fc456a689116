use Rattle.audit_lex.proofs.FieldLemmas.{exact_field}
use Rattle.audit_lex.proofs.fields.field_named.Goals as goal

pub returns : goal.returns
returns c = λ f. rw c.named_by_length.ensures (exact_field c.args.name.now f)
