use Rattle.std.proofs.Common.{◌∙◌, sym}
use Rattle.audit_lex.proofs.FieldLemmas.{whole_name}
use Rattle.audit_lex.proofs.fields.is_name.Goals as goal

pub returns-then-text : goal.returns-then-text
returns-then-text g c = c.is_some.ensures ∙ whole_name _ c.text_behind.result c.args.text.now c.args.name.now (c.if-text.true ∙ sym c.told-name) c.text_behind.ensures
