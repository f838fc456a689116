use Rattle.std.proofs.Common.{◌∙◌, sym, ap, codes}
use Rattle.std.specs.Option.{option_and_then}
use Rattle.audit_lex.specs.Header.{behind}
use Rattle.audit_lex.proofs.HeaderLemmas.{behind_append}
use Rattle.audit_lex.proofs.header.text_behind_bracket.Goals as goal

pub returns : goal.returns
returns c =
    c.text_behind-2.ensures ∙ ap (option_and_then (behind (codes "audit("))) c.in_ok-text_behind.ensures
    ∙ sym (behind_append (codes "msg=") (codes "audit(") c.args.text.now)
