use Rattle.audit_lex.proofs.UsedLaws.{used_is_written, written_is_used}
use Rattle.audit_lex.proofs.laws.used_lines_are_written.Goals as goal

pub returns : goal.returns
returns c = λ line key kind. (used_is_written line key kind, written_is_used line key kind)
