use Rattle.audit_lex.proofs.ReadableLemmas.{readable}
use Rattle.audit_lex.proofs.laws.used_lines_are_readable.Goals as goal

pub returns : goal.returns
returns c = readable
