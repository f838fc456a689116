use Rattle.audit_lex.specs.declared.fields.Kind.TheVariants as kind
use Rattle.audit_lex.proofs.ReadableLemmas.{used_within, readable}
use Rattle.audit_lex.proofs.laws.used_syscalls_are_readable.Goals as goal

pub returns-clause-text : goal.returns-clause-text
returns-clause-text c = λ line key is. readable line key kind.Syscall is

pub returns-clause-line : goal.returns-clause-line
returns-clause-line c = λ limit line key is. readable line key kind.Syscall (used_within limit line key kind.Syscall is)
