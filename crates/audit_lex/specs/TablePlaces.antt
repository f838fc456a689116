-- Where the tables ask for their fields.
use Rattle.std.specs.Prelude.{ℕ, Option, None, Some}
use Rattle.audit_lex.specs.declared.fields.Kind.{Kind}
use Rattle.audit_lex.specs.declared.fields.Kind.TheVariants as kind
use Rattle.audit_lex.specs.declared.fields.Field.{Field}
use Rattle.audit_lex.specs.declared.fields.Field.TheVariants as field

-- the kind whose table asks for a field, and its place there, if it has a slot
abbrev pub home : Field → Option (Kind × ℕ)
home field.Arch = Some (kind.Syscall, 0)
home field.Syscall = Some (kind.Syscall, 1)
home field.Success = Some (kind.Syscall, 2)
home field.Exit = Some (kind.Syscall, 3)
home field.A0 = Some (kind.Syscall, 4)
home field.A1 = Some (kind.Syscall, 5)
home field.A2 = Some (kind.Syscall, 6)
home field.A3 = Some (kind.Syscall, 7)
home field.Ppid = Some (kind.Syscall, 8)
home field.Pid = Some (kind.Syscall, 9)
home field.Exe = Some (kind.Syscall, 10)
home field.Item = Some (kind.Path, 0)
home field.Name = Some (kind.Path, 1)
home field.Inode = Some (kind.Path, 2)
home field.Dev = Some (kind.Path, 3)
home field.Nametype = Some (kind.Path, 4)
home field.Objtype = None
home field.Cwd = Some (kind.Cwd, 0)
home field.Saddr = Some (kind.Sockaddr, 0)
home field.Fd0 = Some (kind.FdPair, 0)
home field.Fd1 = Some (kind.FdPair, 1)
home field.Fd = Some (kind.Mmap, 0)

-- the place at home, if that is this kind
abbrev pub place_at : Kind → Option (Kind × ℕ) → Option ℕ
place_at kind.Syscall (Some (kind.Syscall, place)) = Some place
place_at kind.Path (Some (kind.Path, place)) = Some place
place_at kind.Cwd (Some (kind.Cwd, place)) = Some place
place_at kind.Sockaddr (Some (kind.Sockaddr, place)) = Some place
place_at kind.FdPair (Some (kind.FdPair, place)) = Some place
place_at kind.Mmap (Some (kind.Mmap, place)) = Some place
place_at k at_home = None

-- the place of a field in the table of a kind
abbrev pub place_in : Kind → Field → Option ℕ
place_in k f = place_at k (home f)
