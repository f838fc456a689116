-- What holds of the acts of every event.
use Rattle.std.specs.Prelude.{◌≡◌, ℕ, ◌==◌, Bool, true, false, List, ◌∷◌, All}
use Rattle.audit_record.specs.declared.types.Syscall.{Syscall}
use Rattle.acts.specs.declared.act.Act.{Act}
use Rattle.acts.specs.declared.act.Act.TheVariants.{See, Fork, End, Exec, Set, SetBoth, Copy, Close, Mark, Address, Birth, Move}
use Rattle.acts.specs.LookBack.{opens}
use Rattle.call_acts.specs.declared.calls.Call.{Call}
use Rattle.call_acts.specs.declared.calls.Call.TheVariants as kind

-- the act is one of this pid, or a birth, which is nobody's
abbrev pub is_act_of : ℕ → Act → Bool
is_act_of p (See pid ppid exe) = p == pid
is_act_of p (Fork pid child) = p == pid
is_act_of p (End pid) = p == pid
is_act_of p (Exec pid) = p == pid
is_act_of p (Set pid n what cloexec) = p == pid
is_act_of p (SetBoth pid first second cloexec) = p == pid
is_act_of p (Copy pid from to cloexec) = p == pid
is_act_of p (Close pid n) = p == pid
is_act_of p (Mark pid n cloexec) = p == pid
is_act_of p (Address pid n bytes) = p == pid
is_act_of p (Birth file) = true
is_act_of p (Move pid inward how what) = p == pid

-- the acts begin with a see of the caller, and all that follow are the caller's
pub record AreOfCaller (call : Syscall) (acts : List Act) : Type 0 where
  pub rest : List Act
  pub begins : acts ≡ See call.pid call.ppid call.exe ∷ rest
  pub follows : All (λ act. is_act_of call.pid act ≡ true) rest

-- calls of the kind make, copy or name descriptors
abbrev pub opens_descriptors : Call → Bool
opens_descriptors kind.Open = true
opens_descriptors kind.Dup = true
opens_descriptors kind.Dup2 = true
opens_descriptors kind.Dup3 = true
opens_descriptors kind.Fcntl = true
opens_descriptors kind.Pair = true
opens_descriptors kind.Socket = true
opens_descriptors kind.Bind = true
opens_descriptors kind.Connect = true
opens_descriptors kind.Accept = true
opens_descriptors other = false

-- none of the acts puts anything at a descriptor
abbrev pub OpenNothing : List Act → Type 0
OpenNothing acts = All (λ act. opens act ≡ false) acts
