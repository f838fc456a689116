-- The shape of the acts of one event. Acts stand in their order, oldest first.
use Rattle.std.specs.Prelude.{◌≡◌, ◌++◌, ℕ, ⊤, List, [], ◌∷◌, All}
use Rattle.acts.specs.declared.act.Act.{Act}
use Rattle.acts.specs.declared.act.Act.TheVariants.{See, Fork, End, Exec, Set, SetBoth, Copy, Close, Mark, Address, Birth, Move}

-- the act is of this process or a birth, and not the see that comes first
abbrev pub IsOf : ℕ → Act → Type 0
IsOf pid (See seen ppid exe) = ⊥
IsOf pid (Fork caller child) = caller ≡ pid
IsOf pid (End ended) = ended ≡ pid
IsOf pid (Exec caller) = caller ≡ pid
IsOf pid (Set caller fd what cloexec) = caller ≡ pid
IsOf pid (SetBoth caller first second cloexec) = caller ≡ pid
IsOf pid (Copy caller from to cloexec) = caller ≡ pid
IsOf pid (Close caller fd) = caller ≡ pid
IsOf pid (Mark caller fd cloexec) = caller ≡ pid
IsOf pid (Address caller fd bytes) = caller ≡ pid
IsOf pid (Birth file) = ⊤
IsOf pid (Move caller inward how what) = caller ≡ pid

-- a birth or a move, which leaves lives, descriptors and addresses as they are
abbrev pub IsCalm : Act → Type 0
IsCalm (Birth file) = ⊤
IsCalm (Move pid inward how what) = ⊤
IsCalm other = ⊥

-- an act of this process that leaves it as it is
pub record IsCalmOf (pid : ℕ) (act : Act) : Type 0 where
  pub of : IsOf pid act
  pub calm : IsCalm act

-- the acts after the see are of its process, and all but the last are births and moves
abbrev pub AreRest : ℕ → List Act → Type 0
AreRest pid rest = (front : List Act) (last : Act) → rest ≡ front ++ last ∷ [] → All (IsCalmOf pid) front × IsOf pid last

-- an event has no acts, or begins with a see
abbrev pub IsEvent : List Act → Type 0
IsEvent [] = ⊤
IsEvent (See pid ppid exe ∷ rest) = AreRest pid rest
IsEvent (other ∷ rest) = ⊥
