-- The lists of acts that events make: each act but a see and a birth names a pid that is live at it.
use Rattle.std.specs.Prelude.{◌≡◌, Bool, true, List, [], ◌∷◌, ⊤}
use Rattle.acts.specs.declared.act.Act.{Act}
use Rattle.acts.specs.declared.act.Act.TheVariants.{See, Fork, End, Exec, Set, SetBoth, Copy, Close, Mark, Address, Birth, Move}
use Rattle.acts.specs.Lives.{live}

-- the pid that an act names is live
abbrev pub names_live : List Act → Act → Bool
names_live before (See pid ppid exe) = true
names_live before (Fork pid child) = live before pid
names_live before (End pid) = live before pid
names_live before (Exec pid) = live before pid
names_live before (Set pid fd what cloexec) = live before pid
names_live before (SetBoth pid first second cloexec) = live before pid
names_live before (Copy pid from to cloexec) = live before pid
names_live before (Close pid fd) = live before pid
names_live before (Mark pid fd cloexec) = live before pid
names_live before (Address pid fd bytes) = live before pid
names_live before (Birth file) = true
names_live before (Move pid inward how what) = live before pid

-- each act of the list names a pid that the acts before it leave live
abbrev pub Admitted : List Act → Type 0
Admitted [] = ⊤
Admitted (act ∷ before) = (names_live before act ≡ true) × Admitted before
