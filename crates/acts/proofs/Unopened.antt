-- Where nothing was put at a descriptor, nothing is held.
use Rattle.std.proofs.Common.{◌≡◌, refl, ℕ, true, false, List, [], ◌∷◌, None, arith}
use Rattle.std.proofs.lemmas.Grind.{common_steps}
use Rattle.acts.specs.declared.act.Act.{Act}
use Rattle.acts.specs.declared.act.Act.TheVariants.{See, Fork, End, Exec, Set, SetBoth, Copy, Close, Mark, Address, Birth, Move}
use Rattle.acts.specs.Holding.{holds}
use Rattle.acts.specs.LookBack.{any_opens}

pub nothing_held : (acts : List Act) (p n : ℕ) → any_opens acts ≡ false → holds acts p n ≡ None
nothing_held [] p n none = refl
nothing_held (See pid ppid exe ∷ before) p n none = grind (arith, common_steps, nothing_held before p n none, nothing_held before ppid n none)
nothing_held (Fork pid child ∷ before) p n none = grind (arith, common_steps, nothing_held before p n none, nothing_held before pid n none)
nothing_held (End pid ∷ before) p n none = grind (arith, common_steps, nothing_held before p n none)
nothing_held (Exec pid ∷ before) p n none = grind (arith, common_steps, nothing_held before p n none)
nothing_held (Set pid fd what cloexec ∷ before) p n none = let wrong : true ≡ false = none in cc
nothing_held (SetBoth pid first second cloexec ∷ before) p n none = let wrong : true ≡ false = none in cc
nothing_held (Copy pid from to cloexec ∷ before) p n none = let wrong : true ≡ false = none in cc
nothing_held (Close pid fd ∷ before) p n none = grind (arith, common_steps, nothing_held before p n none)
nothing_held (Mark pid fd cloexec ∷ before) p n none = grind (arith, common_steps, nothing_held before p n none)
nothing_held (Address pid fd bytes ∷ before) p n none = let wrong : true ≡ false = none in cc
nothing_held (Birth file ∷ before) p n none = nothing_held before p n none
nothing_held (Move pid inward how what ∷ before) p n none = nothing_held before p n none
