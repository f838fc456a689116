-- Rows that never fail and are always observable let a question fail for want of memory alone.
use Rattle.std.proofs.Common.{◌≡◌, ◌<◌, ◌⊎◌, inl, inr, ℕ, List, Option, Some, None, refl, arith}
use Rattle.std.specs.Prelude.{Result, Ok, Err, IfErr}
use Rattle.reach_model.specs.Rows.{Row}
use Rattle.query_walk.specs.Fault.{IsWalkOver}
use Rattle.query_walk.specs.declared.fault.WalkFault.{WalkFault}
use Rattle.query_walk.specs.declared.fault.WalkFault.TheVariants as fault
use Rattle.kept_flows.specs.Answering.{AlwaysTold, NeverFail}

-- no count rose
not_risen : (a b : ℕ) (S : Type 0) → a ≡ 0 → b ≡ 0 → (S → ⊥) → (a < b) ⊎ S → ⊥
not_risen a b S was is never (inl rose) = absurd (omega (arith, was, is, rose))
not_risen a b S was is never (inr spent) = never spent

told_not : (told : Option (List Row)) (R : List Row) → told ≡ Some R → told ≡ None → ⊥
told_not told R is not = absurd (cc)

pub only_memory : {W T : Type 0} → (rows : W → Option (List Row)) (faults : W → ℕ) (spent : W → Type 0) (old new : W) (result : Result T WalkFault)
    → NeverFail faults spent → AlwaysTold rows → IsWalkOver rows faults spent old new result → IfErr result (λ why. why ≡ fault.NoMemory)
only_memory rows faults spent old new (Ok value) never told walk = tt
only_memory rows faults spent old new (Err fault.StoreFault) never told walk = absurd (not_risen (faults old) (faults new) (spent new) (never old).0 (never new).0 (never new).1 (walk.store_fault refl))
only_memory rows faults spent old new (Err (fault.BadStore place)) never told walk = absurd (told_not (rows old) (told old).0 (told old).1 (walk.bad_store place refl))
only_memory rows faults spent old new (Err fault.NoMemory) never told walk = refl
