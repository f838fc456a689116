-- A disk in memory after one more call.
use Rattle.std.proofs.Common.{◌≡◌, ◌≤◌, inr, ⊎_elim, ℕ, List, ◌∷◌, length, refl, sym, subst, arith}
use Rattle.outside.specs.Disk.{OnlyLooks}
use Rattle.outside.specs.DiskLaws.{read_is_image, counts_now}
use Rattle.outside.specs.DiskMemory.{Recorded, reads_of, image_of, left_since, disk_state, state_after}
use Rattle.outside.specs.declared.mem_disk.DiskCall.{DiskCall}
use Rattle.outside.specs.declared.mem_disk.DiskCall.TheVariants.{Synced}

-- a sync leaves nothing that couldn't have been left before it
looks : (first : List ℕ) (past : List DiskCall) → OnlyLooks (state_after first past) (state_after first (Synced ∷ past))
looks first past = record {
  later = omega arith;
  keeps = λ t c le left. inr (le, left);
  adds_nothing = λ t c le left. ⊎_elim
      (λ (now : c ≡ reads_of first past). counts_now first past t c (subst (image_of first past) (sym now) (read_is_image first past)))
      (λ (before : (t ≤ length past) × left_since first past t c). before.1) left;
  image = λ c now. subst (image_of first past) (sym now) (read_is_image first past);
  same = λ told. refl;
  tells = λ told. told;
}

pub sync_looks : (old new : Recorded) → new.first ≡ old.first → new.past ≡ Synced ∷ old.past → OnlyLooks (disk_state old) (disk_state new)
sync_looks old new first past =
    subst (λ (bytes : List ℕ). OnlyLooks (disk_state old) (state_after bytes new.past)) (sym first)
    (subst (λ (calls : List DiskCall). OnlyLooks (disk_state old) (state_after old.first calls)) (sym past) (looks old.first old.past))
