-- What a write leaves, and that a disk in memory is a disk.
use Rattle.std.proofs.Common.{◌≡◌, true, false, true≢false, sym, inl, inr, ℕ, ◌+◌, ◌≤◌, max, List, [], ◌∷◌, ◌++◌, length, take, drop, refl, ◌∙◌, ap, arith, append_assoc, length-append, length-drop, take-append-drop}
use Rattle.std.proofs.lemmas.List.{take_at, drop_at, length-take-le}
use Rattle.outside.specs.Disk.{IsDisk, MayBecome, put_at, silent}
use Rattle.outside.specs.DiskMemory.{Recorded, reads_of, image_of, left_since, disk_state}
use Rattle.outside.specs.declared.mem_disk.DiskCall.{DiskCall}
use Rattle.outside.specs.declared.mem_disk.DiskCall.TheVariants.{Wrote, Synced}

put_parts : (at : ℕ) (bytes old : List ℕ) → put_at at bytes old ≡ take at old ++ (bytes ++ drop (at + length bytes) old)
put_parts at bytes old = append_assoc (take at old) bytes (drop (at + length bytes) old)

-- what stands before the place of a write stays, and what stands after its range
pub before_put : (at : ℕ) (bytes old : List ℕ) → at ≤ length old → take at (put_at at bytes old) ≡ take at old
before_put at bytes old within = ap (take at) (put_parts at bytes old) ∙ take_at (take at old) _ at (length-take-le at old within)

pub after_put : (at : ℕ) (bytes old : List ℕ) → at ≤ length old → drop (at + length bytes) (put_at at bytes old) ≡ drop (at + length bytes) old
after_put at bytes old within =
    drop_at (take at old ++ bytes) _ (at + length bytes) (omega (arith, length-append (take at old) bytes, length-take-le at old within))

pub length_put : (at : ℕ) (bytes old : List ℕ) → at ≤ length old → length (put_at at bytes old) ≡ max (length old) (at + length bytes)
length_put at bytes old within =
    omega (arith, length-append (take at old ++ bytes) (drop (at + length bytes) old), length-append (take at old) bytes, length-take-le at old within, length-drop (at + length bytes) old)

-- a write may do nothing, and it may be done
pub may_stay : (at : ℕ) (bytes old : List ℕ) → MayBecome at bytes old old
may_stay at [] old = refl
may_stay at (byte ∷ []) old = inl refl
may_stay at (a ∷ b ∷ bytes) old = record { before = refl; after = refl; no_shorter = omega arith; no_longer = omega arith }

pub may_be_put : (at : ℕ) (bytes old : List ℕ) → at ≤ length old → MayBecome at bytes old (put_at at bytes old)
may_be_put at [] old within =
    let here : at + 0 ≡ at = omega arith in
    put_parts at [] old ∙ ap (λ (n : ℕ). take at old ++ drop n old) here ∙ take-append-drop at old
may_be_put at (byte ∷ []) old within = inr refl
may_be_put at (a ∷ b ∷ bytes) old within = record {
  before = before_put at (a ∷ b ∷ bytes) old within;
  after = after_put at (a ∷ b ∷ bytes) old within;
  no_shorter = omega (arith, length_put at (a ∷ b ∷ bytes) old within);
  no_longer = omega (arith, length_put at (a ∷ b ∷ bytes) old within);
}

pub read_is_image : (first : List ℕ) (past : List DiskCall) → image_of first past (reads_of first past)
read_is_image first [] = refl
read_is_image first (Wrote at bytes ∷ before) = (reads_of first before, read_is_image first before, may_be_put _ bytes (reads_of first before) (omega arith))
read_is_image first (Synced ∷ before) = refl

pub counts_now : (first : List ℕ) (past : List DiskCall) (t : ℕ) (c : List ℕ) → image_of first past c → left_since first past t c
counts_now first [] t c now = now
counts_now first (call ∷ before) t c now = inl now

pub only_now : (first : List ℕ) (past : List DiskCall) (c : List ℕ) → left_since first past (length past) c → image_of first past c
only_now first [] c left = left
only_now first (call ∷ before) c (inl now) = now
only_now first (call ∷ before) c (inr past) = absurd (omega (arith, past.0))

pub memory_is_disk : (disk : Recorded) → IsDisk (disk_state disk)
memory_is_disk disk = record {
  told_is = (λ told. refl, λ tells. tt);
  counts_now = λ t c le now. counts_now disk.first disk.past t c now;
  only_now = λ c left. only_now disk.first disk.past c left;
  read_is_image = λ told. read_is_image disk.first disk.past;
}

pub silent_is_disk : IsDisk silent
silent_is_disk = record { told_is = (λ told. absurd told, λ tells. absurd (true≢false (sym tells))); counts_now = λ t c le now. now; only_now = λ c left. left; read_is_image = λ told. absurd told }
