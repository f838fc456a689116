-- What a disk is at a moment, what its calls do to it, and what a crash may leave of them.
use Rattle.std.specs.Prelude.{◌≡◌, ◌⊎◌, ◌↔◌, ℕ, ◌+◌, ◌≤◌, max, Bool, true, false, List, [], ◌∷◌, ◌++◌, length, take, drop}
use Rattle.outside.specs.Cause.{Rose}

-- A disk at a moment. A disk that isn't observable has no image, so no clause claims anything of them.
pub record DiskState : Type 1 where
  pub told : Type 0  -- the disk tells its bytes
  pub tells : Bool  -- the same as a value, of which what is known of it can be made
  pub reads : List ℕ  -- the bytes that a read gives now
  pub image : List ℕ → Type 0  -- what a crash now may leave
  pub moment : ℕ  -- a clock that never goes back
  pub since : ℕ → List ℕ → Type 0  -- what a crash at this moment or at a later one may have left

-- these bytes, put over what stands at this place
abbrev pub put_at : ℕ → List ℕ → List ℕ → List ℕ
put_at at bytes old = take at old ++ bytes ++ drop (at + length bytes) old

-- any bytes in the range of n bytes and past the old end, which may be missing; the same elsewhere
pub record Torn (at n : ℕ) (old new : List ℕ) : Type 0 where
  pub before : take at new ≡ take at old
  pub after : drop (at + n) new ≡ drop (at + n) old
  pub no_shorter : length old ≤ length new
  pub no_longer : length new ≤ max (length old) (at + n)

-- What a write of these bytes may make of a disk if it fails or a crash comes: a single byte is there or not, and of more
-- bytes each may be anything.
abbrev pub MayBecome : ℕ → List ℕ → List ℕ → List ℕ → Type 0
MayBecome at [] old new = new ≡ old
MayBecome at (byte ∷ []) old new = (new ≡ old) ⊎ (new ≡ put_at at (byte ∷ []) old)
MayBecome at (a ∷ b ∷ bytes) old new = Torn at (length (a ∷ b ∷ bytes)) old new

-- the bytes before this place read as before
abbrev pub KeepsFront : ℕ → (old new : DiskState) → Type 0
KeepsFront at old new = take at new.reads ≡ take at old.reads

-- each image now is an earlier image after a step
abbrev pub Follows : (List ℕ → List ℕ → Type 0) → (List ℕ → Type 0) → (List ℕ → Type 0) → Type 0
Follows step old new = (c : List ℕ) → new c → (d : List ℕ) × old d × step d c

-- a crash leaves these bytes and nothing else
abbrev pub Only : List ℕ → (List ℕ → Type 0) → Type 0
Only bytes image = (c : List ℕ) → image c → c ≡ bytes

-- a crash leaves what the disk reads as and nothing else
abbrev pub IsDurable : DiskState → Type 0
IsDurable state = Only state.reads state.image

-- Calls that use a disk. They don't change whether it is observable, its count of faults doesn't fall, a spent disk stays
-- spent, and the count rose if they blame the disk.
pub record UsesDisk {D : Type 0} (state : D → DiskState) (faults : D → ℕ) (spent : D → Type 0) (old new : D) (blamed : Type 0) : Type 0 where
  pub still_told : (state old).told → (state new).told
  pub told_before : (state new).told → (state old).told
  pub later : faults old ≤ faults new
  pub stays : spent old → spent new
  pub rose : blamed → Rose (faults old) (faults new) (spent new)

-- Time goes on over a call. What may have been left since an earlier moment may still have been left, and what is added to
-- it is what a crash may leave after the call.
pub record Elapses (old new : DiskState) : Type 0 where
  pub later : old.moment ≤ new.moment
  pub keeps : (t : ℕ) (c : List ℕ) → t ≤ old.moment → old.since t c → new.since t c
  pub adds : (t : ℕ) (c : List ℕ) → t ≤ old.moment → new.since t c → old.since t c ⊎ new.image c

-- A call, or calls in a row, that wrote nothing. The disk reads as before, and a crash at any moment leaves nothing that it
-- couldn't have left before.
pub record OnlyLooks (old new : DiskState) : Type 0 where
  pub later : old.moment ≤ new.moment
  pub keeps : (t : ℕ) (c : List ℕ) → t ≤ old.moment → old.since t c → new.since t c
  pub adds_nothing : (t : ℕ) (c : List ℕ) → t ≤ old.moment → new.since t c → old.since t c
  pub image : (c : List ℕ) → new.image c → old.image c
  pub same : old.told → new.reads ≡ old.reads
  pub tells : old.told → new.told

-- Each crash at a moment since the old state left what has P, whatever the calls were that led to the new state.
pub record LeavesOnly (old new : DiskState) (P : List ℕ → Type 0) : Type 0 where
  pub later : old.moment ≤ new.moment
  pub each : (c : List ℕ) → new.since old.moment c → P c
  pub before : (t : ℕ) (c : List ℕ) → t ≤ old.moment → new.since t c → old.since t c ⊎ P c

-- what a write of these bytes may have made of an earlier image
abbrev pub MayHaveWritten : ℕ → List ℕ → (List ℕ → Type 0) → List ℕ → Type 0
MayHaveWritten at bytes image c = (d : List ℕ) × image d × MayBecome at bytes d c

-- from some moment on a crash leaves what the disk reads as and nothing else
pub record Settles (old new : DiskState) : Type 0 where
  pub from : ℕ
  pub after : old.moment ≤ from
  pub by_now : from ≤ new.moment
  pub only : (c : List ℕ) → new.since from c → c ≡ new.reads

-- how the meanings of a disk belong together
pub record IsDisk (state : DiskState) : Type 0 where
  pub told_is : state.told ↔ (state.tells ≡ true)
  pub counts_now : (t : ℕ) (c : List ℕ) → t ≤ state.moment → state.image c → state.since t c
  pub only_now : (c : List ℕ) → state.since state.moment c → state.image c
  pub read_is_image : state.told → state.image state.reads

-- a disk that isn't observable
abbrev pub silent : DiskState
silent = record { told = ⊥; tells = false; reads = []; image = λ _. ⊥; moment = 0; since = λ _ _. ⊥ }
