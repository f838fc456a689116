-- What a run adds to the disk of its store.
use Rattle.std.proofs.Common.{◌≡◌, ◌≤◌, ◌<◌, ◌+◌, ◌-◌, ◌*◌, ◌/◌, ℕ, List, [], ◌∷◌, ◌++◌, length, take, drop, refl, ap, sym, subst, arith, append_assoc, ◌∙◌, Option, Some, inl, inr, length-append}
use Rattle.std.specs.Prelude.{Result, Ok, Err}
use Rattle.std.proofs.lemmas.List.{append-nil, length-take, length-drop}
use Rattle.std.proofs.Math.Nat.{le-div_iff_mul-le, add-mul-div_left, mul-le-mul_right}
use Rattle.flow_base.specs.declared.limits.Limits.{Limits}
use Rattle.outside.specs.Disk.{DiskState, IsDisk, OnlyLooks}
use Rattle.batch_log.specs.Batches.{IsBeforeOrAfter, IsStore}
use Rattle.batch_log.specs.OneReading.{OneList}
use Rattle.reduced_store.specs.OnDisk.{OnDisk, SameBut}
use Rattle.ingest.specs.Parts.{Engine}
use Rattle.ingest.specs.Saving.{AddsOne}
use Rattle.dialogue.specs.Dialogue.{Moment}
use Rattle.dialogue.specs.Saves.{AddsAtMost, AddsLawfully, AddsToStore, IsPutAway, KeepsPace, LeavesAllBut, Start, lack_of}

-- ---- batches of a disk

-- a disk that reads as before has no further batch
pub adds_none : (limits : Limits) (disk after : DiskState) (n : ℕ) → after.reads ≡ disk.reads → AddsAtMost limits disk after n
adds_none limits disk after n same = λ payloads store.
    ([], subst (λ (ps : List (List ℕ)). IsStore limits.payload ps after.reads) (sym (append-nil payloads)) (subst (λ (bytes : List ℕ). IsStore limits.payload payloads bytes) (sym same) store), omega arith)

pub adds_more : (limits : Limits) (disk after : DiskState) (n k : ℕ) → n ≤ k → AddsAtMost limits disk after n → AddsAtMost limits disk after k
adds_more limits disk after n k within adds = λ payloads store.
    let few = adds payloads store in
    (few.0, few.1, omega (arith, few.2, within))

-- another disk that reads as the first one
pub adds_as : (limits : Limits) (disk disk2 after after2 : DiskState) (n : ℕ) → disk2.reads ≡ disk.reads → after.reads ≡ after2.reads → AddsAtMost limits disk2 after n → AddsAtMost limits disk after2 n
adds_as limits disk disk2 after after2 n same last adds = λ payloads store.
    let few = adds payloads (subst (λ (bytes : List ℕ). IsStore limits.payload payloads bytes) (sym same) store) in
    (few.0, subst (λ (bytes : List ℕ). IsStore limits.payload (payloads ++ few.0) bytes) last few.1, few.2)

-- an observable disk after looks at it
pub adds_by_looking : (limits : Limits) (disk after after2 : DiskState) (n : ℕ) → after.told → OnlyLooks after after2 → AddsAtMost limits disk after n → AddsAtMost limits disk after2 n
adds_by_looking limits disk after after2 n told looks adds = adds_as limits disk disk after after2 n refl (sym (looks.same told)) adds

-- one batch more, or none
one_more : (limits : Limits) (payloads more : List (List ℕ)) (payload bytes : List ℕ) (n : ℕ) → length more ≤ n → IsBeforeOrAfter limits.payload (payloads ++ more) payload bytes
    → (further : List (List ℕ)) × IsStore limits.payload (payloads ++ further) bytes × (length further ≤ n + 1)
one_more limits payloads more payload bytes n few (inl same) = (more, same, omega (arith, few))
one_more limits payloads more payload bytes n few (inr added) =
    let long = length-append more (payload ∷ []) in
    (more ++ payload ∷ [], subst (λ (ps : List (List ℕ)). IsStore limits.payload ps bytes) (append_assoc payloads more (payload ∷ [])) added, omega (arith, few, long))

module _ {D : Type 0} (state : D → DiskState) where
  pub adds_lawfully : {faults : D → ℕ} {spent : D → Type 0} → AddsLawfully {K = OnDisk D} (SameBut state faults spent) (AddsToStore state)
  adds_lawfully = λ start limits a b n same adds told.
      let was = same.disk.uses.told_before told in
      adds_by_looking limits (state start.rows.disk) (state a.disk) (state b.disk) n was same.disk.looks (adds was)

  -- a save adds one batch, whatever comes of it
  pub adds_saved : OneList → (start : Start (OnDisk D)) (limits : Limits) (old new : Engine (OnDisk D)) (m : Moment) (n : ℕ) → ((d : D) → IsDisk (state d)) → (state new.joined.keep.disk).told → AddsOne state old new
      → IsPutAway state start limits old m → AddsToStore state start limits old.joined.keep n → AddsToStore state start limits new.joined.keep (n + 1)
  adds_saved one start limits old new m n lawful told adds away was = λ new_told payloads store.
      let few = was away.told payloads store in
      let saved = away.saved in
      let ps = saved.stores.store.payloads in
      let now = state old.joined.keep.disk in
      let later = state new.joined.keep.disk in
      let at : IsStore limits.payload ps now.reads = subst (λ (k : ℕ). IsStore k ps now.reads) saved.most (old.joined.keep.log.last, saved.log) in
      let same : ps ≡ payloads ++ few.0 = one limits.payload ps (payloads ++ few.0) now.reads limits.payload_within at few.1 in
      let added = adds ps saved.image in
      let left = added.1 in
      let either = left.each later.reads ((lawful new.joined.keep.disk).counts_now now.moment later.reads left.later ((lawful new.joined.keep.disk).read_is_image told)) in
      one_more limits payloads few.0 added.0 later.reads n few.2
      (subst (λ (xs : List (List ℕ)). IsBeforeOrAfter limits.payload xs added.0 later.reads) same (subst (λ (k : ℕ). IsBeforeOrAfter k ps added.0 later.reads) saved.most either))

-- ---- batches and bytes

told_long : (a b : List ℕ) (left : Option (List ℕ)) → left ≡ Some a → left ≡ Some b → length a ≡ length b
told_long a b left first second = let same : a ≡ b = (let both = sym first ∙ second in cc) in ap length same

module _ {K : Type 0} (adds : K → ℕ → Type 0) where
  -- at the begin
  pub pace_begun : (batch : ℕ) (rows : K) (unsaved : ℕ) (left : Option (List ℕ)) (log : List ℕ) → left ≡ Some log → adds rows 0 → KeepsPace adds batch rows unsaved left (unsaved + length log)
  pace_begun batch rows unsaved left log told none = record { added = 0; adds_so = none; rest = log; told = told; within = omega arith }

  -- the same batch under another name
  pub pace_at : (a b : ℕ) (rows : K) (unsaved : ℕ) (left : Option (List ℕ)) (most : ℕ) → a ≡ b → KeepsPace adds a rows unsaved left most → KeepsPace adds b rows unsaved left most
  pace_at a b rows unsaved left most same pace = subst (λ (n : ℕ). KeepsPace adds n rows unsaved left most) same pace

  -- other rows with as many batches, of which less is unsaved, or within more bytes
  pub pace_on : (batch : ℕ) (rows rows2 : K) (unsaved less : ℕ) (left : Option (List ℕ)) (most more : ℕ) → ((n : ℕ) → adds rows n → adds rows2 n) → less ≤ unsaved → most ≤ more
      → KeepsPace adds batch rows unsaved left most → KeepsPace adds batch rows2 less left more
  pace_on batch rows rows2 unsaved less left most more on fewer room pace =
      record { added = pace.added; adds_so = on pace.added pace.adds_so; rest = pace.rest; told = pace.told; within = omega (arith, fewer, room, pace.within) }

  -- so many bytes were taken
  pub pace_taken : (batch : ℕ) (rows rows2 : K) (unsaved : ℕ) (left left2 : Option (List ℕ)) (most : ℕ) (log : List ℕ) (room count : ℕ) → ((n : ℕ) → adds rows n → adds rows2 n)
      → left ≡ Some log → left2 ≡ Some (drop room log) → count ≡ length (take room log) → KeepsPace adds batch rows unsaved left most → KeepsPace adds batch rows2 (unsaved + count) left2 most
  pace_taken batch rows rows2 unsaved left left2 most log room count on told told2 is pace =
      let same = told_long pace.rest log left pace.told told in
      let some = length-take room log in
      let rest = length-drop room log in
      record { added = pace.added; adds_so = on pace.added pace.adds_so; rest = drop room log; told = told2; within = omega (arith, same, some, rest, is, pace.within) }

  -- some bytes were read, and nothing was added
  pub pace_cut : (batch : ℕ) (rows rows2 : K) (unsaved : ℕ) (left left2 : Option (List ℕ)) (most : ℕ) (log : List ℕ) (k : ℕ) → ((n : ℕ) → adds rows n → adds rows2 n)
      → left ≡ Some log → LeavesAllBut k log left2 → KeepsPace adds batch rows unsaved left most → KeepsPace adds batch rows2 0 left2 most
  pace_cut batch rows rows2 unsaved left left2 most log k on told but pace =
      let same = told_long pace.rest log left pace.told told in
      record { added = pace.added; adds_so = on pace.added pace.adds_so; rest = but.rest; told = but.told; within = omega (arith, same, but.no_more, pace.within) }

  -- a save of a batch
  pub pace_saved : (batch : ℕ) (rows rows2 : K) (unsaved : ℕ) (left : Option (List ℕ)) (most : ℕ) → batch ≤ unsaved → ((n : ℕ) → adds rows n → adds rows2 (n + 1))
      → KeepsPace adds batch rows unsaved left most → KeepsPace adds batch rows2 0 left most
  pace_saved batch rows rows2 unsaved left most full one pace =
      let next : (pace.added + 1) * batch ≡ pace.added * batch + batch = omega arith in
      record { added = pace.added + 1; adds_so = one pace.added pace.adds_so; rest = pace.rest; told = pace.told; within = omega (arith, next, full, pace.within) }

  -- a save of less
  pub pace_settled : (batch : ℕ) (rows rows2 : K) (unsaved : ℕ) (left : Option (List ℕ)) (most : ℕ) → ((n : ℕ) → adds rows n → adds rows2 (n + 1))
      → KeepsPace adds batch rows unsaved left most → KeepsPace adds batch rows2 0 left (most + batch)
  pace_settled batch rows rows2 unsaved left most one pace =
      let next : (pace.added + 1) * batch ≡ pace.added * batch + batch = omega arith in
      record { added = pace.added + 1; adds_so = one pace.added pace.adds_so; rest = pace.rest; told = pace.told; within = omega (arith, next, pace.within) }

module _ {K : Type 0} (adds : K → ℕ → Type 0) where
  -- a part of a run that saved nothing
  pub pace_free : (batch : ℕ) (rows rows2 : K) (unsaved : ℕ) (left : Option (List ℕ)) (most more : ℕ) → ((n : ℕ) → adds rows n → adds rows2 n) → KeepsPace adds batch rows unsaved left most → KeepsPace adds batch rows2 unsaved left (most + more)
  pace_free batch rows rows2 unsaved left most more on pace = pace_on adds batch rows rows2 unsaved unsaved left most (most + more) on (omega arith) (omega arith) pace

  -- one that halted
  pub pace_halted : (batch : ℕ) (rows rows2 : K) (unsaved : ℕ) (left : Option (List ℕ)) (most more : ℕ) → ((n : ℕ) → adds rows n → adds rows2 n) → KeepsPace adds batch rows unsaved left most → KeepsPace adds batch rows2 0 left (most + more)
  pace_halted batch rows rows2 unsaved left most more on pace = pace_on adds batch rows rows2 unsaved 0 left most (most + more) on (omega arith) (omega arith) pace

  -- one that may have
  pub pace_still : {T E : Type 0} (batch : ℕ) (rows rows2 : K) (r : Result T E) (unsaved : ℕ) (left : Option (List ℕ)) (most more : ℕ) → ((n : ℕ) → adds rows n → adds rows2 n) → KeepsPace adds batch rows unsaved left most
      → KeepsPace adds batch rows2 (lack_of r unsaved 0) left (most + more)
  pace_still batch rows rows2 (Ok t) unsaved left most more on pace = pace_free batch rows rows2 unsaved left most more on pace
  pace_still batch rows rows2 (Err e) unsaved left most more on pace = pace_halted batch rows rows2 unsaved left most more on pace

  -- no fewer settles
  pub pace_up : (batch : ℕ) (rows : K) (unsaved : ℕ) (left : Option (List ℕ)) (most a b : ℕ) → a ≤ b → KeepsPace adds batch rows unsaved left (most + a * batch) → KeepsPace adds batch rows unsaved left (most + b * batch)
  pace_up batch rows unsaved left most a b within pace =
      let times = mul-le-mul_right {m = a} {n = b} batch within in
      pace_on adds batch rows rows unsaved unsaved left (most + a * batch) (most + b * batch) (λ n so. so) (omega arith) (omega (arith, times)) pace

  -- two parts of a run
  pub pace_both : (batch batch2 : ℕ) (rows : K) (unsaved : ℕ) (left : Option (List ℕ)) (most a b c : ℕ) → batch2 ≡ batch → a + b ≤ c → KeepsPace adds batch2 rows unsaved left ((most + a * batch) + b * batch2) → KeepsPace adds batch rows unsaved left (most + c * batch)
  pace_both batch batch2 rows unsaved left most a b c same within pace =
      let times = mul-le-mul_right {m = a + b} {n = c} batch within in
      let split : (a + b) * batch ≡ a * batch + b * batch = omega arith in
      pace_on adds batch rows rows unsaved unsaved left ((most + a * batch) + b * batch) (most + c * batch) (λ n so. so) (omega arith) (omega (arith, times, split))
      (subst (λ (k : ℕ). KeepsPace adds k rows unsaved left ((most + a * batch) + b * k)) same pace)

-- so many batches at most
few_of : (added batch spare log rest more : ℕ) → 0 < batch → added * batch + 0 + rest ≤ (spare + log) + batch * more → added ≤ (spare + (log - rest)) / batch + more
few_of added batch spare log rest more some within =
    let bound : added * batch ≤ (spare + (log - rest)) + batch * more = omega (arith, within) in
    let few = (le-div_iff_mul-le {k = batch} {x = added} {y = (spare + (log - rest)) + batch * more} some).1 bound in
    subst (λ (n : ℕ). added ≤ n) (add-mul-div_left (spare + (log - rest)) more {y = batch} some) few

-- what was added in all
pub pace_adds : {D : Type 0} (state : D → DiskState) (start : Start (OnDisk D)) (limits : Limits) (rows : OnDisk D) (batch unsaved more most : ℕ) (log rest : List ℕ) (left : Option (List ℕ)) → 0 < batch → most ≤ (unsaved + length log) + batch * more
    → left ≡ Some rest → KeepsPace (AddsToStore state start limits) batch rows 0 left most → (state rows.disk).told → AddsAtMost limits (state start.rows.disk) (state rows.disk) ((unsaved + (length log - length rest)) / batch + more)
pace_adds state start limits rows batch unsaved more most log rest left some within told pace seen =
    let same = told_long pace.rest rest left pace.told told in
    adds_more limits (state start.rows.disk) (state rows.disk) pace.added _ (few_of pace.added batch unsaved (length log) (length rest) more some (omega (arith, same, within, pace.within))) (pace.adds_so seen)

-- a run that begins with nothing unsaved
pub unsaved_none : (limits : Limits) (disk after : DiskState) (taken batch more : ℕ) → AddsAtMost limits disk after ((0 + taken) / batch + more) → AddsAtMost limits disk after (taken / batch + more)
unsaved_none limits disk after taken batch more adds =
    let same : 0 + taken ≡ taken = omega arith in
    subst (λ (n : ℕ). AddsAtMost limits disk after (n / batch + more)) same adds
