-- What a run lacks on the disk of its store.
use Rattle.std.proofs.Common.{Bool, true, false, ◌≡◌, ◌≤◌, ◌<◌, ◌+◌, ◌-◌, ℕ, List, [], ◌∷◌, ◌++◌, length, drop, refl, ap, sym, subst, arith, ◌∙◌, Option, Some, None, inl, inr, length-append}
use Rattle.std.specs.Prelude.{Result, Ok, Err, IfErr}
use Rattle.std.specs.List.{AllZip}
use Rattle.std.specs.Io.KnownBytes.{Keeps}
use Rattle.std.proofs.lemmas.List.{length-drop}
use Rattle.flow_base.specs.declared.limits.Limits.{Limits}
use Rattle.outside.specs.Disk.{DiskState, IsDisk, OnlyLooks}
use Rattle.audit_lex.specs.History.{History, Byte, Settle}
use Rattle.batch_log.specs.OneReading.{OneList}
use Rattle.reach_model.specs.declared.modes.Mode.{Mode}
use Rattle.row_codec.specs.declared.rows.StoreRow.{StoreRow}
use Rattle.row_codec.specs.declared.state.StateRow.{StateRow}
use Rattle.row_codec.specs.Payload.{IsPayload}
use Rattle.stored.specs.Moment.{Moment as Stood}
use Rattle.stored.specs.Stored.{EndsAt, last_of}
use Rattle.reduced_store.specs.OnDisk.{OnDisk, SameBut}
use Rattle.reduced_store.proofs.ReadLemmas.{Apart, one_reading}
use Rattle.ingest.specs.Counting.{bytes_in}
use Rattle.ingest.specs.Parts.{Engine}
use Rattle.ingest.specs.Saving.{IsEither, IsSaved, LeavesEither}
use Rattle.ingest.specs.StandsFor.{StandsFor}
use Rattle.ingest.specs.Storing.{StoresHistory, moment_of}
use Rattle.dialogue.specs.declared.halt.Halt.{Halt}
use Rattle.dialogue.specs.declared.halt.StoreHalt.{StoreHalt}
use Rattle.dialogue.specs.Dialogue.{Moment}
use Rattle.dialogue.specs.StoreHalts.{over_run}
use Rattle.dialogue.specs.Runs.{LacksIn, begun_of}
use Rattle.dialogue.specs.Saves.{Begun, IsAllPutAway, IsOf, IsPutAway, LacksAtMost, LacksInStore, LacksLawfully, LeavesAllBut, Start, bytes_of, lack_of, since}
use Rattle.dialogue.proofs.MomentLemmas.{counted_both}
use Rattle.dialogue.proofs.SaveLemmas.{stands_since}

-- ---- bytes that are read

-- what is left of a log after two reads
pub left_both : (a b : ℕ) (bytes : List ℕ) (left left2 : Option (List ℕ)) → (first : LeavesAllBut a bytes left) → (left ≡ Some first.rest → LeavesAllBut b first.rest left2) → LeavesAllBut (a + b) bytes left2
left_both a b bytes left left2 first next =
    let second = next first.told in
    record { rest = second.rest; told = second.told; few = omega (arith, first.few, second.few); no_more = omega (arith, first.no_more, second.no_more) }

pub left_all : (n : ℕ) (bytes : List ℕ) (left : Option (List ℕ)) → left ≡ Some bytes → LeavesAllBut n bytes left
left_all n bytes left told = record { rest = bytes; told = told; few = omega arith; no_more = omega arith }

pub left_more : (a b : ℕ) (bytes : List ℕ) (left : Option (List ℕ)) → a ≤ b → LeavesAllBut a bytes left → LeavesAllBut b bytes left
left_more a b bytes left within some = record { rest = some.rest; told = some.told; few = omega (arith, within, some.few); no_more = some.no_more }

-- a call that failed leaves what was left
pub kept_left : (old new : Option (List ℕ)) (bytes : List ℕ) → old ≡ Some bytes → Keeps old new → new ≡ Some bytes
kept_left None new bytes told kept = absurd (cc)
kept_left (Some xs) None bytes told kept = absurd kept
kept_left (Some xs) (Some ys) bytes told kept = ap Some kept ∙ told

-- a read of n bytes, of at most so many
pub read_left : (n most : ℕ) (bytes : List ℕ) (left : Option (List ℕ)) → n ≤ most → left ≡ Some (drop n bytes) → LeavesAllBut most bytes left
read_left n most bytes left within told = record { rest = drop n bytes; told = told; few = (let long = length-drop n bytes in omega (arith, long, within)); no_more = (let long = length-drop n bytes in omega (arith, long)) }

-- what is left behind bytes that were passed over
pub left_passed : (taken before : ℕ) (bytes : List ℕ) (left : Option (List ℕ)) → taken ≡ before → LeavesAllBut taken bytes left → LeavesAllBut (length bytes - length (drop before bytes)) bytes left
left_passed taken before bytes left same but = record { rest = but.rest; told = but.told; few = (let long = length-drop before bytes in omega (arith, long, same, but.few)); no_more = but.no_more }

-- ---- the bytes that a store has taken

-- the steps that are bytes, counted
pub long_of : (h : History) → length (bytes_of h) ≡ bytes_in h
long_of [] = refl
long_of (Byte b ∷ h) =
    let split : bytes_in (Byte b ∷ h) ≡ 1 + bytes_in h = counted_both (Byte b ∷ []) h in
    let long : length (bytes_of (Byte b ∷ h)) ≡ 1 + length (bytes_of h) = length-append (b ∷ []) (bytes_of h) in
    let rest = long_of h in
    omega (arith, split, long, rest)
long_of (Settle ∷ h) =
    let split : bytes_in (Settle ∷ h) ≡ 0 + bytes_in h = counted_both (Settle ∷ []) h in
    let rest = long_of h in
    let same : length (bytes_of (Settle ∷ h)) ≡ length (bytes_of h) = refl in
    omega (arith, split, rest, same)

abbrev taken_in : Option StateRow → ℕ
taken_in None = 0
taken_in (Some s) = s.taken

-- batches that end at two moments say how many bytes came up to each
same_ends : (m m2 : Stood) (o : Option (List StoreRow)) → EndsAt m o → EndsAt m2 o → m.bytes ≡ m2.bytes
same_ends m m2 None e f = ap (λ (x : Stood). x.bytes) e ∙ sym (ap (λ (x : Stood). x.bytes) f)
same_ends m m2 (Some batch) e f = ap taken_in (sym e.state ∙ f.state)

-- two histories of one store have as many bytes
pub same_bytes : Apart → OneList → (limits : Limits) (mode : Mode) (bytes : List ℕ) (h h2 : History) (p p2 : ℕ) → StoresHistory limits mode bytes h p → StoresHistory limits mode bytes h2 p2 → bytes_in h ≡ bytes_in h2
same_bytes apart one limits mode bytes h h2 p p2 a b =
    let payloads = one limits.payload a.store.payloads b.store.payloads bytes limits.payload_within a.store.store b.store.store in
    let same = one_reading apart mode a.store.batches b.store.batches b.store.payloads (subst (AllZip (IsPayload mode) a.store.batches) payloads a.store.spelled) b.store.spelled in
    same_ends (moment_of limits h p) (moment_of limits h2 p2) (last_of b.store.batches)
    (subst (λ (bs : List (List StoreRow)). EndsAt (moment_of limits h p) (last_of bs)) same a.store.stored.ends) b.store.stored.ends

-- ---- what is lacking

-- all the bytes of a log, up to a moment of it and after
all_bytes : (begun : Begun) (m : Moment) → IsOf begun m → bytes_in begun.history + length begun.log ≡ bytes_in m.history + length m.log
all_bytes begun m along =
    let whole = ap bytes_in along.goes_on ∙ counted_both begun.history (since begun m) in
    let long = sym (ap length along.bytes) ∙ length-append (bytes_of (since begun m)) m.log in
    let own = long_of (since begun m) in
    omega (arith, whole, long, own)

-- a log that is left is left as it is told
log_same : (log rest : List ℕ) (left : Option (List ℕ)) → left ≡ Some log → left ≡ Some rest → length log ≡ length rest
log_same log rest left a b = let same : log ≡ rest = (let both = sym a ∙ b in cc) in ap length same

-- all that came is in the whole
in_all : (total all whole log rest most : ℕ) → total ≡ all + log → all ≡ whole → log ≡ rest → total ≤ whole + rest + most
in_all total all whole log rest most a b c = omega (arith, a, b, c)

-- what one of two histories lacks
lacks_either : Apart → OneList → (limits : Limits) (mode : Mode) (image : List ℕ) (h : History) (part : ℕ) (first more : History) (p p2 : ℕ) (total rest most : ℕ) → total ≤ bytes_in first + rest + most → total ≤ bytes_in (first ++ more) + rest + most
    → StoresHistory limits mode image h part → IsEither limits mode first more p p2 image → total ≤ bytes_in h + rest + most
lacks_either apart one limits mode image h part first more p p2 total rest most a b stores (inl saved) =
    let same = same_bytes apart one limits mode image h first part p stores saved in
    omega (arith, same, a)
lacks_either apart one limits mode image h part first more p p2 total rest most a b stores (inr both) =
    let same = same_bytes apart one limits mode image h (first ++ more) part p2 stores both in
    omega (arith, same, b)

-- at the begin nothing lacks
pub lacks_begun : Apart → OneList → (limits : Limits) (mode : Mode) (begun : Begun) (disk : DiskState) (left : Option (List ℕ)) (n : ℕ)
    → ((bytes : List ℕ) → disk.image bytes → StoresHistory limits mode bytes begun.history begun.before) → ((rest : List ℕ) → left ≡ Some rest → length begun.log ≤ length rest + n)
    → LacksAtMost limits mode begun disk left n
lacks_begun apart one limits mode begun disk left n images few = λ bytes h part rest at stores told.
    let same = same_bytes apart one limits mode bytes h begun.history part begun.before stores (images bytes at) in
    let less = few rest told in
    omega (arith, same, less)

module _ {D : Type 0} (state : D → DiskState) where
  pub lacks_lawfully : {faults : D → ℕ} {spent : D → Type 0} → LacksLawfully {K = OnDisk D} (SameBut state faults spent) (LacksInStore state)
  lacks_lawfully = record {
    same = λ start limits mode a b left n same lacks. λ image h part rest at stores told. lacks image h part rest (same.disk.looks.image image at) stores told;
    reads = λ start limits mode rows bytes rest n k few lacks. λ image h part rest2 at stores told.
        let base = lacks image h part bytes at stores refl in
        let same : rest ≡ rest2 = cc in
        let long = ap length same in
        omega (arith, base, few, long);
    more = λ start limits mode rows left n k within lacks. λ image h part rest at stores told.
        let base = lacks image h part rest at stores told in
        omega (arith, base, within);
  }

  module _ (apart : Apart) (one : OneList) (start : Start (OnDisk D)) (limits : Limits) where
    -- once all is saved, nothing lacks
    pub lacks_saved : (mode : Mode) (rows : OnDisk D) (left : Option (List ℕ)) (m : Moment) → m.mode ≡ mode → left ≡ Some m.log → IsAllPutAway state start limits rows m → LacksInStore state start limits mode rows left 0
    lacks_saved mode rows left m is told all = λ image h part rest at stores left_told.
        let same : m.log ≡ rest = (let both = sym told ∙ left_told in cc) in
        let long = ap length same in
        let here = subst (λ (bytes : List ℕ). StoresHistory limits mode bytes h part) (all.durable image at) stores in
        let there = subst (λ (k : Mode). StoresHistory limits k (state rows.disk).reads m.history (start.begun.part + bytes_in (since start.begun m))) is all.stores in
        let taken = same_bytes apart one limits mode (state rows.disk).reads h m.history part (start.begun.part + bytes_in (since start.begun m)) here there in
        let whole = all_bytes start.begun m all.moment in
        omega (arith, long, taken, whole)

    -- a save that failed left what was saved, or all
    pub lacks_cut : (mode : Mode) (old new : Engine (OnDisk D)) (left : Option (List ℕ)) (m : Moment) (most : ℕ) → ((d : D) → IsDisk (state d)) → m.mode ≡ mode → left ≡ Some m.log → LeavesEither state mode old new
        → StandsFor limits old m.history → IsPutAway state start limits old m → LacksInStore state start limits mode old.joined.keep left most → LacksInStore state start limits mode new.joined.keep left most
    lacks_cut mode old new left m most lawful is told leaves stands away lacks = λ image h part rest at stores left_told.
        let all = start.begun.part + bytes_in (since start.begun m) in
        let total = bytes_in start.begun.history + length start.begun.log in
        let saved = subst (λ (k : Mode). StoresHistory limits k (state old.joined.keep.disk).reads away.first away.saved_part) is away.saved.stores in
        let was : total ≤ bytes_in away.first + length rest + most =
        lacks (state old.joined.keep.disk).reads away.first away.saved_part rest ((lawful old.joined.keep.disk).read_is_image away.told) saved left_told in
        let left_only = leaves limits away.first away.more away.saved_part all (stands_since state start limits old m stands away)
        (subst (λ (k : Mode). IsSaved state limits k old away.first away.saved_part) is away.saved) in
        let either = left_only.each image ((lawful new.joined.keep.disk).counts_now (state old.joined.keep.disk).moment image left_only.later at) in
        lacks_either apart one limits mode image h part away.first away.more away.saved_part all total (length rest) most was
        (in_all total (bytes_in m.history) (bytes_in (away.first ++ away.more)) (length m.log) (length rest) most (all_bytes start.begun m away.moment) (ap bytes_in away.parts) (log_same m.log rest left told left_told)) stores either

-- ---- what the laws give

module _ {K : Type 0} (alike : K → K → Type 0) (lacks : Start K → Limits → Mode → K → Option (List ℕ) → ℕ → Type 0) (laws : LacksLawfully alike lacks) (start : Start K) (limits : Limits) (mode : Mode) where
  -- so many bytes more were read of a log
  pub lacks_read : (rows rows2 : K) (bytes : List ℕ) (left left2 : Option (List ℕ)) (n k : ℕ) → alike rows rows2 → left ≡ Some bytes → LeavesAllBut k bytes left2 → lacks start limits mode rows left n → lacks start limits mode rows2 left2 (n + k)
  lacks_read rows rows2 bytes left left2 n k same told but was =
      laws.same start limits mode rows rows2 left2 (n + k) same
      (subst (λ (l : Option (List ℕ)). lacks start limits mode rows l (n + k)) (sym but.told)
      (laws.reads start limits mode rows bytes but.rest n k but.few (subst (λ (l : Option (List ℕ)). lacks start limits mode rows l n) told was)))

  -- a part of a run that read nothing of the log
  pub lacks_still : {T E : Type 0} (rows rows2 : K) (left : Option (List ℕ)) (r : Result T E) (unsaved batch : ℕ) → alike rows rows2 → unsaved < batch → lacks start limits mode rows left unsaved → lacks start limits mode rows2 left (lack_of r unsaved batch)
  lacks_still rows rows2 left (Ok t) unsaved batch same few was = laws.same start limits mode rows rows2 left unsaved same was
  lacks_still rows rows2 left (Err e) unsaved batch same few was = laws.same start limits mode rows rows2 left batch same (laws.more start limits mode rows left unsaved batch (omega (arith, few)) was)

  -- a halt after a part of a run that was done
  pub lacks_halted : (rows : K) (left : Option (List ℕ)) (unsaved batch : ℕ) → unsaved < batch → lacks start limits mode rows left unsaved → lacks start limits mode rows left batch
  lacks_halted rows left unsaved batch few was = laws.more start limits mode rows left unsaved batch (omega (arith, few)) was

-- the same batch under another name
pub lacks_at_batch : {K T E : Type 0} (lacks : Start K → Limits → Mode → K → Option (List ℕ) → ℕ → Type 0) (start : Start K) (limits : Limits) (mode : Mode) (rows : K) (left : Option (List ℕ)) (r : Result T E) (unsaved a b : ℕ)
    → a ≡ b → lacks start limits mode rows left (lack_of r unsaved a) → lacks start limits mode rows left (lack_of r unsaved b)
lacks_at_batch lacks start limits mode rows left r unsaved a b same was = subst (λ (n : ℕ). lacks start limits mode rows left (lack_of r unsaved n)) same was

-- ---- runs over a store

few_begun : (resume : Bool) (h : History) (before : ℕ) (bytes : List ℕ) → length (begun_of resume h before bytes).log ≤ length bytes
few_begun true h before bytes = let long = length-drop before bytes in omega (arith, long)
few_begun false h before bytes = omega arith

-- a run that read nothing of its log, and left no more than there was
pub lacks_images : Apart → OneList → (resume : Bool) (Tells : Type 0) (Stood : History → ℕ → Type 0) (limits : Limits) (mode : Mode) (after : DiskState) (log : Option (List ℕ)) (most : ℕ) (outcome : Result Unit StoreHalt)
    → ((h : History) (before : ℕ) → Stood h before → (bs : List ℕ) → after.image bs → StoresHistory limits mode bs h before) → LacksIn resume Tells Stood limits mode after log log most outcome
lacks_images apart one resume Tells Stood limits mode after log most (Ok t) images = λ h before bytes tells stood told. tt
lacks_images apart one resume Tells Stood limits mode after log most (Err why) images = λ h before bytes tells stood told.
    lacks_begun apart one limits mode (begun_of resume h before bytes) after log most (images h before stood) (λ rest left.
    let same : bytes ≡ rest = (let both = sym told ∙ left in cc) in
    let long = ap length same in
    let few = few_begun resume h before bytes in
    omega (arith, long, few))

-- a run over what was said in other words of its disk
pub lacks_from : (resume : Bool) (Tells : Type 0) (Stood Stood2 : History → ℕ → Type 0) (limits : Limits) (mode : Mode) (after : DiskState) (log left : Option (List ℕ)) (most : ℕ) (outcome : Result Unit StoreHalt)
    → ((h : History) (before : ℕ) → Stood h before → Stood2 h before) → LacksIn resume Tells Stood2 limits mode after log left most outcome → LacksIn resume Tells Stood limits mode after log left most outcome
lacks_from resume Tells Stood Stood2 limits mode after log left most outcome opens run = λ h before bytes tells stood told. run h before bytes tells (opens h before stood) told

-- an image of a disk that has another name
pub image_of : {D : Type 0} (state : D → DiskState) (a b : D) (bytes : List ℕ) → b ≡ a → (state b).image bytes → (state a).image bytes
image_of {D} state a b bytes same image = subst (λ (d : D). (state d).image bytes) same image

-- a part of a run that may have halted
pub lacks_if : {K T E : Type 0} (alike : K → K → Type 0) (lacks : Start K → Limits → Mode → K → Option (List ℕ) → ℕ → Type 0) → LacksLawfully alike lacks → (start : Start K) (limits : Limits) (mode : Mode) (rows rows2 : K) (left : Option (List ℕ)) (r : Result T E) (unsaved batch : ℕ)
    → alike rows rows2 → unsaved < batch → lacks start limits mode rows left unsaved → IfErr r (λ why. lacks start limits mode rows2 left batch)
lacks_if alike lacks laws start limits mode rows rows2 left (Ok t) unsaved batch same few was = tt
lacks_if alike lacks laws start limits mode rows rows2 left (Err e) unsaved batch same few was = laws.same start limits mode rows rows2 left batch same (laws.more start limits mode rows left unsaved batch (omega (arith, few)) was)

-- a last save that may have failed
pub lacks_last : {K T E : Type 0} (alike : K → K → Type 0) (lacks : Start K → Limits → Mode → K → Option (List ℕ) → ℕ → Type 0) → LacksLawfully alike lacks → (start : Start K) (limits : Limits) (mode : Mode) (rows : K) (left : Option (List ℕ)) (r : Result T E) (unsaved batch : ℕ)
    → unsaved < batch → lacks start limits mode rows left (lack_of r 0 unsaved) → IfErr r (λ why. lacks start limits mode rows left batch)
lacks_last alike lacks laws start limits mode rows left (Ok t) unsaved batch few was = tt
lacks_last alike lacks laws start limits mode rows left (Err e) unsaved batch few was = laws.more start limits mode rows left unsaved batch (omega (arith, few)) was

-- the outcome of a run under another name
pub lacks_run : (P : Type 0) (r : Result Unit Halt) → IfErr r (λ why. P) → IfErr (over_run r) (λ why. P)
lacks_run P (Ok t) p = tt
lacks_run P (Err why) p = p

-- at the begin of a run over an opened store
pub lacks_at_begin : {D : Type 0} → Apart → OneList → (state : D → DiskState) (limits : Limits) (mode : Mode) (old new : D) (resume : Bool) (h : History) (before : ℕ) (bytes : List ℕ) (left : Option (List ℕ)) (n : ℕ) → OnlyLooks (state old) (state new)
    → ((bs : List ℕ) → (state old).image bs → StoresHistory limits mode bs h before) → LeavesAllBut (length bytes - length (begun_of resume h before bytes).log) bytes left
    → LacksAtMost limits mode (begun_of resume h before bytes) (state new) left n
lacks_at_begin apart one state limits mode old new resume h before bytes left n looks images but =
    lacks_begun apart one limits mode (begun_of resume h before bytes) (state new) left n (λ bs image. images bs (looks.image bs image)) (λ rest told.
    let same_rest : but.rest ≡ rest = (let both = sym but.told ∙ told in cc) in
    let long = ap length same_rest in
    let few = few_begun resume h before bytes in
    omega (arith, but.few, long, few))
