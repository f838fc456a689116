-- A log that is taken into a store.
use Rattle.std.proofs.Common.{◌≡◌, ◌≤◌, ◌+◌, ℕ, List, [], ◌∷◌, ◌++◌, map, length, take, drop, refl, ap, sym, subst, arith, append_assoc, ◌∙◌, Option, inl, inr, ⊎_elim}
use Rattle.std.specs.Prelude.{◌⊎◌, Result, Ok, Err, OnErr, IfErr}
use Rattle.std.proofs.lemmas.List.{map-append, take-append-drop, take_all as list_take_all}
use Rattle.flow_base.specs.declared.limits.Limits.{Limits}
use Rattle.flow_base.specs.declared.limits.Full.{Full}
use Rattle.outside.specs.Cause.{Rose}
use Rattle.outside.specs.Disk.{DiskState, IsDisk, LeavesOnly, OnlyLooks, Settles, UsesDisk}
use Rattle.outside.proofs.Moments.{leaves_at_start, leaves_by_looking, leaves_in_a_row, leaves_more}
use Rattle.audit_lex.specs.History.{History, Byte, Settle, with_bytes}
use Rattle.reach_model.specs.declared.modes.Mode.{Mode}
use Rattle.reduced_store.specs.OnDisk.{OnDisk, SameBut}
use Rattle.ingest.specs.Counting.{bytes_in}
use Rattle.ingest.specs.Parts.{Engine}
use Rattle.ingest.specs.Saving.{IsSaved}
use Rattle.ingest.specs.Stops.{Stops}
use Rattle.std.specs.Io.KnownBytes.{Appends}
use Rattle.report_json.specs.declared.ask.Ask.TheVariants as ask
use Rattle.report_json.specs.declared.reply.Reply.{Reply}
use Rattle.report_json.specs.Replies.{text_of}
use Rattle.ingest.specs.Replies.{IsReply}
use Rattle.dialogue.specs.declared.halt.Halt.{Halt}
use Rattle.dialogue.specs.Dialogue.{Moment, taken_on}
use Rattle.dialogue.specs.Course.{IsDue, never}
use Rattle.dialogue.specs.declared.halt.StoreHalt.{StoreHalt}
use Rattle.dialogue.specs.Runs.{LeavesOnceSynced, MayLeave, WroteFront, settled_all}
use Rattle.dialogue.proofs.TalkLemmas.{appends_none}
use Rattle.dialogue.proofs.MomentLemmas.{Stay, count_bytes, counted_both, due_weaker}

-- ---- bytes of a history

pub bytes_more : (h : History) (bytes : List ℕ) → bytes_in (with_bytes h bytes) ≡ bytes_in h + length bytes
bytes_more h bytes = counted_both h (map Byte bytes) ∙ ap (λ (n : ℕ). bytes_in h + n) (count_bytes bytes)

pub bytes_settled : (h : History) → bytes_in (h ++ Settle ∷ []) ≡ bytes_in h
bytes_settled h =
    let split : bytes_in (h ++ Settle ∷ []) ≡ bytes_in h + 0 = counted_both h (Settle ∷ []) in
    omega (arith, split)

-- ---- what a crash leaves

-- a disk that stays as it is
pub leaves_same : (state : DiskState) (P : List ℕ → Type 0) → IsDisk state → ((c : List ℕ) → state.image c → P c) → LeavesOnly state state P
leaves_same state P disk images = leaves_more state state state.image P (leaves_at_start state disk) images

-- a look at a disk, and then a run
pub leaves_looked : (a b c : DiskState) (P : List ℕ → Type 0) → IsDisk a → OnlyLooks a b → ((bytes : List ℕ) → a.image bytes → P bytes) → LeavesOnly b c P → LeavesOnly a c P
leaves_looked a b c P disk looks images run = leaves_in_a_row a b c P (leaves_more a b a.image P (leaves_by_looking a b disk looks) images) run

-- a run that begins with another name of its disk
pub leaves_from : {D : Type 0} (state : D → DiskState) (a b : D) (c : DiskState) (P : List ℕ → Type 0) → b ≡ a → LeavesOnly (state b) c P → LeavesOnly (state a) c P
leaves_from {D} state a b c P same run = subst (λ (d : D). LeavesOnly (state d) c P) same run

-- a run that doesn't touch its disk
pub leaves_still : {D : Type 0} (state : D → DiskState) (a b : D) (P : List ℕ → Type 0) → b ≡ a → IsDisk (state a) → ((bytes : List ℕ) → (state a).image bytes → P bytes) → LeavesOnly (state a) (state b) P
leaves_still {D} state a b P same disk images = subst (λ (d : D). LeavesOnly (state a) (state d) P) (sym same) (leaves_same (state a) P disk images)

-- a run over a disk that is durable at its begin
pub synced_before : (outcome : Result Unit StoreHalt) (a b : DiskState) (P : List ℕ → Type 0) → LeavesOnly a b P → MayLeave outcome a b P
synced_before outcome a b P run = inr (record {
  synced = a.moment;
  after = omega arith;
  by_now = run.later;
  since = run.each;
  ever = leaves_more a b P (λ bytes. a.image bytes ⊎ P bytes) run (λ bytes p. inr p);
})

-- a look at a disk that settles it, and then a run
pub synced_by_looking : (outcome : Result Unit StoreHalt) (a b c : DiskState) (P : List ℕ → Type 0) → IsDisk a → IsDisk b → OnlyLooks a b → Settles a b → P b.reads → MayLeave outcome b c P → LeavesOnceSynced a c P
synced_by_looking outcome a b c P first second looks settles here run =
    let all : LeavesOnly b c (λ bytes. b.image bytes ⊎ P bytes) = ever_of run in
    record {
      synced = settles.from;
      after = settles.after;
      by_now = (let early = settles.by_now in let late = all.later in omega (arith, early, late));
      since = λ bytes left. ⊎_elim (since_now bytes) (λ now. ⊎_elim (λ image. since_now bytes (second.counts_now settles.from bytes settles.by_now image)) (λ p. p) now) (all.before settles.from bytes settles.by_now left);
      ever = leaves_looked a b c (λ bytes. a.image bytes ⊎ P bytes) first looks (λ bytes image. inl image)
          (leaves_more b c (λ bytes. b.image bytes ⊎ P bytes) (λ bytes. a.image bytes ⊎ P bytes) all (λ bytes x. ⊎_elim (λ image. inl (looks.image bytes image)) (λ p. inr p) x));
    }
  where
    since_now : (bytes : List ℕ) → b.since settles.from bytes → P bytes
    since_now bytes past = subst P (sym (settles.only bytes past)) here

    ever_of : MayLeave outcome b c P → LeavesOnly b c (λ bytes. b.image bytes ⊎ P bytes)
    ever_of (inl unopened) = leaves_more b c b.image (λ bytes. b.image bytes ⊎ P bytes) (leaves_by_looking b c second unopened.1) (λ bytes image. inl image)
    ever_of (inr once) = once.ever

-- ---- calls on a disk, one after another

pub rose_too : (a b c : ℕ) (spent : Type 0) → a ≤ b → Rose b c spent → Rose a c spent
rose_too a b c spent low (inl above) = inl (omega (arith, low, above))
rose_too a b c spent low (inr none) = inr none

pub rose_on : (a b c : ℕ) (was spent : Type 0) → b ≤ c → (was → spent) → Rose a b was → Rose a c spent
rose_on a b c was spent low stays (inl above) = inl (omega (arith, low, above))
rose_on a b c was spent low stays (inr none) = inr (stays none)

-- calls that are blamed for a count that rose
pub uses_blamed : {D : Type 0} (state : D → DiskState) (faults : D → ℕ) (spent : D → Type 0) (a b : D) (P Q : Type 0) → UsesDisk state faults spent a b P → (Q → Rose (faults a) (faults b) (spent b)) → UsesDisk state faults spent a b Q
uses_blamed state faults spent a b P Q uses rose = record { still_told = uses.still_told; told_before = uses.told_before; later = uses.later; stays = uses.stays; rose = rose }

-- ---- a log that is taken

abbrev pub StaysSaved : {D : Type 0} → (D → DiskState) → (D → ℕ) → (D → Type 0) → Type 0
StaysSaved {D} state faults spent = (limits : Limits) (mode : Mode) (h : History) (part : ℕ) (old new : Engine (OnDisk D)) → (state old.joined.keep.disk).told
    → SameBut state faults spent old.joined.keep new.joined.keep
    → new.joined.tables.marked ≡ old.joined.tables.marked → IsSaved state limits mode old h part → IsSaved state limits mode new h part

-- what stops the engine within the log stops it within all of it, settled
pub stops_whole : Stay → (limits : Limits) (m : Moment) (n : ℕ) (full : Full) → Stops limits (taken_on n m).history full → Stops limits (settled_all m).history full
stops_whole stay limits m n full stops =
    let a = map Byte (take n m.log) in
    let b = map Byte (drop n m.log) in
    let whole : take (length m.log) m.log ≡ take n m.log ++ drop n m.log = list_take_all (length m.log) m.log (omega arith) ∙ sym (take-append-drop n m.log) in
    let parts : (settled_all m).history ≡ (m.history ++ a) ++ (b ++ Settle ∷ []) =
    ap (λ (xs : List ℕ). (m.history ++ map Byte xs) ++ Settle ∷ []) whole
    ∙ ap (λ (ys : History). (m.history ++ ys) ++ Settle ∷ []) (map-append Byte (take n m.log) (drop n m.log))
    ∙ ap (λ (zs : History). zs ++ Settle ∷ []) (sym (append_assoc m.history a b))
    ∙ append_assoc (m.history ++ a) b (Settle ∷ []) in
    subst (λ (h : History). Stops limits h full) (sym parts) (stay limits (m.history ++ a) (b ++ Settle ∷ []) full stops)

-- ---- the reply to `stat`

-- a write that was cut wrote a front
pub front_cut : (limits : Limits) (mode : Mode) (h : History) (old new : Option (List ℕ)) (stat : Reply) (r : Result Unit Halt) → IsReply mode limits h ask.Stat stat
    → OnErr r ((done : ℕ) × Appends old new (take done (text_of stat))) → OnErr r (WroteFront limits mode h old new)
front_cut limits mode h old new stat (Ok t) is cut = tt
front_cut limits mode h old new stat (Err why) is cut = record {
  bytes = take cut.0 (text_of stat);
  wrote = cut.1;
  front = inr (stat, drop cut.0 (text_of stat), is, take-append-drop cut.0 (text_of stat));
}

-- nothing was written
pub front_none : (limits : Limits) (mode : Mode) (h : History) (old : Option (List ℕ)) → WroteFront limits mode h old old
front_none limits mode h old = record { bytes = []; wrote = appends_none old; front = inl refl }

-- no limit was due
pub never_due : {T : Type 0} (r : Result T Halt) (passes : Full → Type 0) → IfErr r (IsDue never) → IfErr r (IsDue passes)
never_due (Ok t) passes due = tt
never_due (Err why) passes due = due_weaker why never passes (λ full none. absurd none) due
