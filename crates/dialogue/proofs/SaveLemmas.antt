-- What is saved of a log as it is taken.
use Rattle.std.proofs.Common.{Bool, true, false, None, ◌≡◌, ◌≤◌, ◌+◌, ◌-◌, ◌^◌, ℕ, List, [], ◌∷◌, ◌++◌, map, length, take, drop, refl, ap, sym, subst, arith, append_assoc, ◌∙◌, Option, Some, inl, inr}
use Rattle.std.specs.Prelude.{◌⊎◌, if◌then◌else◌, Result, Ok, Err, IfErr}
use Rattle.std.proofs.lemmas.List.{append-nil, length-take, take-append-drop, take_all as list_take_all}
use Rattle.std.proofs.lemmas.List.Concat.{flat_map-append}
use Rattle.std.proofs.Math.Seq.{drop-append_seam}
use Rattle.flow_base.specs.declared.limits.Limits.{Limits}
use Rattle.flow_base.specs.declared.limits.Full.{Full}
use Rattle.outside.specs.Cause.{Rose}
use Rattle.outside.specs.Disk.{DiskState, IsDisk, IsDurable, LeavesOnly}
use Rattle.audit_lex.specs.History.{History, Byte, Settle}
use Rattle.batch_log.specs.declared.log.CommitFault.{CommitFault}
use Rattle.batch_log.specs.declared.log.CommitFault.TheVariants as commit
use Rattle.reach_model.specs.declared.modes.Mode.{Mode}
use Rattle.reach_model.specs.Rows.{Row}
use Rattle.reduced_store.specs.Held.{told_if}
use Rattle.reduced_store.specs.OnDisk.{OnDisk, SameBut, seen_rows}
use Rattle.ingest.specs.Counting.{bytes_in}
use Rattle.ingest.specs.Parts.{Engine}
use Rattle.ingest.specs.PartTaken.{HasPart, StandsWith}
use Rattle.ingest.specs.Saving.{IsEither, IsSaved, LeavesEither, PassesFull, Saves}
use Rattle.ingest.specs.StandsFor.{StandsFor}
use Rattle.ingest.specs.Storing.{IsCommitFor, StoresHistory}
use Rattle.dialogue.specs.declared.halt.Halt.{Halt}
use Rattle.dialogue.specs.declared.halt.Halt.TheVariants as halt
use Rattle.dialogue.specs.StoreHalts.{commit_halt}
use Rattle.report_json.specs.declared.ask.Ask.{Ask}
use Rattle.report_json.specs.declared.ask.Ask.TheVariants as ask
use Rattle.dialogue.specs.Dialogue.{Moment, after, settled_on, taken_on}
use Rattle.dialogue.specs.Runs.{first_of, settled_all, steps_of, whole_of}
use Rattle.dialogue.specs.Course.{At, CountsOn, HasCauses, StandsAt, kind_of}
use Rattle.dialogue.specs.Saves.{Begun, IsAllPutAway, IsCutShort, IsHiddenIn, IsOf, IsPutAway, IsReached, CutShort, NamesNoStore, PassesStore, ReadsLawfully, RoseIn, SavesLawfully, Start, StoresFront, UsesStore, byte_of, bytes_of, since}
use Rattle.outside.proofs.Moments.{leaves_in_a_row, leaves_more, leaves_then_looks}
use Rattle.dialogue.proofs.MomentLemmas.{count_bytes, counted_both, take_all, take_both}
use Rattle.dialogue.proofs.StoreLemmas.{StaysSaved, bytes_more}

-- ---- bytes of a log, and what came since the begin of a run

pub bytes_of_text : (bytes : List ℕ) → bytes_of (map Byte bytes) ≡ bytes
bytes_of_text [] = refl
bytes_of_text (b ∷ bytes) = ap (λ (xs : List ℕ). b ∷ xs) (bytes_of_text bytes)

bytes_both : (a b : History) → bytes_of (a ++ b) ≡ bytes_of a ++ bytes_of b
bytes_both a b = flat_map-append byte_of a b

-- what came since, and then more
pub since_more : (begun : Begun) (m m2 : Moment) (x : History) → IsOf begun m → m2.history ≡ m.history ++ x → since begun m2 ≡ since begun m ++ x
since_more begun m m2 x along longer =
    let whole : m2.history ≡ begun.history ++ (since begun m ++ x) = longer ∙ ap (λ (h : History). h ++ x) along.goes_on ∙ append_assoc begun.history (since begun m) x in
    ap (λ (h : History). drop (length begun.history) h) whole ∙ drop-append_seam begun.history (since begun m ++ x)

pub is_of_more : (begun : Begun) (m m2 : Moment) (x : History) → IsOf begun m → m2.history ≡ m.history ++ x → bytes_of x ++ m2.log ≡ m.log → IsOf begun m2
is_of_more begun m m2 x along longer left =
    let further = since_more begun m m2 x along longer in
    record {
      goes_on = longer ∙ ap (λ (h : History). h ++ x) along.goes_on ∙ append_assoc begun.history (since begun m) x ∙ ap (λ (s : History). begun.history ++ s) (sym further);
      bytes = ap (λ (s : History). bytes_of s ++ m2.log) further ∙ ap (λ (b : List ℕ). b ++ m2.log) (bytes_both (since begun m) x) ∙ append_assoc (bytes_of (since begun m)) (bytes_of x) m2.log
          ∙ ap (λ (l : List ℕ). bytes_of (since begun m) ++ l) left ∙ along.bytes;
    }

-- the begin is a moment of its log
pub since_begun : (begun : Begun) (m : Moment) → m.history ≡ begun.history → since begun m ≡ []
since_begun begun m history = ap (λ (h : History). drop (length begun.history) h) (history ∙ sym (append-nil begun.history)) ∙ drop-append_seam begun.history []

pub is_of_begun : (begun : Begun) (m : Moment) → m.history ≡ begun.history → m.log ≡ begun.log → IsOf begun m
is_of_begun begun m history log =
    let none = since_begun begun m history in
    record {
      goes_on = history ∙ sym (append-nil begun.history) ∙ ap (λ (s : History). begun.history ++ s) (sym none);
      bytes = ap (λ (s : History). bytes_of s ++ m.log) none ∙ log;
    }

-- what is taken of a log and what is left of it
pub log_left : (m : Moment) (n : ℕ) → bytes_of (map Byte (take n m.log)) ++ (taken_on n m).log ≡ m.log
log_left m n = ap (λ (b : List ℕ). b ++ drop n m.log) (bytes_of_text (take n m.log)) ∙ take-append-drop n m.log

-- a front of what came is a front of what came later
front_more : (limits : Limits) (mode : Mode) (begun : Begun) (s x : History) (bytes : List ℕ) → StoresFront limits mode begun s bytes → StoresFront limits mode begun (s ++ x) bytes
front_more limits mode begun s x bytes front = record {
  first = front.first;
  more = front.more ++ x;
  parts = ap (λ (h : History). h ++ x) front.parts ∙ append_assoc front.first front.more x;
  stores = front.stores;
}

pub reached_more : (limits : Limits) (mode : Mode) (begun : Begun) (s x : History) (bytes : List ℕ) → IsReached limits mode begun s bytes → IsReached limits mode begun (s ++ x) bytes
reached_more limits mode begun s x bytes (inl was) = inl was
reached_more limits mode begun s x bytes (inr front) = inr (front_more limits mode begun s x bytes front)

-- all that came is a front of it
reached_now : (limits : Limits) (mode : Mode) (begun : Begun) (s : History) (h : History) (part : ℕ) (bytes : List ℕ) → h ≡ begun.history ++ s → part ≡ begun.part + bytes_in s → StoresHistory limits mode bytes h part
    → IsReached limits mode begun s bytes
reached_now limits mode begun s h part bytes is counted stores = inr (record {
  first = s;
  more = [];
  parts = sym (append-nil s);
  stores = subst (λ (p : ℕ). StoresHistory limits mode bytes (begun.history ++ s) p) counted (subst (λ (g : History). StoresHistory limits mode bytes g part) is stores);
})

passes_more : (limits : Limits) (mode : Mode) (begun : Begun) (s x : History) (full : Full) → PassesStore limits mode begun s full → PassesStore limits mode begun (s ++ x) full
passes_more limits mode begun s x full passes = record {
  earlier = passes.earlier;
  before = passes.before;
  first = passes.first;
  more = passes.more ++ x;
  parts = ap (λ (h : History). h ++ x) passes.parts ∙ append_assoc passes.first passes.more x;
  rows = passes.rows;
  commit = passes.commit;
  log = passes.log;
  most = passes.most;
  end = passes.end;
  passes = passes.passes;
}

-- ---- what the laws of saving give

-- no question changes the mode
pub after_mode : (q : Option Ask) (m : Moment) → (after q m).mode ≡ m.mode
after_mode None m = refl
after_mode (Some (ask.Take n)) m = taken_mode m.takes
  where
    taken_mode : (takes : Bool) → (if takes then taken_on n m else m).mode ≡ m.mode
    taken_mode true = refl
    taken_mode false = refl
after_mode (Some ask.Settle) m = settled_mode m.takes
  where
    settled_mode : (takes : Bool) → (if takes then settled_on m else m).mode ≡ m.mode
    settled_mode true = refl
    settled_mode false = refl
after_mode (Some ask.End) m = refl
after_mode (Some (ask.Question q)) m = refl
after_mode (Some (ask.Why from to until)) m = refl
after_mode (Some (ask.Find text)) m = refl
after_mode (Some (ask.Show id)) m = refl
after_mode (Some ask.Stat) m = refl

-- a halt that has no limit on a store for a cause names none
pub names_none : (read write store hidden : Type 0) (why : Halt) → HasCauses read write store hidden ⊥ why → NamesNoStore why
names_none read write store hidden (halt.Unwritten other) cause full is = cause
names_none read write store hidden halt.NoMemory cause full is = cc
names_none read write store hidden halt.ReadFault cause full is = cc
names_none read write store hidden halt.WriteFault cause full is = cc
names_none read write store hidden halt.StoreFault cause full is = cc
names_none read write store hidden (halt.BadRow place) cause full is = cc
names_none read write store hidden (halt.Full other) cause full is = cc

pub never_named : (r : Result Unit Halt) (read write store hidden : Type 0) (full : Full) → IfErr r (HasCauses read write store hidden ⊥) → r ≡ Err (halt.Unwritten full) → ⊥
never_named (Ok t) read write store hidden full cause is = cc
never_named (Err why) read write store hidden full cause is = names_none read write store hidden why cause full (let e : why ≡ halt.Unwritten full = cc in e)

-- want of memory names none
pub memory_names : NamesNoStore halt.NoMemory
memory_names full is = cc

pub read_names : NamesNoStore halt.ReadFault
read_names full is = cc

pub input_names : (full : Full) → NamesNoStore (halt.Full full)
input_names other full is = cc

pub either_later : (A A2 B B2 : Type 0) → (A → A2) → (B → B2) → A ⊎ B → A2 ⊎ B2
either_later A A2 B B2 f g (inl a) = inl (f a)
either_later A A2 B B2 f g (inr b) = inr (g b)

-- causes of a part of a run are causes of the run
pub causes_later : (read read2 write write2 store store2 hidden hidden2 limit : Type 0) (why : Halt) → (read → read2) → (write → write2) → (store → store2) → (hidden → hidden2)
    → HasCauses read write store hidden limit why → HasCauses read2 write2 store2 hidden2 limit why
causes_later read read2 write write2 store store2 hidden hidden2 limit halt.NoMemory e f g k h = tt
causes_later read read2 write write2 store store2 hidden hidden2 limit halt.ReadFault e f g k h = e h
causes_later read read2 write write2 store store2 hidden hidden2 limit halt.WriteFault e f g k h = f h
causes_later read read2 write write2 store store2 hidden hidden2 limit halt.StoreFault e f g k h = g h
causes_later read read2 write write2 store store2 hidden hidden2 limit (halt.BadRow place) e f g k h = k h
causes_later read read2 write write2 store store2 hidden hidden2 limit (halt.Full full) e f g k h = tt
causes_later read read2 write write2 store store2 hidden hidden2 limit (halt.Unwritten full) e f g k h = h

pub causes_on : {T : Type 0} (read read2 write write2 store store2 hidden hidden2 limit : Type 0) (r : Result T Halt) → (read → read2) → (write → write2) → (store → store2) → (hidden → hidden2)
    → IfErr r (HasCauses read write store hidden limit) → IfErr r (HasCauses read2 write2 store2 hidden2 limit)
causes_on read read2 write write2 store store2 hidden hidden2 limit (Ok t) e f g k h = tt
causes_on read read2 write write2 store store2 hidden hidden2 limit (Err why) e f g k h = causes_later read read2 write write2 store store2 hidden hidden2 limit why e f g k h

-- why a question isn't answered over rows that are hidden if they aren't observable
pub asked_why : (read write store store2 unseen hidden limit : Type 0) (why : Halt) → (unseen → hidden) → (store → store2) → HasCauses ⊥ ⊥ store unseen ⊥ why → HasCauses read write store2 hidden limit why
asked_why read write store store2 unseen hidden limit halt.NoMemory hides g h = tt
asked_why read write store store2 unseen hidden limit halt.ReadFault hides g h = absurd h
asked_why read write store store2 unseen hidden limit halt.WriteFault hides g h = absurd h
asked_why read write store store2 unseen hidden limit halt.StoreFault hides g h = g h
asked_why read write store store2 unseen hidden limit (halt.BadRow place) hides g h = hides h
asked_why read write store store2 unseen hidden limit (halt.Full full) hides g h = tt
asked_why read write store store2 unseen hidden limit (halt.Unwritten full) hides g h = absurd h

pub asked_causes : {T : Type 0} (read write store store2 unseen hidden limit : Type 0) (r : Result T Halt) → (unseen → hidden) → (store → store2)
    → IfErr r (HasCauses ⊥ ⊥ store unseen ⊥) → IfErr r (HasCauses read write store2 hidden limit)
asked_causes read write store store2 unseen hidden limit (Ok t) hides g h = tt
asked_causes read write store store2 unseen hidden limit (Err why) hides g h = asked_why read write store store2 unseen hidden limit why hides g h

module _ {K : Type 0} (alike : K → K → Type 0) (can : K → Type 0) (holds : Start K → Limits → Engine K → Moment → Type 0) (ends : Start K → Limits → K → Moment → Halt → Type 0) (uses rose : K → K → Type 0)
    (laws : SavesLawfully alike can holds ends uses rose) (start : Start K) (limits : Limits) where
  -- so many bytes more were taken
  pub at_taken : (mode : Mode) (takes : Bool) (old new : Engine K) (left left2 : Option (List ℕ)) (m : Moment) (room count : ℕ) → At (kind_of mode takes (holds start limits)) limits old left m
      → StandsAt limits new left2 (taken_on room m) → count ≡ length (take room m.log) → CountsOn old.part new.part count → alike old.joined.keep new.joined.keep → new.joined.tables.marked ≡ old.joined.tables.marked
      → At (kind_of mode takes (holds start limits)) limits new left2 (taken_on room m)
  at_taken mode takes old new left left2 m room count at stands is counts same marked = record {
    in_mode = at.in_mode;
    may_take = at.may_take;
    stands_at = stands;
    holds = laws.takes_on start limits old new m room same marked (subst (λ (n : ℕ). CountsOn old.part new.part n) is counts) stands.stands at.holds;
  }

  -- a halt before a moment is one before a later moment
  pub ends_by : (rows : K) (m : Moment) (n most : ℕ) (why : Halt) → n ≤ most → ends start limits rows (taken_on n m) why → ends start limits rows (taken_on most m) why
  ends_by rows m n most why within cut =
      let sum : n + (most - n) ≡ most = omega (arith, within) in
      subst (λ (k : ℕ). ends start limits rows (taken_on k m) why) sum (subst (λ (x : Moment). ends start limits rows x why) (take_both m n (most - n)) (laws.ends_later start limits rows (taken_on n m) (most - n) why cut))

  -- a halt of a run that was at a moment
  pub ends_at : (mode : Mode) (takes : Bool) (engine : Engine K) (left : Option (List ℕ)) (rows : K) (m : Moment) (n most : ℕ) (why : Halt) → n ≤ most → NamesNoStore why → alike engine.joined.keep rows
      → At (kind_of mode takes (holds start limits)) limits engine left (taken_on n m) → ends start limits rows (taken_on most m) why
  ends_at mode takes engine left rows m n most why within none same at = ends_by rows m n most why within (laws.ends_so start limits engine rows (taken_on n m) why none same at.holds)

  -- a question that isn't answered
  pub ends_asked : {T : Type 0} (mode : Mode) (takes : Bool) (engine : Engine K) (left : Option (List ℕ)) (rows : K) (m : Moment) (read write store hidden : Type 0) (r : Result T Halt) → alike engine.joined.keep rows
      → At (kind_of mode takes (holds start limits)) limits engine left m → IfErr r (HasCauses read write store hidden ⊥) → IfErr r (ends start limits rows m)
  ends_asked mode takes engine left rows m read write store hidden (Ok t) same at causes = tt
  ends_asked mode takes engine left rows m read write store hidden (Err why) same at causes = laws.ends_so start limits engine rows m why (names_none read write store hidden why causes) same at.holds

  -- a run that came to an end of its log, or was cut short before a moment
  pub cut_short : (mode : Mode) (takes : Bool) (engine : Engine K) (left : Option (List ℕ)) (rows : K) (m : Moment) (why : Halt) → NamesNoStore why → alike engine.joined.keep rows
      → At (kind_of mode takes (holds start limits)) limits engine left m → CutShort (ends start limits) mode rows why
  cut_short mode takes engine left rows m why none same at = record { to = m; in_mode = at.in_mode; ends = laws.ends_so start limits engine rows m why none same at.holds }

-- a count that stays at its begin doesn't rise
never_rose : {A : Type 0} → Rose 0 0 ⊥ → A
never_rose (inl above) = absurd (omega (arith, above))
never_rose (inr none) = absurd none

-- how reads of rows in memory belong to what is said of saving: none fails, and the rows are always observable
pub reads_in_memory : {K : Type 0} (rows : K → List Row) (hidden : K → Type 0) (uses rose : K → K → Type 0) → ((a b : K) → uses a b → hidden b → hidden a)
    → ReadsLawfully (λ s. Some (rows s)) (λ s. 0) (λ s. ⊥) hidden uses rose
reads_in_memory rows hidden uses rose before = record {
  failed = λ a b rises. never_rose rises;
  unseen = λ a none. absurd (cc);
  before = before;
}

-- rows that an observable disk tells are seen
unseen_untold : (disk : DiskState) (rows : List Row) → IsDisk disk → told_if disk.tells rows ≡ None → ¬ disk.told
unseen_untold disk rows is none told =
    let so : disk.tells ≡ true = is.told_is.0 told in
    let seen : told_if disk.tells rows ≡ Some rows = ap (λ (b : Bool). told_if b rows) so in
    cc

-- how reads of rows on a disk belong to it
pub reads_on_disk : {D : Type 0} (state : D → DiskState) (faults : D → ℕ) (spent : D → Type 0) → ((d : D) → IsDisk (state d))
    → ReadsLawfully (seen_rows state) (λ (s : OnDisk D). faults s.disk) (λ s. spent s.disk) (IsHiddenIn state) (UsesStore state faults spent) (RoseIn faults spent)
reads_on_disk state faults spent lawful = record {
  failed = λ a b rises. rises;
  unseen = λ a none. unseen_untold (state a.disk) a.rows.rows (lawful a.disk) none;
  before = λ a b uses hidden told. hidden (uses.still_told told);
}

-- the begin of a run that keeps its rows in memory
pub in_memory : {K : Type 0} (log : List ℕ) (rows : K) → Start K
in_memory log rows = record { begun = record { history = []; before = 0; part = 0; log = log }; rows = rows }

-- ---- the laws of saving, for the rows of a store

module _ {D : Type 0} (state : D → DiskState) (start : Start (OnDisk D)) (limits : Limits) where
  -- a run that goes on while the disk is only looked at, and the log and the mark stay
  pub further : {faults : D → ℕ} {spent : D → Type 0} (old new : Engine (OnDisk D)) (m m2 : Moment) (x : History) → StaysSaved state faults spent → SameBut state faults spent old.joined.keep new.joined.keep → new.joined.tables.marked ≡ old.joined.tables.marked
      → new.part ≡ old.part + bytes_in x → m2.mode ≡ m.mode → m2.history ≡ m.history ++ x → bytes_of x ++ m2.log ≡ m.log → IsPutAway state start limits old m → IsPutAway state start limits new m2
  further old new m m2 x stays same marked counted mode longer left away =
      let begun = start.begun in
      let along = away.moment in
      let more = since_more begun m m2 x along longer in
      let total = counted_both (since begun m) x in
      let was = away.has_part.counted in
      let within = away.has_part.within in
      let all = ap bytes_in longer ∙ counted_both m.history x in
      let sum = ap bytes_in more ∙ total in
      record {
        moment = is_of_more begun m m2 x along longer left;
        has_part = record { counted = omega (arith, counted, was, sum); within = omega (arith, within, all, sum) };
        told = same.disk.uses.still_told away.told;
        first = away.first;
        more = away.more ++ x;
        saved_part = away.saved_part;
        parts = longer ∙ ap (λ (h : History). h ++ x) away.parts ∙ append_assoc away.first away.more x;
        saved = stays limits m2.mode away.first away.saved_part old new away.told same marked (subst (λ (k : Mode). IsSaved state limits k old away.first away.saved_part) (sym mode) away.saved);
        reached = λ bytes stores. subst (λ (s : History). IsReached limits m2.mode begun s bytes) (sym more)
            (reached_more limits m2.mode begun (since begun m) x bytes (subst (λ (k : Mode). IsReached limits k begun (since begun m) bytes) (sym mode)
            (away.reached bytes (subst (λ (k : Mode). StoresHistory limits k bytes away.first away.saved_part) mode stores))));
        leaves = leaves_more _ _ (IsReached limits m.mode begun (since begun m)) (IsReached limits m2.mode begun (since begun m2)) (leaves_then_looks _ (state old.joined.keep.disk) _ _ away.leaves same.disk.looks)
            (λ bytes reached. subst (λ (s : History). IsReached limits m2.mode begun s bytes) (sym more)
            (reached_more limits m2.mode begun (since begun m) x bytes (subst (λ (k : Mode). IsReached limits k begun (since begun m) bytes) (sym mode) reached)));
      }

  -- a part of a log that fits is counted with room to spare
  pub taken_counted : (old new : Engine (OnDisk D)) (m : Moment) (n : ℕ) → CountsOn old.part new.part (length (take n m.log)) → StandsFor limits new (taken_on n m).history → IsPutAway state start limits old m
      → new.part ≡ old.part + bytes_in (map Byte (take n m.log))
  taken_counted old new m n counts stands away =
      let long = count_bytes (take n m.log) in
      let all = bytes_more m.history (take n m.log) in
      let fits = stands.fits.input in
      let small = limits.input_within in
      let was = away.has_part.counted in
      let within = away.has_part.within in
      let counted = counts (omega (arith, all, fits, small, was, within)) in
      omega (arith, counted, long)

  -- what is left of a run that halted is left of it at a later moment
  pub cut_later : (rows : OnDisk D) (m m2 : Moment) (x : History) (why : Halt) → m2.mode ≡ m.mode → m2.history ≡ m.history ++ x → bytes_of x ++ m2.log ≡ m.log
      → IsCutShort state start limits rows m why → IsCutShort state start limits rows m2 why
  cut_later rows m m2 x why mode longer left cut =
      let begun = start.begun in
      let more = since_more begun m m2 x cut.moment longer in
      record {
        moment = is_of_more begun m m2 x cut.moment longer left;
        leaves = leaves_more _ _ (IsReached limits m.mode begun (since begun m)) (IsReached limits m2.mode begun (since begun m2)) cut.leaves
            (λ bytes reached. subst (λ (s : History). IsReached limits m2.mode begun s bytes) (sym more)
            (reached_more limits m2.mode begun (since begun m) x bytes (subst (λ (k : Mode). IsReached limits k begun (since begun m) bytes) (sym mode) reached)));
        passes = λ full is. subst (λ (s : History). PassesStore limits m2.mode begun s full) (sym more)
            (passes_more limits m2.mode begun (since begun m) x full (subst (λ (k : Mode). PassesStore limits k begun (since begun m) full) (sym mode) (cut.passes full is)));
      }

  -- a halt that names no limit on the store leaves what was put away
  pub cut_so : {faults : D → ℕ} {spent : D → Type 0} (engine : Engine (OnDisk D)) (rows : OnDisk D) (m : Moment) (why : Halt) → NamesNoStore why → SameBut state faults spent engine.joined.keep rows → IsPutAway state start limits engine m
      → IsCutShort state start limits rows m why
  cut_so engine rows m why none same away = record {
    moment = away.moment;
    leaves = leaves_then_looks _ (state engine.joined.keep.disk) _ _ away.leaves same.disk.looks;
    passes = λ full is. absurd (none full is);
  }

  -- the engine stands for what was put away and what came since
  pub stands_since : (engine : Engine (OnDisk D)) (m : Moment) → StandsFor limits engine m.history → (away : IsPutAway state start limits engine m)
      → StandsWith limits engine (away.first ++ away.more) (start.begun.part + bytes_in (since start.begun m))
  stands_since engine m stands away = record {
    stands = subst (λ (h : History). StandsFor limits engine h) away.parts stands;
    has_part = subst (λ (h : History). HasPart engine h (start.begun.part + bytes_in (since start.begun m))) away.parts away.has_part;
  }

  whole_now : (old new : Engine (OnDisk D)) (m : Moment) → Saves state m.mode old new → StandsFor limits old m.history → IsPutAway state start limits old m
      → IsSaved state limits m.mode new m.history (start.begun.part + bytes_in (since start.begun m))
  whole_now old new m saves stands away =
      let part = start.begun.part + bytes_in (since start.begun m) in
      subst (λ (h : History). IsSaved state limits m.mode new h part) (sym away.parts) (saves limits away.first away.more away.saved_part part (stands_since old m stands away) away.saved)

  -- a crash meanwhile leaves what was reached
  either_reached : (old : Engine (OnDisk D)) (m : Moment) → (away : IsPutAway state start limits old m) → (bytes : List ℕ)
      → IsEither limits m.mode away.first away.more away.saved_part (start.begun.part + bytes_in (since start.begun m)) bytes → IsReached limits m.mode start.begun (since start.begun m) bytes
  either_reached old m away bytes (inl stores) = away.reached bytes stores
  either_reached old m away bytes (inr stores) =
      reached_now limits m.mode start.begun (since start.begun m) (away.first ++ away.more) (start.begun.part + bytes_in (since start.begun m)) bytes (sym away.parts ∙ away.moment.goes_on) refl stores

  leaves_now : (old new : Engine (OnDisk D)) (m : Moment) → LeavesEither state m.mode old new → StandsFor limits old m.history → IsPutAway state start limits old m
      → LeavesOnly (state start.rows.disk) (state new.joined.keep.disk) (IsReached limits m.mode start.begun (since start.begun m))
  leaves_now old new m leaves stands away =
      let part = start.begun.part + bytes_in (since start.begun m) in
      leaves_in_a_row _ (state old.joined.keep.disk) _ (IsReached limits m.mode start.begun (since start.begun m)) away.leaves
      (leaves_more _ _ (IsEither limits m.mode away.first away.more away.saved_part part) (IsReached limits m.mode start.begun (since start.begun m))
      (leaves limits away.first away.more away.saved_part part (stands_since old m stands away) away.saved) (either_reached old m away))

  -- after a save all is put away
  pub away_now : (old new : Engine (OnDisk D)) (m : Moment) → Saves state m.mode old new → LeavesEither state m.mode old new → new.part ≡ old.part → (state new.joined.keep.disk).told
      → StandsFor limits old m.history → IsPutAway state start limits old m → IsPutAway state start limits new m
  away_now old new m saves leaves same told stands away =
      let begun = start.begun in
      let part = begun.part + bytes_in (since begun m) in
      record {
        moment = away.moment;
        has_part = record { counted = same ∙ away.has_part.counted; within = away.has_part.within };
        told = told;
        first = m.history;
        more = [];
        saved_part = part;
        parts = sym (append-nil m.history);
        saved = whole_now old new m saves stands away;
        reached = λ bytes stores. reached_now limits m.mode begun (since begun m) m.history part bytes away.moment.goes_on refl stores;
        leaves = leaves_now old new m leaves stands away;
      }

  pub all_now : (old new : Engine (OnDisk D)) (m : Moment) → Saves state m.mode old new → IsDurable (state new.joined.keep.disk) → StandsFor limits old m.history → IsPutAway state start limits old m
      → IsAllPutAway state start limits new.joined.keep m
  all_now old new m saves durable stands away = record {
    moment = away.moment;
    stores = (whole_now old new m saves stands away).stores;
    durable = durable;
  }

  -- a save that failed
  names_full : (fault : CommitFault) (full : Full) → commit_halt fault ≡ halt.Unwritten full → fault ≡ commit.Full full
  names_full commit.StoreFault full is = absurd (cc)
  names_full (commit.Full f) full is = let same : f ≡ full = cc in ap commit.Full same
  names_full commit.NoMemory full is = absurd (cc)

  pub cut_now : (old new : Engine (OnDisk D)) (m : Moment) (fault : CommitFault) → LeavesEither state m.mode old new → ((full : Full) → fault ≡ commit.Full full → PassesFull state m.mode old full)
      → StandsFor limits old m.history → IsPutAway state start limits old m → IsCutShort state start limits new.joined.keep m (commit_halt fault)
  cut_now old new m fault leaves passes stands away =
      let begun = start.begun in
      let part = begun.part + bytes_in (since begun m) in
      record {
        moment = away.moment;
        leaves = leaves_now old new m leaves stands away;
        passes = λ full is.
            let p = passes full (names_full fault full is) limits away.first away.more away.saved_part part (stands_since old m stands away) away.saved in
            record {
              earlier = away.first;
              before = away.saved_part;
              first = since begun m;
              more = [];
              parts = sym (append-nil (since begun m));
              rows = p.0;
              commit = subst (λ (h : History). IsCommitFor limits m.mode away.first away.saved_part h part p.0) (sym away.parts ∙ away.moment.goes_on) p.1;
              log = old.joined.keep.log;
              most = away.saved.most;
              end = away.saved.end;
              passes = p.2;
            };
      }

-- ---- a whole log, settled

-- the most that one call takes
abbrev pub all_of : ℕ
all_of = 2 ^ 64 - 1

-- what was taken whole is not longer than that
pub log_fits : {K : Type 0} (limits : Limits) (engine : Engine K) (m : Moment) → StandsFor limits engine (taken_on all_of m).history → length m.log ≤ all_of
log_fits limits engine m stands =
    let all = bytes_more m.history (take all_of m.log) in
    let long = length-take all_of m.log in
    let fits = stands.fits.input in
    let small = limits.input_within in
    omega (arith, all, long, fits, small)

pub taken_whole : (m : Moment) → length m.log ≤ all_of → taken_on all_of m ≡ taken_on (length m.log) m
taken_whole m within = take_all m all_of (length m.log) within (omega arith)

-- a log that is taken once more is taken as it was
taken_again : (m : Moment) → taken_on (length m.log) (taken_on all_of m) ≡ taken_on (length m.log) m
taken_again m = take_both m all_of (length m.log) ∙ take_all m (all_of + length m.log) (length m.log) (omega arith) (omega arith)

module _ {D : Type 0} (state : D → DiskState) (start : Start (OnDisk D)) (limits : Limits) where
  -- a halt within the log is one before all of it is taken and settled
  pub cut_within : (rows : OnDisk D) (m : Moment) (why : Halt) → IsCutShort state start limits rows (taken_on all_of m) why → IsCutShort state start limits rows (settled_all m) why
  cut_within rows m why cut =
      cut_later state start limits rows (taken_on (length m.log) m) (settled_all m) (Settle ∷ []) why refl refl refl
      (subst (λ (x : Moment). IsCutShort state start limits rows x why) (taken_again m)
      (cut_later state start limits rows (taken_on all_of m) (taken_on (length m.log) (taken_on all_of m)) (map Byte (take (length m.log) (drop all_of m.log))) why refl refl (log_left (taken_on all_of m) (length m.log)) cut))

  -- what an observable disk has is there after looks at it
  pub all_alike : {faults : D → ℕ} {spent : D → Type 0} (rows rows2 : OnDisk D) (m : Moment) → (state rows.disk).told → SameBut state faults spent rows rows2 → IsAllPutAway state start limits rows m → IsAllPutAway state start limits rows2 m
  all_alike rows rows2 m told same all =
      let looks = same.disk.looks in
      let reads = looks.same told in
      record {
        moment = all.moment;
        stores = subst (λ (bytes : List ℕ). StoresHistory limits m.mode bytes m.history (start.begun.part + bytes_in (since start.begun m))) (sym reads) all.stores;
        durable = λ bytes left. all.durable bytes (looks.image bytes left) ∙ sym reads;
      }

  -- what a crash may have left since the start
  pub cut_leaves : (mode : Mode) (rows : OnDisk D) (m : Moment) (why : Halt) → m.mode ≡ mode → IsCutShort state start limits rows m why
      → LeavesOnly (state start.rows.disk) (state rows.disk) (IsReached limits mode start.begun (since start.begun m))
  cut_leaves mode rows m why is cut = subst (λ (k : Mode). LeavesOnly (state start.rows.disk) (state rows.disk) (IsReached limits k start.begun (since start.begun m))) is cut.leaves

  pub away_leaves : {faults : D → ℕ} {spent : D → Type 0} (mode : Mode) (engine : Engine (OnDisk D)) (rows : OnDisk D) (m : Moment) → m.mode ≡ mode → SameBut state faults spent engine.joined.keep rows → IsPutAway state start limits engine m
      → LeavesOnly (state start.rows.disk) (state rows.disk) (IsReached limits mode start.begun (since start.begun m))
  away_leaves mode engine rows m is same away =
      subst (λ (k : Mode). LeavesOnly (state start.rows.disk) (state rows.disk) (IsReached limits k start.begun (since start.begun m))) is
      (leaves_then_looks _ (state engine.joined.keep.disk) _ _ away.leaves same.disk.looks)

  pub cut_passes : (mode : Mode) (rows : OnDisk D) (m : Moment) (why : Halt) (full : Full) → m.mode ≡ mode → IsCutShort state start limits rows m why → why ≡ halt.Unwritten full
      → PassesStore limits mode start.begun (since start.begun m) full
  cut_passes mode rows m why full is cut names = subst (λ (k : Mode). PassesStore limits k start.begun (since start.begun m) full) is (cut.passes full names)

-- what a run over all of a log takes since its begin
pub settled_whole : (mode : Mode) (begun : Begun) → (settled_all (first_of mode begun)).history ≡ whole_of begun
settled_whole mode begun =
    let all : take (length begun.log) begun.log ≡ begun.log = list_take_all (length begun.log) begun.log (omega arith) in
    ap (λ (b : List ℕ). (begun.history ++ map Byte b) ++ Settle ∷ []) all ∙ append_assoc begun.history (map Byte begun.log) (Settle ∷ [])

pub since_whole : (mode : Mode) (begun : Begun) → since begun (settled_all (first_of mode begun)) ≡ steps_of begun
since_whole mode begun = ap (λ (h : History). drop (length begun.history) h) (settled_whole mode begun) ∙ drop-append_seam begun.history (steps_of begun)

pub counted_whole : (begun : Begun) → bytes_in (steps_of begun) ≡ length begun.log
counted_whole begun =
    let split = counted_both (map Byte begun.log) (Settle ∷ []) in
    let long = count_bytes begun.log in
    omega (arith, split, long)
