-- How a run over a store ends.
use Rattle.std.proofs.Common.{Bool, true, false, ◌≡◌, ℕ, List, [], ◌∷◌, refl, ap, subst, ◌∙◌, Option, Some, None, inl, inr, ⊎_elim, if◌then◌else◌}
use Rattle.std.specs.Prelude.{◌⊎◌, ⊤, Result, Ok, Err, IfErr, OnOk}
use Rattle.std.specs.List.{AllZip}
use Rattle.flow_base.specs.declared.limits.Full.{Full}
use Rattle.flow_base.specs.declared.limits.Limits.{Limits}
use Rattle.outside.specs.Disk.{DiskState, IsDisk}
use Rattle.audit_lex.specs.History.{History}
use Rattle.batch_log.specs.Log.{Log}
use Rattle.batch_log.specs.OneReading.{OneList}
use Rattle.reach_model.specs.declared.modes.Mode.{Mode}
use Rattle.row_codec.specs.declared.rows.StoreRow.{StoreRow}
use Rattle.row_codec.specs.Payload.{IsPayload}
use Rattle.reduced_store.specs.OnDisk.{OnDisk, stores_go_along}
use Rattle.reduced_store.specs.Opening.{IsBadAt, IsStoreRead}
use Rattle.reduced_store.specs.Reading.{IsOfMode}
use Rattle.reduced_store.specs.declared.reading.Found.{Found}
use Rattle.store_check.specs.Conditions.{bounds_of}
use Rattle.report_json.specs.declared.ask.Ask.{Ask}
use Rattle.report_json.specs.declared.ask.Ask.TheVariants as ask
use Rattle.report_json.specs.declared.reply.Reply.{Reply}
use Rattle.ingest.specs.Parts.{Engine}
use Rattle.ingest.specs.Soundness.{WaitsSoundly}
use Rattle.ingest.specs.Stops.{Fits, Stops}
use Rattle.ingest.specs.Storing.{StoresHistory}
use Rattle.dialogue.specs.declared.halt.Halt.{Halt}
use Rattle.dialogue.specs.declared.halt.Halt.TheVariants as halt
use Rattle.dialogue.specs.declared.halt.StoreHalt.{StoreHalt}
use Rattle.dialogue.specs.declared.halt.StoreHalt.TheVariants as over
use Rattle.dialogue.specs.declared.halt.Turn.{Turn}
use Rattle.dialogue.specs.declared.halt.Turn.TheVariants as turn
use Rattle.dialogue.specs.Course.{At, EndTalked, HasCauses, Kind, Stopped, kind_of}
use Rattle.dialogue.specs.Dialogue.{AfterTurn, Dialogue, Moment, NextStops, QuestionsStop, ReadsNoFurther, after, asks, lines_in, settled_on, taken_on, texts, turn_of}
use Rattle.dialogue.specs.Listening.{AreHeardOut, KeepsWithin}
use Rattle.dialogue.specs.Saves.{IsPutAway}
use Rattle.dialogue.specs.StoreHalts.{HasStoreCauses, NamesNoBatch, over_run}
use Rattle.store_runs.specs.Statuses.{store_status}
use Rattle.store_runs.specs.Stores.{HasABatch, HearsOut, IsBadOrNone, IsDoneOrNoMemory, IsQueried, IsReopened, IsWrongIn, StoodAt, StoresNothing, StoresUnsoundly, querying}
use Rattle.dialogue.proofs.ExactLemmas.{NeverStops, questions_within, within_stops}
use Rattle.dialogue.proofs.MomentLemmas.{Stay}
use Rattle.dialogue.proofs.SaveLemmas.{names_none}
use Rattle.dialogue.proofs.StoreLemmas.{StaysSaved}
use Rattle.store_runs.proofs.StoreRuns.{not_bad, reopened_away}
use Rattle.dialogue.proofs.TalkLemmas.{dialogue_of}

-- ---- a short log

-- ---- questions that were heard out

-- a dialogue that is done within the limits passes none
pub heard_out : Stay → NeverStops → {K : Type 0} (kind : Kind K) (limits : Limits) (from : Moment) (asked : List ℕ) (engine : Engine K) (left rest old new : Option (List ℕ)) (r : Result Unit Halt)
    → EndTalked kind limits (QuestionsStop limits asked) engine left old new r from (asks limits (lines_in asked)) → OnOk r (KeepsWithin limits from asked) → OnOk r (ReadsNoFurther limits from asked rest)
    → OnOk (over_run r) (AreHeardOut limits from asked rest)
heard_out stay fitting kind limits from asked engine left rest old new (Err why) talked within further = tt
heard_out stay fitting kind limits from asked engine left rest old new (Ok t) talked within further = record {
  no_further = further;
  within = within;
  fits = λ said to full stops. within_stops stay fitting limits (QuestionsStop limits asked) from to talked.to (asks limits (lines_in asked)) said talked.course.0 full talked.course.2 talked.at.stands_at.stands.fits stops
      (questions_within limits from to asked stops.answered said full within stops.leads);
}

-- they stay heard out if all is saved after them, or not
pub heard_still : (P : Type 0) (r : Result Unit Halt) → P → OnOk (over_run r) P
heard_still P (Ok t) heard = heard
heard_still P (Err why) heard = tt

-- a run from the opening of its store on
pub hears_from : (Stood Stood2 : History → ℕ → Type 0) (limits : Limits) (mode : Mode) (log asked left : Option (List ℕ)) (outcome : Result Unit StoreHalt) → ((h : History) (before : ℕ) → Stood h before → Stood2 h before)
    → HearsOut Stood2 limits mode log asked left outcome → HearsOut Stood limits mode log asked left outcome
hears_from Stood Stood2 limits mode log asked left outcome opens hears = λ h before bytes questions stood told tells. hears h before bytes questions (opens h before stood) told tells

-- ---- `query`

-- the engine of a reopened store, which takes no log, is at the moment of its history
pub at_query : {D : Type 0} {faults : D → ℕ} {spent : D → Type 0} (state : D → DiskState) (limits : Limits) (mode : Mode) (engine : Engine (OnDisk D)) (left : Option (List ℕ)) (h : History) (before : ℕ)
    → StaysSaved state faults spent → ((d : D) → IsDisk (state d)) → IsReopened state mode limits engine h before → left ≡ Some []
    → At (kind_of mode false (IsPutAway state (record { begun = record { history = h; before = before; part = before; log = [] }; rows = engine.joined.keep }) limits)) limits engine left (querying mode h)
at_query state limits mode engine left h before stays lawful x told = record {
  in_mode = refl;
  may_take = refl;
  stands_at = record { stands = x.stands.stands; told = told };
  holds = reopened_away state limits (querying mode h) engine engine before before stays lawful (stores_go_along.same engine.joined.keep) refl x.stands.has_part.counted x.stands.has_part.within x;
}

-- a halt that has no limit on a store for a cause names none
pub run_names : (read write store hidden : Type 0) (r : Result Unit Halt) → IfErr r (HasCauses read write store hidden ⊥) → IfErr (over_run r) NamesNoBatch
run_names read write store hidden (Ok t) causes = tt
run_names read write store hidden (Err why) causes = λ full is. names_none read write store hidden why causes full (let e : why ≡ halt.Unwritten full = cc in e)

pub any_limit : (read write store hidden : Type 0) (r : Result Unit Halt) → IfErr r (HasCauses read write store hidden ⊥) → IfErr r (HasCauses read write store hidden ⊤)
any_limit read write store hidden (Ok t) causes = tt
any_limit read write store hidden (Err halt.NoMemory) causes = causes
any_limit read write store hidden (Err halt.ReadFault) causes = causes
any_limit read write store hidden (Err halt.WriteFault) causes = causes
any_limit read write store hidden (Err halt.StoreFault) causes = causes
any_limit read write store hidden (Err (halt.BadRow place)) causes = causes
any_limit read write store hidden (Err (halt.Full full)) causes = causes
any_limit read write store hidden (Err (halt.Unwritten full)) causes = tt

-- a run that takes no log stays at its moment
if_put : (b : Bool) (m next : Moment) → b ≡ false → (if b then next else m) ≡ m
if_put true m next none = absurd (cc)
if_put false m next none = refl

put : (q : Option Ask) (m : Moment) → m.takes ≡ false → after q m ≡ m
put None m none = refl
put (Some (ask.Take n)) m none = if_put m.takes m (taken_on n m) none
put (Some ask.Settle) m none = if_put m.takes m (settled_on m) none
put (Some (ask.Question question)) m none = refl
put (Some (ask.Why from to until)) m none = refl
put (Some (ask.Find text)) m none = refl
put (Some (ask.Show id)) m none = refl
put (Some ask.Stat) m none = refl
put (Some ask.End) m none = refl

either_put : (t : Turn) (A B : Type 0) (from next end : Moment) → next ≡ from → (B → end ≡ from) → AfterTurn t (A × (end ≡ next)) B → end ≡ from
either_put turn.More A B from next end same later h = later h
either_put turn.Ended A B from next end same later h = h.1 ∙ same

talk_put : (limits : Limits) (questions : List (Option Ask)) (replies : List Reply) (from end : Moment) → from.takes ≡ false → Dialogue limits from questions replies end → end ≡ from
talk_put limits [] [] from end none talk = talk
talk_put limits [] (r ∷ replies) from end none talk = absurd talk
talk_put limits (q ∷ questions) [] from end none talk = absurd talk
talk_put limits (q ∷ questions) (r ∷ replies) from end none talk =
    let same = put q from none in
    either_put (turn_of q) (replies ≡ []) (Dialogue limits (after q from) questions replies end) from (after q from) end same
    (λ later. talk_put limits questions replies (after q from) end (ap (λ (m : Moment). m.takes) same ∙ none) later ∙ same) talk.1

next_put : NeverStops → (limits : Limits) (to : Moment) (later : List (Option Ask)) (full : Full) → to.takes ≡ false → Fits limits to.history → NextStops limits to later full → ⊥
next_put fitting limits to [] full none fits over = over
next_put fitting limits to (next ∷ later) full none fits over = fitting limits to.history full fits (subst (λ (m : Moment). Stops limits m.history full) (put next to none) over)

-- so no limit stops it if its questions keep within theirs
pub never_stopped : NeverStops → (limits : Limits) (mode : Mode) (h : History) (asked bytes : List ℕ) (full : Full) → KeepsWithin limits (querying mode h) asked
    → Stopped limits (QuestionsStop limits asked) texts (querying mode h) (asks limits (lines_in asked)) bytes full → ⊥
never_stopped fitting limits mode h asked bytes full keeps x =
    let from = querying mode h in
    let same = talk_put limits x.stops.answered x.said from x.to refl (dialogue_of limits from x.to x.stops.answered x.said x.stops.leads) in
    ⊎_elim (next_put fitting limits x.to x.stops.later full (ap (λ (m : Moment). m.takes) same) x.fits) (questions_within limits from x.to asked x.stops.answered x.said full keeps x.stops.leads) x.stops.cause

-- a store of a mode isn't one of another than that which isn't asked for
pub not_other : (limits : Limits) (disk : DiskState) (kept want : Mode) → disk.told → IsWrongIn limits disk None kept want → ⊥
not_other limits disk kept want told wrong = let is = (wrong told).differ.asked_is in cc

no_batches : (mode : Mode) (batches : List (List StoreRow)) → AllZip (IsPayload mode) batches [] → batches ≡ []
no_batches mode [] none = refl
no_batches mode (b ∷ batches) none = absurd none

-- a store without a batch stores the empty history alone
nothing_stored : OneList → (limits : Limits) (mode : Mode) (bytes : List ℕ) (h : History) (part place : ℕ) → StoresHistory limits mode bytes h part → StoresNothing limits place bytes → h ≡ []
nothing_stored one limits mode bytes h part place stores nothing =
    let found = nothing.read.2 in
    let empty : (found.batches ≡ []) × (nothing.read.0 ≡ []) = subst (λ (o : Option Mode). IsOfMode (bounds_of limits) found.batches nothing.read.0 o) nothing.none found.mode in
    let same : stores.store.payloads ≡ nothing.read.0 = one limits.payload stores.store.payloads nothing.read.0 bytes limits.payload_within stores.store.store (nothing.log.last, nothing.read.1) in
    stores.begun (no_batches mode stores.store.batches (subst (λ (ps : List (List ℕ)). AllZip (IsPayload mode) stores.store.batches ps) (same ∙ empty.1) stores.store.spelled))

-- a disk that had a history and a batch is no bad store, and not without one
pub not_bad_or_none : {D : Type 0} (state : D → DiskState) (limits : Limits) (mode : Mode) (disk : D) (h : History) (before place : ℕ)
    → ((limits : Limits) (mode : Mode) (bytes : List ℕ) (h : History) (part place : ℕ) → StoresHistory limits mode bytes h part → ¬ IsBadAt limits place bytes)
    → ((limits : Limits) (mode : Mode) (bytes : List ℕ) (h : History) (part : ℕ) (log : Log) (found : Found) → StoresHistory limits mode bytes h part → IsStoreRead limits bytes (log, found) → WaitsSoundly limits found.others)
    → OneList → StoodAt state limits mode disk h before → HasABatch limits (state disk) h → IsBadOrNone limits (state disk) place → ⊥
not_bad_or_none state limits mode disk h before place no_bad sound one stood some bad = by (bad stood.told)
  where
    by : (IsBadAt limits place (state disk).reads ⊎ StoresUnsoundly limits place (state disk).reads) ⊎ StoresNothing limits place (state disk).reads → ⊥
    by (inl bad) = not_bad state limits mode disk h before place no_bad sound stood (λ told. bad)
    by (inr none) =
        some (nothing_stored one limits mode (state disk).reads h before place stood.stores none) (subst (λ (p : ℕ). StoresNothing limits p (state disk).reads) none.is none)

pub queried_all : NeverStops → (limits : Limits) (mode : Mode) (h : History) (asked : List ℕ) (rest old new : Option (List ℕ)) (r : Result Unit StoreHalt) (read write store hidden : Type 0) (bad : ℕ → Type 0) (wrong : Mode → Mode → Type 0) (short : ℕ → ℕ → Type 0)
    → IsQueried limits mode h asked rest old new r → IfErr r (HasStoreCauses read write store hidden bad wrong short) → (read → ⊥) → (write → ⊥) → (store → ⊥) → ((kept want : Mode) → wrong kept want → ⊥) → ((place : ℕ) → bad place → ⊥)
    → ((taken had : ℕ) → short taken had → ⊥) → KeepsWithin limits (querying mode h) asked → IsDoneOrNoMemory (store_status r)
queried_all fitting limits mode h asked rest old new (Ok t) read write store hidden bad wrong short run causes e f g k b l keeps = tt
queried_all fitting limits mode h asked rest old new (Err (over.Run halt.NoMemory)) read write store hidden bad wrong short run causes e f g k b l keeps = tt
queried_all fitting limits mode h asked rest old new (Err (over.Run halt.ReadFault)) read write store hidden bad wrong short run causes e f g k b l keeps = absurd (e causes)
queried_all fitting limits mode h asked rest old new (Err (over.Run halt.WriteFault)) read write store hidden bad wrong short run causes e f g k b l keeps = absurd (f causes)
queried_all fitting limits mode h asked rest old new (Err (over.Run halt.StoreFault)) read write store hidden bad wrong short run causes e f g k b l keeps = absurd (g causes)
queried_all fitting limits mode h asked rest old new (Err (over.Run (halt.BadRow place))) read write store hidden bad wrong short run causes e f g k b l keeps = absurd run.course
queried_all fitting limits mode h asked rest old new (Err (over.Run (halt.Full full))) read write store hidden bad wrong short run causes e f g k b l keeps = absurd (never_stopped fitting limits mode h asked run.bytes full keeps run.course)
queried_all fitting limits mode h asked rest old new (Err (over.Run (halt.Unwritten full))) read write store hidden bad wrong short run causes e f g k b l keeps = absurd (run.names full refl)
queried_all fitting limits mode h asked rest old new (Err (over.BadStore place)) read write store hidden bad wrong short run causes e f g k b l keeps = absurd (b place causes)
queried_all fitting limits mode h asked rest old new (Err (over.WrongMode kept want)) read write store hidden bad wrong short run causes e f g k b l keeps = absurd (k kept want causes)
queried_all fitting limits mode h asked rest old new (Err (over.ShortLog taken had)) read write store hidden bad wrong short run causes e f g k b l keeps = absurd (l taken had causes)
