-- An engine that is made again from an opened store.
use Rattle.std.proofs.Common.{◌≡◌, ◌≤◌, ◌<◌, ◌+◌, ◌^◌, ◌∙◌, ◌++◌, ◌∷◌, [], sym, refl, ap, subst, inl, inr, ℕ, Bool, true, false, List, length, length-append, Option, None, Some, arith, take, get_or}
use Rattle.std.specs.Prelude.{◌⊎◌, ◌||◌, nat_lt, MatchOption, Result, Ok, Err, IfOk, unwrap_or, sum_by, if◌then◌else◌}
use Rattle.std.specs.List.{AllZip}
use Rattle.std.specs.Option.{option_to_list}
use Rattle.std.proofs.lemmas.Bool.Decides.{nat_tests}
use Rattle.std.proofs.lemmas.Grind.{fold-append}
use Rattle.std.proofs.lemmas.List.{take_more}
use Rattle.std.proofs.lemmas.List.Sums.{sum_by-append}
use Rattle.flow_base.specs.declared.limits.Limits.{Limits}
use Rattle.name_text.specs.Addresses.{text_of}
use Rattle.outside.specs.Disk.{DiskState, IsDisk}
use Rattle.audit_lex.specs.History.{History}
use Rattle.audit_lex.specs.LineClass.{Class, Used, Malformed, text_class}
use Rattle.audit_lex.specs.declared.faults.LineFault.TheVariants as line_fault
use Rattle.audit_lex.specs.declared.header.EventKey.{EventKey}
use Rattle.audit_record.specs.declared.types.Record.{Record}
use Rattle.batch_log.specs.Batches.{HasBatches}
use Rattle.batch_log.specs.Log.{Log, LogHas}
use Rattle.batch_log.specs.OneReading.{OneList}
use Rattle.flow_events.specs.Filling.{SayTables, acts_in, flows_in as flows_said}
use Rattle.flow_events.specs.declared.tables.Tables.{Tables}
use Rattle.kept_flows.specs.KeptFlows.{kept_by}
use Rattle.kept_flows.specs.Taking.{IsFlowOf}
use Rattle.proc_table.specs.Table.{standing_of}
use Rattle.reach_model.specs.declared.modes.Mode.{Mode}
use Rattle.reach_model.specs.Numbers.{known}
use Rattle.reach_model.specs.Rows.{Row, Keeps, firsts}
use Rattle.record_join.specs.Events.{Joining, count_keys, is_among, is_past, is_ripe_at, least_key, lesser_key, ripe_key, only_ripe, text_of as bytes_waiting}
use Rattle.record_join.specs.PutBack.{fresh}
use Rattle.record_join.specs.StandsFor.{Joiner, StandsFor as JoinStandsFor}
use Rattle.record_join.specs.declared.clock.JoinClock.{JoinClock}
use Rattle.reduced_store.specs.Held.{told_if}
use Rattle.reduced_store.specs.OnDisk.{OnDisk, SameBut, seen_rows}
use Rattle.reduced_store.specs.Opening.{IsStoreRead}
use Rattle.reduced_store.specs.Reading.{IsFound, IsOfMode, closing_rows, table_rows}
use Rattle.reduced_store.specs.Restoring.{CanBeRestored, SaySame}
use Rattle.reduced_store.specs.Stores.{found_of}
use Rattle.reduced_store.specs.Storing.{WasStored}
use Rattle.reduced_store.specs.declared.opened.Opened.{Opened}
use Rattle.reduced_store.specs.declared.reading.Found.{Found}
use Rattle.row_codec.specs.Payload.{IsPayload}
use Rattle.row_codec.specs.declared.rows.StoreRow.{StoreRow}
use Rattle.row_codec.specs.declared.state.StateRow.{StateRow}
use Rattle.store_check.specs.Conditions.{Bounds, bounds_of, HasCounts, HasListed, HasTail}
use Rattle.store_check.specs.Store.{newer, rows_of}
use Rattle.stored.specs.Bytes.{IsStoreOf}
use Rattle.stored.specs.Moment.{Moment, nothing, state_at}
use Rattle.stored.specs.Reading.{clock_of, records_of}
use Rattle.stored.specs.Stored.{AreTables, ClosesAt}
use Rattle.stored.specs.Words.{Group, all_of, groups_of, state_in, state_of, texts_of}
use Rattle.ingest.specs.Bounds.{HasFewRecords}
use Rattle.ingest.specs.Counting.{bytes_in}
use Rattle.ingest.specs.Events.{taken_in, flows_in, events_of, state_of as state_of_history}
use Rattle.ingest.specs.LineRecords.{record_of}
use Rattle.ingest.specs.Parts.{Engine, Joined, Reader}
use Rattle.ingest.specs.Rejoining.{IsLeftOf, StandsForLeft, WereLeft}
use Rattle.ingest.specs.Restoring.{CanBeRemade, IsOpen, IsRemade, StandsForStored, store_after}
use Rattle.ingest.specs.Saving.{IsSaved}
use Rattle.ingest.specs.StandsFor.{ReaderStandsFor, StandsFor}
use Rattle.ingest.specs.Storing.{StoresHistory, moment_of}
use Rattle.ingest.specs.Together.{GoTogether}
use Rattle.ingest.specs.Waiting.{waiting_by}
use Rattle.ingest.specs.declared.restoring.Remade.{Remade}
use Rattle.ingest.specs.declared.restoring.Unrestored.{Unrestored}
use Rattle.ingest.proofs.Following.{same_some}
use Rattle.ingest.proofs.Told.{rows_told, told_by}
use Rattle.ingest.proofs.Limiting.{full_none}
use Rattle.ingest.proofs.PutBack.{flat, leads_groups, waiting_flat}
use Rattle.ingest.proofs.Reading.{spelled_to, used_class}
use Rattle.ingest.proofs.Saving.{saved_so}

-- ---- the laws

-- what is found in a store that has a batch can be restored
abbrev pub FoundRestores : Type 0
FoundRestores = (bounds : Bounds) (payloads : List (List ℕ)) (found : Found) (mode : Mode) → IsFound bounds payloads found → found.mode ≡ Some mode → CanBeRestored bounds found.others found.rows.rows

-- what is found in the bytes of a store of a moment was stored of it
abbrev pub WereStored : Type 0
WereStored = (text : List ℕ → List ℕ) (limits : Limits) (mode : Mode) (bytes : List ℕ) (m : Moment) (log : Log) (found : Found)
    → IsStoreRead limits bytes (log, found) → IsStoreOf text limits.names limits.payload (bounds_of limits) mode bytes m → WasStored text limits.names mode found m

-- what was left of a history was left of its events and of what waits
abbrev pub LeftSaysWhat : Type 0
LeftSaysWhat = (limits : Limits) (mode : Mode) (told : Option (List Row)) (join : Joiner) (tables : Tables) (said : StateRow) (h : History) (part : ℕ)
    → IsLeftOf limits mode told join tables said h part → WereLeft limits mode told join tables said (state_of_history limits h) (events_of limits h)

pub found_has : {A : Type 0} (found : Option A) (x : A) (N : Type 0) (P : A → Type 0) → found ≡ Some x → MatchOption found N P → P x
found_has {A} found x N P is has = subst (λ (o : Option A). MatchOption o N P) is has

-- the State after one more row
pub state_next : (rows : List StoreRow) (i : ℕ) (row : StoreRow) → i < length rows → row ≡ get_or rows i row → state_of (take (i + 1) rows) ≡ newer (state_of (take i rows)) (state_in row)
state_next rows i row inside is =
    let next : take (i + 1) rows ≡ take i rows ++ row ∷ [] = take_more rows i row inside ∙ ap (λ (r : StoreRow). take i rows ++ r ∷ []) (sym is) in
    ap state_of next ∙ fold-append (λ (found : Option StateRow) (r : StoreRow). newer found (state_in r)) None (take i rows) (row ∷ [])

-- ---- few records wait

blank_used : (long : Bool) (class : Class) → (if long then Malformed line_fault.TooLong else text_class []) ≡ class → (key : _) (kind : _) → class ≡ Used key kind → ⊥
blank_used true class is key kind used = cc
blank_used false class is key kind used = cc

-- a record has a line with a byte
record_long : (limit : ℕ) (line : List ℕ) (made : Record) → record_of limit line ≡ Some made → 1 ≤ length made.line
record_long limit [] made is = let used = used_class limit [] made is in absurd (blank_used _ _ refl made.key used.0 used.1)
record_long limit (b ∷ line) made is = let same = ap length (spelled_to limit (b ∷ line) made is).1.text in omega (arith, same)

read_long : (limit : ℕ) (line : List ℕ) (found : Option Record) → record_of limit line ≡ found → length (option_to_list found) ≤ sum_by (λ (r : Record). length r.line) (option_to_list found)
read_long limit line None is = omega arith
read_long limit line (Some made) is = let long = record_long limit line made is in omega (arith, long)

abbrev long : Record → ℕ
long r = length r.line

lines_long : (limit : ℕ) (lines : List (List ℕ)) → length (records_of (record_of limit) lines) ≤ sum_by long (records_of (record_of limit) lines)
lines_long limit [] = omega arith
lines_long limit (line ∷ lines) =
    let one = read_long limit line (record_of limit line) refl in
    let more = lines_long limit lines in
    let first = option_to_list (record_of limit line) in
    let rest = records_of (record_of limit) lines in
    let l = length-append first rest in
    let s = sum_by-append long first rest in
    omega (arith, one, more, l, s)

groups_long : (limits : Limits) (groups : List (EventKey × Group)) → length (flat limits groups) ≤ sum_by long (flat limits groups)
groups_long limits [] = omega arith
groups_long limits (e ∷ groups) =
    let one = lines_long limits.line e.1.lines in
    let more = groups_long limits groups in
    let first = records_of (record_of limits.line) e.1.lines in
    let rest = flat limits groups in
    let l = length-append first rest in
    let s = sum_by-append long first rest in
    omega (arith, one, more, l, s)

or_last : (a b c d : Bool) → (a || b || c || d) ≡ false → d ≡ false
or_last true b c d e = absurd (cc e)
or_last false true c d e = absurd (cc e)
or_last false false true d e = absurd (cc e)
or_last false false false d e = e

not_some : {A : Type 0} (ripe : Bool) (key : A) → (if ripe then Some key else None) ≡ None → ripe ≡ false
not_some true key e = absurd (cc e)
not_some false key e = refl

at_most : (a b : ℕ) → nat_lt a b ≡ false → b ≤ a
at_most a b e = grind (arith, nat_tests, e)

-- where nothing is ripe few bytes wait
unripe_few : (limits : Limits) (s : Joining) (w : List Record) → s.waiting ≡ w → ripe_key limits s ≡ None → bytes_waiting s.waiting ≤ limits.text
unripe_few limits s [] is unripe = let none = ap bytes_waiting is in omega (arith, none)
unripe_few limits s (r ∷ w) is unripe =
    let ripe : only_ripe limits s (least_key (r ∷ w)) ≡ None = sym (ap (λ (l : List Record). only_ripe limits s (least_key l)) is) ∙ unripe in
    let key : EventKey = lesser_key r.key (least_key w) in
    at_most limits.text (bytes_waiting s.waiting)
    (or_last (is_among key s.closed) (is_past s.clock.seen key.ms) (nat_lt limits.groups (count_keys s.waiting)) (nat_lt limits.text (bytes_waiting s.waiting)) (not_some (is_ripe_at limits s key) key ripe))

-- what a store says that waits is of few records
pub few_waiting : (limits : Limits) (state : StateRow) (rows : List StoreRow) → ripe_key limits (waiting_by limits state rows) ≡ None → length (waiting_by limits state rows).waiting ≤ 2 ^ 24
few_waiting limits state rows unripe =
    let s = waiting_by limits state rows in
    let flat_is : s.waiting ≡ flat limits (groups_of rows) = waiting_flat limits (fresh (clock_of state)) (groups_of rows) in
    let few = groups_long limits (groups_of rows) in
    let n = ap length flat_is in
    let b = ap (λ (l : List Record). sum_by long l) flat_is in
    let most = unripe_few limits s s.waiting refl unripe in
    omega (arith, few, n, b, most, limits.text_within)

-- ---- the parts go together

-- the kept rows are before the State, and so go with the tables, whether or not they are told
pub remade_together : (limits : Limits) (state : StateRow) (rows : List StoreRow) (tells : Bool) (R : List Row) (mode : Mode) (parts : Remade) → IsRemade limits state rows parts → CanBeRestored (bounds_of limits) rows R → state_of rows ≡ Some state
    → GoTogether parts.join.clock.effective parts.tables (kept_by mode (told_if tells R) (length R) (known (firsts R)))
remade_together limits state rows tells R mode parts is can said =
    let same : can.state ≡ state = same_some _ _ (sym can.state_is ∙ said) in
    let flows_are : parts.tables.flows ≡ state.flows = is.counted.flows_are ∙ ap flows_said said in
    let clock : parts.join.clock.effective ≡ state.effective =
    ap (λ (c : JoinClock). c.effective) (is.waits.clock ∙ (leads_groups limits.line (fresh (clock_of state)) (groups_of rows)).clock) in
    record {
      safe = is.safe;
      kept_of = record {
        known = can.objects ∙ ap length (sym can.new) ∙ ap length (sym is.counted.keys_are);
        counted = (let low = can.counted in let f = ap (λ (s : StateRow). s.flows) same in omega (arith, low, f, flows_are));
        before = λ S told f there.
            let here = can.before f (subst (λ (l : List Row). IsFlowOf l f) (sym (told_by tells R S told).1) there) in
            let a = ap (λ (s : StateRow). s.flows) same in
            let b = ap (λ (s : StateRow). s.effective) same in
            record { place = omega (arith, here.0, a, flows_are); time = omega (arith, here.1, b, clock) };
      };
    }

-- and few acts were taken by few records
pub remade_few : {K : Type 0} (limits : Limits) (state : StateRow) (rows : List StoreRow) (parts : Remade) (joined : Joined K) → IsRemade limits state rows parts → HasCounts state → HasTail limits.line state → state_of rows ≡ Some state
    → joined.join ≡ parts.join → joined.tables.acts ≡ parts.tables.acts → HasFewRecords parts.reader joined
remade_few limits state rows parts joined is counts tail said join acts =
    let s = waiting_by limits state rows in
    let few = few_waiting limits state rows is.sound.unripe in
    let acts_are : parts.tables.acts ≡ state.acts = is.counted.acts_are ∙ ap acts_in said in
    let bytes = ap (λ (r : Reader). r.bytes) is.reader_is in
    let tails = ap (λ (r : Reader). length r.cut.tail) is.reader_is in
    record {
      records = length s.waiting;
      few = record {
        limits = limits;
        s = s;
        join = subst (λ (j : Joiner). JoinStandsFor limits j s) (sym join) is.waits;
        few = omega (arith, acts, acts_are, counts.acts);
      };
      paid = omega (arith, few, bytes, tails, tail.short, limits.line_within);
      within = omega (arith, bytes, counts.taken);
    }

-- ---- the history

-- what all rows say of tables the other rows say
pub say_tables : (text : List ℕ → List ℕ) (most : ℕ) (mode : Mode) (rows others : List StoreRow) (m : Moment) → AreTables text most mode rows m → SaySame rows others → state_of others ≡ Some (state_at m) → SayTables text most others m
say_tables text most mode rows others m tables say said = record {
  objects_are = say.keys_are ∙ tables.objects_are;
  names_are = λ k. ap (texts_of k) say.names_are ∙ tables.names_are k;
  lives_are = λ p. ap standing_of (say.lives_are p) ∙ tables.lives_are p;
  held_are = λ p n. say.held_are p n ∙ tables.held_are p n;
  addresses_are = λ s. say.addresses_are s ∙ tables.addresses_are s;
  births_are = λ f. ap (λ (o : Option ℕ). unwrap_or o 0) (say.births_are f) ∙ tables.births_are f;
  flows_are = ap flows_said said;
  acts_are = ap acts_in said;
}

no_batches : (mode : Mode) (batches : List (List StoreRow)) → AllZip (IsPayload mode) batches [] → batches ≡ []
no_batches mode [] none = refl
no_batches mode (b ∷ batches) none = absurd none

module _ {D : Type 0} (state : D → DiskState) (faults : D → ℕ) (spent : D → Type 0) (limits : Limits) (mode : Mode) (opened : Opened D) (opens : IsOpen state limits opened)
    (h : History) (part : ℕ) (stores : StoresHistory limits mode (state opened.store.disk).reads h part) (one : OneList) (was : WasStored text_of limits.names mode (found_of opened) (moment_of limits h part)) where
  -- a store without a batch stores the empty history
  pub nothing_stored : opened.mode ≡ None → h ≡ []
  nothing_stored none =
      let found = opens.read.2 in
      let empty : (found.batches ≡ []) × (opens.read.0 ≡ []) = subst (λ (o : Option Mode). IsOfMode (bounds_of limits) found.batches opens.read.0 o) none found.mode in
      let same : stores.store.payloads ≡ opens.read.0 = one limits.payload stores.store.payloads opens.read.0 _ limits.payload_within stores.store.store (opened.store.log.last, opens.read.1) in
      stores.begun (no_batches mode stores.store.batches (subst (λ (ps : List (List ℕ)). AllZip (IsPayload mode) stores.store.batches ps) (same ∙ empty.1) stores.store.spelled))

  -- an engine of the same store, whose disk was only looked at, and whose mark is after the acts of the history has it saved
  pub saved_again : (engine : Engine (OnDisk D)) → SameBut state faults spent opened.store engine.joined.keep → engine.joined.tables.marked ≡ Some (length (taken_in limits (events_of limits h))) → IsSaved state limits mode engine h part
  saved_again engine same marked =
      let now = state engine.joined.keep.disk in
      let reads : now.reads ≡ (state opened.store.disk).reads = same.disk.looks.same opens.told in
      let log : LogHas opened.store.log opens.read.0 (state opened.store.disk).reads = subst (λ (n : ℕ). HasBatches n opens.read.0 opened.store.log.last (state opened.store.disk).reads) (sym opens.most) opens.read.1 in
      saved_so state limits mode engine h part opens.read.0 one
      (subst (λ (b : List ℕ). StoresHistory limits mode b h part) (sym reads) stores)
      (subst (λ (l : Log). LogHas l opens.read.0 now.reads) (sym same.log) (subst (λ (b : List ℕ). LogHas opened.store.log opens.read.0 b) (sym reads) log))
      (λ c left. opens.durable c (same.disk.looks.image c left) ∙ sym reads)
      (ap (λ (l : Log). l.most) same.log ∙ opens.most)
      (ap (λ (l : Log). l.end) same.log ∙ opens.end)
      (subst (λ (R : List Row). Keeps mode (flows_in limits (events_of limits h)) R) (sym (same.saved ∙ opens.saved ∙ was.kept)) was.tables.rows_are)
      marked

  -- the State that was found is that of the moment
  pub closes_so : (said : StateRow) → state_of opened.rows ≡ Some said → ClosesAt (moment_of limits h part) opened.rows × (said ≡ state_at (moment_of limits h part))
  closes_so said found = by was.ends
    where
      by : ((opened.mode ≡ None) × (opened.rows ≡ []) × (moment_of limits h part ≡ nothing)) ⊎ ((opened.mode ≡ Some mode) × ClosesAt (moment_of limits h part) opened.rows) → ClosesAt (moment_of limits h part) opened.rows × (said ≡ state_at (moment_of limits h part))
      by (inl none) = absurd (let e : state_of [] ≡ Some said = sym (ap state_of none.1) ∙ found in let f : None ≡ Some said = e in cc)
      by (inr closes) = (closes.1, same_some _ _ (sym found ∙ closes.1.state))

-- the result of an engine's parts stands for the history of the store
pub stored_by : {D : Type 0} (state : D → DiskState) (faults : D → ℕ) (spent : D → Type 0) (limits : Limits) (mode : Mode) (opened : Opened D) (said : StateRow) (parts : Remade) (r : Result (Engine (OnDisk D)) (Unrestored (OnDisk D)))
    → ((disk : D) → IsDisk (state disk)) → WereStored → LeftSaysWhat → OneList → state_of opened.rows ≡ Some said → IsRemade limits said opened.rows parts
    → IfOk r (λ engine. StandsForLeft mode (seen_rows state opened.store) parts.join parts.tables said engine.joined) → IfOk r (λ engine. engine.reader ≡ parts.reader) → IfOk r (λ engine. engine.part ≡ said.part)
    → IfOk r (λ engine. engine.joined.tables.marked ≡ Some parts.tables.acts) → SameBut state faults spent opened.store (store_after r) → IfOk r (StandsForStored state limits mode opened)
stored_by state faults spent limits mode opened said parts (Ok engine) disks were left_says one found is joined reader part marked same = λ h p opens stores.
    let m = moment_of limits h p in
    let was = were text_of limits mode (state opened.store.disk).reads m opened.store.log (found_of opened) opens.read stores.store in
    let closes = closes_so state faults spent limits mode opened opens h p stores one was said found in
    let told = rows_told state opened.store (disks opened.store.disk) opens.told in
    let left : IsLeftOf limits mode (seen_rows state opened.store) parts.join parts.tables said h p = record {
      rows = was.rows;
      tables_are = was.tables;
      told_are = told ∙ ap (λ (R : List Row). Some R) was.kept;
      state_is = closes.1;
      limits_are = is.bounds.limits_are;
      join_is = is.history h p closes.0 closes.1;
      stands = is.tables_are text_of m (say_tables text_of limits.names mode was.rows opened.rows m was.tables was.say closes.0.state);
      fits = full_none limits.entities limits.flows _ _ stores.fits.entities stores.fits.flows;
    } in
    let stands : StandsFor limits engine h = record {
      reader = subst (λ (x : Reader). ReaderStandsFor limits x h) (sym reader) (is.reads h p closes.1);
      joined = joined limits (state_of_history limits h) (events_of limits h) (left_says limits mode (seen_rows state opened.store) parts.join parts.tables said h p left);
      fits = stores.fits;
    } in
    let acts : parts.tables.acts ≡ length (taken_in limits (events_of limits h)) = is.counted.acts_are ∙ ap acts_in found ∙ ap (λ (s : StateRow). s.acts) closes.1 in (
      record { stands = stands; has_part = record { counted = part ∙ ap (λ (s : StateRow). s.part) closes.1; within = stores.within } },
      saved_again state faults spent limits mode opened opens h p stores one was engine same (marked ∙ ap (λ (n : ℕ). Some n) acts),
    )
stored_by state faults spent limits mode opened said parts (Err back) disks were left_says one found is joined reader part marked same = tt

-- an engine of a store without a batch stands for the empty history of the store
pub stored_nothing : {D : Type 0} (state : D → DiskState) (faults : D → ℕ) (spent : D → Type 0) (limits : Limits) (mode : Mode) (opened : Opened D) (engine : Engine (OnDisk D)) → WereStored → OneList → state_of opened.rows ≡ None
    → ((state opened.store.disk).told → StandsFor limits engine []) → engine.part ≡ 0 → engine.joined.tables.marked ≡ Some 0 → SameBut state faults spent opened.store engine.joined.keep → StandsForStored state limits mode opened engine
stored_nothing {D} state faults spent limits mode opened engine were one none stands part marked same = λ h p opens stores.
    let m = moment_of limits h p in
    let was = were text_of limits mode (state opened.store.disk).reads m opened.store.log (found_of opened) opens.read stores.store in
    let empty : h ≡ [] = by h p opens stores was was.ends in
    let low : p ≤ 0 = subst (λ (x : History). p ≤ bytes_in x) empty stores.within in (
      record { stands = subst (λ (x : History). StandsFor limits engine x) (sym empty) (stands opens.told); has_part = record { counted = part ∙ omega (arith, low); within = stores.within } },
      saved_again state faults spent limits mode opened opens h p stores one was engine same (marked ∙ ap (λ (x : History). Some (length (taken_in limits (events_of limits x)))) (sym empty)),
    )
  where
    by : (h : History) (p : ℕ) (opens : IsOpen state limits opened) (stores : StoresHistory limits mode (state opened.store.disk).reads h p) → (was : WasStored text_of limits.names mode (found_of opened) (moment_of limits h p))
        → ((opened.mode ≡ None) × (opened.rows ≡ []) × (moment_of limits h p ≡ nothing)) ⊎ ((opened.mode ≡ Some mode) × ClosesAt (moment_of limits h p) opened.rows) → h ≡ []
    by h p opens stores was (inl is) = nothing_stored state faults spent limits mode opened opens h p stores one was is.0
    by h p opens stores was (inr closes) = absurd (let e : None ≡ Some (state_at (moment_of limits h p)) = sym none ∙ closes.1.state in cc)

-- ---- what was found

module _ (bounds : Bounds) (payloads : List (List ℕ)) (found : Found) (is : IsFound bounds payloads found) where
  none_found : found.mode ≡ None → is.batches ≡ []
  none_found none = (subst (λ (o : Option Mode). IsOfMode bounds is.batches payloads o) none is.mode).0

  -- what has a State can be restored
  pub can_restore : FoundRestores → (said : StateRow) → state_of found.others ≡ Some said → CanBeRestored bounds found.others found.rows.rows
  can_restore law said has = by found.mode refl
    where
      by : (mode : Option Mode) → found.mode ≡ mode → CanBeRestored bounds found.others found.rows.rows
      by (Some mode) same = law bounds payloads found mode is same
      by None none = absurd (
          let empty : found.others ≡ [] = is.others ∙ ap (λ (b : List (List StoreRow)). table_rows b ++ closing_rows b) (none_found none) in
          let e : None ≡ Some said = sym (ap state_of empty) ∙ has in cc)

  -- what has no State has no rows
  pub no_rows : FoundRestores → state_of found.others ≡ None → found.rows.rows ≡ []
  no_rows law has = by found.mode refl
    where
      by : (mode : Option Mode) → found.mode ≡ mode → found.rows.rows ≡ []
      by (Some mode) same = absurd (let can = law bounds payloads found mode is same in let e : None ≡ Some can.state = sym has ∙ can.state_is in cc)
      by None none = is.rows ∙ ap (λ (b : List (List StoreRow)). rows_of (all_of b)) (none_found none)

-- what can be restored can be made again
pub can_remake : (limits : Limits) (rows : List StoreRow) (R : List Row) (said : StateRow) → state_of rows ≡ Some said → CanBeRestored (bounds_of limits) rows R → CanBeRemade limits said rows
can_remake limits rows R said is can =
    let same : can.state ≡ said = same_some _ _ (sym can.state_is ∙ is) in
    record {
      state_is = is;
      counts = subst HasCounts same can.counts;
      tail = subst (HasTail limits.line) same can.tail;
      listed = subst (HasListed limits.shown) same can.listed;
      few = can.few;
      ascend = can.ascend;
    }
