-- What holds of the rows of an observable disk, while it is opened, read and committed to, and while rows are added.
use Rattle.std.proofs.Common.{◌≡◌, ◌≢◌, ◌∙◌, ℕ, ◌+◌, ◌≤◌, ◌<◌, max, Bool, true, false, List, [], ◌∷◌, ◌++◌, length, get_or, take, drop, Option, Some, None, Result, Ok, Err, refl, sym, ap, subst, arith}
use Rattle.std.specs.Option.{unwrap_or}
use Rattle.std.specs.List.{All, flat_map}
use Rattle.std.proofs.lemmas.List.{append_assoc, drop-drop, drop_at, length-append, length-take-le, take-append-drop, take-take, take_at}
use Rattle.batch_log.specs.Batches.{CLOSED, HasBatches, OPEN, after_gate, batches, length_bytes}
use Rattle.batch_log.specs.Log.{Log, LogHas, log_after, next_gate}
use Rattle.batch_log.specs.declared.log.CommitFault.{CommitFault}
use Rattle.batch_log.specs.declared.log.CommitFault.TheVariants.{Full, NoMemory, StoreFault}
use Rattle.batch_log.proofs.Writing.{length-length_bytes}
use Rattle.block_cache.specs.Cached.{Cached, IsCacheOf, range}
use Rattle.block_cache.proofs.CacheLemmas.{cache_of_firm}
use Rattle.outside.specs.Disk.{put_at}
use Rattle.reach_rows.specs.declared.rows.Mark.{Mark}
use Rattle.reach_rows.specs.declared.rows.Row.{Row as KeptRow}
use Rattle.flow_base.specs.declared.types.Flow.{Flow}
use Rattle.reach_model.specs.declared.modes.Verdict.TheVariants.{Extend}
use Rattle.reach_model.specs.Numbers.{beyond, known}
use Rattle.reach_model.specs.Rows.{Row, SamePair, firsts, row_of, rows_after}
use Rattle.reach_model.proofs.Numbering.{known_push}
use Rattle.reach_rows.specs.Kept.{AreRows, ComesAfter, GoesOn, IsRowAt}
use Rattle.std.specs.Prelude.{IfSome}
use Rattle.std.specs.Result.{IfOk}
use Rattle.reach_rows.specs.declared.rows.RowFault.{RowFault}
use Rattle.reach_rows.proofs.RowLemmas.{rows_extended, rows_push}
use Rattle.store_check.specs.Store.{changed_at, extended}
use Rattle.stored.specs.Batch.{mark_of}
use Rattle.reduced_store.proofs.HeldLemmas.{changed_is_after, firsts_of_push}
use Rattle.reduced_store.proofs.LeadLemmas.{later_added, later_extended}
use Rattle.row_codec.specs.Rows.{Fits, row}
use Rattle.row_codec.specs.declared.rows.StoreRow.{StoreRow}
use Rattle.saved_rows.specs.Joining.{AreOn, Joined, mark_in, with_cache_of}
use Rattle.saved_rows.specs.Saved.{HasLast, HasRows, IsSpelledAt, SameRows, Saved, as_kept, end_of}
use Rattle.saved_rows.specs.Runs.{IsRunOf, place_in}
use Rattle.saved_rows.specs.declared.runs.Run.{Run}
use Rattle.saved_rows.proofs.RowLemmas.{rows_stay}
use Rattle.saved_rows.proofs.SpelledLemmas.{spelled_from}
use Rattle.store_check.specs.Conditions.{Bounds}
use Rattle.reduced_store.specs.Held.{Held, told_if}
use Rattle.reduced_store.specs.OnDisk.{IsLater, IsTold}
use Rattle.reduced_store.specs.Placing.{IsSettled, IsTied, SameButRoom, SamePlaces, SamePlacesNow, StandFrom, StandOn}
use Rattle.reduced_store.specs.Reading.{IsFound}
use Rattle.reduced_store.specs.declared.reading.Found.{Found}
use Rattle.reduced_store.proofs.FillLemmas.{in_order_and_apart}

-- ---- opening

no_later : (held : Held) → IsSettled held → (i : ℕ) (mark : Mark) → mark_in held.placed.renewed i ≡ Some mark → IsLater (held.placed.kept ++ held.placed.recent) i mark
no_later held settled i mark is = absurd (let e = sym (settled.none i) ∙ is in cc)

pub told_found : (bounds : Bounds) (payloads : List (List ℕ)) (found : Found) (bytes : List ℕ) (log : Log) → IsFound bounds payloads found → found.rows.lawful ≡ true → StandOn bytes log found.rows → IsTold bytes log found.rows
told_found bounds payloads found bytes log is lawful stand = record {
  lawful = subst AreRows (sym is.rows) (in_order_and_apart _ is.sound.order (is.lawful.0 lawful));
  on = stand.on;
  firm = stand.firm;
  later = no_later found.rows stand.settled;
}

-- ---- the same places

same_rows : (bytes : List ℕ) (old new : Saved) (R : List KeptRow) → SameRows old new → HasRows bytes old R → HasRows bytes new R
same_rows bytes old new R same has =
    let firm : new.cache.firm ≡ old.cache.firm = ap (λ (c : Cached). c.firm) same.cache in
    record {
      all = same.count ∙ has.all;
      kept = λ i k d e h is.
          subst (λ (f : ℕ). IsSpelledAt bytes f (place_in (get_or new.runs k e) i) (as_kept (get_or R i d))) (sym firm)
          (subst (λ (rs : List Run). IsSpelledAt bytes old.cache.firm (place_in (get_or rs k e) i) (as_kept (get_or R i d))) (sym same.runs)
          (has.kept i k d e h (subst (λ (rs : List Run). IsRunOf rs i k) same.runs is)));
      last = λ i d h.
          subst (λ (f : ℕ). HasLast bytes f i (get_or R i d) (end_of new.ends i)) (sym firm)
          (subst (λ (es : List (ℕ × ℕ)). HasLast bytes old.cache.firm i (get_or R i d) (end_of es i)) (sym same.ends) (has.last i d h));
      listed = λ i h. ap (λ (es : List (ℕ × ℕ)). end_of es i) same.ends ∙ has.listed i h;
    }

-- room for a batch changes no place
pub on_with_room : (bytes : List ℕ) (old new : Joined) → new ≡ record old { saved = new.saved } → SameRows old.saved new.saved → AreOn bytes old → AreOn bytes new
on_with_room bytes old new is same on =
    subst (AreOn bytes) (sym is) (record { cache = subst (IsCacheOf bytes) (sym same.cache) on.cache; rows = same_rows bytes old.saved new.saved old.kept same on.rows })

-- rows that are added or extended change no place
pub on_added : (bytes : List ℕ) (old new : Joined) → SamePlaces old new → AreOn bytes old → AreOn bytes new
on_added bytes old new same on = record {
  cache = subst (λ (s : Saved). IsCacheOf bytes s.cache) (sym same.saved) on.cache;
  rows = subst (HasRows bytes new.saved) (sym same.kept) (subst (λ (s : Saved). HasRows bytes s old.kept) (sym same.saved) on.rows);
}

-- a disk that reads the same before the firm place has the same rows
pub on_front : (old new : List ℕ) (gate : ℕ) (j : Joined) → j.saved.cache.firm ≤ gate → take gate new ≡ take gate old → AreOn old j → AreOn new j
on_front old new gate j low same on =
    let firm = j.saved.cache.firm in
    let first : take firm new ≡ take firm old = sym (take-take firm gate new low) ∙ ap (take firm) same ∙ take-take firm gate old low in
    record { cache = cache_of_firm old new j.saved.cache on.cache first; rows = rows_stay old new j.saved j.kept on.rows first }

-- ---- a row is read

pub told_read : (bytes new : List ℕ) (log : Log) (old now : Held) (j : Joined) → now ≡ record old { placed = with_cache_of j old.placed } → AreOn new now.placed
    → now.placed.saved.cache.firm ≡ old.placed.saved.cache.firm → IsTold bytes log old → IsTold new log now
told_read bytes new log old now j is on firm told = record {
  lawful = subst (λ (h : Held). AreRows h.rows) (sym is) told.lawful;
  on = on;
  firm = omega (arith, firm, told.firm);
  later = subst (λ (h : Held). (i : ℕ) (mark : Mark) → mark_in h.placed.renewed i ≡ Some mark → IsLater (h.placed.kept ++ h.placed.recent) i mark) (sym is) told.later;
}

-- ---- a commit

-- a place after a place in bytes
pub range_after : (bytes front mid back : List ℕ) (at : ℕ) → range at (length (front ++ (mid ++ back))) bytes ≡ front ++ (mid ++ back) → range (at + length front) (length mid) bytes ≡ mid
range_after bytes front mid back at is =
    let xs = drop at bytes in
    let n = length (front ++ (mid ++ back)) in
    let whole : xs ≡ front ++ (mid ++ (back ++ drop n xs)) = sym (take-append-drop n xs) ∙ ap (λ (l : List ℕ). l ++ drop n xs) is ∙ append_assoc front (mid ++ back) (drop n xs) ∙ ap (λ (l : List ℕ). front ++ l) (append_assoc mid back (drop n xs)) in
    ap (take (length mid)) (sym (drop-drop (length front) at bytes) ∙ ap (drop (length front)) whole ∙ drop_at front (mid ++ (back ++ drop n xs)) (length front) refl)
    ∙ take_at mid (back ++ drop n xs) (length mid) refl

-- the payload of a batch stands after its gate and its length
payload_there : (old payload : List ℕ) (gate : ℕ) → gate ≤ length old → range (gate + 9) (length payload) (put_at gate (OPEN ∷ after_gate payload) old) ≡ payload
payload_there old payload gate low =
    let before = take gate old in
    let long : length before ≡ gate = length-take-le gate old low in
    let rest = drop (gate + length (OPEN ∷ after_gate payload)) old in
    let head : List ℕ = before ++ OPEN ∷ length_bytes (length payload) in
    let size : length head ≡ gate + 9 = omega (arith, long, length-append before (OPEN ∷ length_bytes (length payload)), length-length_bytes (length payload)) in
    let spelled : put_at gate (OPEN ∷ after_gate payload) old ≡ head ++ (payload ++ (CLOSED ∷ rest)) =
    simp append_assoc refl in
    ap (λ (xs : List ℕ). take (length payload) (drop (gate + 9) xs)) spelled
    ∙ ap (take (length payload)) (drop_at head (payload ++ (CLOSED ∷ rest)) (gate + 9) size)
    ∙ take_at payload (CLOSED ∷ rest) (length payload) refl

-- the rows of a batch stand where it was put
pub put_stands : (old new payload front back : List ℕ) (gate before firm place : ℕ) (rows : List StoreRow) → gate ≤ length old → new ≡ put_at gate (OPEN ∷ after_gate payload) old
    → payload ≡ front ++ (flat_map row rows ++ back) → before ≡ length front → All Fits rows → place ≡ gate + 9 + before → firm ≡ gate + (9 + length payload)
    → StandFrom new firm place rows
put_stands old new payload front back gate before firm place rows low is spelled at fit where_is firm_is = λ later le.
    let whole : range (gate + 9) (length payload) new ≡ payload = ap (range (gate + 9) (length payload)) is ∙ payload_there old payload gate low in
    let parts : range (gate + 9) (length (front ++ (flat_map row rows ++ back))) new ≡ front ++ (flat_map row rows ++ back) =
    subst (λ (p : List ℕ). range (gate + 9) (length p) new ≡ p) spelled whole in
    let start : gate + 9 + length front ≡ place = omega (arith, where_is, at) in
    let here : range place (length (flat_map row rows)) new ≡ flat_map row rows =
    subst (λ (n : ℕ). range n (length (flat_map row rows)) new ≡ flat_map row rows) start (range_after new front (flat_map row rows) back (gate + 9) parts) in
    let long : length payload ≡ length front + (length (flat_map row rows) + length back) = ap length spelled ∙ length-append front (flat_map row rows ++ back) ∙ ap (λ (n : ℕ). length front + n) (length-append (flat_map row rows) back) in
    spelled_from new later place rows fit here (omega (arith, long, start, firm_is, le))

-- after a commit
pub told_committed : (old new : List ℕ) (log after : Log) (held now : Held) (firm : ℕ) → IsTold old log held → now.rows ≡ held.rows → AreOn new now.placed → IsSettled now
    → now.placed.saved.cache.firm ≡ max held.placed.saved.cache.firm firm → firm ≡ next_gate after → next_gate log ≤ next_gate after → IsTold new after now
told_committed old new log after held now firm told rows on settled firm_is at later = record {
  lawful = subst AreRows (sym rows) told.lawful;
  on = on;
  firm = omega (arith, firm_is, at, later, told.firm);
  later = no_later now settled;
}

-- after a commit that failed
pub told_still : (old new : List ℕ) (log after : Log) (held now : Held) → IsTold old log held → SameButRoom held now → AreOn new held.placed → next_gate after ≡ next_gate log → IsTold new after now
told_still old new log after held now told same on gate = record {
  lawful = subst (λ (h : Held). AreRows h.rows) (sym same.rows) told.lawful;
  on = on_with_room new held.placed now.placed same.placed same.saved on;
  firm = let cache : now.placed.saved.cache.firm ≡ held.placed.saved.cache.firm = ap (λ (c : Cached). c.firm) same.saved.cache in omega (arith, cache, told.firm, gate);
  later = subst (λ (j : Joined). (i : ℕ) (mark : Mark) → mark_in j.renewed i ≡ Some mark → IsLater (j.kept ++ j.recent) i mark) (sym same.placed) told.later;
}

pub gate_after : (log : Log) (size : ℕ) (fault : CommitFault) → next_gate (log_after log size (Err fault)) ≡ next_gate log
gate_after log size StoreFault = refl
gate_after log size (Full full) = refl
gate_after log size NoMemory = refl

-- the gate stands on the disk
pub gate_within : (log : Log) (payloads : List (List ℕ)) (bytes : List ℕ) → LogHas log payloads bytes → next_gate log ≤ length bytes
gate_within log payloads bytes has = by log.last has
  where
    by : (last : Option ℕ) → HasBatches log.most payloads last bytes → unwrap_or last 0 ≤ length bytes
    by None nothing = omega arith
    by (Some gate) are = omega (arith, are.last_gate, ap length are.spelled, length-append (batches payloads) (CLOSED ∷ are.after))

-- ---- a row more, and a row with another last flow

pub told_added : (bytes : List ℕ) (log : Log) (old new : Held) (f : Flow) (added : KeptRow) → IsTold bytes log old → new.rows ≡ old.rows ++ row_of f ∷ [] → ComesAfter old.rows f → GoesOn (known (firsts old.rows)) f
    → SamePlaces old.placed new.placed → new.placed.renewed ≡ old.placed.renewed → new.placed.recent ≡ old.placed.recent ++ added ∷ [] → IsTold bytes log new
told_added bytes log old new f added told rows later numbered places renewed recent = record {
  lawful = subst AreRows (sym rows) (rows_push told.lawful later numbered);
  on = on_added bytes old.placed new.placed places told.on;
  firm = subst (λ (s : Saved). s.cache.firm ≤ next_gate log) (sym places.saved) told.firm;
  later = λ i mark is.
      subst (λ (R : List KeptRow). IsLater (new.placed.kept ++ R) i mark) (sym recent)
      (subst (λ (K : List KeptRow). IsLater (K ++ (old.placed.recent ++ added ∷ [])) i mark) (sym places.kept)
      (later_added old.placed.kept old.placed.recent added i mark (told.later i mark (sym (ap (λ rs. mark_in rs i) renewed) ∙ is))));
}

pub told_extended : (bytes : List ℕ) (log : Log) (old new : Held) (i : ℕ) (mark : Mark) (f : Flow) → IsTold bytes log old → new.rows ≡ changed_at i (extended mark) old.rows → mark ≡ mark_of f → i < length old.rows
    → ((d : Row) → SamePair (get_or old.rows i d).last f) → ComesAfter old.rows f → SamePlaces old.placed new.placed → new.placed.recent ≡ old.placed.recent → IsTied old
    → mark_in new.placed.renewed i ≡ Some mark → ((j : ℕ) → j ≢ i → mark_in new.placed.renewed j ≡ mark_in old.placed.renewed j) → IsTold bytes log new
told_extended bytes log old new i mark f told rows is within pair later places recent tied here others = record {
  lawful = subst AreRows (sym (extended_is old.rows new.rows i mark f rows is within pair)) (rows_extended told.lawful later i within pair);
  on = on_added bytes old.placed new.placed places told.on;
  firm = subst (λ (s : Saved). s.cache.firm ≤ next_gate log) (sym places.saved) told.firm;
  later = λ j m given.
      subst (λ (R : List KeptRow). IsLater (new.placed.kept ++ R) j m) (sym recent)
      (subst (λ (K : List KeptRow). IsLater (K ++ old.placed.recent) j m) (sym places.kept)
      (later_extended (mark_in old.placed.renewed) (mark_in new.placed.renewed) (old.placed.kept ++ old.placed.recent) old.rows i mark f tied within later is told.later here others j m given));
}
  where
    extended_is : (R S : List Row) (i : ℕ) (mark : Mark) (f : Flow) → S ≡ changed_at i (extended mark) R → mark ≡ mark_of f → i < length R → ((d : Row) → SamePair (get_or R i d).last f) → S ≡ rows_after R f (Extend i)
    extended_is R S i mark f now is within pair = now ∙ ap (λ (m : Mark). changed_at i (extended m) R) is ∙ changed_is_after R i f within pair

pub pushed_known : (R S : List Row) (f : Flow) → S ≡ R ++ row_of f ∷ [] → known (firsts S) ≡ max (known (firsts R)) (beyond f)
pushed_known R S f now = ap (λ T. known (firsts T)) now ∙ ap known (firsts_of_push R f) ∙ known_push (firsts R) f

-- ---- what is said of the rows that are observable

pub exact_told : (b : Bool) (R : List Row) (index : ℕ) (result : Result KeptRow RowFault) → (b ≡ true → IfOk result (IsRowAt R index)) → IfOk result (λ r. IfSome (told_if b R) (λ S. IsRowAt S index r))
exact_told true R index (Ok r) is = is refl
exact_told true R index (Err fault) is = tt
exact_told false R index (Ok r) is = tt
exact_told false R index (Err fault) is = tt

pub hidden_if : (b : Bool) (R : List Row) → (b ≡ true → ⊥) → told_if b R ≡ None
hidden_if true R never = absurd (never refl)
hidden_if false R never = refl

-- before the rows of a new batch are settled, what is known of the rows goes over
pub still_reserved : (bytes : List ℕ) (log : Log) (held reserved : Held) → IsTold bytes log held → SameButRoom held reserved → IsTold bytes log reserved
still_reserved bytes log held reserved told same = told_still bytes bytes log log held reserved told same told.on refl

-- ---- more room

pub told_roomier : (bytes : List ℕ) (log : Log) (old new : Held) → IsTold bytes log old → new.rows ≡ old.rows → SamePlacesNow old.placed new.placed → IsTold bytes log new
told_roomier bytes log old new told rows same = record {
  lawful = subst AreRows (sym rows) told.lawful;
  on = on_added bytes old.placed new.placed (record { saved = same.saved; kept = same.kept }) told.on;
  firm = subst (λ (s : Saved). s.cache.firm ≤ next_gate log) (sym same.saved) told.firm;
  later = λ i mark is.
      subst (λ (R : List KeptRow). IsLater (new.placed.kept ++ R) i mark) (sym same.recent)
      (subst (λ (K : List KeptRow). IsLater (K ++ old.placed.recent) i mark) (sym same.kept)
      (told.later i mark (sym (ap (λ rs. mark_in rs i) same.renewed) ∙ is)));
}
