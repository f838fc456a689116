-- The batch of a commit goes on after a store, and so is stored.
use Rattle.std.proofs.Common.{◌≡◌, ◌∙◌, refl, sym, ap, subst, ℕ, zero, suc, ◌<◌, ◌≤◌, List, [], ◌∷◌, ◌++◌, map, length, take, Option, Some, None, arith, append_assoc}
use Rattle.std.specs.List.{Contains}
use Rattle.std.proofs.lemmas.Grind.{flat_map-append, fold-append}
use Rattle.std.proofs.lemmas.List.{append-nil, length-map}
use Rattle.std.proofs.lemmas.List.Elements.{Contains-append_left}
use Rattle.flow_base.specs.declared.types.Flow.{Flow}
use Rattle.flow_base.specs.declared.types.Key.{Key}
use Rattle.acts.specs.declared.act.Act.{Act}
use Rattle.acts.specs.declared.act.Taken.{Taken}
use Rattle.acts.specs.Flows.{acts_of, flows, objects}
use Rattle.acts.specs.Lives.{beginnings}
use Rattle.acts.proofs.Entering.{AreOne}
use Rattle.reach_model.specs.declared.modes.Mode.{Mode}
use Rattle.reach_model.specs.Numbers.{known, IsLawfulWith}
use Rattle.reach_model.specs.Rows.{Row, Keeps, none, firsts}
use Rattle.reach_model.proofs.RowNumbers.{known_kept}
use Rattle.row_codec.specs.declared.rows.StoreRow.{StoreRow}
use Rattle.row_codec.specs.declared.rows.StoreRow.TheVariants.{Entity, State}
use Rattle.store_check.specs.Conditions.{Bounds, MayStand, EachAfter, IsNextState, AllAppear}
use Rattle.store_check.specs.Store.{key_in, keys, grown, rows_of, place_in, time_in, act_in, number_in, EachIn}
use Rattle.stored.specs.Words.{all_of}
use Rattle.stored.specs.Moment.{Moment, nothing, state_at}
use Rattle.stored.specs.Batch.{Batch, IsCommitOf, front, back, laid, held_row, address_row, born_row, waiting_row}
use Rattle.stored.specs.Stored.{Stored, AreTables, EndsAt, AllContinue, last_of}
use Rattle.stored.specs.Going.{MayGo, MayEnd, AreFew, to_kept, to_state}
use Rattle.stored.proofs.Lists.{IsFront, flows_front, acts_joined}
use Rattle.stored.proofs.Names.{objects_next}
use Rattle.stored.proofs.KeptLaws.{rows_next}
use Rattle.stored.proofs.Objects.{NewBehind, objects_behind, entities_stand, new_dropped}
use Rattle.stored.proofs.Parts.{BothStand, both_stand}
use Rattle.stored.proofs.ActsLaid.{acts_laid}
use Rattle.stored.proofs.Numbers.{numbers_laid}
use Rattle.stored.proofs.Waits.{waiting_stand}
use Rattle.stored.proofs.Ends.{HasEnd, last_end, each_front, each_weaker, each_append, places_laid, times_laid}
use Rattle.stored.proofs.Continuing.{batch_continues, five}
use Rattle.stored.proofs.Commits.{stored_next}
use Rattle.stored.proofs.Folds.{singles}

-- no pid was begun more often than there are acts
abbrev pub AreFewLives : Type 0
AreFewLives = (acts : List Act) (p : ℕ) → beginnings acts p ≤ length acts

-- ---- what holds of the numbers of a store

pub record HasNumbers (rows : List StoreRow) (m : Moment) : Type 0 where
  pub places : EachIn place_in (λ n. n < length (flows m.taken)) rows
  pub times : EachIn time_in (λ n. n ≤ m.join.clock.effective) rows
  pub acts : EachIn act_in (λ n. n < length m.taken) rows
  pub numbers : EachIn number_in (λ n. n ≤ length m.taken) rows

numbers_of_end : (bounds : Bounds) (rows : List StoreRow) (m : Moment) → HasEnd bounds rows (state_at m) → HasNumbers rows m
numbers_of_end bounds rows m e = subst (λ (l : List StoreRow). HasNumbers l m) (sym e.is) (record {
  places = each_front place_in (λ n. n < length (flows m.taken)) e.before (state_at m) refl e.stands.places;
  times = each_front time_in (λ n. n ≤ m.join.clock.effective) e.before (state_at m) refl e.stands.times;
  acts = each_front act_in (λ n. n < length m.taken) e.before (state_at m) refl e.stands.acts;
  numbers = each_front number_in (λ n. n ≤ length m.taken) e.before (state_at m) refl e.stands.numbers;
})

none_there : {A : Type 0} (x : A) → Contains [] x → ⊥
none_there x c = let lt = c.1 in omega (arith, lt)

no_numbers : (measure : StoreRow → Option ℕ) (P : ℕ → Type 0) → EachIn measure P []
no_numbers measure P row c = absurd (none_there row c)

numbers_by : (bounds : Bounds) (mode : Mode) (batches : List (List StoreRow)) (m : Moment) (o : Option (List StoreRow)) → last_of batches ≡ o → AllContinue bounds mode [] batches → EndsAt m o → HasNumbers (all_of batches) m
numbers_by bounds mode [] m o is all ends = record { places = no_numbers place_in (λ n. n < length (flows m.taken)); times = no_numbers time_in (λ n. n ≤ m.join.clock.effective); acts = no_numbers act_in (λ n. n < length m.taken); numbers = no_numbers number_in (λ n. n ≤ length m.taken) }
numbers_by bounds mode (b ∷ batches) m None is all ends = absurd (some_last b batches is)
  where
    some_last : {A : Type 0} (x : A) (xs : List A) → last_of (x ∷ xs) ≡ None → ⊥
    some_last x [] is = cc
    some_last x (y ∷ xs) is = some_last y xs is
numbers_by bounds mode (b ∷ batches) m (Some batch) is all ends = numbers_of_end bounds (all_of (b ∷ batches)) m (last_end bounds mode [] (b ∷ batches) batch (state_at m) all is ends.state)

-- ---- the State

grows : {A : Type 0} (xs ys : List A) → length ys ≤ length (xs ++ ys)
grows [] ys = omega arith
grows (x ∷ xs) ys = let le = grows xs ys in omega (arith, le)

front_grows : {A : Type 0} (xs ys : List A) → length xs ≤ length (xs ++ ys)
front_grows [] ys = omega arith
front_grows (x ∷ xs) ys = let le = front_grows xs ys in omega (arith, le)

-- the rows before the State, and then it
up_to_state : (before : List StoreRow) (b : Batch) → to_state before b ++ State b.state ∷ [] ≡ before ++ laid b
up_to_state before b =
    five (before ++ front b) (map held_row b.held) (map address_row b.addresses) (map born_row b.births) (map waiting_row b.waiting) (State b.state ∷ []) ∙ append_assoc before (front b) (back b)

each_less : (measure : StoreRow → Option ℕ) (P : ℕ → Type 0) (rows more : List StoreRow) → EachIn measure P (rows ++ more) → EachIn measure P rows
each_less measure P rows more each row c = each row (Contains-append_left rows more row c)

state_stands : (text : List ℕ → List ℕ) (most : ℕ) (bounds : Bounds) (mode : Mode) (before batch : List StoreRow) (m0 m : Moment) → AreOne → AreFewLives → IsLawfulWith (length (objects (acts_of m.taken))) (flows m.taken)
    → AreTables text most mode before m0 → HasNumbers before m0 → (c : IsCommitOf text most mode m0 m batch) → MayEnd bounds m0 m → MayStand bounds mode (to_state before c.batch) (State c.batch.state)
state_stands text most bounds mode before batch m0 m one lives l t n c e =
    let b = c.batch in
    let all : to_state before b ++ State b.state ∷ [] ≡ before ++ laid b = up_to_state before b in
    let flows_go : IsFront (flows m0.taken) (flows m.taken) = subst (λ (x : List Taken). IsFront (flows m0.taken) (flows x)) (sym c.goes_on) (flows_front c.since m0.taken) in
    let more_flows : length (flows m0.taken) ≤ length (flows m.taken) = subst (λ (x : List Flow). length (flows m0.taken) ≤ length x) (sym flows_go.1) (front_grows (flows m0.taken) flows_go.0) in
    let more_acts : length m0.taken ≤ length m.taken = subst (λ (x : List Taken). length m0.taken ≤ length x) (sym c.goes_on) (grows c.since m0.taken) in
    let rows : rows_of (to_state before b) ≡ rows_of (before ++ laid b) = sym (fold-append grown [] (to_state before b) (State b.state ∷ [])) ∙ ap rows_of all in
    let keys_are : keys (to_state before b) ≡ objects (acts_of m.taken) =
    sym (flat_map-append key_in (to_state before b) (State b.state ∷ []) ∙ append-nil (keys (to_state before b))) ∙ ap keys all ∙ objects_next c.since m0.taken m.taken before b c.goes_on t.objects_are c.entities in
    let kept : Keeps mode (flows m.taken) (rows_of (before ++ laid b)) = rows_next mode (flows m0.taken) (flows m.taken) before b l.lawful flows_go t.rows_are c.rows_are in
    let appear : AllAppear (to_state before b) = ap (λ (R : List Row). known (firsts R)) rows ∙ known_kept l.lawful kept ∙ l.objects ∙ sym (ap length keys_are) in
    let places : EachIn place_in (λ x. x < length (flows m.taken)) (before ++ laid b) =
    each_append place_in (λ x. x < length (flows m.taken)) before (laid b) (each_weaker place_in (λ x. x < length (flows m0.taken)) (λ x. x < length (flows m.taken)) (λ x lt. omega (arith, lt, more_flows)) before n.places) (places_laid mode (flows m0.taken) (flows m.taken) b l.lawful c.rows_are) in
    let times : EachIn time_in (λ x. x ≤ m.join.clock.effective) (before ++ laid b) =
    each_append time_in (λ x. x ≤ m.join.clock.effective) before (laid b) (let up = e.rises in each_weaker time_in (λ x. x ≤ m0.join.clock.effective) (λ x. x ≤ m.join.clock.effective) (λ x le. omega (arith, le, up)) before n.times) (times_laid mode (flows m0.taken) (flows m.taken) b m.join.clock.effective l.lawful e.times c.rows_are) in
    let acts : EachIn act_in (λ x. x < length m.taken) (before ++ laid b) =
    each_append act_in (λ x. x < length m.taken) before (laid b) (each_weaker act_in (λ x. x < length m0.taken) (λ x. x < length m.taken) (λ x lt. omega (arith, lt, more_acts)) before n.acts) (acts_laid text most mode m0 m batch one c) in
    let joined : acts_of m.taken ≡ acts_of c.since ++ acts_of m0.taken = acts_joined c.since m0.taken m.taken c.goes_on in
    let count : length (acts_of c.since ++ acts_of m0.taken) ≡ length m.taken = sym (ap length joined) ∙ length-map m.taken (λ (t : Taken). t.act) in
    let new_numbers : EachIn number_in (λ x. x ≤ length m.taken) (laid b) = subst (λ (k : ℕ). EachIn number_in (λ x. x ≤ k) (laid b)) count (numbers_laid (acts_of c.since) (acts_of m0.taken) b (lives (acts_of c.since ++ acts_of m0.taken)) c.ascend c.tables) in
    let numbers : EachIn number_in (λ x. x ≤ length m.taken) (before ++ laid b) =
    each_append number_in (λ x. x ≤ length m.taken) before (laid b) (each_weaker number_in (λ x. x ≤ length m0.taken) (λ x. x ≤ length m.taken) (λ x le. omega (arith, le, more_acts)) before n.numbers) new_numbers in
    subst (IsNextState bounds (to_state before b)) (sym c.state) (record {
      appear = appear;
      places = each_less place_in (λ x. x < length (flows m.taken)) (to_state before b) (State b.state ∷ []) (subst (EachIn place_in (λ x. x < length (flows m.taken))) (sym all) places);
      times = each_less time_in (λ x. x ≤ m.join.clock.effective) (to_state before b) (State b.state ∷ []) (subst (EachIn time_in (λ x. x ≤ m.join.clock.effective)) (sym all) times);
      acts = each_less act_in (λ x. x < length m.taken) (to_state before b) (State b.state ∷ []) (subst (EachIn act_in (λ x. x < length m.taken)) (sym all) acts);
      numbers = each_less number_in (λ x. x ≤ length m.taken) (to_state before b) (State b.state ∷ []) (subst (EachIn number_in (λ x. x ≤ length m.taken)) (sym all) numbers);
      counts = e.counts;
      tail = e.tail;
      listed = e.listed;
    })

-- ---- the whole batch

pub may_go : (text : List ℕ → List ℕ) (most : ℕ) (bounds : Bounds) (mode : Mode) (before batch : List StoreRow) (m0 m : Moment) → AreOne → AreFewLives → IsLawfulWith (length (objects (acts_of m.taken))) (flows m.taken)
    → AreTables text most mode before m0 → HasNumbers before m0 → (c : IsCommitOf text most mode m0 m batch) → length (objects (acts_of m.taken)) ≤ bounds.entities → AreFew bounds.records m.join → MayEnd bounds m0 m → MayGo bounds mode before c.batch
may_go text most bounds mode before batch m0 m one lives l t n c fits few e =
    let b = c.batch in
    let joined : acts_of m.taken ≡ acts_of c.since ++ acts_of m0.taken = acts_joined c.since m0.taken m.taken c.goes_on in
    let behind : NewBehind (objects (acts_of m0.taken)) (objects (acts_of m.taken)) = subst (λ (a : List Act). NewBehind (objects (acts_of m0.taken)) (objects a)) (sym joined) (objects_behind one (acts_of c.since) (acts_of m0.taken)) in
    let news : b.entities ≡ behind.more = c.entities ∙ new_dropped (objects (acts_of m0.taken)) (objects (acts_of m.taken)) behind in
    let flows_go : IsFront (flows m0.taken) (flows m.taken) = subst (λ (x : List Taken). IsFront (flows m0.taken) (flows x)) (sym c.goes_on) (flows_front c.since m0.taken) in
    let keys_entities : keys (map Entity b.entities) ≡ b.entities = singles key_in Entity (λ k. refl) b.entities in
    let keys_now : keys (to_kept before b) ≡ objects (acts_of m.taken) =
    flat_map-append key_in before (map Entity b.entities) ∙ ap (λ (x : List Key). keys before ++ x) (keys_entities ∙ news) ∙ ap (λ (x : List Key). x ++ behind.more) t.objects_are ∙ sym behind.is in
    let both : BothStand bounds mode before b = both_stand bounds mode (length (objects (acts_of m.taken))) (flows m0.taken) (flows m.taken) before b l flows_go t.rows_are c.rows_are (ap length keys_now) in
    record {
      entities = subst (λ (ks : List Key). EachAfter (MayStand bounds mode) before (map Entity ks)) (sym news)
          (entities_stand bounds mode before (objects (acts_of m0.taken)) behind.more t.objects_are behind.new (subst (λ (x : List Key). length x ≤ bounds.entities) behind.is fits));
      kept = both.kept;
      extends = both.extends;
      waiting = waiting_stand bounds mode m.join _ b.waiting few c.waiting c.ascend.waiting;
      state = state_stands text most bounds mode before batch m0 m one lives l t n c e;
    }

-- a store of one moment and the batch of a commit of a later one are a store of that
pub commit_stored : (text : List ℕ → List ℕ) (most : ℕ) (bounds : Bounds) (mode : Mode) (batches : List (List StoreRow)) (batch : List StoreRow) (m0 m : Moment) → AreOne → AreFewLives → IsLawfulWith (length (objects (acts_of m.taken))) (flows m.taken)
    → Stored text most bounds mode batches m0 → (c : IsCommitOf text most mode m0 m batch) → length (objects (acts_of m.taken)) ≤ bounds.entities → AreFew bounds.records m.join → MayEnd bounds m0 m → Stored text most bounds mode (batches ++ batch ∷ []) m
commit_stored text most bounds mode batches batch m0 m one lives l s c fits few e =
    let n : HasNumbers (all_of batches) m0 = numbers_by bounds mode batches m0 (last_of batches) refl s.continue s.ends in
    stored_next text most bounds mode batches batch m0 m l.lawful s c
    (batch_continues bounds mode text most (all_of batches) batch m0 m s.tables.lives_are c (may_go text most bounds mode (all_of batches) batch m0 m one lives l s.tables n c fits few e))

no_names : (most : ℕ) → ◌≡◌ {A = List (List ℕ)} [] (take most [])
no_names zero = refl
no_names (suc n) = refl

-- without a batch the moment is the one before the first byte
pub nothing_stored : (text : List ℕ → List ℕ) (most : ℕ) (bounds : Bounds) (mode : Mode) → Stored text most bounds mode [] nothing
nothing_stored text most bounds mode = record {
  continue = tt;
  tables = record { objects_are = refl; rows_are = none; names_are = λ k. no_names most; lives_are = λ p. refl; held_are = λ p n. refl; addresses_are = λ s. refl; births_are = λ f. refl };
  ends = refl;
}
