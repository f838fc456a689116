-- The State of a commit may stand.
use Rattle.std.proofs.Common.{◌≡◌, ◌∙◌, refl, sym, ap, subst, ℕ, zero, suc, ◌+◌, ◌<◌, ◌≤◌, Bool, true, false, List, [], ◌∷◌, ◌++◌, map, length, drop, Option, Some, None, arith, append_assoc, inl, inr}
use Rattle.std.specs.Prelude.{IfSome, slice_index_or, if◌then◌else◌, ◌==◌}
use Rattle.std.specs.List.{AllByRecursion, Contains}
use Rattle.std.proofs.lemmas.List.{append-nil}
use Rattle.std.proofs.lemmas.List.Elements.{Contains-push_cases, Contains-append_cases, recursion_from_All}
use Rattle.flow_base.specs.declared.types.Flow.{Flow}
use Rattle.reach_model.specs.declared.modes.Mode.{Mode}
use Rattle.reach_model.specs.Flows.{IsLawful, time}
use Rattle.reach_model.specs.Rows.{Row, firsts}
use Rattle.reach_model.proofs.RowFacts.{IsRowOf, rows_of as facts}
use Rattle.reach_model.proofs.Lawful.{below_length}
use Rattle.row_codec.specs.declared.state.StateRow.{StateRow}
use Rattle.row_codec.specs.declared.rows.KeptRow.{KeptRow}
use Rattle.row_codec.specs.declared.rows.ExtendRow.{ExtendRow}
use Rattle.row_codec.specs.declared.rows.StoreRow.{StoreRow}
use Rattle.row_codec.specs.declared.rows.StoreRow.TheVariants.{Entity, Kept, Extend, Name, Life, Held, Address, Born, Waiting, State}
use Rattle.store_check.specs.Conditions.{Bounds, MayStand, EachAfter, IsNextState}
use Rattle.store_check.specs.Order.{IsState, EndInState}
use Rattle.store_check.specs.Store.{place_in, time_in, EachIn}
use Rattle.store_check.specs.Conditions.{Continues}
use Rattle.store_check.proofs.Batches.{each_at}
use Rattle.stored.specs.Words.{all_of, state_in, state_of}
use Rattle.stored.specs.Batch.{Batch, AreRowsOf, kept_row, kept_from, fresh, mark_of, extends_from, front, back, laid, name_row, life_row, held_row, address_row, born_row, waiting_row}
use Rattle.stored.specs.Stored.{AllContinue, last_of}
use Rattle.stored.proofs.Folds.{found_append}
use Rattle.stored.proofs.KeptLaws.{all_joined, all_dropped, last_first}

-- ---- the last State of a store

-- the rows are these and then the State, which may stand after them
pub record HasEnd (bounds : Bounds) (rows : List StoreRow) (s : StateRow) : Type 0 where
  pub before : List StoreRow
  pub is : rows ≡ before ++ State s ∷ []
  pub stands : IsNextState bounds before s

at_length : (xs : List StoreRow) (y : StoreRow) → slice_index_or (xs ++ y ∷ []) (length xs) y ≡ y
at_length [] y = refl
at_length (x ∷ xs) y = at_length xs y

long : (xs : List StoreRow) (y : StoreRow) → length (xs ++ y ∷ []) ≡ length xs + 1
long [] y = omega arith
long (x ∷ xs) y = let e = long xs y in omega (arith, e)

is_state : (rows xs : List StoreRow) (y : StoreRow) → rows ≡ xs ++ y ∷ [] → EndInState rows → IsState y
is_state rows xs y is e =
    let place : e.0 ≡ length xs = let a = e.1 in let b : length rows ≡ length xs + 1 = ap length is ∙ long xs y in omega (arith, a, b) in
    subst IsState (ap (λ (n : ℕ). slice_index_or rows n y) place ∙ ap (λ (l : List StoreRow). slice_index_or l (length xs) y) is ∙ at_length xs y) (e.2 y)

pub record Ended (bounds : Bounds) (before batch : List StoreRow) : Type 0 where
  pub s : StateRow
  pub rows : List StoreRow
  pub is : batch ≡ rows ++ State s ∷ []
  pub stands : IsNextState bounds (before ++ rows) s

ended_by : (bounds : Bounds) (mode : Mode) (before batch xs : List StoreRow) (y : StoreRow) → batch ≡ xs ++ y ∷ [] → IsState y → EachAfter (MayStand bounds mode) before batch → Ended bounds before batch
ended_by bounds mode before batch xs (State s) is st each = record { s = s; rows = xs; is = is; stands = each_at (MayStand bounds mode) before xs (State s) [] (subst (EachAfter (MayStand bounds mode) before) is each) }
ended_by bounds mode before batch xs (Entity k) is st each = absurd (omega (arith, st))
ended_by bounds mode before batch xs (Kept k) is st each = absurd (omega (arith, st))
ended_by bounds mode before batch xs (Extend k) is st each = absurd (omega (arith, st))
ended_by bounds mode before batch xs (Name k t) is st each = absurd (omega (arith, st))
ended_by bounds mode before batch xs (Life k t) is st each = absurd (omega (arith, st))
ended_by bounds mode before batch xs (Held k t h) is st each = absurd (omega (arith, st))
ended_by bounds mode before batch xs (Address k t) is st each = absurd (omega (arith, st))
ended_by bounds mode before batch xs (Born k t) is st each = absurd (omega (arith, st))
ended_by bounds mode before batch xs (Waiting k t c l) is st each = absurd (omega (arith, st))

no_end : EndInState [] → ⊥
no_end e = let a = e.1 in omega (arith, a)

ended : (bounds : Bounds) (mode : Mode) (before batch : List StoreRow) → Continues bounds mode before batch → Ended bounds before batch
ended bounds mode before [] c = absurd (no_end c.ended)
ended bounds mode before (x ∷ batch) c =
    let l = last_first x batch in
    ended_by bounds mode before (x ∷ batch) l.0 l.1 l.2 (is_state (x ∷ batch) l.0 l.1 l.2 c.ended) c.stand

state_at_end : (rows : List StoreRow) (s : StateRow) → state_of (rows ++ State s ∷ []) ≡ Some s
state_at_end rows s = found_append state_in rows (State s ∷ [])

pub last_end : (bounds : Bounds) (mode : Mode) (before : List StoreRow) (batches : List (List StoreRow)) (batch : List StoreRow) (s : StateRow) → AllContinue bounds mode before batches → last_of batches ≡ Some batch → state_of batch ≡ Some s → HasEnd bounds (before ++ all_of batches) s
last_end bounds mode before [] batch s all is st = absurd cc
last_end bounds mode before (b ∷ []) batch s all is st =
    let e = ended bounds mode before b all.0 in
    let same : b ≡ batch = cc in
    let it : e.s ≡ s = let two : Some e.s ≡ Some s = sym (ap state_of e.is ∙ state_at_end e.rows e.s) ∙ ap state_of same ∙ st in cc in
    record {
      before = before ++ e.rows;
      is = ap (λ (l : List StoreRow). before ++ l) (append-nil b ∙ e.is ∙ ap (λ (x : StateRow). e.rows ++ State x ∷ []) it) ∙ sym (append_assoc before e.rows (State s ∷ []));
      stands = subst (IsNextState bounds (before ++ e.rows)) it e.stands;
    }
last_end bounds mode before (b ∷ c ∷ batches) batch s all is st =
    subst (λ (l : List StoreRow). HasEnd bounds l s) (append_assoc before b (all_of (c ∷ batches))) (last_end bounds mode (before ++ b) (c ∷ batches) batch s all.1 is st)

-- ---- what holds of each number of the rows before, and of those of the batch

pub each_front : (measure : StoreRow → Option ℕ) (P : ℕ → Type 0) (rows : List StoreRow) (s : StateRow) → measure (State s) ≡ None → EachIn measure P rows → EachIn measure P (rows ++ State s ∷ [])
each_front measure P rows s none each row c = elim (Contains-push_cases rows (State s) row c) [
  | inl old ↦ each row old
  | inr new ↦ subst (λ (o : Option ℕ). IfSome o P) (sym none ∙ ap measure new) tt
]

pub each_weaker : (measure : StoreRow → Option ℕ) (P Q : ℕ → Type 0) → ((n : ℕ) → P n → Q n) → (rows : List StoreRow) → EachIn measure P rows → EachIn measure Q rows
each_weaker measure P Q to rows each row c = weaker (measure row) (each row c)
  where
    weaker : (o : Option ℕ) → IfSome o P → IfSome o Q
    weaker None h = tt
    weaker (Some n) h = to n h

pub each_append : (measure : StoreRow → Option ℕ) (P : ℕ → Type 0) (xs ys : List StoreRow) → EachIn measure P xs → EachIn measure P ys → EachIn measure P (xs ++ ys)
each_append measure P xs ys a b row c = elim (Contains-append_cases xs ys row c) [ inl l ↦ a row l | inr r ↦ b row r ]

-- ---- the stamps of Kept and Extend rows

module _ (measure : StoreRow → Option ℕ) (P : ℕ → Type 0) where
  abbrev pub AllIn : List StoreRow → Type 0
  AllIn rows = AllByRecursion (λ row. IfSome (measure row) P) rows

  found_in : (rows : List StoreRow) → AllIn rows → (row : StoreRow) (i : ℕ) → i < length rows → slice_index_or rows i row ≡ row → IfSome (measure row) P
  found_in [] all row i lt is = absurd (omega arith)
  found_in (x ∷ rows) all row zero lt is = subst (λ (r : StoreRow). IfSome (measure r) P) is all.0
  found_in (x ∷ rows) all row (suc i) lt is = found_in rows all.1 row i (omega arith) is

  pub each_of_all : (rows : List StoreRow) → AllIn rows → EachIn measure P rows
  each_of_all rows all row c = found_in rows all row c.0 c.1 c.2

  pub all_made : {B : Type 0} (make : B → StoreRow) → ((b : B) → IfSome (measure (make b)) P) → (bs : List B) → AllIn (map make bs)
  all_made make so [] = tt
  all_made make so (b ∷ bs) = (so b, all_made make so bs)

  module _ (now : List Flow) (kept : (K : List Flow) (f : Flow) → Contains now f → IfSome (measure (Kept (kept_row K f))) P) (extend : (i : ℕ) (f : Flow) → Contains now f → IfSome (measure (Extend (record { row = i; mark = mark_of f }))) P) where
    all_kept : (K : List Flow) (R : List Row) → AllByRecursion (IsRowOf now) R → AllIn (map Kept (kept_from K R))
    all_kept K [] all = tt
    all_kept K (r ∷ R) all = (kept K r.first all.0.first_there, all_kept (K ++ r.first ∷ []) R all.1)

    extend_if : (b : Bool) (i : ℕ) (r : Row) (rest : List ExtendRow) → Contains now r.last → AllIn (map Extend rest) → AllIn (map Extend ((if b then [] else record { row = i; mark = mark_of r.last } ∷ []) ++ rest))
    extend_if true i r rest there all = all
    extend_if false i r rest there all = (extend i r.last there, all)

    all_extends : (i : ℕ) (Q R : List Row) → AllByRecursion (IsRowOf now) R → AllIn (map Extend (extends_from i Q R))
    all_extends i [] R all = tt
    all_extends i (q ∷ Q) [] all = tt
    all_extends i (q ∷ Q) (r ∷ R) all = extend_if (q.last.at.place == r.last.at.place) i r (extends_from (suc i) Q R) all.0.last_there (all_extends (suc i) Q R all.1)

    pub record IsElse : Type 0 where
      pub entities : (e : _) → IfSome (measure (Entity e)) P
      pub names : (e : _) → IfSome (measure (name_row e)) P
      pub lives : (e : _) → IfSome (measure (life_row e)) P
      pub held : (e : _) → IfSome (measure (held_row e)) P
      pub addresses : (e : _) → IfSome (measure (address_row e)) P
      pub births : (e : _) → IfSome (measure (born_row e)) P
      pub waiting : (e : _) → IfSome (measure (waiting_row e)) P
      pub state : (s : StateRow) → IfSome (measure (State s)) P

    pub all_laid : (mode : Mode) (earlier : List Flow) (b : Batch) → IsLawful now → AreRowsOf mode earlier now b → IsElse → EachIn measure P (laid b)
    all_laid mode earlier b l t o =
        let new : AllByRecursion (IsRowOf now) t.after = recursion_from_All (IsRowOf now) t.after (facts l t.kept_now) in
        let D = drop (length t.before) t.after in
        let kept_all : AllIn (map Kept b.kept) = subst (λ (ks : List KeptRow). AllIn (map Kept ks)) (sym t.kept) (all_kept (firsts t.before) D (all_dropped (IsRowOf now) (length t.before) t.after new)) in
        let extends_all : AllIn (map Extend b.extends) = subst (λ (es : List ExtendRow). AllIn (map Extend es)) (sym t.extends) (all_extends 0 (t.before ++ map fresh D) t.after new) in
        let Q : StoreRow → Type 0 = λ row. IfSome (measure row) P in
        each_of_all (laid b) (all_joined Q (front b) (back b)
        (all_joined Q (map Entity b.entities) _ (all_made Entity o.entities b.entities) (all_joined Q (map Kept b.kept) _ kept_all (all_joined Q (map Extend b.extends) _ extends_all (all_joined Q (map name_row b.names) _ (all_made name_row o.names b.names) (all_made life_row o.lives b.lives)))))
        (all_joined Q (map held_row b.held) _ (all_made held_row o.held b.held) (all_joined Q (map address_row b.addresses) _ (all_made address_row o.addresses b.addresses) (all_joined Q (map born_row b.births) _ (all_made born_row o.births b.births) (all_joined Q (map waiting_row b.waiting) _ (all_made waiting_row o.waiting b.waiting) (o.state b.state, tt))))))

pub places_laid : (mode : Mode) (earlier now : List Flow) (b : Batch) → IsLawful now → AreRowsOf mode earlier now b → EachIn place_in (λ n. n < length now) (laid b)
places_laid mode earlier now b l t =
    all_laid place_in (λ n. n < length now) now (λ K f c. below_length l f c) (λ i f c. below_length l f c) mode earlier b l t (record { entities = λ e. tt; names = λ e. tt; lives = λ e. tt; held = λ e. tt; addresses = λ e. tt; births = λ e. tt; waiting = λ e. tt; state = λ s. tt })

pub times_laid : (mode : Mode) (earlier now : List Flow) (b : Batch) (ms : ℕ) → IsLawful now → ((f : Flow) → Contains now f → time f ≤ ms) → AreRowsOf mode earlier now b → EachIn time_in (λ n. n ≤ ms) (laid b)
times_laid mode earlier now b ms l by t =
    all_laid time_in (λ n. n ≤ ms) now (λ K f c. by f c) (λ i f c. by f c) mode earlier b l t (record { entities = λ e. tt; names = λ e. tt; lives = λ e. tt; held = λ e. tt; addresses = λ e. tt; births = λ e. tt; waiting = λ e. tt; state = λ s. tt })
