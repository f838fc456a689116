-- The batch of a commit by rows is that of the two moments.
use Rattle.std.proofs.Common.{◌≡◌, ◌==◌, ℕ, suc, ◌<◌, ◌≤◌, Bool, true, false, if◌then◌else◌, List, [], ◌∷◌, ◌++◌, length, map, drop, refl, arith}
use Rattle.std.specs.List.{AllByRecursion}
use Rattle.std.proofs.lemmas.List.{append_assoc}
use Rattle.reach_model.specs.Rows.{Row, firsts}
use Rattle.row_codec.specs.declared.rows.ExtendRow.{ExtendRow}
use Rattle.row_codec.specs.declared.rows.KeptRow.{KeptRow}
use Rattle.row_codec.specs.declared.rows.StoreRow.{StoreRow}
use Rattle.row_codec.specs.declared.rows.StoreRow.TheVariants.{Entity, Kept, Extend, State}
use Rattle.stored.specs.Batch.{Batch, Ascends, mark_of, extends_from, kept_from, fresh}
use Rattle.stored.specs.Batch.{name_row, life_row, held_row, address_row, born_row, waiting_row}
use Rattle.stored.specs.Moment.{state_at}
use Rattle.reduced_store.specs.Committing.{CommitsByRows}

abbrev IsLess : ExtendRow → ExtendRow → Type 0
IsLess x y = x.row < y.row

abbrev From : ℕ → List ExtendRow → Type 0
From i es = AllByRecursion (λ e. i ≤ e.row) es

lower : (i j : ℕ) (es : List ExtendRow) → i ≤ j → From j es → From i es
lower i j [] le all = tt
lower i j (e ∷ es) le all = (omega (arith, le, all.0), lower i j es le all.1)

less_than : (e : ExtendRow) (i : ℕ) (es : List ExtendRow) → e.row < i → From i es → AllByRecursion (IsLess e) es
less_than e i [] lt all = tt
less_than e i (x ∷ es) lt all = (omega (arith, lt, all.0), less_than e i es lt all.1)

-- one Extend row, or none, before others
one_more : (b : Bool) (e : ExtendRow) (es : List ExtendRow) → From (suc e.row) es → Ascends IsLess es → From e.row ((if b then [] else e ∷ []) ++ es) × Ascends IsLess ((if b then [] else e ∷ []) ++ es)
one_more true e es from up = (lower e.row (suc e.row) es (omega arith) from, up)
one_more false e es from up = ((omega arith, lower e.row (suc e.row) es (omega arith) from), (less_than e (suc e.row) es (omega arith) from, up))

extends_ascend : (i : ℕ) (Q R : List Row) → From i (extends_from i Q R) × Ascends IsLess (extends_from i Q R)
extends_ascend i [] R = (tt, tt)
extends_ascend i (q ∷ Q) [] = (tt, tt)
extends_ascend i (q ∷ Q) (r ∷ R) =
    let rest = extends_ascend (suc i) Q R in
    one_more (q.last.at.place == r.last.at.place) (record { row = i; mark = mark_of r.last }) (extends_from (suc i) Q R) rest.0 rest.1

-- the rows in the order of a batch
in_order : (E K X N L H A B W S : List StoreRow) → E ++ ((K ++ X) ++ ((N ++ (L ++ (H ++ (A ++ B)))) ++ (W ++ S))) ≡ (E ++ (K ++ (X ++ (N ++ L)))) ++ (H ++ (A ++ (B ++ (W ++ S))))
in_order E K X N L H A B W S = simp append_assoc

pub commits_by_rows : CommitsByRows
commits_by_rows text most mode m0 m saved now b groups parts before after waits = record {
  batch = batch;
  laid_are = in_order (map Entity b.entities) (map Kept kept) (map Extend extends) (map name_row b.names) (map life_row b.lives) (map held_row b.held) (map address_row b.addresses) (map born_row b.births) (map waiting_row groups) (State (state_at m) ∷ []);
  ascend = record {
    extends = (extends_ascend 0 (saved ++ map fresh (drop (length saved) now)) now).1;
    lives = parts.lives;
    held = parts.held;
    addresses = parts.addresses;
    births = parts.births;
    waiting = waits.ascend;
  };
  since = parts.since;
  goes_on = parts.goes_on;
  entities = parts.entities;
  rows_are = record { before = saved; after = now; kept_before = before; kept_now = after; kept = refl; extends = refl };
  names = parts.names;
  tables = record {
    lives = parts.tables.lives;
    lives_called = parts.tables.lives_called;
    held = parts.tables.held;
    held_live = parts.tables.held_live;
    held_was = parts.tables.held_was;
    held_called = parts.tables.held_called;
    addresses = parts.tables.addresses;
    addresses_called = parts.tables.addresses_called;
    births = parts.tables.births;
    births_called = parts.tables.births_called;
  };
  waiting = waits.waiting;
  state = refl;
}
  where
    kept : List KeptRow
    kept = kept_from (firsts saved) (drop (length saved) now)

    extends : List ExtendRow
    extends = extends_from 0 (saved ++ map fresh (drop (length saved) now)) now

    batch : Batch
    batch = record b { kept = kept; extends = extends; waiting = groups; state = state_at m }
