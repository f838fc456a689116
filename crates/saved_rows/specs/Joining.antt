-- Rows of a store: those of its last commit, which its disk has, and those since.
use Rattle.std.specs.Prelude.{◌≡◌, ℕ, suc, ◌+◌, ◌<◌, ◌≤◌, ◌^◌, ⊤, List, [], ◌∷◌, ◌++◌, length, fold, map, Option, Some, None, nat_eq, is_some}
use Rattle.std.specs.List.{All, AllByRecursion, list_any}
use Rattle.std.specs.Map.{lookup}
use Rattle.block_cache.specs.Cached.{IsCacheOf}
use Rattle.reach_rows.specs.declared.rows.Mark.{Mark}
use Rattle.reach_rows.specs.declared.rows.Row.{Row}
use Rattle.row_codec.specs.declared.rows.ExtendRow.{ExtendRow}
use Rattle.row_codec.specs.declared.rows.StoreRow.{StoreRow}
use Rattle.row_codec.specs.declared.rows.StoreRow.TheVariants.{Extend}
use Rattle.saved_rows.specs.Remembered.{with_mark}
use Rattle.saved_rows.specs.Saved.{HasRows, IsSingle, Saved, as_kept}

-- Where the rows of the last commit stand, and what they are; the rows since, as their Kept rows say them; the last marks of rows
-- that were extended since; and room for this many more rows and extended ones.
pub record Joined : Type 0 where
  pub saved : Saved
  pub kept : List Row
  pub recent : List Row
  pub renewed : List (ℕ × Mark)
  pub recent_room : ℕ
  pub renewed_room : ℕ

-- the last mark of a row that was extended since the last commit
abbrev pub mark_in : List (ℕ × Mark) → ℕ → Option Mark
mark_in renewed i = lookup (nat_eq i) renewed

-- a row with another last mark, if there is one
abbrev pub renew : Option Mark → Row → Row
renew None r = r
renew (Some mark) r = record r { last = mark }

-- rows from this index on, each with its other last mark if it has one
abbrev pub renew_from : (ℕ → Option Mark) → ℕ → List Row → List Row
renew_from find i [] = []
renew_from find i (r ∷ R) = renew (find i) r ∷ renew_from find (suc i) R

-- the rows as they are now
abbrev pub rows_now : Joined → List Row
rows_now j = renew_from (mark_in j.renewed) 0 (j.kept ++ j.recent)

-- the bytes have the rows of the last commit, and the cache is one of these bytes
pub record AreOn (bytes : List ℕ) (j : Joined) : Type 0 where
  pub cache : IsCacheOf bytes j.saved.cache
  pub rows : HasRows bytes j.saved j.kept

-- how many rows there are at most
abbrev pub MOST : ℕ
MOST = 2 ^ 62

-- Each row of the last commit is counted. A row since ends with the flow with which it begins, and no row that isn't there is extended.
pub record AreTied (saved : Saved) (kept recent : List Row) (renewed : List (ℕ × Mark)) : Type 0 where
  pub counted : saved.count ≡ length kept
  pub few : length kept + length recent ≤ MOST
  pub single : All IsSingle recent
  pub listed : (i : ℕ) → length kept + length recent ≤ i → mark_in renewed i ≡ None

-- the rows, once these Extend rows were read in order
abbrev pub with_extends : List Row → List ExtendRow → List Row
with_extends R extends = fold (λ S e. with_mark e.row e.mark S) R extends

-- the Extend row of a row that has another last mark
abbrev pub extend_of : Option Mark → ℕ → List ExtendRow
extend_of None i = []
extend_of (Some mark) i = record { row = i; mark = mark } ∷ []

-- the Extend rows of rows from this index on, ascending
abbrev pub extends_in : (ℕ → Option Mark) → ℕ → List Row → List ExtendRow
extends_in find i [] = []
extends_in find i (r ∷ R) = extend_of (find i) i ++ extends_in find (suc i) R

-- each of these numbers is less than those after it
abbrev pub Ascend : List ℕ → Type 0
Ascend [] = ⊤
Ascend (i ∷ is) = AllByRecursion (λ j. i < j) is × Ascend is

-- these are the indexes of rows that have another last mark, ascending
pub record AreListed (find : ℕ → Option Mark) (rows : List ℕ) : Type 0 where
  pub ascend : Ascend rows
  pub each : (i : ℕ) → list_any (nat_eq i) rows ≡ is_some (find i)

-- the Kept rows of rows, and after them Extend rows
abbrev pub batch_rows : List Row → List ExtendRow → List StoreRow
batch_rows recent extends = map as_kept recent ++ map Extend extends

-- nothing but the blocks that are held may differ
abbrev pub with_cache_of : Joined → Joined → Joined
with_cache_of new old = record old { saved = record old.saved { cache = new.saved.cache } }
