use Rattle.std.proofs.Common.{◌≡◌, ◌≤◌, ◌+◌, ◌*◌, ℕ, List, length, map, take}
use Rattle.row_codec.specs.declared.rows.StoreRow.TheVariants.{Extend}
use Rattle.saved_rows.specs.Joining.{with_extends}
use Rattle.saved_rows.specs.Saved.{AreSpelledFrom, HasRows}
use Rattle.saved_rows.proofs.settling.put_extends.Given as goal

-- the Extend rows so far are read at their places
abbrev pub invariant-loop-extend : goal.invariant-loop-extend
invariant-loop-extend l = record {
  at : l.at ≡ l.fn.place + 30 * l.extend-index;
  kept : l.kept.rows ≡ with_extends l.fn.kept.rows (take l.extend-index l.extends);
  there : (bytes : List ℕ) → HasRows bytes l.initial.saved l.fn.kept.rows → AreSpelledFrom bytes l.initial.saved.cache.firm l.fn.place (map Extend l.extends) → HasRows bytes l.saved l.kept.rows;
  count : l.saved.count ≡ l.initial.saved.count;
  cache : l.saved.cache ≡ l.initial.saved.cache;
  room : length l.extends ≤ l.saved.ends_room + l.extend-index;
}
