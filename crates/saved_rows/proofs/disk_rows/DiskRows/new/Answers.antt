use Rattle.std.proofs.Common.{List, subst, sym}
use Rattle.reach_rows.specs.declared.rows.Row.{Row}
use Rattle.saved_rows.specs.Saved.{HasRows}
use Rattle.saved_rows.proofs.disk_rows.DiskRows.new.Goals as goal

pub returns-clause-there : goal.returns-clause-there
returns-clause-there c = λ bytes. record {
  cache = c.in_ok-saved.ensures.cache bytes;
  rows = subst (λ (R : List Row). HasRows bytes c.in_ok-saved.saved R) (sym c.none.ensures) (c.in_ok-saved.ensures.none bytes);
}
