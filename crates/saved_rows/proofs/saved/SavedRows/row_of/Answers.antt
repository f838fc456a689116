use Rattle.std.proofs.Common.{ap, sym}
use Rattle.row_codec.specs.declared.rows.KeptRow.{KeptRow}
use Rattle.saved_rows.proofs.RowLemmas.{fault_same, row_read}
use Rattle.saved_rows.proofs.saved.SavedRows.row_of.Goals as goal

pub returns-in-Ok-clause-row : goal.returns-in-Ok-clause-row
returns-in-Ok-clause-row g c = λ told firm r is has.
    row_read r c.args.kept c.in-Ok.last is (c.in-Ok.ensures.mark told firm r (sym (ap (λ (k : KeptRow). k.mark) is)) has)

pub returns-in-Err-clause-row : goal.returns-in-Err-clause-row
returns-in-Err-clause-row g c = λ told firm r is has.
    fault_same c.in-Err.fault r.last r (c.in-Err.ensures.mark told firm r (sym (ap (λ (k : KeptRow). k.mark) is)) has)
