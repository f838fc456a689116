use Rattle.std.proofs.Common.{sym}
use Rattle.std.proofs.lemmas.Bool.{ltb-true}
use Rattle.call_acts.proofs.TableLemmas.{stands_at}
use Rattle.call_acts.proofs.calls.row_with.Goals as goal

pub returns-in-Some : goal.returns-in-Some
returns-in-Some c =
    let found = c.in-Some.ensures.lookup in
    sym (stands_at c.args.number c.args.number c.args.rows.now c.in-Some.row.now c.requires (ltb-true _ _ (sym found.0)) found.1 c.if-row-number.true)
