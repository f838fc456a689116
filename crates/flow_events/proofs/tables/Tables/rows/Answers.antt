use Rattle.std.proofs.lemmas.Result.{IfOk-weaker}
use Rattle.flow_events.proofs.RowLaws.{no_rows_since, rows_since}
use Rattle.flow_events.proofs.tables.Tables.rows.Goals as goal

pub returns-in-Some : goal.returns-in-Some
returns-in-Some c = IfOk-weaker c.since_rows.result _ _ (λ rows tell text before now. rows_since text c.args.self.now c.in-Some.since before now rows c.in-Some.is tell) c.since_rows.ensures

pub returns-in-None : goal.returns-in-None
returns-in-None c = λ text before now stands admitted. no_rows_since text c.args.self.now before now c.none.result c.in-None.is stands
