use Rattle.report_json.proofs.AskLaws.{asks_one_thing}
use Rattle.report_json.proofs.ask.a_line_asks_one_thing.Goals as goal

pub returns : goal.returns
returns c = asks_one_thing
