use Rattle.report_json.proofs.AskLaws.{written_where_read, read_where_written}
use Rattle.report_json.proofs.ask.what_is_found_is_asked.Goals as goal

pub returns : goal.returns
returns c = λ line asked. (written_where_read line asked, read_where_written line asked)
