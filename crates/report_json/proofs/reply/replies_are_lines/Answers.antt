use Rattle.report_json.proofs.OneLine.{reply_is_line}
use Rattle.report_json.proofs.reply.replies_are_lines.Goals as goal

pub returns : goal.returns
returns c = reply_is_line
