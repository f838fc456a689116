use Rattle.report_json.proofs.Floats.{no_float}
use Rattle.report_json.proofs.reply.reply_text.Goals as goal

pub line-requires : goal.line-requires
line-requires c = rw c.in_ok-value.ensures (no_float c.args.reply.now)
