use Rattle.std.proofs.Common.{rules, ◌∙◌, sym}
use Rattle.order_kin.proofs.HeardLemmas.{noted_none}
use Rattle.order_kin.proofs.heard.fork_noted.Goals as goal

pub returns-in-Some : goal.returns-in-Some
returns-in-Some c = noted_none c.args.line.now c.in-Some.note.key c.in-Some.note.call (search rules) (search rules) (search rules)
