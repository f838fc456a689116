use Rattle.std.proofs.Common.{◌∙◌, sym, []}
use Rattle.ingest.proofs.PutBack.{ripe_is_hopeless, closed_again}
use Rattle.ingest.proofs.waiting.close_again.Goals as goal

pub returns-then-ripe : goal.returns-then-ripe
returns-then-ripe c = λ limits s there good. ripe_is_hopeless limits s (sym (c.ripe.ensures.ripe limits s good.stands) ∙ c.if-ripe.true)

pub returns : goal.returns
returns c = λ limits s there good. closed_again limits c.take.new.self s c.args.key [] there good.sound (c.in_ok-take.ensures.stands limits s good.stands)
