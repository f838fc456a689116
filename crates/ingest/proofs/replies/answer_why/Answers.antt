use Rattle.std.proofs.Common.{ap, arith, length}
use Rattle.ingest.specs.Events.{flows_in, objects_in}
use Rattle.ingest.proofs.replies.answer_why.Goals as goal

pub returns-in-Ok-clause-reply : goal.returns-in-Ok-clause-reply
returns-in-Ok-clause-reply g c = λ limits s released stands.
    let count = ap length stands.tables.objects_are in
    c.say_way.ensures g.R.Reducer.mode (length (objects_in limits released)) (flows_in limits released) c.args.until
    (omega (arith, c.if-from-known.false, c.known-known.ensures, count))
    (omega (arith, c.if-to-known.false, c.known-known.ensures, count))
    (c.in-Ok.ensures.exact limits s released stands)
