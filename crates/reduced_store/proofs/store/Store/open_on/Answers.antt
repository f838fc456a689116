use Rattle.store_check.specs.Conditions.{bounds_of}
use Rattle.reduced_store.proofs.StoreLemmas.{opened_last, opened_stands, opened_over, opened_found, opened_agree, refused_wrong}
use Rattle.reduced_store.proofs.ToldLemmas.{told_found}
use Rattle.reduced_store.proofs.store.Store.open_on.Goals as goal

pub admit-requires-clause-placed : goal.admit-requires-clause-placed
admit-requires-clause-placed g c = λ tells.
    let told = (g.met.D.Disk.lawful c.read_store.new.disk).told_is.1 tells in
    let found = c.in-Ok.ensures.found in
    told_found (bounds_of c.args.limits.now) found.0 c.in-Ok.read.found (g.D.Disk.state c.read_store.new.disk).reads c.in-Ok.read.log found.1 c.in-Ok.ensures.lawful (c.in-Ok.ensures.placed (c.read_store.ensures.uses.told_before told))

pub returns-in-Ok-clause-store : goal.returns-in-Ok-clause-store
returns-in-Ok-clause-store g c = λ told.
    opened_over c.in-Ok.read.log c.in-Ok.read.found c.args.limits.now (g.D.Disk.state c.args.disk).reads c.admit.result c.admit.ensures.store (c.in-Ok.ensures.store told)

pub returns-in-Ok-clause-found : goal.returns-in-Ok-clause-found
returns-in-Ok-clause-found g c =
    opened_found c.in-Ok.read.log c.in-Ok.read.found (bounds_of c.args.limits.now) c.admit.result c.admit.ensures.store c.in-Ok.ensures.found

pub returns-in-Ok-clause-agree : goal.returns-in-Ok-clause-agree
returns-in-Ok-clause-agree g c =
    opened_agree c.in-Ok.read.log c.in-Ok.read.found c.args.asked c.admit.result c.admit.ensures.store c.admit.ensures.agree

pub returns-in-Ok-clause-wrong : goal.returns-in-Ok-clause-wrong
returns-in-Ok-clause-wrong g c = λ told kept want.
    refused_wrong c.in-Ok.read.log c.in-Ok.read.found c.args.limits.now (g.D.Disk.state c.args.disk).reads c.args.asked kept want c.admit.result c.admit.ensures.wrong (c.in-Ok.ensures.store told) c.in-Ok.ensures.lawful

pub returns-in-Ok-clause-last : goal.returns-in-Ok-clause-last
returns-in-Ok-clause-last g c = λ told.
    opened_last c.args.limits.now (g.D.Disk.state c.args.disk).reads c.in-Ok.read.last c.admit.result c.admit.ensures.last (c.in-Ok.ensures.last told)

pub returns-in-Ok-clause-stands : goal.returns-in-Ok-clause-stands
returns-in-Ok-clause-stands g c = λ told.
    opened_stands c.in-Ok.read.log c.in-Ok.read.found g.D.Disk.state c.args.limits.now c.args.disk c.read_store.new.disk c.admit.result told c.admit.ensures.store (c.in-Ok.ensures.store told) c.in-Ok.ensures.log c.in-Ok.ensures.looks c.admit.ensures.disk
