use Rattle.std.proofs.Common.{sym, subst, List}
use Rattle.record_join.specs.StandsFor.{shut}
use Rattle.record_join.specs.Split.{Entry, joined}
use Rattle.record_join.proofs.Splits.{Closes, shut_each, lesser_each, greater_each}
use Rattle.record_join.proofs.group_map.Groups.close.Goals as goal

pub returns-in-Equal-clause-each : goal.returns-in-Equal-clause-each
returns-in-Equal-clause-each c = subst (λ (es : List Entry). Closes c.args.key.now es (joined c.self.inside.lesser.entries c.close_last.new.last)) c.self.view_is
    (shut_each _ _ _ c.args.key.now c.self.invariant (sym c.in-Equal.ensures) c.close_last.ensures)

pub returns-in-Less-clause-each : goal.returns-in-Less-clause-each
returns-in-Less-clause-each c = subst (λ (es : List Entry). Closes c.args.key.now es (joined c.close_lesser.new.lesser.entries c.self.inside.last)) c.self.view_is
    (lesser_each shut _ _ _ c.args.key.now (sym c.in-Less.ensures) c.close_lesser.ensures.each)

pub returns-in-Greater-clause-each : goal.returns-in-Greater-clause-each
returns-in-Greater-clause-each c = subst (λ (es : List Entry). Closes c.args.key.now es es) c.self.view_is
    (greater_each _ _ c.args.key.now c.self.invariant (sym c.in-Greater.ensures))
