use Rattle.std.proofs.Common.{sym, subst, List, Some}
use Rattle.record_join.specs.StandsFor.{grown}
use Rattle.record_join.specs.Split.{Entry, joined}
use Rattle.record_join.proofs.Splits.{Holds, map_ok, more_each, begun_whole, begun_holds, lesser_whole, lesser_each, sorted_joined}
use Rattle.record_join.proofs.group_map.Groups.hold.Goals as goal

pub invariant_of-self-in-Greater : goal.invariant_of-self-in-Greater
invariant_of-self-in-Greater c = begun_whole c.hold_first.result _ _ _ _ c.args.item.now c.self.invariant (sym c.in-Greater.ensures)
    c.hold_first.ensures.ok c.hold_first.ensures.last c.hold_first.ensures.err

pub invariant_of-self-in-Less : goal.invariant_of-self-in-Less
invariant_of-self-in-Less c = lesser_whole c.hold_lesser.result _ _ _ c.args.item.now c.self.invariant (sym c.in-Less.ensures)
    c.hold_lesser.ensures.ascend c.hold_lesser.ensures.each c.hold_lesser.ensures.err

pub returns-in-Equal-clause-each : goal.returns-in-Equal-clause-each
returns-in-Equal-clause-each c = map_ok c.hold_last.result
    (λ is. subst (λ (es : List Entry). Holds c.args.item.now es (joined c.self.inside.lesser.entries c.hold_last.new.last)) c.self.view_is
    (more_each _ _ _ c.args.item.now c.self.invariant (sym c.in-Equal.ensures) is))
    c.hold_last.ensures.ok

pub returns-in-Greater-clause-each : goal.returns-in-Greater-clause-each
returns-in-Greater-clause-each c = map_ok c.hold_first.result
    (λ held. subst (λ (es : List Entry). Holds c.args.item.now es (joined c.hold_first.new.lesser.entries c.hold_first.new.last)) c.self.view_is held)
    (begun_holds c.hold_first.result _ _ _ _ c.args.item.now c.self.invariant (sym c.in-Greater.ensures) c.hold_first.ensures.ok c.hold_first.ensures.last)

pub returns-in-Greater-clause-ascend : goal.returns-in-Greater-clause-ascend
returns-in-Greater-clause-ascend c = sorted_joined _ _ (begun_whole c.hold_first.result _ _ _ _ c.args.item.now c.self.invariant (sym c.in-Greater.ensures)
    c.hold_first.ensures.ok c.hold_first.ensures.last c.hold_first.ensures.err)

pub returns-in-Less-clause-each : goal.returns-in-Less-clause-each
returns-in-Less-clause-each c = map_ok c.hold_lesser.result
    (λ put. subst (λ (es : List Entry). Holds c.args.item.now es (joined c.hold_lesser.new.lesser.entries c.self.inside.last)) c.self.view_is
    (lesser_each (λ o. Some (grown o c.args.item.now)) _ _ _ c.args.item.now.key (sym c.in-Less.ensures) put))
    c.hold_lesser.ensures.each

pub returns-in-Less-clause-ascend : goal.returns-in-Less-clause-ascend
returns-in-Less-clause-ascend c = sorted_joined _ _ (lesser_whole c.hold_lesser.result _ _ _ c.args.item.now c.self.invariant (sym c.in-Less.ensures)
    c.hold_lesser.ensures.ascend c.hold_lesser.ensures.each c.hold_lesser.ensures.err)
