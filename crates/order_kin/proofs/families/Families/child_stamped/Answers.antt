use Rattle.std.proofs.Common.{◌∙◌, sym, ap, None}
use Rattle.std.proofs.lemmas.Result.{IfOk-weaker}
use Rattle.order_text.specs.Seen.{stamp_seen}
use Rattle.order_place.specs.Places.{node_of}
use Rattle.order_kin.specs.Families.{AllKept, child_by, family_in}
use Rattle.order_kin.proofs.NodeLemmas.{child_told}
use Rattle.order_kin.proofs.families.Families.child_stamped.Goals as goal

pub returns-in-None : goal.returns-in-None
returns-in-None c = λ lines stands. child_told c.args.self.now _ c.args.line.now (stamp_seen c.args.stamp.now) lines c.in_ok-fork_of.field-0 None
    (ap (λ (a : AllKept). a.compat) c.self.view_is) c.in_ok-fork_of.ensures (ap (child_by (family_in c.args.self.now.compat (node_of (stamp_seen c.args.stamp.now).front) lines).broods) (sym c.in-None.is))

pub returns-in-Some : goal.returns-in-Some
returns-in-Some c = IfOk-weaker c.child_heard.result _ _
    (λ child says lines stands. child_told c.args.self.now _ c.args.line.now (stamp_seen c.args.stamp.now) lines c.in_ok-fork_of.field-0 child
    (ap (λ (a : AllKept). a.compat) c.self.view_is) c.in_ok-fork_of.ensures (says lines stands ∙ ap (child_by (family_in c.args.self.now.compat (node_of (stamp_seen c.args.stamp.now).front) lines).broods) (sym c.in-Some.is)))
    c.child_heard.ensures
