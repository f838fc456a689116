use Rattle.std.proofs.Common.{◌∙◌, sym, ap}
use Rattle.std.proofs.lemmas.Result.{on_ok_weaker}
use Rattle.order_text.specs.Seen.{stamp_seen}
use Rattle.order_kin.specs.Heard.{heard_of}
use Rattle.order_kin.specs.Families.{AllKept}
use Rattle.order_kin.proofs.NodeLemmas.{idle_read, node_read}
use Rattle.order_kin.proofs.families.Families.read_stamped.Goals as goal

pub returns-then-is_idle-clause-reads : goal.returns-then-is_idle-clause-reads
returns-then-is_idle-clause-reads c = idle_read c.args.self.now _ c.args.line.now (stamp_seen c.args.stamp.now) c.is_boot-starts.result c.in_ok-heard.heard
    (ap (λ (a : AllKept). a.compat) c.self.view_is) c.is_boot-starts.ensures c.in_ok-heard.ensures (sym c.is_idle.ensures ∙ c.if-is_idle.true)

pub returns-clause-reads : goal.returns-clause-reads
returns-clause-reads c = on_ok_weaker c.take_in.result
    (λ takes. node_read c.args.self.now c.take_in.new.self c.args.line.now (stamp_seen c.args.stamp.now) c.is_boot-starts.result c.in_ok-heard.heard c.is_boot-starts.ensures
    (c.in_ok-heard.ensures ∙ ap (λ (a : AllKept). heard_of a.compat (stamp_seen c.args.stamp.now) c.args.line.now) c.self.view_is) takes)
    c.take_in.ensures
