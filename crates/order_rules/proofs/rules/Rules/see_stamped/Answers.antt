use Rattle.std.proofs.Common.{◌≡◌, ◌∙◌, ap, subst}
use Rattle.audit_lex.specs.declared.header.EventKey.{EventKey}
use Rattle.order_text.specs.Seen.{stamp_seen}
use Rattle.order_rules.specs.Deeds.{Passes}
use Rattle.order_rules.specs.Known.{Hears}
use Rattle.order_rules.specs.Rules.{AllKnown}
use Rattle.order_rules.proofs.RuleLemmas.{table_begun, line_seen, line_rewritten}
use Rattle.order_rules.proofs.rules.Rules.see_stamped.Goals as goal

pub returns-clause-rewrites : goal.returns-clause-rewrites
returns-clause-rewrites c = λ lines stands.
    line_rewritten c.args.self.now _ _ c.args.line.now (stamp_seen c.args.stamp.now) c.start_if.new.table c.pass.new.self c.in_ok-made.made lines
    (ap (λ (a : AllKnown). a.settings) c.self-2.view_is ∙ c.take-table.ensures.settings)
    (table_begun c.args.self.now (stamp_seen c.args.stamp.now) c.is_boot.result c.take-table.result c.start_if.new.table c.in_ok-name.name
    c.start_if.ensures c.is_boot.ensures c.take-table.ensures.here (c.in_ok-name.ensures ∙ c.node_of.ensures))
    (subst (λ (k : EventKey). Hears c.start_if.new.table c.pass.new.self k Passes) c.event_of.ensures c.pass.ensures)
    stands c.in_ok-made.ensures.rewrites

pub returns-clause-stands : goal.returns-clause-stands
returns-clause-stands c =
    line_seen c.args.self.now c.take-table.new.self c.keep.new.self c.args.line.now (stamp_seen c.args.stamp.now) c.start_if.new.table c.pass.new.self c.see.new.self
    c.in_ok-name.name (c.in_ok-name.ensures ∙ c.node_of.ensures)
    (table_begun c.args.self.now (stamp_seen c.args.stamp.now) c.is_boot.result c.take-table.result c.start_if.new.table c.in_ok-name.name
    c.start_if.ensures c.is_boot.ensures c.take-table.ensures.here (c.in_ok-name.ensures ∙ c.node_of.ensures))
    (subst (λ (k : EventKey). Hears c.start_if.new.table c.pass.new.self k Passes) c.event_of.ensures c.pass.ensures)
    c.take-table.ensures.others c.in_ok-keep.ensures c.in_ok-made.ensures.stands
