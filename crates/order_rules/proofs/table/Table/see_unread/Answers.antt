use Rattle.std.proofs.Common.{◌∙◌, sym}
use Rattle.std.proofs.lemmas.Result.{on_ok_weaker, IfOk-weaker}
use Rattle.order_rules.proofs.QuietLemmas.{quiet_rewritten, quiet_said}
use Rattle.order_rules.proofs.PathLemmas.{passed_rewritten, passed_said}
use Rattle.order_rules.proofs.SeeLemmas.{used_rewritten, used_said}
use Rattle.order_rules.proofs.table.Table.see_unread.Goals as goal
use Rattle.order_rules.proofs.table.Table.see_unread.Goals.{then-is_quiet-via-then-is_quiet, then-is_quiet-via-else-is_quiet+then-passes}

pub returns-in-Used-clause-rewrites : goal.returns-in-Used-clause-rewrites
returns-in-Used-clause-rewrites c = IfOk-weaker c.see_used.result _ _
    (λ made is said stands. used_rewritten c.args.self.now said c.args.settings c.args.line.now c.in-Used.used.line.now c.in-Used.used.key c.in-Used.used.kind made
    stands (sym c.in-Used.ensures.class) c.in-Used.ensures.line is)
    c.see_used.ensures.rewrites

pub returns-in-Used-clause-stands : goal.returns-in-Used-clause-stands
returns-in-Used-clause-stands c = on_ok_weaker c.see_used.result
    (λ hears said stands. used_said c.args.self.now c.see_used.new.self said c.args.line.now c.in-Used.used.line.now c.in-Used.used.key c.in-Used.used.kind
    (sym c.in-Used.ensures.class) c.in-Used.ensures.line hears stands)
    c.see_used.ensures.hears

pub returns-then-is_quiet-clause-rewrites : goal.returns-then-is_quiet-clause-rewrites
returns-then-is_quiet-clause-rewrites c = elim c.then-is_quiet.branch [
  | then-is_quiet-via-then-is_quiet w ↦ λ said stands.
      quiet_rewritten c.args.settings said c.args.line.now (sym c.is_quiet.ensures ∙ w.if-is_quiet.true)
  | then-is_quiet-via-else-is_quiet+then-passes w ↦ λ said stands.
      passed_rewritten c.args.settings said c.args.self.now c.args.line.now (sym w.passes.ensures ∙ w.if-passes.true)
]

pub returns-then-is_quiet-clause-stands : goal.returns-then-is_quiet-clause-stands
returns-then-is_quiet-clause-stands c = elim c.then-is_quiet.branch [
  | then-is_quiet-via-then-is_quiet w ↦ λ said stands.
      quiet_said c.args.self.now said c.args.line.now (sym c.is_quiet.ensures ∙ w.if-is_quiet.true) stands
  | then-is_quiet-via-else-is_quiet+then-passes w ↦ λ said stands.
      passed_said c.args.self.now said c.args.line.now (sym w.passes.ensures ∙ w.if-passes.true) stands
]
