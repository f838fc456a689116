use Rattle.std.proofs.Common.{rules, ◌∙◌, ap, Option}
use Rattle.std.proofs.lemmas.Result.{IfOk-weaker}
use Rattle.order_text.specs.Seen.{stamp_seen}
use Rattle.order_text.specs.declared.rewrite.Rewrite.{Rewrite}
use Rattle.order_lines.specs.Answers.{with_answer}
use Rattle.audit_order.proofs.ForkLemmas.{asks_fork}
use Rattle.audit_order.proofs.writer.Writer.ask_fork.Goals as goal

pub returns : goal.returns
returns c = IfOk-weaker c.with_answer.result _ _
    (λ made is. asks_fork c.args.self.now _ c.see.new.self c.args.line.now c.as_slice.result.now c.args.child (stamp_seen c.args.stamp.now) c.in_ok-found.found c.in_ok-alone.alone made
    c.self.view_is c.requires (c.as_slice.ensures ∙ c.in_ok-seen.ensures) c.in_ok-found.ensures.settings c.in_ok-found.ensures.rewrites c.in_ok-found.ensures.stands
    (search rules) (is ∙ ap (λ (change : Option Rewrite). with_answer (stamp_seen c.args.stamp.now).rest c.args.child change) c.or_else.ensures))
    c.with_answer.ensures
