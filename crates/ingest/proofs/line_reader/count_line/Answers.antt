use Rattle.std.proofs.Common.{◌≡◌, ◌≤◌, ◌+◌, ◌++◌, ◌∙◌, ap, sym, subst, arith, length, Ok, Err}
use Rattle.audit_lex.specs.declared.tally.Tally.{Tally}
use Rattle.std.specs.Prelude.{Result, OnOk}
use Rattle.audit_lex.specs.History.{lines_of, tail_of}
use Rattle.audit_lex.specs.Lexing.{class_seen}
use Rattle.audit_lex.specs.Tally.{one_counted}
use Rattle.ingest.specs.Counting.{total}
use Rattle.ingest.proofs.Tallying.{class_more, few_listed, one_adds}
use Rattle.ingest.proofs.line_reader.count_line.Goals as goal

then_ok : {T E : Type 0} (r : Result T E) (P Q : Type 0) → (P → Q) → OnOk r P → OnOk r Q
then_ok (Ok x) P Q more p = more p
then_ok (Err e) P Q more p = p

pub returns-clause-one : goal.returns-clause-one
returns-clause-one c =
    then_ok c.count.result _ _ (λ is. ap total is ∙ one_adds c.args.limits.now.shown (c.lines.result + 1) c.args.tally.now (class_seen c.class_of_line-class.result)) c.count.ensures.ok

pub returns-clause-counted : goal.returns-clause-counted
returns-clause-counted c = then_ok c.count.result _ _ (λ is. λ h stands line before.
    let class = class_seen c.class_of_line-class.result in
    let number : c.lines.result + 1 ≡ length (lines_of h) + 1 = omega (arith, c.lines.ensures, stands.count) in
    is
    ∙ ap (λ n. one_counted c.args.limits.now.shown c.args.tally.now (record { number = n; class = class })) number
    ∙ class_more c.args.limits.now c.args.tally.now (lines_of h) (tail_of h ++ c.args.part.now) class before (c.class_of_line-class.ensures h stands line)) c.count.ensures.ok

pub returns-clause-listed : goal.returns-clause-listed
returns-clause-listed c = then_ok c.count.result _ _ (λ is few.
    let shown = c.args.limits.now.shown in
    subst (λ (t : Tally). length t.bad ≤ shown) (sym is) (few_listed shown (c.lines.result + 1) c.args.tally.now (class_seen c.class_of_line-class.result) few)) c.count.ensures.ok
