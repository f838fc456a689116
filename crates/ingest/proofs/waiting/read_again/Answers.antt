use Rattle.std.specs.Prelude.{not, nat_eq, ◌&&◌}
use Rattle.std.proofs.lemmas.Bool.{true≢false}
use Rattle.std.proofs.lemmas.Bool.Decides.{nat_tests}
use Rattle.audit_lex.specs.declared.header.EventKey.{EventKey}
use Rattle.ingest.specs.Waiting.{IsLineOf}
use Rattle.std.proofs.Common.{false, arith, ◌≡◌, ◌∙◌, sym, subst, List, ℕ}
use Rattle.audit_lex.specs.LineClass.{Used, class_of}
use Rattle.audit_record.specs.Records.{Spells}
use Rattle.ingest.proofs.PutBack.{own_used, used_own}
use Rattle.ingest.proofs.Reading.{reads_used}
use Rattle.ingest.proofs.waiting.read_again.Goals as goal

key_same : (a b : EventKey) → a ≡ b → not (nat_eq a.ms b.ms && nat_eq a.serial b.serial) ≡ false
key_same a b e = subst (λ (k : EventKey). not (nat_eq a.ms k.ms && nat_eq a.serial k.serial) ≡ false) e (grind (arith, nat_tests))

same_ms : (a b : EventKey) → not (nat_eq a.ms b.ms && nat_eq a.serial b.serial) ≡ false → a.ms ≡ b.ms
same_ms a b e = grind (arith, nat_tests, e)

same_serial : (a b : EventKey) → not (nat_eq a.ms b.ms && nat_eq a.serial b.serial) ≡ false → a.serial ≡ b.serial
same_serial a b e = grind (arith, nat_tests, e)

same_key : (a b : EventKey) → not (nat_eq a.ms b.ms && nat_eq a.serial b.serial) ≡ false → a ≡ b
same_key a b e = λ i. record { ms = same_ms a b e i; serial = same_serial a b e i }

pub returns-then-ne-clause-own : goal.returns-then-ne-clause-own
returns-then-ne-clause-own c = λ own.
    let used = c.in-Used.used in
    let seen : Used used.key used.kind ≡ class_of c.args.limits.now.line c.args.line.now = c.in-Used.ensures.class in
    let same : used.key ≡ c.args.key = own_used c.args.limits.now.line c.args.key used.key used.kind c.args.line.now own (sym seen) in
    true≢false (sym c.if-ne.true ∙ c.ne.ensures ∙ key_same used.key c.args.key same)

pub returns-clause-own : goal.returns-clause-own
returns-clause-own c =
    let used = c.in-Used.used in
    let limit = c.args.limits.now.line in
    let seen : Used used.key used.kind ≡ class_of limit c.args.line.now = c.in-Used.ensures.class in
    let same : used.line.now ≡ c.args.line.now = c.in-Used.ensures.line in
    let read = reads_used limit c.args.line.now used.key used.kind c.in_ok-item.item (sym seen) (subst (λ (l : List ℕ). Spells l c.in_ok-item.item) same c.in_ok-item.ensures) in
    let key : used.key ≡ c.args.key = same_key used.key c.args.key (sym c.ne.ensures ∙ c.if-ne.false) in
    subst (λ (k : EventKey). IsLineOf limit k c.args.line.now) key (used_own limit used.key used.kind c.args.line.now c.in_ok-item.item (sym seen) read)

pub returns-clause-spelled : goal.returns-clause-spelled
returns-clause-spelled c =
    let used = c.in-Used.used in
    let seen : Used used.key used.kind ≡ class_of c.args.limits.now.line c.args.line.now = c.in-Used.ensures.class in
    let same : used.line.now ≡ c.args.line.now = c.in-Used.ensures.line in
    reads_used c.args.limits.now.line c.args.line.now used.key used.kind c.in_ok-item.item (sym seen) (subst (λ (l : List ℕ). Spells l c.in_ok-item.item) same c.in_ok-item.ensures)
