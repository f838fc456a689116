use Rattle.std.proofs.Common.{◌≡◌, ◌∙◌, ◌+◌, ◌++◌, length, ap, sym, arith}
use Rattle.std.proofs.lemmas.Bool.{ne_eqb}
use Rattle.saved_rows.specs.Joining.{Joined, mark_in, rows_now}
use Rattle.saved_rows.specs.Remembered.{with_mark}
use Rattle.saved_rows.proofs.JoinLemmas.{now_long, renew_marked}
use Rattle.saved_rows.proofs.disk_rows.DiskRows.extend.Goals as goal

pub invariant_of-self : goal.invariant_of-self
invariant_of-self c =
    let a = c.self.inside in
    let held = c.self.invariant in
    let all : length (rows_now c.args.self.now) ≡ length a.kept.rows + length a.recent.items =
    ap (λ (j : Joined). length (rows_now j)) (sym c.self.view_is) ∙ now_long (mark_in a.renewed.entries) a.kept.rows a.recent.items in
    record {
      counted = held.counted;
      few = held.few;
      single = held.single;
      listed = λ i h. c.in-Ok.ensures.updates.2 i (ne_eqb c.args.index i (λ e. absurd (omega (arith, e, h, all, c.requires.index)))) ∙ held.listed i h;
    }

pub returns-clause-rows : goal.returns-clause-rows
returns-clause-rows c =
    let a = c.self.inside in
    let updates = c.in-Ok.ensures.updates in
    renew_marked (mark_in a.renewed.entries) (mark_in c.insert.new.self.entries) 0 c.args.index c.args.index c.args.mark (a.kept.rows ++ a.recent.items) (omega arith) updates.1
    (λ n differ. updates.2 n (ne_eqb c.args.index n (λ e. differ (sym e))))
    ∙ ap (λ (j : Joined). with_mark c.args.index c.args.mark (rows_now j)) c.self.view_is

pub returns-clause-others : goal.returns-clause-others
returns-clause-others c = λ i apart.
    c.in-Ok.ensures.updates.2 i (ne_eqb c.args.index i (λ e. apart (sym e))) ∙ ap (λ (j : Joined). mark_in j.renewed i) c.self.view_is
