use Rattle.std.proofs.Common.{◌≡◌, ◌∙◌, ◌+◌, length, ap, sym, arith}
use Rattle.saved_rows.specs.Joining.{Joined, mark_in, rows_now}
use Rattle.saved_rows.proofs.JoinLemmas.{now_long}
use Rattle.saved_rows.proofs.disk_rows.DiskRows.count.Goals as goal

pub returns-clause-count : goal.returns-clause-count
returns-clause-count c =
    let a = c.self.inside in
    let all : length (rows_now c.args.self.now) ≡ length a.kept.rows + length a.recent.items =
    ap (λ (j : Joined). length (rows_now j)) (sym c.self.view_is) ∙ now_long (mark_in a.renewed.entries) a.kept.rows a.recent.items in
    omega (arith, all, c.self.invariant.counted, c.count.ensures, c.len.ensures)
