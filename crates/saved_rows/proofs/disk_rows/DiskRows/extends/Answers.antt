use Rattle.std.proofs.Common.{◌≡◌, ◌∙◌, ◌<◌, ◌++◌, [], length, length-append, ap, sym, subst, arith}
use Rattle.std.specs.List.{All}
use Rattle.std.proofs.lemmas.Result.{IfOk-weaker}
use Rattle.row_codec.specs.declared.rows.ExtendRow.{ExtendRow}
use Rattle.saved_rows.specs.Joining.{Joined, extends_in, mark_in, rows_now, with_extends}
use Rattle.saved_rows.proofs.ExtendLemmas.{extends_known, extends_make}
use Rattle.saved_rows.proofs.JoinLemmas.{now_long}
use Rattle.saved_rows.proofs.disk_rows.DiskRows.extends.Goals as goal

pub returns-clause-each : goal.returns-clause-each
returns-clause-each c =
    let a = c.self.inside in
    let R = a.kept.rows ++ a.recent.items in
    IfOk-weaker c.extend_rows.result _ (λ extends. extends ≡ extends_in (mark_in c.args.self.now.renewed) 0 (c.args.self.now.kept ++ c.args.self.now.recent))
    (λ extends is. is R (λ i h. c.self.invariant.listed i (omega (arith, h, length-append a.kept.rows a.recent.items))) ∙ ap (λ (j : Joined). extends_in (mark_in j.renewed) 0 (j.kept ++ j.recent)) c.self.view_is)
    c.extend_rows.ensures

pub returns-clause-now : goal.returns-clause-now
returns-clause-now c =
    let a = c.self.inside in
    let R = a.kept.rows ++ a.recent.items in
    let find = mark_in a.renewed.entries in
    IfOk-weaker c.extend_rows.result _ (λ extends. with_extends (c.args.self.now.kept ++ c.args.self.now.recent) extends ≡ rows_now c.args.self.now)
    (λ extends is. subst (λ (j : Joined). with_extends (j.kept ++ j.recent) extends ≡ rows_now j) c.self.view_is
    (ap (with_extends R) (is R (λ i h. c.self.invariant.listed i (omega (arith, h, length-append a.kept.rows a.recent.items)))) ∙ extends_make find [] R))
    c.extend_rows.ensures

pub returns-clause-known : goal.returns-clause-known
returns-clause-known c =
    let a = c.self.inside in
    let R = a.kept.rows ++ a.recent.items in
    let find = mark_in a.renewed.entries in
    let long : length (rows_now c.args.self.now) ≡ length R = ap (λ (j : Joined). length (rows_now j)) (sym c.self.view_is) ∙ now_long find a.kept.rows a.recent.items ∙ sym (length-append a.kept.rows a.recent.items) in
    IfOk-weaker c.extend_rows.result _ (All (λ (e : ExtendRow). e.row < length (rows_now c.args.self.now)))
    (λ extends is. subst (All (λ (e : ExtendRow). e.row < length (rows_now c.args.self.now))) (sym (is R (λ i h. c.self.invariant.listed i (omega (arith, h, length-append a.kept.rows a.recent.items)))))
    (extends_known find 0 (length (rows_now c.args.self.now)) R (omega (arith, long))))
    c.extend_rows.ensures
