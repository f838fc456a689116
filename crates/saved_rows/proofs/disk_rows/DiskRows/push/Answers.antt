use Rattle.std.proofs.Common.{◌≡◌, ◌∙◌, ◌+◌, ◌++◌, ◌∷◌, [], List, length, length-append, ap, sym, subst, arith}
use Rattle.std.proofs.lemmas.List.Elements.{All-push}
use Rattle.reach_rows.specs.declared.rows.Row.{Row}
use Rattle.saved_rows.specs.Joining.{AreTied, Joined, mark_in, renew_from, rows_now}
use Rattle.saved_rows.specs.Saved.{IsSingle}
use Rattle.saved_rows.proofs.JoinLemmas.{now_long, renew_push}
use Rattle.saved_rows.proofs.disk_rows.DiskRows.push.Goals as goal

pub invariant_of-self : goal.invariant_of-self
invariant_of-self c =
    let a = c.self.inside in
    let held = c.self.invariant in
    let row = c.args.row in
    let all : length (rows_now c.args.self.now) ≡ length a.kept.rows + length a.recent.items =
    ap (λ (j : Joined). length (rows_now j)) (sym c.self.view_is) ∙ now_long (mark_in a.renewed.entries) a.kept.rows a.recent.items in
    let more = length-append a.recent.items (row ∷ []) in
    subst (λ (xs : List Row). AreTied a.saved a.kept.rows xs a.renewed.entries) (sym c.push_reserved.ensures.items) (record {
      counted = held.counted;
      few = omega (arith, more, all, c.requires.few);
      single = All-push IsSingle a.recent.items row held.single c.requires.single;
      listed = λ i h. held.listed i (omega (arith, h, more));
    })

pub returns-clause-rows : goal.returns-clause-rows
returns-clause-rows c =
    let a = c.self.inside in
    let row = c.args.row in
    let find = mark_in a.renewed.entries in
    ap (λ (xs : List Row). renew_from find 0 (a.kept.rows ++ xs)) c.push_reserved.ensures.items
    ∙ renew_push find a.kept.rows a.recent.items row (c.self.invariant.listed (length a.kept.rows + length a.recent.items) (omega arith))
    ∙ ap (λ (j : Joined). rows_now j ++ row ∷ []) c.self.view_is
