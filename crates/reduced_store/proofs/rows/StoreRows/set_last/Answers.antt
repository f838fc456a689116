use Rattle.std.proofs.Common.{◌≡◌, ◌∙◌, length, map, arith, ap, subst, sym, refl}
use Rattle.std.specs.List.{All}
use Rattle.reach_rows.specs.Kept.{row_of_kept}
use Rattle.saved_rows.specs.Joining.{mark_in, rows_now}
use Rattle.saved_rows.specs.Remembered.{with_mark}
use Rattle.saved_rows.specs.Saved.{IsSingle}
use Rattle.store_check.specs.Store.{changed_at, extended}
use Rattle.reduced_store.specs.Held.{AreHeld, HasRoom, Held}
use Rattle.reduced_store.specs.Placing.{IsTied}
use Rattle.reduced_store.proofs.HeldLemmas.{changed_length, changed_rows, held_along, plain_marked}
use Rattle.reduced_store.proofs.rows.StoreRows.set_last.Goals as goal

pub invariant_of-self : goal.invariant_of-self
invariant_of-self c =
    let a = c.self.inside.rows in
    let objects = c.self.inside.objects.items in
    let i = c.args.row in
    let mark = c.args.mark in (
      subst (λ rows. AreHeld rows objects) (sym c.extend.ensures.rows) (held_along (rows_now a) (with_mark i mark (rows_now a)) objects (sym (plain_marked i mark (rows_now a))) c.self.invariant.0),
      subst (All IsSingle) (sym c.extend.ensures.recent) c.self.invariant.1,
    )

pub returns-clause-rows : goal.returns-clause-rows
returns-clause-rows c =
    ap (map row_of_kept) c.extend.ensures.rows ∙ changed_rows c.args.row c.args.mark (rows_now c.self.inside.rows)
    ∙ ap (λ (h : Held). changed_at c.args.row (extended c.args.mark) h.rows) c.self.view_is

pub returns-clause-room : goal.returns-clause-room
returns-clause-room c = λ n room.
    let a = c.self.inside.rows in
    let here = subst (λ (h : Held). HasRoom h n) (sym c.self.view_is) room in
    let long : length (map row_of_kept (rows_now c.extend.new.self)) ≡ length (map row_of_kept (rows_now a)) =
    ap (λ rows. length (map row_of_kept rows)) c.extend.ensures.rows ∙ ap length (changed_rows c.args.row c.args.mark (rows_now a)) ∙ changed_length c.args.row c.args.mark (map row_of_kept (rows_now a)) in
    let some = here.0 in
    let few = here.1.1 in
    (omega (arith, some, c.extend.ensures.recent_room), (here.1.0, omega (arith, few, long)))

pub returns-clause-tied : goal.returns-clause-tied
returns-clause-tied c = subst IsTied c.self.view_is refl

pub returns-clause-others : goal.returns-clause-others
returns-clause-others c = λ i apart. c.extend.ensures.others i apart ∙ ap (λ (h : Held). mark_in h.placed.renewed i) c.self.view_is
