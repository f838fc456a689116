use Rattle.std.proofs.Common.{◌≡◌, ◌<◌, ◌^◌, ◌∷◌, ◌++◌, [], length, map, arith, ap, subst, sym, ◌∙◌}
use Rattle.std.specs.List.{All}
use Rattle.std.proofs.lemmas.List.Elements.{All-push}
use Rattle.reach_model.specs.Numbers.{known}
use Rattle.reach_model.specs.Rows.{firsts}
use Rattle.reach_rows.specs.Kept.{row_of_kept, GoesOn}
use Rattle.reach_rows.specs.InMemory.{HasLinks}
use Rattle.reach_rows.specs.Objects.{AreObjects}
use Rattle.saved_rows.specs.Joining.{rows_now}
use Rattle.saved_rows.specs.Saved.{IsSingle}
use Rattle.reduced_store.specs.Held.{Held, AreHeld}
use Rattle.reduced_store.proofs.HeldLemmas.{counted, held_push}
use Rattle.reduced_store.proofs.rows.StoreRows.append.Goals as goal

pub invariant_of-self : goal.invariant_of-self
invariant_of-self c =
    let a = c.self.inside.rows in
    let rows = rows_now a in
    let objects = c.self.inside.objects.items in
    let next = c.enter.new.objects.items in
    let row = c.args.row in
    let f = c.first_flow-flow.result in
    let K = firsts (map row_of_kept rows) in
    let held = c.self.invariant.0 in
    let wanted : GoesOn (known K) (row_of_kept row).first = subst (λ (h : Held). GoesOn (known (firsts h.rows)) (row_of_kept row).first) (sym c.self.view_is) c.requires.numbered in
    let goes : GoesOn (known K) f = subst (GoesOn (known K)) (sym c.first_flow-flow.ensures) wanted in
    let links : HasLinks K row = subst (λ (h : Held). HasLinks (firsts h.rows) row) (sym c.self.view_is) c.requires.links in
    let at : length K ≡ c.count-index.result = counted rows objects held ∙ sym c.count-index.ensures.count in
    let known_next : AreObjects (K ++ f ∷ []) next = c.enter.ensures.objects K (c.leave.ensures.left K held.known at goes.ends_differ) at goes.ends_differ in
    let few : length next < 2 ^ 32 = omega (arith, c.enter.ensures.len, c.leave.ensures.len, goes.few, held.few) in (
      subst (λ x. AreHeld x next) (sym c.push.ensures.rows) (held_push rows objects held f row next (sym c.first_flow-flow.ensures) links known_next few),
      subst (All IsSingle) (sym c.push.ensures.recent) (All-push IsSingle a.recent row c.self.invariant.1 c.requires.single),
    )
