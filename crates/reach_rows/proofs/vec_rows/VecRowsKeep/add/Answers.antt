use Rattle.std.proofs.Common.{◌≡◌, ◌<◌, ◌^◌, ◌∷◌, ◌++◌, [], length, map, arith, ap, subst, sym, ◌∙◌, refl}
use Rattle.reach_model.specs.Numbers.{known}
use Rattle.reach_model.specs.Rows.{firsts}
use Rattle.reach_rows.specs.Kept.{row_of_kept, ComesAfter, GoesOn}
use Rattle.reach_rows.specs.InMemory.{InMemory, AreKept, HasLinks}
use Rattle.reach_rows.specs.Objects.{AreObjects}
use Rattle.reach_rows.specs.Packed.{row_of_flow}
use Rattle.reach_rows.specs.declared.rows.Row.{Row as KeptRow}
use Rattle.reach_rows.proofs.RowLemmas.{counted, kept_push}
use Rattle.reach_rows.proofs.vec_rows.VecRowsKeep.add.Goals as goal

pub invariant_of-self : goal.invariant_of-self
invariant_of-self c =
    let rows = c.self.inside.rows.rows in
    let objects = c.self.inside.objects.objects in
    let next = c.enter.new.self.objects in
    let f = c.args.flow.now in
    let K = firsts (map row_of_kept rows) in
    let kept = c.self.invariant in
    let same = ap (λ (m : InMemory). m.rows) c.self.view_is in
    let after : ComesAfter (map row_of_kept rows) f = subst (λ R. ComesAfter R f) (sym same) (c.requires.later c.args.self.now.rows refl) in
    let goes : GoesOn (known K) f = subst (λ R. GoesOn (known (firsts R)) f) (sym same) c.requires.numbered in
    let row : KeptRow = row_of_flow f c.last_into_of-before_to.result c.last_from_of-before_from.result in
    let links : HasLinks K row = record {
      before_to = c.last_into_of-before_to.ensures K kept.known;
      before_from = c.last_from_of-before_from.ensures K kept.known;
    } in
    let at : length K ≡ c.len-row.result = counted rows objects kept ∙ omega (arith, c.len-row.ensures.rows) in
    let known_next : AreObjects (K ++ f ∷ []) next = c.enter.ensures.objects K (c.leave.ensures.left K kept.known at goes.ends_differ) at goes.ends_differ in
    let few : length next < 2 ^ 32 = omega (arith, c.enter.ensures.len, c.leave.ensures.len, goes.few, kept.few) in
    subst (λ x. AreKept x next) (sym c.push.ensures.rows) (kept_push rows objects kept f row next after goes refl links known_next few)
