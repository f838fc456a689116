use Rattle.std.proofs.Common.{◌≡◌, ◌∙◌, ◌<◌, length, map, get_or, Ok, arith, ap, subst, sym, refl}
use Rattle.std.specs.Result.{IfOk}
use Rattle.std.proofs.lemmas.List.{length-map}
use Rattle.reach_model.specs.Numbers.{known}
use Rattle.reach_model.specs.Rows.{firsts}
use Rattle.reach_rows.specs.Kept.{IsRowAt, row_of_kept}
use Rattle.saved_rows.specs.Joining.{rows_now}
use Rattle.reduced_store.specs.Held.{Held}
use Rattle.reduced_store.proofs.HeldLemmas.{held_ends, held_row, no_bad}
use Rattle.reduced_store.proofs.rows.StoreRows.row.Goals as goal

pub returns-in-Ok-clause-exact : goal.returns-in-Ok-clause-exact
returns-in-Ok-clause-exact g c = λ told.
    let a = c.self.inside.rows in
    let rows = rows_now a in
    let i = c.args.index in
    let row = c.in-Ok.row in
    let objects = c.self.inside.objects.items in
    let within : i < length rows = omega (arith, c.requires.index, ap (λ (h : Held). length h.rows) c.self.view_is, length-map rows row_of_kept) in
    let is : row ≡ get_or rows i row = c.in-Ok.ensures.exact told row in
    let ends = held_ends rows objects c.self.invariant.0 i row row within is in
    let same : rows_now c.row.new.self ≡ rows = ap rows_now c.row.ensures.same in
    let one = subst (λ xs. (row.from.0 < known (firsts (map row_of_kept xs))) × (row.to.0 < known (firsts (map row_of_kept xs))) → c.with_known_ends.result ≡ Ok row) same c.with_known_ends.ensures.known ends in
    subst (λ r. IfOk r (IsRowAt c.args.self.now.rows i)) (sym one)
    (subst (λ (h : Held). IsRowAt h.rows i row) c.self.view_is (held_row rows objects c.self.invariant.0 i row row within is))

pub returns-in-Ok-clause-good : goal.returns-in-Ok-clause-good
returns-in-Ok-clause-good g c = λ told place bad.
    let a = c.self.inside.rows in
    let rows = rows_now a in
    let i = c.args.index in
    let row = c.in-Ok.row in
    let within : i < length rows = omega (arith, c.requires.index, ap (λ (h : Held). length h.rows) c.self.view_is, length-map rows row_of_kept) in
    let is : row ≡ get_or rows i row = c.in-Ok.ensures.exact told row in
    let ends = held_ends rows c.self.inside.objects.items c.self.invariant.0 i row row within is in
    let same : rows_now c.row.new.self ≡ rows = ap rows_now c.row.ensures.same in
    let one = subst (λ xs. (row.from.0 < known (firsts (map row_of_kept xs))) × (row.to.0 < known (firsts (map row_of_kept xs))) → c.with_known_ends.result ≡ Ok row) same c.with_known_ends.ensures.known ends in
    absurd (let e = sym one ∙ bad in cc)

pub returns-in-Err-clause-good : goal.returns-in-Err-clause-good
returns-in-Err-clause-good g c = λ told place bad.
    no_bad c.in-Err.fault place (λ d. get_or (rows_now c.self.inside.rows) c.args.index d) (c.in-Err.ensures.exact told) bad
