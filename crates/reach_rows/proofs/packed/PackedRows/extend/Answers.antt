use Rattle.std.proofs.Common.{◌≡◌, ◌<◌, ◌∷◌, ◌++◌, [], get_or, length, set, true, arith, ap, subst, ◌∙◌}
use Rattle.std.proofs.lemmas.List.{length-map}
use Rattle.reach_rows.specs.Packed.{KeptRows, row_of_packed, rows_of_packed, with_last}
use Rattle.reach_rows.specs.declared.packed.PackedRow.{PackedRow}
use Rattle.reach_rows.proofs.PackedLemmas.{extended_again, extended_first}
use Rattle.reach_rows.proofs.packed.PackedRows.extend.Goals as goal

pub returns-then-packed-clause-rows : goal.returns-then-packed-clause-rows
returns-then-packed-clause-rows c = λ d.
    let E = c.self.inside.extensions.items in
    let P = c.self.inside.rows.items in
    let same = ap (λ (m : KeptRows). m.rows) c.self.view_is in
    let h : c.args.row < length P = omega (arith, c.requires.row, ap length same, length-map P (row_of_packed E)) in
    ap (λ x. rows_of_packed (set E x (record c.index_mut.result.now { last = c.args.last })) P) c.get.ensures.index
    ∙ extended_again E P c.self.invariant c.args.row c.index-packed.result.now c.args.last h c.index-packed.ensures c.if-packed.true c.index_mut.result.now (subst (λ x. c.index_mut.result.now ≡ get_or E x c.index_mut.result.now) c.get.ensures.index c.index_mut.ensures.value) d
    ∙ ap (λ R. with_last R c.args.row c.args.last d) same

pub returns-else-packed-clause-rows : goal.returns-else-packed-clause-rows
returns-else-packed-clause-rows c = λ d.
    let E = c.self.inside.extensions.items in
    let P = c.self.inside.rows.items in
    let p : PackedRow = c.index-packed.result.now in
    let same = ap (λ (m : KeptRows). m.rows) c.self.view_is in
    let h : c.args.row < length P = omega (arith, c.requires.row, ap length same, length-map P (row_of_packed E)) in
    ap (λ F. rows_of_packed F (set P c.args.row (record p { place_or_extension = c.new.result; extended = true }))) (c.push_reserved.ensures.items
    ∙ ap (λ n. E ++ record { place = n; last = c.args.last } ∷ []) c.get-else-packed.ensures.index)
    ∙ extended_first E P c.self.invariant c.args.row p c.args.last h c.index-packed.ensures c.if-packed.false c.new.result (omega (arith, c.new.ensures, c.len.ensures)) d
    ∙ ap (λ R. with_last R c.args.row c.args.last d) same
