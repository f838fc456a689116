use Rattle.std.proofs.Common.{◌≡◌, ◌<◌, ◌∷◌, ◌++◌, [], length, true, refl, arith, ap, sym, subst, ◌∙◌}
use Rattle.reach_rows.specs.Indexes.{index_in}
use Rattle.reach_rows.specs.Packed.{KeptRows, NONE, HaveExtensions, row_of_flow, row_with, rows_of_packed}
use Rattle.reach_rows.specs.declared.packed.Extension.{Extension}
use Rattle.reach_rows.specs.declared.packed.PackedRow.{PackedRow}
use Rattle.reach_rows.specs.declared.rows.Mark.{Mark}
use Rattle.reach_rows.proofs.PackedLemmas.{have_pushed, rows_pushed}
use Rattle.reach_rows.proofs.packed.PackedRows.push.Goals as goal

pub invariant_of-self-else-flow-le-NO_ROW : goal.invariant_of-self-else-flow-le-NO_ROW
invariant_of-self-else-flow-le-NO_ROW c =
    let E = c.self.inside.extensions.items in
    let P = c.self.inside.rows.items in
    let e : Extension = record { place = c.args.flow.now.at.place; last = c.mark_of.result } in
    let p : PackedRow = record c.new-row-else-flow-le-NO_ROW.result { extended = true } in
    let at : index_in p.place_or_extension ≡ length E = omega (arith, c.new-row-else-flow-le-NO_ROW.ensures.index, c.len-extension.ensures) in
    let room = ap (λ (m : KeptRows). m.room) c.self.view_is in
    let few_rows : length P < NONE = omega (arith, room, c.requires.room) in
    let few_extensions : length E < NONE = omega (arith, room, c.requires.room) in
    subst (λ F. HaveExtensions F c.push_reserved-else-flow-le-NO_ROW.new.self.items) (sym c.push_reserved-else-flow-le-NO_ROW-2.ensures.items)
    (subst (λ Q. HaveExtensions (E ++ e ∷ []) Q) (sym c.push_reserved-else-flow-le-NO_ROW.ensures.items) (have_pushed E P c.self.invariant e p refl at few_rows few_extensions))

pub returns-else-flow-le-NO_ROW-clause-rows : goal.returns-else-flow-le-NO_ROW-clause-rows
returns-else-flow-le-NO_ROW-clause-rows c =
    let E = c.self.inside.extensions.items in
    let P = c.self.inside.rows.items in
    let f = c.args.flow.now in
    let e : Extension = record { place = f.at.place; last = c.mark_of.result } in
    let p : PackedRow = record c.new-row-else-flow-le-NO_ROW.result { extended = true } in
    let at : index_in p.place_or_extension ≡ length E = omega (arith, c.new-row-else-flow-le-NO_ROW.ensures.index, c.len-extension.ensures) in
    let is : row_with p e ≡ row_of_flow f c.args.before_to c.args.before_from
    = ap (λ (m : Mark). row_with p (record { place = f.at.place; last = m })) c.mark_of.ensures ∙ c.new-row-else-flow-le-NO_ROW.ensures.row in
    ap (λ F. rows_of_packed F c.push_reserved-else-flow-le-NO_ROW.new.self.items) c.push_reserved-else-flow-le-NO_ROW-2.ensures.items
    ∙ ap (λ Q. rows_of_packed (E ++ e ∷ []) Q) c.push_reserved-else-flow-le-NO_ROW.ensures.items
    ∙ rows_pushed E P c.self.invariant e p refl at
    ∙ ap (λ R. R ++ row_with p e ∷ []) (ap (λ (m : KeptRows). m.rows) c.self.view_is)
    ∙ ap (λ r. c.args.self.now.rows ++ r ∷ []) is
