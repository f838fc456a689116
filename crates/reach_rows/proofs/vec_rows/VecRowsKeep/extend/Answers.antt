use Rattle.std.proofs.Common.{◌≡◌, ◌<◌, length, map, get_or, arith, ap, subst, sym, ◌∙◌, refl, Some, None}
use Rattle.std.proofs.lemmas.List.{get_or_default, length-set}
use Rattle.reach_model.specs.declared.modes.Verdict.TheVariants.{Extend}
use Rattle.reach_model.specs.Numbers.{known}
use Rattle.reach_model.specs.Rows.{Row, SamePair, firsts, rows_after}
use Rattle.reach_rows.specs.Kept.{row_of_kept, ComesAfter}
use Rattle.reach_rows.specs.InMemory.{InMemory, AreKept}
use Rattle.reach_rows.specs.Packed.{row_of_flow}
use Rattle.reach_rows.specs.declared.rows.Row.{Row as KeptRow}
use Rattle.reach_rows.proofs.RowLemmas.{all_rows, same_rows, same_firsts, kept_extended}
use Rattle.reach_rows.proofs.vec_rows.VecRowsKeep.extend.Goals as goal

pub invariant_of-self : goal.invariant_of-self
invariant_of-self c =
    let rows = c.self.inside.rows.rows in
    let objects = c.self.inside.objects.objects in
    let f = c.args.flow.now in
    let d : KeptRow = row_of_flow f None None in
    let same = ap (λ (m : InMemory). m.rows) c.self.view_is in
    let after : ComesAfter (map row_of_kept rows) f = subst (λ R. ComesAfter R f) (sym same) (c.requires.later c.args.self.now.rows refl) in
    let pair : (r : Row) → SamePair (get_or (map row_of_kept rows) c.args.row r).last f = subst (λ R. (r : Row) → SamePair (get_or R c.args.row r).last f) (sym same) (c.requires.pair c.args.self.now.rows refl) in
    let all : length rows ≡ length c.args.self.now.rows = sym (all_rows rows objects c.self.invariant) ∙ ap length same in
    let h : c.args.row < length rows = omega (arith, c.requires.row, all) in
    let before : KeptRow = get_or rows c.args.row d in
    subst (λ x. AreKept x objects) (sym (c.extend.ensures.rows d))
    (kept_extended rows objects c.self.invariant f c.args.row before c.mark_of.result after h pair (get_or_default rows c.args.row d before h) c.mark_of.ensures)

pub returns-clause-rows : goal.returns-clause-rows
returns-clause-rows c =
    let rows = c.self.inside.rows.rows in
    let objects = c.self.inside.objects.objects in
    let f = c.args.flow.now in
    let d : KeptRow = row_of_flow f None None in
    let same = ap (λ (m : InMemory). m.rows) c.self.view_is in
    let after : ComesAfter (map row_of_kept rows) f = subst (λ R. ComesAfter R f) (sym same) (c.requires.later c.args.self.now.rows refl) in
    let pair : (r : Row) → SamePair (get_or (map row_of_kept rows) c.args.row r).last f = subst (λ R. (r : Row) → SamePair (get_or R c.args.row r).last f) (sym same) (c.requires.pair c.args.self.now.rows refl) in
    let all : length rows ≡ length c.args.self.now.rows = sym (all_rows rows objects c.self.invariant) ∙ ap length same in
    let h : c.args.row < length rows = omega (arith, c.requires.row, all) in
    let before : KeptRow = get_or rows c.args.row d in
    ap Some (ap (map row_of_kept) (c.extend.ensures.rows d)
    ∙ same_rows rows objects c.self.invariant f c.args.row before c.mark_of.result after h pair (get_or_default rows c.args.row d before h) c.mark_of.ensures
    ∙ ap (λ R. rows_after R f (Extend c.args.row)) same)

pub returns-clause-same : goal.returns-clause-same
returns-clause-same c =
    let rows = c.self.inside.rows.rows in
    let objects = c.self.inside.objects.objects in
    let f = c.args.flow.now in
    let d : KeptRow = row_of_flow f None None in
    let same = ap (λ (m : InMemory). m.rows) c.self.view_is in
    let after : ComesAfter (map row_of_kept rows) f = subst (λ R. ComesAfter R f) (sym same) (c.requires.later c.args.self.now.rows refl) in
    let pair : (r : Row) → SamePair (get_or (map row_of_kept rows) c.args.row r).last f = subst (λ R. (r : Row) → SamePair (get_or R c.args.row r).last f) (sym same) (c.requires.pair c.args.self.now.rows refl) in
    let all : length rows ≡ length c.args.self.now.rows = sym (all_rows rows objects c.self.invariant) ∙ ap length same in
    let h : c.args.row < length rows = omega (arith, c.requires.row, all) in
    let before : KeptRow = get_or rows c.args.row d in
    let now = ap (map row_of_kept) (c.extend.ensures.rows d) in (
      ap length (now ∙ same_rows rows objects c.self.invariant f c.args.row before c.mark_of.result after h pair (get_or_default rows c.args.row d before h) c.mark_of.ensures)
          ∙ simp length-set (ap length same),
      ap known (ap firsts now ∙ same_firsts rows objects c.self.invariant f c.args.row before c.mark_of.result after h pair (get_or_default rows c.args.row d before h) c.mark_of.ensures
          ∙ ap firsts same),
    )
