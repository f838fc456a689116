-- Lines with what is told of them, and without it.
use Rattle.std.proofs.Common.{◌≡◌, ◌∙◌, sym, refl, ap, subst, ℕ, Bool, List, [], ◌∷◌, ◌++◌, map}
use Rattle.std.specs.List.Sorted.{IsPermutation}
use Rattle.std.proofs.lemmas.List.{map-append}
use Rattle.std.proofs.lemmas.List.Sorted.{IsPermutation-map}
use Rattle.order_queue.specs.Queue.{text_of, texts_of}
use Rattle.order_kin.specs.Families.{child_of}
use Rattle.audit_order.specs.Shown.{Told, untold, line_in, lines_in}
use Rattle.audit_order.specs.Woven.{IsWoven}
use Rattle.audit_order.specs.Turns.{Motion, Read, Came, Went, Ended, went, reads_in, told_in}
use Rattle.audit_order.proofs.WovenLemmas.{woven_same}

-- the lines that went, without what is told of them
pub told_lines : (compat : Bool) (motions : List Motion) → lines_in (told_in compat motions) ≡ texts_of (went motions)
told_lines compat [] = refl
told_lines compat (Read place line ∷ before) = told_lines compat before
told_lines compat (Came item ∷ before) = told_lines compat before
told_lines compat (Went item ∷ before) =
    map-append line_in (told_in compat before) (record { line = item.line; child = child_of compat (reads_in before) item.line } ∷ [])
    ∙ ap (λ (l : List (List ℕ)). l ++ item.line ∷ []) (told_lines compat before)
    ∙ sym (map-append text_of (went before) (item ∷ []))
told_lines compat (Ended ∷ before) = told_lines compat before

untold_lines : (lines : List (List ℕ)) → lines_in (map untold lines) ≡ lines
untold_lines [] = refl
untold_lines (line ∷ lines) = ap (λ (l : List (List ℕ)). line ∷ l) (untold_lines lines)

-- woven lines are the same without what is told of them
pub lines_same : (ends peers : List (List ℕ)) (given all : List Told) → IsWoven (map untold ends) (map untold peers) given all
    → IsPermutation (ends ++ (peers ++ lines_in given)) (lines_in all)
lines_same ends peers given all woven =
    let three : lines_in (map untold ends ++ (map untold peers ++ given)) ≡ ends ++ (peers ++ lines_in given) =
    map-append line_in (map untold ends) (map untold peers ++ given)
    ∙ ap (λ (l : List (List ℕ)). lines_in (map untold ends) ++ l) (map-append line_in (map untold peers) given)
    ∙ ap (λ (l : List (List ℕ)). l ++ (lines_in (map untold peers) ++ lines_in given)) (untold_lines ends)
    ∙ ap (λ (l : List (List ℕ)). ends ++ (l ++ lines_in given)) (untold_lines peers) in
    subst (λ (l : List (List ℕ)). IsPermutation l (lines_in all)) three
    (IsPermutation-map line_in (map untold ends ++ (map untold peers ++ given)) all (woven_same (map untold ends) (map untold peers) given all woven))
