use Rattle.std.proofs.Common.{◌≡◌, ap, map, ◌∙◌, [], ◌∷◌, ◌++◌, take, IfOk, subst}
use Rattle.std.specs.List.{slice_split}
use Rattle.name_text.specs.Paths.{kept, is_slash}
use Rattle.name_text.proofs.PartLemmas.{begun, gains_both, parts_of-both, tidied_is, now}
use Rattle.name_text.proofs.paths.resolve_behind.Goals as goal

pub returns : goal.returns
returns c =
    let absolute = c.is_root_in_front-absolute.result in
    let both = gains_both absolute _ _ _ (slice_split is_slash c.args.front.now) (slice_split is_slash c.args.name.now) c.in_ok-put_parts.ensures c.in_ok-put_parts-2.ensures in
    let parts = ap (map now) c.as_slice.ensures.value ∙ both [] (begun absolute c.new-parts.result.items c.new-parts.ensures.items) ∙ ap (kept absolute) (parts_of-both c.args.front.now c.args.name.now) in
    subst (λ text. IfOk c.cut_path.result (λ made. made ≡ take c.args.limit text))
    (tidied_is absolute (c.args.front.now ++ 47 ∷ c.args.name.now) _ (c.is_root_in_front-absolute.ensures c.args.name.now) parts) c.cut_path.ensures
