use Rattle.std.proofs.Common.{◌≡◌, ap, map, ◌∙◌, [], take, IfOk, subst}
use Rattle.name_text.proofs.PartLemmas.{begun, tidied_is, now}
use Rattle.name_text.proofs.paths.resolve.Goals as goal

pub returns : goal.returns
returns c =
    let parts = ap (map now) c.as_slice.ensures.value ∙ c.in_ok-put_parts.ensures [] (begun c.is_absolute-absolute.result c.new-parts.result.items c.new-parts.ensures.items) in
    subst (λ text. IfOk c.cut_path.result (λ made. made ≡ take c.args.limit text)) (tidied_is c.is_absolute-absolute.result c.args.path.now _ c.is_absolute-absolute.ensures parts) c.cut_path.ensures
