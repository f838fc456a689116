use Rattle.std.proofs.Common.{ap, map, ◌∙◌, sym, [], ◌∷◌}
use Rattle.std.proofs.lemmas.List.{map-append}
use Rattle.name_text.proofs.PartLemmas.{gains_name, now}
use Rattle.name_text.proofs.paths.put_part.Goals as goal

pub returns-in_ok-push : goal.returns-in_ok-push
returns-in_ok-push c = gains_name c.args.absolute _ _ c.args.part.now (sym c.is_up.ensures ∙ c.if-is_up.false) (sym c.is_named.ensures ∙ c.if-is_named.true)
    (ap (map now) c.in_ok-push.ensures.items ∙ map-append now c.args.parts.now.items (c.args.part ∷ []))
