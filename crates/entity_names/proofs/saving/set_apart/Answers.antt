use Rattle.std.proofs.Common.{◌∙◌, ◌-◌, sym, ap, subst, take, arith}
use Rattle.std.specs.List.{list_any}
use Rattle.std.specs.Map.{keys_of}
use Rattle.flow_base.specs.contracts.types.KeyPartialEq.TheImpl.{ghosts}
use Rattle.entity_names.specs.Known.{AreSaved}
use Rattle.entity_names.proofs.SavedLemmas.{saved_few, saved_apart, key_apart, key_absent, key_past}
use Rattle.entity_names.proofs.saving.set_apart.Goals as goal

pub returns-in-None-clause-apart : goal.returns-in-None-clause-apart
returns-in-None-clause-apart c = key_absent c.args.key.now c.args.names.now.entries c.args.saved (saved_few _ _ c.requires) (sym c.get_index_of.ensures.index ∙ c.in-None.is)

pub returns-then-place-saved-clause-apart : goal.returns-then-place-saved-clause-apart
returns-then-place-saved-clause-apart c = key_past c.args.key.now c.args.names.now.entries c.args.saved c.in-Some.place c.if-place-saved.true (sym c.get_index_of.ensures.index ∙ c.in-Some.is)

pub swap_indices-requires-clause-b_in_bounds : goal.swap_indices-requires-clause-b_in_bounds
swap_indices-requires-clause-b_in_bounds c = let few = saved_few _ _ c.requires in let low = c.if-place-saved.false in omega (arith, few, low)

pub returns-clause-saved : goal.returns-clause-saved
returns-clause-saved c = subst (AreSaved (c.args.saved - 1)) (sym c.swap_indices.ensures.entries) (saved_apart c.args.names.now.entries c.in-Some.place c.args.saved c.if-place-saved.false c.requires)

pub returns-clause-apart : goal.returns-clause-apart
returns-clause-apart c =
    ap (λ es. list_any (ghosts.eq c.args.key.now) (take (c.args.saved - 1) (keys_of es))) c.swap_indices.ensures.entries
    ∙ key_apart (record { exact = c.equal_keys_are_one.ensures.exact; same = c.equal_keys_are_one.ensures.same }) c.args.key.now c.args.names.now.entries c.in-Some.place c.args.saved
    c.if-place-saved.false (saved_few _ _ c.requires) c.get_index_of.ensures.unique (sym c.get_index_of.ensures.index ∙ c.in-Some.is)
