use Rattle.std.proofs.Common.{◌≡◌, ◌∙◌, ap, sym, subst, suc, ◌+◌, Some, length, arith}
use Rattle.std.specs.List.{slice_get}
use Rattle.std.specs.Map.{values_of}
use Rattle.indexmap.specs.IndexMap.{set_value_at}
use Rattle.indexmap.specs.Layout.{length-set_value_at}
use Rattle.flow_base.specs.contracts.types.KeyPartialEq.TheImpl.{ghosts}
use Rattle.entity_names.specs.KeyNames.{KeyNames}
use Rattle.entity_names.specs.Known.{AreSaved, texts, places}
use Rattle.entity_names.proofs.SavedLemmas.{looked_up, saved_more}
use Rattle.entity_names.proofs.saving.save.Goals as goal

module _ (c : goal.After-names-in-Some-1) where
  was : Some c.in-Some.one.now ≡ slice_get (values_of c.args.names.now.entries) c.args.place
  was = c.in-Some.ensures.value

  abbrev now : KeyNames
  now = c.save.new.self

pub returns-in-Some-clause-names : goal.returns-in-Some-clause-names
returns-in-Some-clause-names c = record {
  texts_are = λ key. looked_up texts (ghosts.eq key) c.args.names.now.entries c.args.place c.in-Some.one.now (now c) (was c) (ap (λ (x : KeyNames). x.texts) c.save.ensures);
  places_are = λ key. looked_up places (ghosts.eq key) c.args.names.now.entries c.args.place c.in-Some.one.now (now c) (was c) (ap (λ (x : KeyNames). x.capacity) c.save.ensures);
}

pub returns-in-Some-clause-saved : goal.returns-in-Some-clause-saved
returns-in-Some-clause-saved c = λ are.
    let more : suc c.args.place ≡ c.args.place + 1 = omega arith in
    let is : (now c).saved ≡ length (now c).texts = ap (λ (x : KeyNames). x.saved) c.save.ensures ∙ ap (λ (x : KeyNames). length x.texts) (sym c.save.ensures) in
    subst (λ n. AreSaved n (set_value_at c.args.names.now.entries c.args.place (now c))) more (saved_more c.args.names.now.entries c.args.place (now c) c.requires is are)

pub returns-in-Some-clause-count : goal.returns-in-Some-clause-count
returns-in-Some-clause-count c = length-set_value_at c.args.names.now.entries c.args.place (now c)
