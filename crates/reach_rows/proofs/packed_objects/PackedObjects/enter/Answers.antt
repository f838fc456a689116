use Rattle.std.proofs.Common.{◌∷◌, ◌++◌, [], length, ap, sym, subst, arith}
use Rattle.std.proofs.lemmas.List.{length-map}
use Rattle.reach_rows.specs.Objects.{AreObjects, HasLeft}
use Rattle.reach_rows.specs.Packed.{KnownObjects, object_of_packed, objects_of_packed}
use Rattle.reach_rows.proofs.PackedObjectLemmas.{entered_known, entered_new}
use Rattle.reach_rows.proofs.packed_objects.PackedObjects.enter.Goals as goal

pub returns-then-id-len-clause-objects : goal.returns-then-id-len-clause-objects
returns-then-id-len-clause-objects c = λ K a e differ.
    let P = c.self.inside.objects.items in
    let f = c.args.flow.now in
    let same = ap (λ (m : KnownObjects). m.objects) c.self.view_is in
    entered_known K f differ P c.args.row e c.requires.row c.new.result c.new.ensures c.index_mut.result.now (subst (HasLeft K f) (sym same) a)
    (omega (arith, c.if-id-len.true, c.len.ensures)) c.index_mut.ensures.value

pub returns-else-id-len-clause-objects : goal.returns-else-id-len-clause-objects
returns-else-id-len-clause-objects c = λ K a e differ.
    let P = c.self.inside.objects.items in
    let f = c.args.flow.now in
    let same = ap (λ (m : KnownObjects). m.objects) c.self.view_is in
    let known = ap (λ (m : KnownObjects). length m.objects) c.self.view_is in
    subst (λ x. AreObjects (K ++ f ∷ []) (objects_of_packed x)) (sym c.push_reserved.ensures.items)
    (entered_new K f differ P c.args.row e c.requires.row c.new-else-id-len.result c.new-else-id-len.ensures c.new-else-id-len-2.result c.new-else-id-len-2.ensures (subst (HasLeft K f) (sym same) a)
    (omega (arith, c.if-id-len.false, c.len.ensures, c.requires.known, known, length-map P object_of_packed)))
