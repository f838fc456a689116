use Rattle.std.proofs.Common.{length, ap, sym, subst, arith}
use Rattle.std.proofs.lemmas.List.{length-map}
use Rattle.reach_rows.specs.Objects.{AreObjects, HasLeft}
use Rattle.reach_rows.specs.Packed.{KnownObjects, object_of_packed, objects_of_packed}
use Rattle.reach_rows.proofs.PackedObjectLemmas.{left_known, left_new}
use Rattle.reach_rows.proofs.packed_objects.PackedObjects.leave.Goals as goal

pub returns-then-id-len-clause-left : goal.returns-then-id-len-clause-left
returns-then-id-len-clause-left c = λ K a e differ.
    let P = c.self.inside.objects.items in
    let same = ap (λ (m : KnownObjects). m.objects) c.self.view_is in
    left_known K c.args.flow.now differ P c.args.row e c.requires.row c.new.result c.new.ensures c.index_mut.result.now (subst (AreObjects K) (sym same) a)
    (omega (arith, c.if-id-len.true, c.len.ensures)) c.index_mut.ensures.value

pub returns-else-id-len-clause-left : goal.returns-else-id-len-clause-left
returns-else-id-len-clause-left c = λ K a e differ.
    let P = c.self.inside.objects.items in
    let f = c.args.flow.now in
    let same = ap (λ (m : KnownObjects). m.objects) c.self.view_is in
    let known = ap (λ (m : KnownObjects). length m.objects) c.self.view_is in
    subst (λ x. HasLeft K f (objects_of_packed x)) (sym c.push_reserved.ensures.items)
    (left_new K f differ P c.args.row e c.requires.row c.new-else-id-len-2.result c.new-else-id-len-2.ensures c.new-else-id-len.result c.new-else-id-len.ensures (subst (AreObjects K) (sym same) a)
    (omega (arith, c.if-id-len.false, c.len.ensures, c.requires.known, known, length-map P object_of_packed)))
