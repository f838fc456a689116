use Rattle.std.proofs.Common.{◌≡◌, ◌-◌, Option, Some, None, IfSome, Bor, nat_lt, length, get_or, sym, ap, ◌∙◌, arith}
use Rattle.std.specs.Option.{is_some}
use Rattle.std.proofs.lemmas.Bool.{ltb-true, ltb-false}
use Rattle.reduce_source.specs.Slots.{value_of, owner_of}
use Rattle.reduce_source.specs.Owners.{IsAt}
use Rattle.reduce_source.specs.declared.slot.Slot.{Slot}
use Rattle.reduce_source.proofs.Shelves.{boxed, id_value, id_owner, id_past}
use Rattle.reduce_source.proofs.pool.slot_of.Goals as goal

pub returns-clause-none : goal.returns-clause-none
returns-clause-none g c = λ none.
    let far = ltb-false (c.args.id - 1) (length c.args.slots.now) (sym c.get.ensures.lookup.0 ∙ ap is_some none) in
    let nonzero = c.if-id-eq0.false in
    id_past c.args.slots.now c.args.id (omega (arith, nonzero)) (omega (arith, nonzero, far))

pub returns-clause-place : goal.returns-clause-place
returns-clause-place g c = found c.get.result c.get.ensures.lookup.0
  where
    found : (r : Option (Bor (Slot g.row.T.Denot))) → is_some r ≡ nat_lt (c.args.id - 1) (length c.args.slots.now) → IfSome r (λ slot. IsAt c.args.slots.now c.args.id)
    found None low = tt
    found (Some b) low =
        let nonzero = c.if-id-eq0.false in
        let there = ltb-true (c.args.id - 1) (length c.args.slots.now) (sym low) in
        (omega (arith, nonzero), omega (arith, nonzero, there))

pub returns-clause-value : goal.returns-clause-value
returns-clause-value g c = let l = c.get.ensures.lookup in found c.get.result l.0 l.1
  where
    found : (r : Option (Bor (Slot g.row.T.Denot))) → is_some r ≡ nat_lt (c.args.id - 1) (length c.args.slots.now) → IfSome r (λ x. x.now ≡ get_or c.args.slots.now (c.args.id - 1) x.now)
        → IfSome r (λ slot. value_of c.args.slots.now c.args.id ≡ Some slot.now.value)
    found None low same = tt
    found (Some b) low same =
        let nonzero = c.if-id-eq0.false in
        let there = ltb-true (c.args.id - 1) (length c.args.slots.now) (sym low) in
        id_value c.args.slots.now c.args.id b.now (omega (arith, nonzero)) (omega (arith, nonzero, there)) ∙ ap boxed (sym same)

pub returns-clause-owner : goal.returns-clause-owner
returns-clause-owner g c = let l = c.get.ensures.lookup in found c.get.result l.0 l.1
  where
    found : (r : Option (Bor (Slot g.row.T.Denot))) → is_some r ≡ nat_lt (c.args.id - 1) (length c.args.slots.now) → IfSome r (λ x. x.now ≡ get_or c.args.slots.now (c.args.id - 1) x.now)
        → IfSome r (λ slot. owner_of c.args.slots.now c.args.id ≡ slot.now.owner)
    found None low same = tt
    found (Some b) low same =
        let nonzero = c.if-id-eq0.false in
        let there = ltb-true (c.args.id - 1) (length c.args.slots.now) (sym low) in
        id_owner c.args.slots.now c.args.id b.now (omega (arith, nonzero)) (omega (arith, nonzero, there)) ∙ ap (λ (b : Slot g.row.T.Denot). b.owner) (sym same)
