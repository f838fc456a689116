use Rattle.std.proofs.Common.{◌∙◌, ap, sym, subst}
use Rattle.std.specs.Map.{lookup}
use Rattle.flow_base.specs.declared.types.Key.{Key}
use Rattle.flow_base.specs.contracts.types.KeyPartialEq.TheImpl.{ghosts}
use Rattle.entity_names.specs.KeyNames.{KeyNames}
use Rattle.entity_names.specs.Known.{Known, AreSaved, saved_in, saved_at}
use Rattle.entity_names.proofs.SavedLemmas.{saved_kept, saved_added, looked_up_by}
use Rattle.entity_names.proofs.entities.Entities.make_room.Goals as goal

pub invariant_of-self : goal.invariant_of-self
invariant_of-self c =
    let w : KeyNames = c.reserve.new.self in (
      c.self.invariant.0,
      (
        c.self.invariant.1.0,
        (
          c.self.invariant.1.1.0,
          subst (AreSaved c.self.inside.saved) (sym (c.get_mut.follows.holds w).0)
              (saved_kept _ c.self.inside.names.entries c.self.inside.saved c.in-Some.names.now w c.self.invariant.1.1.1 c.in-Some.ensures.value c.reserve.ensures.saved c.reserve.ensures.texts),
        ),
      ),
    )

pub invariant_of-self-in-Some : goal.invariant_of-self-in-Some
invariant_of-self-in-Some c =
    let w : KeyNames = c.reserve.new.self in (
      c.self.invariant.0,
      (
        c.self.invariant.1.0,
        (
          c.self.invariant.1.1.0,
          subst (AreSaved c.self.inside.saved) (sym (c.get_mut.follows.holds w).0)
              (saved_kept _ c.self.inside.names.entries c.self.inside.saved c.in-Some.names.now w c.self.invariant.1.1.1 c.in-Some.ensures.value c.reserve.ensures.saved c.reserve.ensures.texts),
        ),
      ),
    )

pub invariant_of-self-in-Ok-insert : goal.invariant_of-self-in-Ok-insert
invariant_of-self-in-Ok-insert c =
    let w : KeyNames = c.reserve-in-None.new.self in
    let same = c.get_mut.follows.holds-at-none in (
      c.self.invariant.0,
      (
        c.self.invariant.1.0,
        (
          c.self.invariant.1.1.0,
          subst (AreSaved c.self.inside.saved) (sym c.in-Ok-insert.ensures.entries)
              (saved_added c.in_ok-copy_key-in-None.field-0 c.self.inside.names.entries c.get_mut.follows.lender-at-none.entries c.self.inside.saved w (λ i. (same i).entries) c.self.invariant.1.1.1
              (ap (λ (k : Key). lookup (ghosts.eq k) c.self.inside.names.entries) c.in_ok-copy_key-in-None.ensures ∙ sym c.in-None.ensures.value)),
        ),
      ),
    )

pub returns-in-Ok-clause-saved : goal.returns-in-Ok-clause-saved
returns-in-Ok-clause-saved c = λ k.
    ap (λ es. saved_in (lookup (ghosts.eq k) es)) (c.get_mut.follows.holds c.reserve.new.self).0
    ∙ looked_up_by saved_in _ (ghosts.eq k) c.self.inside.names.entries c.in-Some.names.now c.reserve.new.self c.in-Some.ensures.value c.reserve.ensures.saved
    ∙ ap (λ (t : Known). saved_at t k) c.self.view_is

pub returns-in-Some-clause-saved : goal.returns-in-Some-clause-saved
returns-in-Some-clause-saved c = λ k.
    ap (λ es. saved_in (lookup (ghosts.eq k) es)) (c.get_mut.follows.holds c.reserve.new.self).0
    ∙ looked_up_by saved_in _ (ghosts.eq k) c.self.inside.names.entries c.in-Some.names.now c.reserve.new.self c.in-Some.ensures.value c.reserve.ensures.saved
    ∙ ap (λ (t : Known). saved_at t k) c.self.view_is
