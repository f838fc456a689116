use Rattle.std.proofs.Common.{sym, subst}
use Rattle.entity_names.specs.KeyNames.{KeyNames}
use Rattle.entity_names.specs.Known.{AreSaved}
use Rattle.entity_names.proofs.SavedLemmas.{saved_past, saved_added}
use Rattle.entity_names.proofs.entities.Entities.add_name.Goals as goal

pub invariant_of-self : goal.invariant_of-self
invariant_of-self c =
    let w : KeyNames = c.push.new.self in (
      c.self.invariant.0,
      (
        c.self.invariant.1.0,
        (
          c.self.invariant.1.1.0,
          subst (AreSaved c.set_apart-self-inside.result) (sym (c.get_mut.follows.holds w).0)
              (saved_past _ c.set_apart-self-inside.new.names.entries c.set_apart-self-inside.result w c.set_apart-self-inside.ensures.saved c.set_apart-self-inside.ensures.apart),
        ),
      ),
    )

pub invariant_of-self-in-Some : goal.invariant_of-self-in-Some
invariant_of-self-in-Some c =
    let w : KeyNames = c.push.new.self in (
      c.self.invariant.0,
      (
        c.self.invariant.1.0,
        (
          c.self.invariant.1.1.0,
          subst (AreSaved c.set_apart-self-inside.result) (sym (c.get_mut.follows.holds w).0)
              (saved_past _ c.set_apart-self-inside.new.names.entries c.set_apart-self-inside.result w c.set_apart-self-inside.ensures.saved c.set_apart-self-inside.ensures.apart),
        ),
      ),
    )

pub invariant_of-self-in-Ok-insert : goal.invariant_of-self-in-Ok-insert
invariant_of-self-in-Ok-insert c =
    let w : KeyNames = c.of_one.result in
    let same = c.get_mut.follows.holds-at-none in (
      c.self.invariant.0,
      (
        c.self.invariant.1.0,
        (
          c.self.invariant.1.1.0,
          subst (AreSaved c.set_apart-self-inside.result) (sym c.in-Ok-insert.ensures.entries)
              (saved_added c.args.key c.set_apart-self-inside.new.names.entries c.get_mut.follows.lender-at-none.entries c.set_apart-self-inside.result w (λ i. (same i).entries) c.set_apart-self-inside.ensures.saved (sym c.in-None.ensures.value)),
        ),
      ),
    )
