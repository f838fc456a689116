use Rattle.std.proofs.Common.{refl, sym, ◌∙◌, ap, List, ◌-◌}
use Rattle.record_join.specs.Events.{text_of, next_left}
use Rattle.audit_record.specs.declared.types.Record.{Record}
use Rattle.record_join.proofs.Stands.{at_view, alike, never_empty, released_is, next_stands}
use Rattle.record_join.proofs.join.Join.release.Goals as goal

pub unreachable-requires : goal.unreachable-requires
unreachable-requires c =
    let w = c.self.invariant in
    never_empty w.stands (c.in_default.ensures.none.0 refl) (c.requires.ripe w.limits w.lists (at_view (sym c.self.view_is) w.stands))

pub returns-clause-event : goal.returns-clause-event
returns-clause-event c = λ limits s stands.
    released_is (at_view c.self.view_is stands) c.in-Some.key c.in-Some.group _ _ _ c.in-Some.ensures.some
    (c.requires.ripe limits s stands) c.time_of.ensures c.is_late.ensures

pub returns-clause-stands : goal.returns-clause-stands
returns-clause-stands c = λ limits s stands.
    alike _ _ _ _ _ _ _ refl (c.text_without-self-inside.ensures ∙ ap (λ (rs : List Record). c.self.inside.text - text_of rs) c.as_slice.ensures) c.release.ensures
    (next_stands (at_view c.self.view_is stands) (c.in-Some.key, c.in-Some.group) _ c.in-Some.ensures.some (c.requires.ripe limits s stands))

pub invariant_of-self : goal.invariant_of-self
invariant_of-self c =
    let w = c.self.invariant in
    record {
      limits = w.limits;
      lists = next_left w.limits w.lists;
      stands = alike _ _ _ _ _ _ _ refl (c.text_without-self-inside.ensures ∙ ap (λ (rs : List Record). c.self.inside.text - text_of rs) c.as_slice.ensures) c.release.ensures
          (next_stands w.stands (c.in-Some.key, c.in-Some.group) _ c.in-Some.ensures.some (c.requires.ripe w.limits w.lists (at_view (sym c.self.view_is) w.stands)));
    }
