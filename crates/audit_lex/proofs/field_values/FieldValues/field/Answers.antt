use Rattle.std.proofs.Common.{◌≡◌, ◌∙◌, ap, sym, rules, Some}
use Rattle.audit_lex.specs.Slots.{kept}
use Rattle.audit_lex.proofs.SlotLemmas.{found_at_home}
use Rattle.audit_lex.proofs.field_values.FieldValues.field.Goals as goal

pub returns-then-eq : goal.returns-then-eq
returns-then-eq c =
    let same : c.in-Some.home ≡ c.args.self.now.kind = search rules in
    let own = c.args.self.now in
    c.value.ensures
    ∙ found_at_home c.args.name own.kind c.in-Some.place own.raw.now (kept own.slots) (sym c.in-Some.ensures ∙ ap (λ k. Some (k, c.in-Some.place)) same) own.found
