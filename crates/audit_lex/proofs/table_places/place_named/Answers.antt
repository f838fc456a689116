use Rattle.std.proofs.Common.{◌≡◌, ◌∙◌, sym, refl}
use Rattle.audit_lex.specs.FieldTable.{name_of}
use Rattle.audit_lex.proofs.TableLemmas.{exact_place, no_field_place}
use Rattle.audit_lex.proofs.table_places.place_named.Goals as goal

pub returns-in-None-clause-place : goal.returns-in-None-clause-place
returns-in-None-clause-place c = λ place below. no_field_place c.args.kind c.args.name.now place c.in-None.ensures below

pub returns-in-Some-clause-place : goal.returns-in-Some-clause-place
returns-in-Some-clause-place c = λ place below.
    let named : name_of c.in-Some.field ≡ c.args.name.now = (c.in-Some.ensures c.in-Some.field).0 refl in
    let exact = exact_place c.args.kind c.in-Some.field place below in
    (λ is. exact.0 (sym c.place_of_field.ensures ∙ is) ∙ named, λ is. c.place_of_field.ensures ∙ exact.1 (is ∙ sym named))
