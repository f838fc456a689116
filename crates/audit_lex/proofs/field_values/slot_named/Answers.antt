use Rattle.std.proofs.Common.{◌≡◌, ◌∙◌, ap, sym, refl, [], None}
use Rattle.std.specs.Option.{option_to_list}
use Rattle.audit_lex.specs.Tokens.{token_at, tokens_of, value_in}
use Rattle.audit_lex.proofs.SlotLemmas.{is_some_byte, found_later, value_none}
use Rattle.audit_lex.proofs.field_values.slot_named.Goals as goal
use Rattle.audit_lex.proofs.field_values.slot_named.Goals.{then-may_be_named+else-not-is_empty, else-may_be_named}

pub loop-rest-preserved : goal.loop-rest-preserved
loop-rest-preserved c =
    let rest = c.loop-rest.rest.now in
    let name = c.args.name.now in
    let some = is_some_byte rest (sym c.is_empty.ensures ∙ c.loop-rest-test.true) in
    let next = c.past_spaces-rest-in-loop-rest in
    let none : value_in (option_to_list (token_at rest)) name ≡ None = elim c.if-may_be_named.branch [
      | then-may_be_named+else-not-is_empty w ↦ sym w.slot_if_named-slot.ensures ∙ value_none w.slot_if_named-slot.result.now (sym w.is_empty-then-may_be_named.ensures ∙ w.if-not-is_empty.false)
      | else-may_be_named w ↦ c.may_be_named.ensures.no w.if-may_be_named.false
    ] in
    record {
      begins = next.ensures.begins;
      rest = c.loop-rest.invariant.rest
          ∙ found_later rest name [] c.past_token.result.now some (c.loop-rest.invariant.begins some) (sym none) refl (ap tokens_of c.past_token.ensures.rest)
          ∙ c.past_others.ensures.same name c.requires refl
          ∙ ap (λ tokens. value_in tokens name) (sym next.ensures.same);
    }
