use Rattle.std.proofs.Common.{sym, ap, ◌∙◌, get_or, take, [], rules}
use Rattle.std.specs.Option.{option_to_list}
use Rattle.audit_lex.specs.Tokens.{value_in}
use Rattle.audit_lex.specs.Slots.{names_of}
use Rattle.audit_lex.specs.FieldTable.{slot_rules}
use Rattle.audit_lex.proofs.TokenLemmas.{IsFront, named_front, offered_value}
use Rattle.audit_lex.proofs.fronts.front_named.Goals as goal

pub returns : goal.returns
returns c =
    let usual = c.args.usual in
    let text = c.args.text.now in
    let is = c.requires in
    let named : IsFront text usual.len c.len_of_value-end.result = named_front text usual.len c.len_of_value-end.result (sym is.len) is.named c.len_of_value-end.ensures.len in
    record {
      offers = λ place below.
          let asked = get_or (names_of (slot_rules c.args.kind)) place [] in
          ap (λ token. value_in (option_to_list token) asked) named.token
          ∙ offered_value (take usual.len text) _ asked usual.place place named.some (is.place place below);
      within = is.within;
      value = search rules;
      rest = named.rest;
      shorter = search rules;
    }
