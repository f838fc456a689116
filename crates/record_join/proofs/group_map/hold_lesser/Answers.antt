use Rattle.std.proofs.Common.{◌∙◌, ap, sym, List, ◌∷◌, [], ◌++◌}
use Rattle.std.specs.Map.{set_value}
use Rattle.std.proofs.lemmas.Map.Steps.{set_value_same}
use Rattle.record_join.specs.Keys.{is_key}
use Rattle.audit_record.specs.declared.types.Record.{Record}
use Rattle.record_join.proofs.Groups.{held_first}
use Rattle.record_join.proofs.Splits.{map_err}
use Rattle.record_join.proofs.group_map.hold_lesser.Goals as goal

pub returns-in-Some-clause-err : goal.returns-in-Some-clause-err
returns-in-Some-clause-err c =
    let before = c.args.lesser.now.entries in
    map_err c.exchange.result
    (λ same. (c.get_mut.follows.holds (record { closed = c.in-Some.group.now.closed; records = c.exchange.new.self })).0
    ∙ ap (λ (rs : List Record). set_value (is_key c.args.item.now.key) before (record { closed = c.in-Some.group.now.closed; records = rs })) same
    ∙ set_value_same (is_key c.args.item.now.key) before c.in-Some.group.now (sym c.in-Some.ensures.value))
    c.exchange.ensures.err

pub returns-in-Ok-clause-each : goal.returns-in-Ok-clause-each
returns-in-Ok-clause-each c = λ q.
    held_first c.args.item.now.key q c.args.item.now _ _ _ _ (c.in-Ok.ensures.updates.0 q) (ap (λ m. m.entries) c.get_mut.follows.holds-at-none)
    (c.in_ok-exchange-in-None.ensures.ok ∙ ap (λ (rs : List Record). rs ++ c.args.item.now ∷ []) c.in_ok-records-in-None.ensures) (sym c.in-None.ensures.value)
