use Rattle.std.proofs.Common.{◌≡◌, ◌<◌, ◌≤◌, ◌∙◌, ◌++◌, ◌∷◌, [], List, length, take, sym, ap, subst, arith}
use Rattle.std.proofs.lemmas.List.{take_all, take_more}
use Rattle.reduced_store.specs.Taking.{HasTaken, MayCome}
use Rattle.reach_model.specs.Rows.{firsts}
use Rattle.row_codec.specs.Rows.{CanBeSpelled}
use Rattle.row_codec.specs.declared.rows.StoreRow.{StoreRow}
use Rattle.reduced_store.proofs.TakeLemmas.{may_come, taken_more, taken_none}
use Rattle.reduced_store.proofs.taking.take_rows.Goals as goal

pub loop-row-init : goal.loop-row-init
loop-row-init c =
    let n = taken_none c.args.to.now (record { entities = []; extends = [] }) in
    record { rows = n.rows; lawful = n.lawful; places = n.places; recent = n.recent; renewed = n.renewed; entities = c.new.ensures; extended = c.new-2.ensures }

pub take_row-requires-clause-next : goal.take_row-requires-clause-next
take_row-requires-clause-next c =
    subst (MayCome (firsts c.loop-row.to.rows)) (sym c.row-item.is)
    (may_come c.args.to.now c.loop-row.to _ _ c.args.rows.now c.loop-row.row-index c.row-item.result c.requires.next c.loop-row.invariant c.loop-row-test.true)

pub take_row-requires-clause-spelled : goal.take_row-requires-clause-spelled
take_row-requires-clause-spelled c =
    subst CanBeSpelled (sym c.row-item.is) (c.rows_that_fit_can_be_spelled.ensures c.args.rows.now c.requires.fit c.loop-row.row-index c.row-item.result c.loop-row-test.true)

pub loop-row-preserved : goal.loop-row-preserved
loop-row-preserved c =
    let rows = c.args.rows.now in
    let i = c.loop-row.row-index in
    subst (HasTaken c.args.to.now c.take_row.new.to (record { entities = []; extends = [] }) c.take_row.new.around) (sym (take_more rows i c.row-item.result c.loop-row-test.true ∙ ap (λ (r : StoreRow). take i rows ++ r ∷ []) (sym c.row-item.is)))
    (taken_more c.args.to.now c.loop-row.to c.take_row.new.to _ c.loop-row.around c.take_row.new.around (take i rows) (c.row-item.result ∷ []) c.loop-row.invariant c.in_ok-take_row.ensures.taken)

pub returns-clause-taken : goal.returns-clause-taken
returns-clause-taken c =
    let rows = c.args.rows.now in
    let i = c.loop-row.row-index in
    subst (HasTaken c.args.to.now c.loop-row.to (record { entities = []; extends = [] }) c.loop-row.around) (take_all i rows (omega (arith, c.loop-row-test.false))) c.loop-row.invariant
