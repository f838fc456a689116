use Rattle.std.proofs.Common.{◌≡◌, ◌∙◌, sym, ap, subst, List, ℕ}
use Rattle.std.proofs.lemmas.Result.{on_ok_weaker}
use Rattle.audit_order.specs.declared.sorter.Turn.{Turn}
use Rattle.audit_order.specs.declared.counts.Tally.{Tally}
use Rattle.order_kin.specs.Families.{AllKept, StandsForLines, child_of}
use Rattle.audit_order.specs.Lines.{Writes}
use Rattle.audit_order.specs.Tally.{spot_of, tally_after}
use Rattle.audit_order.specs.Turns.{State, Turned, tally_with}
use Rattle.audit_order.specs.Sorted.{state_of, event_of}
use Rattle.audit_order.proofs.CourseLemmas.{gives}
use Rattle.audit_order.proofs.sorter.write_item.Goals as goal

pub returns-clause-gives : goal.returns-clause-gives
returns-clause-gives c = on_ok_weaker c.note.result
    (λ noted. record {
      child = c.in_ok-child.child;
      told = λ lines stands. subst (λ (l : List ℕ). c.in_ok-child.child ≡ child_of c.args.sorter.now.kin.compat lines l) c.as_slice-line.ensures
          (subst (λ (k : AllKept). (lines : List (List ℕ)) → StandsForLines k lines → c.in_ok-child.child ≡ child_of k.compat lines c.as_slice-line.result.now)
          (ap (λ (s : State). s.kin) c.in_ok-turn_to.ensures.turned.is) c.in_ok-child.ensures lines stands);
      gives = λ before now given s.
          gives c.turn_to.new.sorter.writer c.write_told.new.self (record { line = c.args.item.line; child = c.in_ok-child.child })
          (subst (λ (l : List ℕ). Writes c.turn_to.new.sorter.writer c.write_told.new.self (record { line = l; child = c.in_ok-child.child })) c.as_slice-line.ensures c.in_ok-write_told.ensures)
          before now given (c.in_ok-turn_to.ensures.keeps before now given s);
    })
    c.note.ensures

pub returns-clause-turned : goal.returns-clause-turned
returns-clause-turned c = on_ok_weaker c.note.result
    (λ noted.
    let old = state_of c.args.sorter.now in
    let mid = state_of c.turn_to.new.sorter in
    let turned = c.in_ok-turn_to.ensures.turned in
    let tally = tally_with (event_of c.args.sorter.now.turn) c.args.sorter.now.tally c.args.item in
    let is = noted ∙ ap (λ (s : State). tally_after s.tally (spot_of c.args.item)) turned.is in
    subst (λ (t : Turn). Turned old (record mid { event = event_of t; tally = c.note.new.self }) c.args.item tally)
    (sym c.note_end.ensures)
    (record {
      passes = turned.passes;
      is = ap (λ (t : Tally). record mid { tally = t }) is ∙ ap (λ (s : State). record s { tally = tally }) turned.is;
    }))
    c.note.ensures
