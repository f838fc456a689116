use Rattle.std.proofs.Common.{◌≡◌, ◌∙◌, ◌≤◌, ◌++◌, max, length, map, arith, ap, subst, sym, refl}
use Rattle.std.specs.List.{All}
use Rattle.reach_rows.specs.Kept.{row_of_kept}
use Rattle.saved_rows.specs.Joining.{AreOn, batch_rows, mark_in, rows_now, with_extends}
use Rattle.saved_rows.specs.Saved.{AreSpelledFrom, IsSingle}
use Rattle.reduced_store.specs.Held.{AreHeld, Held}
use Rattle.reduced_store.specs.Placing.{IsTied, StandFrom}
use Rattle.reduced_store.proofs.HeldLemmas.{held_along, now_settled, plain_extended, plain_renewed}
use Rattle.reduced_store.proofs.rows.StoreRows.settle.Goals as goal

pub invariant_of-self : goal.invariant_of-self
invariant_of-self c =
    let a = c.self.inside.rows in
    let objects = c.self.inside.objects.items in
    let R = a.kept ++ a.recent in
    let es = c.args.extends.now in
    let new = c.settle.new.self in
    let now : rows_now new ≡ with_extends R es = now_settled new c.settle.ensures.recent c.settle.ensures.renewed ∙ c.settle.ensures.kept in (
      subst (λ rows. AreHeld rows objects) (sym now) (held_along (rows_now a) (with_extends R es) objects (plain_renewed (mark_in a.renewed) 0 R ∙ sym (plain_extended R es)) c.self.invariant.0),
      subst (All IsSingle) (sym c.settle.ensures.recent) (λ i d h. absurd (omega (arith, h))),
    )

pub returns-clause-settled : goal.returns-clause-settled
returns-clause-settled c = record {
  recent = c.settle.ensures.recent;
  none = c.settle.ensures.renewed;
  saved = ap (map row_of_kept) (now_settled c.settle.new.self c.settle.ensures.recent c.settle.ensures.renewed);
}

pub returns-clause-tied : goal.returns-clause-tied
returns-clause-tied c = subst IsTied c.self.view_is refl

pub returns-clause-there : goal.returns-clause-there
returns-clause-there c = λ bytes on stand.
    let place = c.args.place in
    let es = c.args.extends.now in
    let here = subst (λ (h : Held). AreOn bytes h.placed) (sym c.self.view_is) on in
    let stands = subst (λ (h : Held). StandFrom bytes c.args.firm place (batch_rows h.placed.recent es)) (sym c.self.view_is) stand in
    c.settle.ensures.there bytes here (stands c.max-firm.result (omega (arith, c.max-firm.ensures)))
