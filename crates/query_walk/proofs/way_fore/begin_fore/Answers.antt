use Rattle.std.proofs.Common.{inl, inr}
use Rattle.reach_model.specs.Rows.{lasts}
use Rattle.query_walk.specs.Arrivals.{AddsAllLed, AddsOver, IsDue}
use Rattle.query_walk.proofs.Told.{told, if_told}
use Rattle.query_walk.proofs.way_fore.begin_fore.Goals as goal

pub returns-clause-below : goal.returns-clause-below
returns-clause-below g c = c.in_ok-leave.ensures.below (λ a m. absurd (c.in_ok-waiting.ensures a m))

pub returns-clause-waits : goal.returns-clause-waits
returns-clause-waits g c =
    let rows = g.W.Rows.rows c.args.rows.now in
    let marks = c.in_ok-marks.marks in
    let x = c.args.of.0 in
    let s = c.args.since in
    let none = c.in_ok-waiting.ensures in
    let old = IsDue c.in_ok-waiting.waiting in
    let new = IsDue c.leave.new.waiting in
    let exact : AddsOver rows marks old x 0 s new = c.in_ok-leave.ensures.exact in
    if_told (λ R. AddsAllLed marks (λ _. ⊥) x 0 s (lasts R) new) rows (λ R e a.
    let led = told (λ R. AddsAllLed marks old x 0 s (lasts R) new) rows exact R e a in (
      λ m. elim (led.0 m) [ inl was ↦ absurd (none a was) | inr f ↦ inr f ],
      λ m. elim m [ inl never ↦ absurd never | inr f ↦ led.1 (inr f) ],
    ))
