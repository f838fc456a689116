use Rattle.std.proofs.Common.{◌≡◌, ◌+◌}
use Rattle.std.specs.List.{count_by}
use Rattle.reach_model.specs.Rows.{firsts, lasts}
use Rattle.query_walk.specs.Arrivals.{AddsAllLed, IsDue}
use Rattle.query_walk.specs.Links.{leaves}
use Rattle.query_walk.specs.WayFore.{IsReached}
use Rattle.query_walk.proofs.Told.{told, if_told}
use Rattle.query_walk.proofs.way_fore.reach.Goals as goal

pub returns-clause-reached : goal.returns-clause-reached
returns-clause-reached g c =
    let rows = g.W.Rows.rows c.args.rows.now in
    let old = c.args.fore.now in
    let at = c.args.at.0 in
    let object = c.args.at.1 in
    let s = c.args.since in
    let left = c.leave.new.waiting in
    let marks = c.set.new.self in
    if_told (λ R. IsReached R at object s old.marks (IsDue old.waiting) c.args.steps.now marks (IsDue left) c.leave.new.steps) rows (λ R e. record {
      marks_it = c.set.ensures;
      joins = told (λ R. AddsAllLed marks (IsDue old.waiting) object (at + 1) s (lasts R) (IsDue left)) rows c.in_ok-leave.ensures.exact R e;
      read = told (λ R. c.leave.new.steps ≡ c.args.steps.now + count_by (leaves object) (firsts R)) rows c.in_ok-leave.ensures.steps R e;
    })
