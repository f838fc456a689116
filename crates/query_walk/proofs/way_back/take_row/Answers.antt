use Rattle.std.proofs.Common.{◌≡◌, ℕ, List, Bool, ◌+◌, ◌<◌, length, get_or, take, drop, sym, ap, subst, ◌∙◌, arith, inl, inr}
use Rattle.std.specs.List.{count_by}
use Rattle.std.proofs.lemmas.List.{length-map, get_or-map}
use Rattle.flow_base.specs.declared.types.Flow.{Flow}
use Rattle.reach_model.specs.Flows.{source, target}
use Rattle.reach_model.specs.Marks.{IsMarked}
use Rattle.reach_model.specs.Rows.{Row, firsts}
use Rattle.reach_rows.specs.Kept.{AreRows, IsRowAt, IsLastOf, Enters, row_of_kept}
use Rattle.query_walk.specs.declared.way_back.WayBack.{WayBack}
use Rattle.query_walk.specs.Links.{enters_marked}
use Rattle.query_walk.specs.Waiting.{Waits}
use Rattle.query_walk.specs.WayBack.{IsBackAt, IsFound, Finds}
use Rattle.query_walk.proofs.LinkLemmas.{link_kept}
use Rattle.query_walk.proofs.Told.{told, if_told}
use Rattle.query_walk.proofs.Counts.{no_flow, count_here}
use Rattle.query_walk.proofs.WayBackLemmas.{stayed, found, finds_or_not, count_more}
use Rattle.query_walk.proofs.way_back.take_row.Goals as goal

pub returns-clause-exact : goal.returns-clause-exact
returns-clause-exact g c =
    let k = c.args.index in
    let row = c.in_ok-row.row in
    let f = (row_of_kept row).first in
    let read = c.in_ok-row.ensures in
    let old = c.args.back.now in
    let new = c.take_source.new.back in
    let n = g.W.Rows.known c.args.rows.now in
    let t = c.args.until in
    let link = c.link_below.result in
    let put = c.put.new.self in
    if_told (λ R. (v : ℕ) → Waits old.waiting k → IsBackAt (firsts R) n (k + 1) v t old.marks (Waits old.waiting) old.hops.items → IsBackAt (firsts R) n k v t new.marks (Waits new.waiting) new.hops.items) (g.W.Rows.rows c.args.rows.now) (λ R e v waits b.
    let F = firsts R in
    let lawful = told AreRows _ c.requires.lawful R e in
    let here = told (λ R. IsRowAt R k row) _ read.exact R e in
    let counted = told (λ R. length R ≡ g.W.Rows.count c.args.rows.now) _ c.requires.counted R e in
    let low : k < length R = omega (arith, counted, c.requires.index) in
    let h : k < length F = simp length-map low in
    let before : IsLastOf (take k F) (Enters (target f)) link = link_kept (target f) F k row.before_to link (omega arith) c.link_below.ensures here.before_to in
    let is : (d : Flow) → get_or F k d ≡ f = λ d. get_or-map (λ (r : Row). r.first) R k (row_of_kept row) d low ∙ ap (λ (r : Row). r.first) (here.is (row_of_kept row)) in
    elim (finds_or_not old.marks t f) [
      | inl finds ↦
          let now = told (λ R. Finds old.marks t f → IsFound (firsts R) k f old.marks (Waits put) old.hops.items c.row.new.steps new.marks (Waits new.waiting) new.hops.items c.take_source.new.steps) _ c.in_ok-take_source.ensures.found R (read.same.0 ∙ e) finds in
          found F lawful.ascend n k v t f h is (read.ends.1) old.marks (Waits old.waiting) old.hops.items waits b link before (Waits put) c.put.ensures.joins c.row.new.steps c.take_source.new.steps new.marks (Waits new.waiting) new.hops.items (omega (arith, read.ends.0, c.requires.len)) finds now
      | inr others ↦
          let same = (c.in_ok-take_source.ensures.others others).0 in
          subst (λ (w : WayBack). IsBackAt F n k v t w.marks (Waits w.waiting) w.hops.items) (sym same) (stayed F lawful.ascend n k v t f h is (read.ends.1) old.marks (Waits old.waiting) old.hops.items waits b link before (Waits put) c.put.ensures.joins others)
    ])

pub returns-clause-steps : goal.returns-clause-steps
returns-clause-steps g c =
    let k = c.args.index in
    let row = c.in_ok-row.row in
    let f = (row_of_kept row).first in
    let read = c.in_ok-row.ensures in
    let M = c.args.back.now.marks in
    let old = c.args.back.now in
    let new = c.take_source.new.back in
    let M' = new.marks in
    let t = c.args.until in
    if_told (λ R. ((d : Flow) → IsMarked M (target (get_or (firsts R) k d))) → c.take_source.new.steps + count_by (enters_marked M) (drop (k + 1) (firsts R)) ≡ c.args.steps.now + count_by (enters_marked M') (drop k (firsts R))) (g.W.Rows.rows c.args.rows.now) (λ R e m.
    let F = firsts R in
    let counted = told (λ R. length R ≡ g.W.Rows.count c.args.rows.now) _ c.requires.counted R e in
    let low : k < length R = omega (arith, counted, c.requires.index) in
    let h : k < length F = simp length-map low in
    let one = count_here (enters_marked M) F k h (m no_flow) in
    elim (finds_or_not M t f) [
      | inl finds ↦
          let now = told (λ R. Finds M t f → IsFound (firsts R) k f M (Waits c.put.new.self) old.hops.items c.row.new.steps M' (Waits new.waiting) new.hops.items c.take_source.new.steps) _ c.in_ok-take_source.ensures.found R (read.same.0 ∙ e) finds in
          let more = count_more M (source f) (omega (arith, read.ends.0, c.requires.len)) finds.1 (drop k F) in
          let all = ap (λ (marks : List Bool). count_by (enters_marked marks) (drop k F)) now.marks_it in
          omega (arith, one, now.read, more, all, read.step)
      | inr others ↦
          let same = c.in_ok-take_source.ensures.others others in
          let all = ap (λ (w : WayBack). count_by (enters_marked w.marks) (drop k F)) same.0 in
          omega (arith, one, same.1, all, read.step)
    ])
