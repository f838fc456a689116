use Rattle.std.proofs.Common.{◌≡◌, ◌<◌, ℕ, length, Option, sym, subst, arith, inl, inr}
use Rattle.std.specs.Option.{IfSome}
use Rattle.std.proofs.lemmas.List.{length-map, take_all}
use Rattle.reach_model.specs.Rows.{firsts}
use Rattle.reach_rows.specs.Kept.{IsLastOf, Enters}
use Rattle.query_walk.specs.Links.{link_below}
use Rattle.query_walk.proofs.LinkLemmas.{link_is_below, link_kept}
use Rattle.query_walk.proofs.Told.{told, if_told}
use Rattle.query_walk.proofs.way_back.begin_back.Goals as goal

pub put-requires : goal.put-requires
put-requires g c = subst (λ (o : Option ℕ). IfSome o (λ i. i < c.in_ok-waiting.waiting.rows)) (sym c.link_below.ensures)
    (subst (λ n. IfSome (link_below c.last_into.result c.count-count.result) (λ i. i < n)) (sym c.in_ok-waiting.ensures.rows) (link_is_below c.last_into.result c.count-count.result))

pub returns-clause-waits : goal.returns-clause-waits
returns-clause-waits g c =
    let rows = g.W.Rows.rows c.args.rows.now in
    let link = c.link_below.result in (
      link,
      if_told (λ R. IsLastOf (firsts R) (Enters c.args.of.0) link) rows (λ R e.
          let F = firsts R in
          let counted = told (λ R. length R ≡ g.W.Rows.count c.args.rows.now) rows c.count-count.ensures.told R e in
          let all : length F ≡ c.count-count.result = simp length-map (omega (arith, counted, c.count-count.ensures.count)) in
          let last = told (λ R. IsLastOf (firsts R) (Enters c.args.of.0) c.last_into.result) rows c.last_into.ensures R e in
          let whole = take_all (length F) F (omega arith) in
          let is = subst (λ n. link ≡ link_below c.last_into.result n) (sym all) c.link_below.ensures in
          subst (λ L. IsLastOf L (Enters c.args.of.0) link) whole
          (link_kept c.args.of.0 F (length F) c.last_into.result link (omega arith) is (subst (λ L. IsLastOf L (Enters c.args.of.0) c.last_into.result) (sym whole) last))),
      λ i. let j = c.put.ensures.joins i in (
        λ w. elim (j.0 w) [ inl old ↦ absurd (c.in_ok-waiting.ensures.none i old) | inr e ↦ e ],
        λ e. j.1 (inr e),
      ),
    )
