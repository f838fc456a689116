use Rattle.std.proofs.Common.{◌≡◌, ℕ, ◌+◌, ◌<◌, ◌-◌, ◌^◌, [], ◌∷◌, ◌++◌, Some, true, false, cond, sym, ap, subst, ◌∙◌, arith, inl, inr, ◌==◌, ◌&&◌}
use Rattle.std.specs.Prelude.{nat_eq}
use Rattle.indexmap.specs.IndexMap.{get}
use Rattle.reach_model.specs.Flows.{source, target}
use Rattle.reach_model.specs.Versions.{version}
use Rattle.reach_model.specs.Pairs.{pair_eq}
use Rattle.reach_model.proofs.PairLemmas.{pair_cases}
use Rattle.version_graph.specs.Tables.{IsLeftOf, version_or}
use Rattle.version_graph.proofs.Growing.{few_versions, version_next, seal_next, left_here, left_of_there}
use Rattle.version_graph.proofs.versions.Versions.keep.Goals as goal

pub returns-clause-next : goal.returns-clause-next
returns-clause-next c = λ K s few.
    let f = c.args.flow.now in
    let self = c.args.self.now in
    let L = K ++ f ∷ [] in
    let old = λ (x : ℕ). version_or (get nat_eq self.objects x) in
    let low : (old (target f)).number < 2 ^ 64 - 1 = omega (arith, s.numbers (target f), few_versions K (target f), few) in
    let numbers : (x : ℕ) → (version_or (get nat_eq c.leave-left.new.objects x)).number ≡ version L x = λ x.
    c.leave-left.ensures.numbers x ∙ c.enter.ensures.numbers low x
    ∙ ap (λ n. n + cond ((target f == x) && (old x).sealed) 1 0) (s.numbers x)
    ∙ ap (λ b. version K x + cond ((target f == x) && b) 1 0) (s.seals x)
    ∙ sym (version_next K f x)
    in
    let left : Some c.leave-left.result ≡ Some (version L (source f)) = ap Some (c.leave-left.ensures.left ∙ numbers (source f)) in
    record {
      numbers = numbers;
      seals = λ x. c.leave-left.ensures.seals x
          ∙ ap (cond (source f == x) true) (c.enter.ensures.seals x ∙ ap (cond (target f == x) false) (s.seals x))
          ∙ sym (seal_next K f x);
      links = λ u v. elim (pair_cases (source f) (target f) u v) [
        | inl e ↦ subst (λ x. IsLeftOf L x v (get pair_eq c.set_link.new.links (x, v))) e.0 (subst (λ y. IsLeftOf L (source f) y (get pair_eq c.set_link.new.links (source f, y))) e.1
            (subst (IsLeftOf L (source f) (target f)) (sym (c.set_link.ensures.here ∙ left)) (left_here K f)))
        | inr n ↦ subst (IsLeftOf L u v) (sym (c.set_link.ensures.others u v n)) (left_of_there K f u v n (get pair_eq self.links (u, v)) (s.links u v))
      ];
    }
