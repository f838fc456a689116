use Rattle.std.proofs.Common.{arith, rules, ◌≡◌, ◌↔◌, ◌+◌, ◌*◌, [], length, get_or, refl, ap, subst}
use Rattle.std.proofs.lemmas.List.Elements.{Contains-get_or}
use Rattle.reach_model.specs.Flows.{source, target}
use Rattle.reach_model.proofs.Numbering.{ends_known}
use Rattle.reduce_source.specs.Shelves.{IsWide}
use Rattle.reduce_source.proofs.Numbers.{enough}
use Rattle.reduce_source.proofs.SetLemmas.{same_tables}
use Rattle.reduce_source.proofs.sets.SourceSets.reserve.Goals as goal

both : {A B C : Type 0} → A ↔ B → B ↔ C → A ↔ C
both f g = (λ a. g.0 (f.0 a), λ c. f.1 (g.1 c))

pub widen_ends-requires : goal.widen_ends-requires
widen_ends-requires c = record {
  ends = λ k d h.
      let e = ends_known c.args.flows.now (get_or c.args.flows.now k d) (Contains-get_or c.args.flows.now k d h) in
      let n = c.known_of.ensures.known in
      let p = c.in_ok-grow.ensures.room in
      let places : c.len.result ≡ length c.grow.new.standings.items = search (rules, c.len.ensures) in
      let o = c.in_ok-grow-2.ensures.objects in
      let same = ap (λ s. length s.items) c.allow.ensures.rest.1 in
      (omega (arith, e.0, n, p, places, o, same), omega (arith, e.1, n, p, places, o, same));
}

pub returns-clause-room : goal.returns-clause-room
returns-clause-room c =
    let numbers = c.args.self.now.count + length c.args.flows.now in
    let places : c.len.result ≡ length c.grow.new.standings.items = search (rules, c.len.ensures) in
    let p = c.in_ok-grow.ensures.room in
    record {
      ends = λ f t. let e = ends_known c.args.flows.now f t in let n = c.known_of.ensures.known in (omega (arith, e.0, n, p), omega (arith, e.1, n, p));
      objects =
          let o = c.in_ok-grow-2.ensures.objects in
          let a = ap (λ x. length x.items) c.allow.ensures.rest.1 in
          let w = c.widen_ends.ensures.objects in
          let m = ap (λ x. length x.items) c.make_room.ensures.rest.0 in
          omega (arith, places, o, a, w, m);
      wide = λ f (k, h, e).
          let w = subst (IsWide c.widen_ends.new.self) e (c.in_ok-widen_ends.ensures.wide k f h) in
          let from = ap (λ x. length (get_or x.items (source f) [])) c.make_room.ensures.rest.0 in
          let to = ap (λ x. length (get_or x.items (target f) [])) c.make_room.ensures.rest.0 in
          let width = c.make_room.ensures.rest.1 in
          (omega (arith, w.0, from, width), omega (arith, w.1, to, width));
      numbers =
          let e = enough numbers in
          let d = ap (λ n. 8192 * n) c.div_ceil.ensures in
          let a = c.allow.ensures.width in
          let w = c.widen_ends.ensures.rest.1 in
          let m = c.make_room.ensures.rest.1 in
          omega (arith, e, d, a, w, m);
      counted = let from = c.from.ensures in let few = c.if-numbers-ge-NUMBERS.false in omega (arith, from, few);
      fits = c.in_ok-make_room.ensures.room;
    }

pub returns-in_err-make_room-clause-same : goal.returns-in_err-make_room-clause-same
returns-in_err-make_room-clause-same c = λ K s.
    same_tables c.args.self.now _ K c.grow.ensures.same
    (λ v n. both (c.make_room.ensures.same v n) (both (c.widen_ends.ensures.same v n) (both (c.allow.ensures.same v n) (c.grow-2.ensures.same v n)))) refl
    (λ few. let most = c.grow.ensures.most in let ids = c.known_of.ensures.most in omega arith) s

pub returns-clause-same : goal.returns-clause-same
returns-clause-same c = λ K s.
    same_tables c.args.self.now _ K c.grow.ensures.same
    (λ v n. both (c.make_room.ensures.same v n) (both (c.widen_ends.ensures.same v n) (both (c.allow.ensures.same v n) (c.grow-2.ensures.same v n)))) refl
    (λ few. let most = c.grow.ensures.most in let ids = c.known_of.ensures.most in omega arith) s
