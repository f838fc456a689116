use Rattle.std.proofs.Common.{rules, ◌≡◌, ◌+◌, ◌++◌, ◌∷◌, [], ◌∙◌, length, sym, ap, subst, arith}
use Rattle.std.specs.Vec.{vec_len, vec_capacity}
use Rattle.reduce_source.specs.Owners.{IsFree}
use Rattle.reduce_source.proofs.Shelves.{IsPutAt, pushed, id_free}
use Rattle.reduce_source.proofs.pool.Pool.add.Goals as goal

pub returns-in-None-clause-free : goal.returns-in-None-clause-free
returns-in-None-clause-free g c =
    let old = c.args.self.now.slots.items in
    let same = c.in-None.ensures.same in
    let items = c.push_reserved.ensures.items in
    let more : length c.push_reserved.new.self.items ≡ length old + 1 = search (rules, items, same) in
    let len : c.len.result ≡ length c.push_reserved.new.self.items = search (rules, c.len.ensures) in
    subst IsFree (sym (id_free old c.len.result (omega (arith, more, len)) (omega (arith, more, len)))) tt

pub returns-in-None-clause-puts : goal.returns-in-None-clause-puts
returns-in-None-clause-puts g c =
    let old = c.args.self.now.slots.items in
    let same = c.in-None.ensures.same in
    let items = c.push_reserved.ensures.items in
    let more : length c.push_reserved.new.self.items ≡ length old + 1 = search (rules, items, same) in
    let len : c.len.result ≡ length c.push_reserved.new.self.items = search (rules, c.len.ensures) in
    let put : IsPutAt c.len.result c.args.slot old c.push_reserved.new.self.items = subst (IsPutAt c.len.result c.args.slot old) (sym (items ∙ ap (λ v. v.items ++ c.args.slot ∷ []) same)) (pushed old c.args.slot c.len.result (len ∙ more)) in
    record {
      value = put.value;
      owner = put.owner;
      others = put.others;
      owners = put.owners;
      count = let l = c.push_reserved.ensures.len in let s = ap (λ v. vec_len v) same in omega (arith, l, s);
      capacity = c.push_reserved.ensures.capacity ∙ ap (λ v. vec_capacity v) same;
    }
