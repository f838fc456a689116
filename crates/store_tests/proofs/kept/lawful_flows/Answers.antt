use Rattle.std.proofs.Common.{◌≡◌, max, [], ◌∷◌, ◌++◌, rules, sym, subst, arith, slice_index_or, length}
use Rattle.std.specs.List.{Contains}
use Rattle.flow_base.specs.declared.types.Flow.{Flow}
use Rattle.flow_base.specs.declared.types.How.TheVariants.{Fork}
use Rattle.reach_model.specs.Numbers.{IsLawfulWith, beyond}
use Rattle.reach_model.proofs.Numbering.{latest_push}
use Rattle.store_tests.proofs.kept.lawful_flows.Goals as goal

pub loop-from-preserved : goal.loop-from-preserved
loop-from-preserved c =
    let i = c.loop-from.invariant in
    let ms = (slice_index_or c.args.steps.now c.loop-from.from-index (0, 0, 0)).2 in
    let f : Flow = record { from = record { 0 = c.from-from.result }; to = record { 0 = c.from-to.result }; how = Fork; at = record { ms = ms; place = length c.as_slice.result.now }; serial = 0 } in
    let same : c.push.new.self ≡ c.loop-from.flows ++ f ∷ [] = c.in_ok-push.ensures.ok in
    let grown : c.max-count.result ≡ max c.loop-from.count (beyond f) = omega (arith, c.max-count.ensures, c.max-in-loop-from.ensures) in
    record {
      lawful = subst (IsLawfulWith c.max-count.result) (sym same) (subst (λ n. IsLawfulWith n (c.loop-from.flows ++ f ∷ [])) (sym grown) (c.lawful_flows_grow.ensures.next c.loop-from.count c.loop-from.flows f i.lawful (record {
        next_place = search rules;
        no_earlier = λ g h. omega (arith, i.last g h, c.if-ms-last.false);
        ends_differ = search rules;
        source_known_or_next = search rules;
        target_known_or_next = search rules;
      })));
      last = λ g h. latest_push c.loop-from.flows f c.loop-from.last i.last (search rules) g (subst (λ xs. Contains xs g) same h);
    }
