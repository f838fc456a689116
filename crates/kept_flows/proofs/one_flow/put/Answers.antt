use Rattle.std.proofs.Common.{◌<◌, ◌^◌, length, max, sym, ap, subst, ◌∙◌, arith}
use Rattle.std.specs.Option.{option_map}
use Rattle.reach_model.specs.Numbers.{beyond}
use Rattle.reach_model.specs.Rows.{rows_after}
use Rattle.reach_model.proofs.Numbering.{known_push}
use Rattle.kept_flows.specs.KeptFlows.{AreTied}
use Rattle.kept_flows.specs.Taking.{count_after}
use Rattle.kept_flows.proofs.Changes.{length_after}
use Rattle.kept_flows.proofs.Tied.{tied_to, tied_after}
use Rattle.kept_flows.proofs.one_flow.put.Goals as goal

pub put_row-requires-clause-puts : goal.put_row-requires-clause-puts
put_row-requires-clause-puts g c =
    let M = g.M.Reducer in
    let K = g.K.Rows in
    let all = c.args.rows.now in
    let tied = c.requires.tied in
    let fits = c.decide-verdict.ensures.fits in
    record {
      some = (tied.rows, tied.counted, fits tied.rows tied.held);
      told = λ R e.
          let t = tied_to (M.stands_for c.args.reducer.now) (M.holds c.args.reducer.now) (K.rows all) (K.count all) (K.known all) R tied e in
          (c.requires.next.later R e, fits R t.2);
    }

pub returns-clause-tied : goal.returns-clause-tied
returns-clause-tied g c =
    let M = g.M.Reducer in
    let K = g.K.Rows in
    let f = c.args.flow.now in
    let d = c.decide-verdict.result in
    let all = c.args.rows.now in
    let after = c.put_row.new.rows in
    let old = c.args.reducer.now in
    let tables = c.note.new.self in
    let tied = c.requires.tied in
    let puts = c.put_row.ensures.puts in
    let fits = c.decide-verdict.ensures.fits in
    let few : length tied.rows < 2 ^ 63 = let n = tied.counted.counted in omega (arith, n, c.requires.next.few) in
    let next = tied_after (M.stands_for old) (M.holds old) (M.stands_for tables) (M.holds tables) (K.rows all) (K.rows after) (K.count all) (K.known all) f d tied
    (fits tied.rows tied.held) (c.note.ensures.holds tied.rows tied.held few (fits tied.rows tied.held))
    (λ R e.
    let t = tied_to (M.stands_for old) (M.holds old) (K.rows all) (K.count all) (K.known all) R tied e in
    let few : length R < 2 ^ 63 = let n = t.0.counted in omega (arith, n, c.requires.next.few) in
    let differ = c.requires.next.goes_on.ends_differ in (
      c.note.ensures.rows R t.1 (record { after = c.requires.next.later R e; differ = differ; verdict = c.decide-verdict.ensures.verdict R t.1 differ; few = few }),
      c.note.ensures.holds R t.2 few (fits R t.2),
    ))
    puts.rows_are in
    subst (λ n. AreTied (M.stands_for tables) (M.holds tables) (K.rows after) n (K.known after)) (sym puts.count_is)
    (subst (λ n. AreTied (M.stands_for tables) (M.holds tables) (K.rows after) (count_after (K.count all) d) n) (sym puts.known_is) next)

pub returns-clause-taken : goal.returns-clause-taken
returns-clause-taken g c = λ F s n.
    let M = g.M.Reducer in
    let K = g.K.Rows in
    let f = c.args.flow.now in
    let d = c.decide-verdict.result in
    let all = c.args.rows.now in
    let puts = c.put_row.ensures.puts in
    let t = tied_to (M.stands_for c.args.reducer.now) (M.holds c.args.reducer.now) (K.rows all) (K.count all) (K.known all) s.rows c.requires.tied s.told in
    let verdict = c.decide-verdict.ensures.verdict s.rows t.1 c.requires.next.goes_on.ends_differ in
    record {
      rows = rows_after s.rows f d;
      told = puts.rows_are ∙ ap (option_map (λ R. rows_after R f d)) s.told;
      lawful = n.lawful;
      keeps = c.verdicts_make_the_rows.ensures.kept M.mode F s.rows f d n.lawful s.keeps verdict;
      counted = length_after s.rows f d ∙ ap (λ k. count_after k d) s.counted ∙ sym puts.count_is;
      objects_known = known_push F f ∙ ap (λ k. max k (beyond f)) s.objects_known ∙ sym puts.known_is;
    }
