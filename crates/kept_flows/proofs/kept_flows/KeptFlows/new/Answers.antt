use Rattle.std.proofs.Common.{sym, []}
use Rattle.kept_flows.proofs.Tied.{tied_to_none}
use Rattle.kept_flows.proofs.kept_flows.KeptFlows.new.Goals as goal

pub invariant_of-result : goal.invariant_of-result
invariant_of-result g c =
    tied_to_none (g.R.Reducer.stands_for c.args.reducer) (g.R.Reducer.holds c.args.reducer) (g.K.Rows.rows c.args.rows) (g.K.Rows.count c.args.rows) (g.K.Rows.known c.args.rows)
    c.requires.stands c.requires.holds c.requires.none c.requires.count c.requires.known

pub returns-clause-none : goal.returns-clause-none
returns-clause-none g c = λ told. record {
  rows = [];
  told = told;
  lawful = c.lawful_flows_grow.ensures.none.lawful;
  keeps = c.verdicts_make_the_rows.ensures.none g.R.Reducer.mode;
  counted = sym c.requires.count;
  objects_known = sym c.requires.known;
}
