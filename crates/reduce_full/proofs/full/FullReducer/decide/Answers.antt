use Rattle.std.proofs.lemmas.Bool.{both_ways}
use Rattle.reach_model.specs.Rows.{firsts}
use Rattle.version_graph.proofs.Linking.{same_links}
use Rattle.reduce_full.proofs.Deciding.{linked_ends}
use Rattle.reduce_full.proofs.full.FullReducer.decide.Goals as goal

pub returns-then-linked-clause-verdict : goal.returns-then-linked-clause-verdict
returns-then-linked-clause-verdict c = λ R s _.
    (same_links R c.args.flow.now s.ascends s.ends).0 ((c.linked-linked.ensures (firsts R) (s.held).versions).0 c.if-linked.true)

pub returns-then-linked-clause-fits : goal.returns-then-linked-clause-fits
returns-then-linked-clause-fits c = λ R h.
    linked_ends R c.args.flow.now h.pairs ((c.linked-linked.ensures (firsts R) h.versions).0 c.if-linked.true)

pub returns-clause-verdict : goal.returns-clause-verdict
returns-clause-verdict c = λ R s _ l.
    both_ways c.linked-linked.result c.if-linked.false ((c.linked-linked.ensures (firsts R) (s.held).versions).1 ((same_links R c.args.flow.now s.ascends s.ends).1 l))
