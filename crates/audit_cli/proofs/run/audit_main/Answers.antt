use Rattle.audit_cli.proofs.run.audit_main.Goals as goal

pub returns-clause-headline : goal.returns-clause-headline
returns-clause-headline g c = (c.standard_limits-limits.result, c.standard_limits-limits.ensures, c.audit_run.ensures.headline)

pub returns-clause-prefix : goal.returns-clause-prefix
returns-clause-prefix g c = (c.standard_limits-limits.result, c.standard_limits-limits.ensures, c.audit_run.ensures.prefix)

pub returns-clause-full : goal.returns-clause-full
returns-clause-full g c = (c.standard_limits-limits.result, c.standard_limits-limits.ensures, c.audit_run.ensures.full)

pub returns-clause-exact : goal.returns-clause-exact
returns-clause-exact g c = (c.standard_limits-limits.result, c.standard_limits-limits.ensures, c.audit_run.ensures.exact)

pub returns-clause-complete : goal.returns-clause-complete
returns-clause-complete g c = (c.standard_limits-limits.result, c.standard_limits-limits.ensures, c.audit_run.ensures.complete)

pub returns-clause-no_further : goal.returns-clause-no_further
returns-clause-no_further g c = (c.standard_limits-limits.result, c.standard_limits-limits.ensures, c.audit_run.ensures.no_further)

pub returns-clause-reduced : goal.returns-clause-reduced
returns-clause-reduced g c = (c.standard_limits-limits.result, c.standard_limits-limits.ensures, c.audit_run.ensures.reduced)

pub returns-clause-queried : goal.returns-clause-queried
returns-clause-queried g c = (c.standard_limits-limits.result, c.standard_limits-limits.ensures, c.audit_run.ensures.queried)

pub returns-clause-refused : goal.returns-clause-refused
returns-clause-refused g c = (c.standard_limits-limits.result, c.standard_limits-limits.ensures, c.audit_run.ensures.refused)

pub returns-clause-unanswered : goal.returns-clause-unanswered
returns-clause-unanswered g c = (c.standard_limits-limits.result, c.standard_limits-limits.ensures, c.audit_run.ensures.unanswered)

pub returns-clause-watched : goal.returns-clause-watched
returns-clause-watched g c = (c.standard_limits-limits.result, c.standard_limits-limits.ensures, c.audit_run.ensures.watched)

pub returns-clause-unwatched : goal.returns-clause-unwatched
returns-clause-unwatched g c = (c.standard_limits-limits.result, c.standard_limits-limits.ensures, c.audit_run.ensures.unwatched)

pub returns-clause-reduces : goal.returns-clause-reduces
returns-clause-reduces g c = (c.standard_limits-limits.result, c.standard_limits-limits.ensures, c.audit_run.ensures.reduces)

pub returns-clause-watches : goal.returns-clause-watches
returns-clause-watches g c = (c.standard_limits-limits.result, c.standard_limits-limits.ensures, c.audit_run.ensures.watches)

pub returns-clause-reduce_lacks : goal.returns-clause-reduce_lacks
returns-clause-reduce_lacks g c = (c.standard_limits-limits.result, c.standard_limits-limits.ensures, c.audit_run.ensures.reduce_lacks)

pub returns-clause-watch_lacks : goal.returns-clause-watch_lacks
returns-clause-watch_lacks g c = (c.standard_limits-limits.result, c.standard_limits-limits.ensures, c.audit_run.ensures.watch_lacks)

pub returns-clause-always_refused : goal.returns-clause-always_refused
returns-clause-always_refused g c = (c.standard_limits-limits.result, c.standard_limits-limits.ensures, c.audit_run.ensures.always_refused)

pub returns-clause-always_unwatched : goal.returns-clause-always_unwatched
returns-clause-always_unwatched g c = (c.standard_limits-limits.result, c.standard_limits-limits.ensures, c.audit_run.ensures.always_unwatched)

pub returns-clause-always_unanswered : goal.returns-clause-always_unanswered
returns-clause-always_unanswered g c = (c.standard_limits-limits.result, c.standard_limits-limits.ensures, c.audit_run.ensures.always_unanswered)

pub returns-clause-no_batch : goal.returns-clause-no_batch
returns-clause-no_batch g c = (c.standard_limits-limits.result, c.standard_limits-limits.ensures, c.audit_run.ensures.no_batch)

pub returns-clause-answers : goal.returns-clause-answers
returns-clause-answers g c = (c.standard_limits-limits.result, c.standard_limits-limits.ensures, c.audit_run.ensures.answers)

pub returns-clause-heard : goal.returns-clause-heard
returns-clause-heard g c = (c.standard_limits-limits.result, c.standard_limits-limits.ensures, c.audit_run.ensures.heard)

pub returns-clause-reduce_adds : goal.returns-clause-reduce_adds
returns-clause-reduce_adds g c = (c.standard_limits-limits.result, c.standard_limits-limits.ensures, c.audit_run.ensures.reduce_adds)

pub returns-clause-watch_adds : goal.returns-clause-watch_adds
returns-clause-watch_adds g c = (c.standard_limits-limits.result, c.standard_limits-limits.ensures, c.audit_run.ensures.watch_adds)
