use Rattle.std.proofs.Common.{refl}
use Rattle.flow_events.proofs.Filling.{tables_stand}
use Rattle.flow_events.proofs.tables.Tables.restore.Goals as goal

pub returns-clause-stands : goal.returns-clause-stands
returns-clause-stands c = λ text m say. tables_stand text c.args.limits.now _ _ c.args.rows.now m refl refl refl refl refl refl refl c.in_ok-procs.ensures.rows c.in_ok-procs.ensures.within c.requires.fits say
