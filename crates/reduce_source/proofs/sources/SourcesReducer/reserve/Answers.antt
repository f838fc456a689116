use Rattle.reach_model.specs.Rows.{firsts}
use Rattle.reduce_source.proofs.sources.SourcesReducer.reserve.Goals as goal

pub returns-clause-stands : goal.returns-clause-stands
returns-clause-stands c = λ R s. record { sets = c.reserve.ensures.same (firsts R) s.sets; reached = s.reached }

pub returns-in_err-reserve-clause-stands : goal.returns-in_err-reserve-clause-stands
returns-in_err-reserve-clause-stands c = λ R s. record { sets = c.reserve.ensures.same (firsts R) s.sets; reached = s.reached }
