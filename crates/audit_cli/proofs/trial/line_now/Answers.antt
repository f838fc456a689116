use Rattle.audit_cli.proofs.TrialLemmas.{few_known, mode_line_of}
use Rattle.audit_cli.proofs.trial.line_now.Goals as goal

pub count_back-requires : goal.count_back-requires
count_back-requires g c =
    let one = c.requires.stands in
    few_known g.R.Reducer.mode one.limits one.h _ (c.in_ok-totals.ensures.totals one.limits one.h one.stands) one.stands.fits

pub returns-clause-line : goal.returns-clause-line
returns-clause-line g c = λ limits h stands.
    mode_line_of g.R.Reducer.mode _ limits h _ _ _ c.requires.mode (c.in_ok-totals.ensures.totals limits h stands)
    (c.in_ok-back.ensures.reached limits h (c.in_ok-totals.ensures.stands limits h stands)) c.in_ok-line.ensures
