use Rattle.std.proofs.Common.{subst}
use Rattle.std.proofs.lemmas.Bool.{both_ways}
use Rattle.reach_model.specs.Flows.{source, target}
use Rattle.reach_model.specs.Rows.{firsts}
use Rattle.reduce_source.specs.Sets.{IsStanding, standing_of}
use Rattle.reduce_source.proofs.Deciding.{not_none, new_missing, missing_there, dropped, missing}
use Rattle.reduce_source.proofs.SetLemmas.{first_of}
use Rattle.reduce_source.proofs.sources.SourcesReducer.decide.Goals as goal

pub returns-then-not-from-clause-verdict : goal.returns-then-not-from-clause-verdict
returns-then-not-from-clause-verdict c = λ R s differ.
    let f = c.args.flow.now in
    new_missing (firsts R) f (subst (IsStanding (firsts R) (source f)) (c.is_known-from.ensures.standing.0 c.if-not-from.true) ((s.sets).standings (source f))) differ

pub returns-then-not-to-clause-verdict : goal.returns-then-not-to-clause-verdict
returns-then-not-to-clause-verdict c = λ R s differ.
    let f = c.args.flow.now in
    let known = first_of (firsts R) (source f) (standing_of c.args.self.now.sets (source f)) (λ e. both_ways c.is_known-from.result (c.is_known-from.ensures.standing.1 e) c.if-not-from.false) ((s.sets).standings (source f)) in
    missing_there (firsts R) f s.reached known.0 known.1 (subst (IsStanding (firsts R) (target f)) (c.is_known-to.ensures.standing.0 c.if-not-to.true) ((s.sets).standings (target f)))

pub returns-then-covered-clause-verdict : goal.returns-then-covered-clause-verdict
returns-then-covered-clause-verdict c = λ R s differ.
    let f = c.args.flow.now in
    let known = first_of (firsts R) (source f) (standing_of c.args.self.now.sets (source f)) (λ e. both_ways c.is_known-from.result (c.is_known-from.ensures.standing.1 e) c.if-not-from.false) ((s.sets).standings (source f)) in
    dropped (firsts R) f (not_none (firsts R) (source f) known.0 known.1) (c.covers-covered.ensures.yes (firsts R) s.sets c.if-covered.true)

pub returns-clause-verdict : goal.returns-clause-verdict
returns-clause-verdict c = λ R s differ.
    let f = c.args.flow.now in
    let known = first_of (firsts R) (source f) (standing_of c.args.self.now.sets (source f)) (λ e. both_ways c.is_known-from.result (c.is_known-from.ensures.standing.1 e) c.if-not-from.false) ((s.sets).standings (source f)) in
    let r = c.covers-covered.ensures.no (firsts R) s.sets c.if-covered.false in
    missing (firsts R) f (not_none (firsts R) (source f) known.0 known.1) r.0 r.1 r.2
