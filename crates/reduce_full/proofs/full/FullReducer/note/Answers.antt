use Rattle.std.proofs.Common.{arith, length, refl, sym, subst}
use Rattle.reach_model.specs.Rows.{firsts, row_of, rows_after}
use Rattle.reach_rows.specs.Verdicts.{FitsRows}
use Rattle.version_graph.specs.Tables.{StandsFor as HasVersions}
use Rattle.reduce_full.specs.Tables.{StandsFor, Holds}
use Rattle.reduce_full.proofs.Adding.{ascends_push, ends_push, holds_push, firsts_few, firsts_extended, pairs_extended}
use Rattle.reduce_full.proofs.full.FullReducer.note.Goals as goal

pub returns-in-Add-clause-rows : goal.returns-in-Add-clause-rows
returns-in-Add-clause-rows c = λ R s n.
    let f = c.args.flow.now in
    let kept = c.keep.ensures.next (firsts R) (s.held).versions (firsts_few R n.few) in
    subst (λ d. StandsFor (record { versions = c.keep.new.self }) (rows_after R f d)) (sym c.in-Add.is)
    (record {
      held = holds_push (record { versions = c.keep.new.self }) R (row_of f) (s.held).pairs (refl, refl) kept;
      ascends = ascends_push R (row_of f) s.ascends (n.after).firsts;
      ends = ends_push R (row_of f) s.ends n.differ;
    })

pub returns-in-Add-clause-holds : goal.returns-in-Add-clause-holds
returns-in-Add-clause-holds c = λ R h few fits.
    let f = c.args.flow.now in
    let kept = c.keep.ensures.next (firsts R) h.versions (firsts_few R few) in
    subst (λ d. Holds (record { versions = c.keep.new.self }) (rows_after R f d)) (sym c.in-Add.is)
    (holds_push (record { versions = c.keep.new.self }) R (row_of f) h.pairs (refl, refl) kept)

pub returns-in-Add-clause-rest : goal.returns-in-Add-clause-rest
returns-in-Add-clause-rest c = λ rest room. c.keep.ensures.room (length rest) (omega (arith, room.0), omega (arith, room.1))

pub returns-in-Extend-clause-holds : goal.returns-in-Extend-clause-holds
returns-in-Extend-clause-holds c = λ R h few fits.
    let f = c.args.flow.now in
    let i = c.in-Extend.row in
    let w = subst (FitsRows R f) c.in-Extend.is fits in
    subst (λ d. Holds c.args.self.now (rows_after R f d)) (sym c.in-Extend.is)
    (record {
      versions = subst (HasVersions (c.args.self.now).versions) (sym (firsts_extended R f i)) h.versions;
      pairs = pairs_extended R f i h.pairs w.0 w.1;
    })
