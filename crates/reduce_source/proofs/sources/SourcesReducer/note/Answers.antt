use Rattle.std.proofs.Common.{refl, sym, subst}
use Rattle.reach_model.specs.Flows.{source, target}
use Rattle.reach_model.specs.Rows.{firsts, row_of, rows_after}
use Rattle.reach_rows.specs.Verdicts.{FitsRows}
use Rattle.reduce_source.specs.Tables.{StandsFor, Holds}
use Rattle.reduce_source.specs.declared.sources.Sources.{Sources}
use Rattle.reduce_source.proofs.Adding.{stands_push, holds_push, end_extended}
use Rattle.reduce_source.proofs.Room.{room_one, room_rest}
use Rattle.reduce_source.proofs.sources.SourcesReducer.note.Goals as goal

pub union-requires : goal.union-requires
union-requires c = let r = c.requires in record { room = (c.args.flow.now, (refl, refl), room_one c.args.self.now.sets c.args.flow.now r.0 r.1) }

pub returns-in-Drop-clause-rest : goal.returns-in-Drop-clause-rest
returns-in-Drop-clause-rest c = λ rest r. room_rest c.args.self.now.sets c.args.flow.now rest r

pub returns-in-Drop-clause-holds : goal.returns-in-Drop-clause-holds
returns-in-Drop-clause-holds c = λ R h few fits. subst (λ d. Holds c.args.self.now (rows_after R c.args.flow.now d)) (sym c.in-Drop.is) h

pub returns-in-Add-clause-rows : goal.returns-in-Add-clause-rows
returns-in-Add-clause-rows c = λ R s n.
    let f = c.args.flow.now in
    let new : Sources = record { sets = c.union.new.self } in
    subst (λ d. StandsFor new (rows_after R f d)) (sym c.in-Add.is)
    (stands_push c.args.self.now new R (row_of f) s (n.after).firsts n.differ (λ later. c.union.ensures.next (firsts R) f (refl, refl) n.differ later s.sets))

pub returns-in-Add-clause-holds : goal.returns-in-Add-clause-holds
returns-in-Add-clause-holds c = λ R h few fits.
    let f = c.args.flow.now in
    let new : Sources = record { sets = c.union.new.self } in
    subst (λ d. Holds new (rows_after R f d)) (sym c.in-Add.is)
    (holds_push c.args.self.now new R (row_of f) (source f) (target f) h refl refl c.union.ensures.others)

pub returns-in-Add-clause-rest : goal.returns-in-Add-clause-rest
returns-in-Add-clause-rest c = λ rest r. c.union.ensures.rest c.args.flow.now rest r

pub returns-in-Extend-clause-holds : goal.returns-in-Extend-clause-holds
returns-in-Extend-clause-holds c = λ R h few fits.
    let f = c.args.flow.now in
    let i = c.in-Extend.row in
    let w = subst (FitsRows R f) c.in-Extend.is fits in
    subst (λ d. Holds c.args.self.now (rows_after R f d)) (sym c.in-Extend.is) (λ x n. end_extended R f i w.0 w.1 x (h x n))

pub returns-in-Extend-clause-rest : goal.returns-in-Extend-clause-rest
returns-in-Extend-clause-rest c = λ rest r. room_rest c.args.self.now.sets c.args.flow.now rest r
