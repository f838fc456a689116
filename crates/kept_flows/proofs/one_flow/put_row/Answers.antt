use Rattle.std.proofs.Common.{refl, sym, subst, ◌∙◌}
use Rattle.std.proofs.lemmas.Iterator.Adapters.{option_map_id}
use Rattle.reach_model.specs.declared.modes.Verdict.{Verdict}
use Rattle.reach_model.specs.declared.modes.Verdict.TheVariants.{Drop, Extend}
use Rattle.reach_rows.specs.Verdicts.{FitsRows}
use Rattle.kept_flows.specs.Taking.{Puts}
use Rattle.kept_flows.proofs.Changes.{known_fits}
use Rattle.kept_flows.proofs.Room.{room_left, some_room}
use Rattle.kept_flows.proofs.one_flow.put_row.Goals as goal

pub returns-in-Drop-clause-puts : goal.returns-in-Drop-clause-puts
returns-in-Drop-clause-puts g c =
    let f = c.args.flow.now in
    let some = c.requires.puts.some in
    let fits = subst (FitsRows some.0 f) c.in-Drop.is some.2 in
    subst (λ (d : Verdict). Puts g.K.Rows.rows g.K.Rows.count g.K.Rows.known c.args.rows.now f d c.args.rows.now) (sym c.in-Drop.is)
    (record {
      rows_are = sym (option_map_id (g.K.Rows.rows c.args.rows.now));
      count_is = refl;
      known_is = known_fits (g.K.Rows.known c.args.rows.now) some.0 f Drop some.1.ends fits;
    })

pub returns-in-Extend-clause-puts : goal.returns-in-Extend-clause-puts
returns-in-Extend-clause-puts g c =
    let f = c.args.flow.now in
    let i = c.in-Extend.row in
    let some = c.requires.puts.some in
    let fits = subst (FitsRows some.0 f) c.in-Extend.is some.2 in
    subst (λ (d : Verdict). Puts g.K.Rows.rows g.K.Rows.count g.K.Rows.known c.args.rows.now f d c.extend.new.self) (sym c.in-Extend.is)
    (record {
      rows_are = c.extend.ensures.rows;
      count_is = c.extend.ensures.same.0;
      known_is = c.extend.ensures.same.1 ∙ known_fits (g.K.Rows.known c.args.rows.now) some.0 f (Extend i) some.1.ends fits;
    })

pub extend-requires-clause-pair : goal.extend-requires-clause-pair
extend-requires-clause-pair g c = λ R e. (subst (FitsRows R c.args.flow.now) c.in-Extend.is (c.requires.puts.told R e).1).1

pub returns-in-Add-clause-room : goal.returns-in-Add-clause-room
returns-in-Add-clause-room g c = room_left (g.K.Keep.has_room c.args.rows.now) (g.K.Keep.has_room c.add.new.self) c.add.ensures.room

pub returns-in-Extend-clause-room : goal.returns-in-Extend-clause-room
returns-in-Extend-clause-room g c = room_left (g.K.Keep.has_room c.args.rows.now) (g.K.Keep.has_room c.extend.new.self) c.extend.ensures.room

pub add-requires-clause-room : goal.add-requires-clause-room
add-requires-clause-room g c = some_room (g.K.Keep.has_room c.args.rows.now) c.requires.room

pub extend-requires-clause-room : goal.extend-requires-clause-room
extend-requires-clause-room g c = some_room (g.K.Keep.has_room c.args.rows.now) c.requires.room
