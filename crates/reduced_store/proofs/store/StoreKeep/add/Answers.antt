use Rattle.std.proofs.Common.{◌≡◌, ◌∙◌, ◌+◌, ◌++◌, ◌∷◌, [], true, sym, ap, subst, map, arith}
use Rattle.std.specs.Option.{ForSome, option_map}
use Rattle.outside.specs.Looking.{looks_at_none, LooksAt}
use Rattle.reach_model.specs.Numbers.{known}
use Rattle.reach_model.specs.Rows.{firsts, row_of}
use Rattle.reach_rows.specs.Kept.{ComesAfter, GoesOn, row_of_kept}
use Rattle.reduced_store.specs.Held.{told_if}
use Rattle.reduced_store.specs.OnDisk.{OnDisk, HasRoomFor}
use Rattle.reduced_store.proofs.HeldLemmas.{told_maps, told_rows}
use Rattle.reduced_store.proofs.ToldLemmas.{pushed_known, told_added}
use Rattle.reduced_store.proofs.store.StoreKeep.add.Goals as goal

pub push-requires-clause-numbered : goal.push-requires-clause-numbered
push-requires-clause-numbered g c = subst (λ (s : OnDisk _). GoesOn (known (firsts s.rows.rows)) c.args.flow.now) (sym c.self.view_is) c.requires.numbered

pub returns-clause-rows : goal.returns-clause-rows
returns-clause-rows g c =
    let state = g.D.Disk.state in
    let f = c.args.flow.now in
    told_maps (state c.self.inside.disk).tells c.self.inside.rows.rows c.push.new.self.rows (λ R. R ++ row_of f ∷ []) (λ so. c.push.ensures.rows)
    ∙ ap (λ (s : OnDisk _). option_map (λ R. R ++ row_of f ∷ []) (told_if (state s.disk).tells s.rows.rows)) c.self.view_is

pub returns-clause-known : goal.returns-clause-known
returns-clause-known g c =
    let rows_are = c.push.ensures.rows ∙ ap (λ (s : OnDisk _). s.rows.rows ++ row_of c.args.flow.now ∷ []) c.self.view_is in
    pushed_known c.args.self.now.rows.rows c.push.new.self.rows c.args.flow.now rows_are

pub returns-clause-room : goal.returns-clause-room
returns-clause-room g c = λ n room.
    let here = subst (λ (s : OnDisk _). HasRoomFor s (n + 1)) (sym c.self.view_is) room in
    let listing = here.1 in
    (c.push.ensures.room n here.0, omega (arith, listing, c.push.ensures.listing))

pub returns-clause-alike : goal.returns-clause-alike
returns-clause-alike g c = record {
  disk = subst (λ (s : OnDisk _). LooksAt g.D.Disk.state g.D.Disk.faults g.D.Disk.spent s.disk c.self.inside.disk) c.self.view_is (looks_at_none c.self.inside.disk);
  log = ap (λ (s : OnDisk _). s.log) c.self.view_is;
  lawful = c.push.ensures.lawful ∙ ap (λ (s : OnDisk _). s.rows.lawful) c.self.view_is;
  saved = ap (map row_of_kept) c.push.ensures.placed.kept ∙ ap (λ (s : OnDisk _). s.saved) c.self.view_is;
}

pub invariant_of-self : goal.invariant_of-self
invariant_of-self g c =
    let state = g.D.Disk.state in
    let f = c.args.flow.now in
    let a = c.self.inside in (
      c.push.ensures.lawful ∙ c.self.invariant.0,
      λ tells.
          let later = subst (λ (s : OnDisk _). ForSome (told_if (state s.disk).tells s.rows.rows) (λ R. ComesAfter R f)) (sym c.self.view_is) c.requires.later in
          let numbered = subst (λ (s : OnDisk _). GoesOn (known (firsts s.rows.rows)) f) (sym c.self.view_is) c.requires.numbered in
          told_added (state a.disk).reads a.log a.rows c.push.new.self f c.push.ensures.recent.0 (c.self.invariant.1 tells) c.push.ensures.rows (later a.rows.rows (told_rows (state a.disk).tells a.rows.rows tells)) numbered
          c.push.ensures.placed c.push.ensures.renewed c.push.ensures.recent.1,
    )
