use Rattle.std.proofs.Common.{◌≡◌, ◌<◌, ◌∙◌, ◌+◌, true, length, get_or, sym, ap, subst, map, arith}
use Rattle.std.specs.Option.{ForSome, option_map}
use Rattle.outside.specs.Looking.{looks_at_none, LooksAt}
use Rattle.reach_model.specs.declared.modes.Verdict.TheVariants.{Extend}
use Rattle.reach_model.specs.Numbers.{known}
use Rattle.reach_model.specs.Rows.{Row, SamePair, firsts, rows_after}
use Rattle.reach_rows.specs.Kept.{ComesAfter, row_of_kept}
use Rattle.store_check.specs.Store.{changed_at, extended}
use Rattle.store_check.proofs.Growing.{firsts_same}
use Rattle.reduced_store.specs.Held.{told_if}
use Rattle.reduced_store.specs.OnDisk.{OnDisk, HasRoomFor}
use Rattle.reduced_store.proofs.HeldLemmas.{changed_is_after, changed_length, told_maps, told_rows}
use Rattle.reduced_store.proofs.ToldLemmas.{told_extended}
use Rattle.reduced_store.proofs.store.StoreKeep.extend.Goals as goal

pub set_last-requires-clause-row : goal.set_last-requires-clause-row
set_last-requires-clause-row g c = subst (λ (s : OnDisk _). c.args.row < length s.rows.rows) (sym c.self.view_is) c.requires.row

pub returns-clause-rows : goal.returns-clause-rows
returns-clause-rows g c =
    let state = g.D.Disk.state in
    let f = c.args.flow.now in
    let i = c.args.row in
    let a = c.self.inside in
    let within = subst (λ (s : OnDisk _). i < length s.rows.rows) (sym c.self.view_is) c.requires.row in
    let pair = subst (λ (s : OnDisk _). ForSome (told_if (state s.disk).tells s.rows.rows) (λ R. (d : Row) → SamePair (get_or R i d).last f)) (sym c.self.view_is) c.requires.pair in
    told_maps (state a.disk).tells a.rows.rows c.set_last.new.self.rows (λ R. rows_after R f (Extend i))
    (λ so. c.set_last.ensures.rows ∙ ap (λ m. changed_at i (extended m) a.rows.rows) c.mark_of.ensures ∙ changed_is_after a.rows.rows i f within (pair a.rows.rows (told_rows (state a.disk).tells a.rows.rows so)))
    ∙ ap (λ (s : OnDisk _). option_map (λ R. rows_after R f (Extend i)) (told_if (state s.disk).tells s.rows.rows)) c.self.view_is

pub returns-clause-same : goal.returns-clause-same
returns-clause-same g c =
    let i = c.args.row in
    let R = c.self.inside.rows.rows in
    let mark = c.mark_of.result in (
      ap length c.set_last.ensures.rows ∙ changed_length i mark R ∙ ap (λ (s : OnDisk _). length s.rows.rows) c.self.view_is,
      ap (λ S. known (firsts S)) c.set_last.ensures.rows ∙ ap known (firsts_same i mark R) ∙ ap (λ (s : OnDisk _). known (firsts s.rows.rows)) c.self.view_is,
    )

pub returns-clause-room : goal.returns-clause-room
returns-clause-room g c = λ n room.
    let here = subst (λ (s : OnDisk _). HasRoomFor s (n + 1)) (sym c.self.view_is) room in
    let rows = here.0.0 in
    let objects = here.0.1.0 in
    let few = here.0.1.1 in
    let listing = here.1 in
    (c.set_last.ensures.room n (omega (arith, rows), (omega (arith, objects), omega (arith, few))), omega (arith, listing, c.set_last.ensures.listing))

pub returns-clause-alike : goal.returns-clause-alike
returns-clause-alike g c = record {
  disk = subst (λ (s : OnDisk _). LooksAt g.D.Disk.state g.D.Disk.faults g.D.Disk.spent s.disk c.self.inside.disk) c.self.view_is (looks_at_none c.self.inside.disk);
  log = ap (λ (s : OnDisk _). s.log) c.self.view_is;
  lawful = c.set_last.ensures.lawful ∙ ap (λ (s : OnDisk _). s.rows.lawful) c.self.view_is;
  saved = ap (map row_of_kept) c.set_last.ensures.placed.kept ∙ ap (λ (s : OnDisk _). s.saved) c.self.view_is;
}

pub invariant_of-self : goal.invariant_of-self
invariant_of-self g c =
    let state = g.D.Disk.state in
    let f = c.args.flow.now in
    let i = c.args.row in
    let a = c.self.inside in
    let R = a.rows.rows in (
      c.set_last.ensures.lawful ∙ c.self.invariant.0,
      λ tells.
          let told = told_rows (state a.disk).tells R tells in
          let within = subst (λ (s : OnDisk _). i < length s.rows.rows) (sym c.self.view_is) c.requires.row in
          let later = subst (λ (s : OnDisk _). ForSome (told_if (state s.disk).tells s.rows.rows) (λ R. ComesAfter R f)) (sym c.self.view_is) c.requires.later in
          let pair = subst (λ (s : OnDisk _). ForSome (told_if (state s.disk).tells s.rows.rows) (λ R. (d : Row) → SamePair (get_or R i d).last f)) (sym c.self.view_is) c.requires.pair in
          told_extended (state a.disk).reads a.log a.rows c.set_last.new.self i c.mark_of.result f (c.self.invariant.1 tells) c.set_last.ensures.rows c.mark_of.ensures within (pair R told) (later R told)
          c.set_last.ensures.placed c.set_last.ensures.recent c.set_last.ensures.tied c.set_last.ensures.here c.set_last.ensures.others,
    )
