use Rattle.std.proofs.Common.{◌≡◌, ◌<◌, length, sym, subst, get_or, arith}
use Rattle.block_cache.specs.Cached.{IsCacheOf}
use Rattle.saved_rows.specs.Saved.{HasLast, Saved, end_of, kept_row}
use Rattle.saved_rows.proofs.RowLemmas.{fault_same, row_there}
use Rattle.saved_rows.proofs.saved.SavedRows.row.Goals as goal

pub kept_at-requires-clause-cache : goal.kept_at-requires-clause-cache
kept_at-requires-clause-cache g c = λ told. subst (λ (s : Saved). IsCacheOf (g.D.Disk.state c.args.disk.now).reads s.cache) (sym c.self.view_is) (c.requires.cache told)

pub row_of-requires : goal.row_of-requires
row_of-requires g c = record { cache = λ told. c.kept_at.ensures.cache (c.kept_at.ensures.uses.told_before told) }

pub returns-in-Ok-clause-exact : goal.returns-in-Ok-clause-exact
returns-in-Ok-clause-exact g c = λ told R d has.
    let old = (g.D.Disk.state c.args.disk.now).reads in
    let new = (g.D.Disk.state c.kept_at.new.disk).reads in
    let same : new ≡ old = c.kept_at.ensures.looks.same told in
    let saved = c.args.self.now in
    let index = c.args.index in
    let r = get_or R index d in
    let spelled = row_there old saved R c.place-place.result index d has c.requires.index c.place-place.ensures.place in
    let h : index < length R = omega (arith, c.requires.index, has.all) in
    let last = subst (λ (s : Saved). HasLast old saved.cache.firm index r (end_of s.ends index)) (sym c.self.view_is) (has.last index d h) in
    c.row_of.ensures.row (c.kept_at.ensures.looks.tells told) saved.cache.firm r (c.in-Ok.ensures.row told saved.cache.firm (kept_row r) spelled)
    (subst (λ bytes. HasLast bytes saved.cache.firm index r (end_of c.self.inside.ends.entries index)) (sym same) last)

pub returns-in-Ok-clause-cache : goal.returns-in-Ok-clause-cache
returns-in-Ok-clause-cache g c = λ told. c.row_of.ensures.cache (c.kept_at.ensures.looks.tells told)

pub returns-in-Err-clause-exact : goal.returns-in-Err-clause-exact
returns-in-Err-clause-exact g c = λ told R d has.
    let old = (g.D.Disk.state c.args.disk.now).reads in
    let saved = c.args.self.now in
    let index = c.args.index in
    let r = get_or R index d in
    let spelled = row_there old saved R c.place-place.result index d has c.requires.index c.place-place.ensures.place in
    fault_same c.in-Err.fault (kept_row r) r (c.in-Err.ensures.row told saved.cache.firm (kept_row r) spelled)
