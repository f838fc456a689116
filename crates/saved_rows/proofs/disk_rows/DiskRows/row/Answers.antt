use Rattle.std.proofs.Common.{◌≡◌, ◌∙◌, ◌<◌, ◌+◌, ◌-◌, length, get_or, ap, sym, subst, arith}
use Rattle.std.proofs.lemmas.List.{get_or_default}
use Rattle.block_cache.specs.Cached.{IsCacheOf}
use Rattle.saved_rows.specs.Joining.{Joined, mark_in, renew, rows_now}
use Rattle.saved_rows.specs.Saved.{HasRows}
use Rattle.saved_rows.proofs.JoinLemmas.{now_kept, now_long, now_recent, still_on}
use Rattle.saved_rows.proofs.RowLemmas.{fault_same}
use Rattle.saved_rows.proofs.disk_rows.DiskRows.row.Goals as goal

pub index-row-requires : goal.index-row-requires
index-row-requires g c =
    let a = c.self.inside in
    let all : length (rows_now c.args.self.now) ≡ length a.kept.rows + length a.recent.items =
    ap (λ (j : Joined). length (rows_now j)) (sym c.self.view_is) ∙ now_long (mark_in a.renewed.entries) a.kept.rows a.recent.items in
    omega (arith, all, c.requires.index, c.self.invariant.counted, c.count-count.ensures, c.if-index-count.true)

pub returns-then-index-count-clause-exact : goal.returns-then-index-count-clause-exact
returns-then-index-count-clause-exact g c = λ told d.
    let a = c.self.inside in
    let kept = a.kept.rows in
    let recent = a.recent.items in
    let i = c.args.index in
    let counted : c.count-count.result ≡ length kept = c.count-count.ensures ∙ c.self.invariant.counted in
    let all : length (rows_now c.args.self.now) ≡ length kept + length recent =
    ap (λ (j : Joined). length (rows_now j)) (sym c.self.view_is) ∙ now_long (mark_in a.renewed.entries) kept recent in
    let row = c.index-row.result.now in
    let within : i - length kept < length recent = omega (arith, counted, all, c.requires.index, c.if-index-count.true) in
    let here : row ≡ get_or recent (i - length kept) d = c.index-row.ensures ∙ ap (λ n. get_or recent (i - n) row) counted ∙ get_or_default recent (i - length kept) row d within in
    c.renewed_row.ensures
    ∙ ap (λ (j : Joined). renew (mark_in j.renewed i) row) (sym c.self.view_is)
    ∙ now_recent (mark_in a.renewed.entries) kept recent i d c.index-row.result.now (omega (arith, counted, c.if-index-count.true)) (omega (arith, all, c.requires.index)) here
    ∙ ap (λ (j : Joined). get_or (rows_now j) i d) c.self.view_is

pub row-requires-clause-cache : goal.row-requires-clause-cache
row-requires-clause-cache g c = λ told. subst (λ (j : Joined). IsCacheOf (g.D.Disk.state c.args.disk.now).reads j.saved.cache) (sym c.self.view_is) (c.requires.there told).cache

pub returns-in-Ok-clause-exact : goal.returns-in-Ok-clause-exact
returns-in-Ok-clause-exact g c = λ told d.
    let a = c.self.inside in
    let kept = a.kept.rows in
    let i = c.args.index in
    let has = subst (λ (j : Joined). HasRows (g.D.Disk.state c.args.disk.now).reads j.saved j.kept) (sym c.self.view_is) (c.requires.there told).rows in
    let below : i < length kept = omega (arith, c.self.invariant.counted, c.count-count.ensures, c.if-index-count.false) in
    c.renewed_row-in-Ok.ensures
    ∙ now_kept (mark_in a.renewed.entries) kept a.recent.items i d c.in-Ok.row below (c.in-Ok.ensures.exact told kept d has)
    ∙ ap (λ (j : Joined). get_or (rows_now j) i d) c.self.view_is

pub returns-in-Ok-clause-there : goal.returns-in-Ok-clause-there
returns-in-Ok-clause-there g c = λ told.
    let a = c.self.inside in
    let has = subst (λ (j : Joined). HasRows (g.D.Disk.state c.args.disk.now).reads j.saved j.kept) (sym c.self.view_is) (c.requires.there told).rows in
    record {
      cache = c.row.ensures.cache told;
      rows = still_on (g.D.Disk.state c.args.disk.now).reads (g.D.Disk.state c.row.new.disk).reads a.saved c.row.new.self a.kept.rows (c.row.ensures.looks.same told) c.row.ensures.same c.row.ensures.firm has;
    }

pub returns-in-Err-clause-exact : goal.returns-in-Err-clause-exact
returns-in-Err-clause-exact g c = λ told d.
    let a = c.self.inside in
    let i = c.args.index in
    let has = subst (λ (j : Joined). HasRows (g.D.Disk.state c.args.disk.now).reads j.saved j.kept) (sym c.self.view_is) (c.requires.there told).rows in
    fault_same c.in-Err.fault (get_or a.kept.rows i d) (get_or (rows_now c.args.self.now) i d) (c.in-Err.ensures.exact told a.kept.rows d has)

pub returns-in-Err-clause-there : goal.returns-in-Err-clause-there
returns-in-Err-clause-there g c = λ told.
    let a = c.self.inside in
    let has = subst (λ (j : Joined). HasRows (g.D.Disk.state c.args.disk.now).reads j.saved j.kept) (sym c.self.view_is) (c.requires.there told).rows in
    record {
      cache = c.row.ensures.cache told;
      rows = still_on (g.D.Disk.state c.args.disk.now).reads (g.D.Disk.state c.row.new.disk).reads a.saved c.row.new.self a.kept.rows (c.row.ensures.looks.same told) c.row.ensures.same c.row.ensures.firm has;
    }
