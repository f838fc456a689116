use Rattle.std.proofs.Common.{rules, ◌≡◌, Some, ap, sym, subst, ◌∙◌}
use Rattle.block_cache.specs.Cached.{IsCacheOf}
use Rattle.saved_rows.specs.Saved.{Saved, end_of}
use Rattle.saved_rows.proofs.RowLemmas.{end_some}
use Rattle.saved_rows.proofs.saved.SavedRows.last_of.Goals as goal

pub mark_at-requires-clause-cache : goal.mark_at-requires-clause-cache
mark_at-requires-clause-cache g c = λ told. subst (λ (s : Saved). IsCacheOf (g.D.Disk.state c.args.disk.now).reads s.cache) (sym c.self.view_is) (c.requires.cache told)

pub returns-in-Some-clause-mark : goal.returns-in-Some-clause-mark
returns-in-Some-clause-mark g c = λ told firm r first has.
    let index = c.args.index in
    let some : end_of c.self.inside.ends.entries index ≡ Some c.in-Some.place = search rules in
    let listed : end_of c.args.self.now.ends index ≡ Some c.in-Some.place = sym (ap (λ (s : Saved). end_of s.ends index) c.self.view_is) ∙ some in
    c.mark_at.ensures.mark told firm (record { row = index; mark = r.last })
    (end_some (g.D.Disk.state c.args.disk.now).reads firm index c.in-Some.place r (end_of c.args.self.now.ends index) listed has)
