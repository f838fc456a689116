use Rattle.std.proofs.Common.{◌≡◌, ◌∙◌, ◌<◌, true, List, length, Some, None, map, sym, ap, subst}
use Rattle.std.specs.Result.{IfOk, IsErrOf}
use Rattle.reach_rows.specs.declared.rows.RowFault.TheVariants as fault
use Rattle.outside.specs.Disk.{OnlyLooks, UsesDisk}
use Rattle.outside.specs.Looking.{LooksAt}
use Rattle.outside.proofs.Moments.{same_tells}
use Rattle.reach_model.specs.Numbers.{known}
use Rattle.reach_model.specs.Rows.{firsts}
use Rattle.reach_rows.specs.Kept.{IsRowAt, row_of_kept}
use Rattle.reduced_store.specs.Held.{Held, told_if}
use Rattle.reduced_store.specs.OnDisk.{OnDisk}
use Rattle.reduced_store.proofs.ToldLemmas.{exact_told, hidden_if, told_read}
use Rattle.reduced_store.proofs.store.StoreAnyRows.row.Goals as goal

pub row-requires-clause-index : goal.row-requires-clause-index
row-requires-clause-index g c = subst (λ (s : OnDisk _). c.args.index < length s.rows.rows) (sym c.self.view_is) c.requires

pub row-requires-clause-there : goal.row-requires-clause-there
row-requires-clause-there g c = λ told. (c.self.invariant.1 ((g.met.D.Disk.lawful c.self.inside.disk).told_is.0 told)).on

pub returns-clause-exact : goal.returns-clause-exact
returns-clause-exact g c =
    let state = g.D.Disk.state in
    let a = c.self.inside in
    exact_told (state c.args.self.now.disk).tells c.args.self.now.rows.rows c.args.index c.row.result
    (subst (λ (s : OnDisk _). (state s.disk).tells ≡ true → IfOk c.row.result (IsRowAt s.rows.rows c.args.index)) c.self.view_is
    (λ tells. c.row.ensures.exact ((g.met.D.Disk.lawful a.disk).told_is.1 tells)))

pub returns-clause-ends : goal.returns-clause-ends
returns-clause-ends g c = subst (λ (s : OnDisk _). IfOk c.row.result (λ row. (row.from.0 < known (firsts s.rows.rows)) × (row.to.0 < known (firsts s.rows.rows)))) c.self.view_is c.row.ensures.ends

pub returns-clause-same : goal.returns-clause-same
returns-clause-same g c =
    let state = g.D.Disk.state in
    let a = c.self.inside in
    let rows = ap (λ (h : Held). h.rows) c.row.ensures.same in
    let tells = same_tells a.disk c.row.new.disk (g.met.D.Disk.lawful a.disk) (g.met.D.Disk.lawful c.row.new.disk) c.row.ensures.uses in (
      ap (λ b. told_if b c.row.new.self.rows) tells ∙ ap (told_if (state a.disk).tells) rows ∙ ap (λ (s : OnDisk _). told_if (state s.disk).tells s.rows.rows) c.self.view_is,
      ap length rows ∙ ap (λ (s : OnDisk _). length s.rows.rows) c.self.view_is,
      ap (λ R. known (firsts R)) rows ∙ ap (λ (s : OnDisk _). known (firsts s.rows.rows)) c.self.view_is,
    )

pub returns-clause-cause : goal.returns-clause-cause
returns-clause-cause g c =
    let state = g.D.Disk.state in
    let a = c.self.inside in
    let uses = subst (λ (s : OnDisk _). UsesDisk state g.D.Disk.faults g.D.Disk.spent s.disk c.row.new.disk (IsErrOf c.row.result fault.StoreFault)) c.self.view_is c.row.ensures.uses in
    record {
      later = uses.later;
      stays = uses.stays;
      store_fault = uses.rose;
      bad_store = λ place bad. hidden_if (state c.args.self.now.disk).tells c.args.self.now.rows.rows
          (subst (λ (s : OnDisk _). (state s.disk).tells ≡ true → ⊥) c.self.view_is (λ tells. c.row.ensures.good ((g.met.D.Disk.lawful a.disk).told_is.1 tells) place bad));
    }

pub returns-clause-alike : goal.returns-clause-alike
returns-clause-alike g c =
    let state = g.D.Disk.state in
    let looks = subst (λ (s : OnDisk _). OnlyLooks (state s.disk) (state c.row.new.disk)) c.self.view_is c.row.ensures.looks in
    let uses = subst (λ (s : OnDisk _). UsesDisk state g.D.Disk.faults g.D.Disk.spent s.disk c.row.new.disk (IsErrOf c.row.result fault.StoreFault)) c.self.view_is c.row.ensures.uses in
    record {
      disk = record { looks = looks; uses = record { still_told = uses.still_told; told_before = uses.told_before; later = uses.later; stays = uses.stays; rose = λ none. absurd none } };
      log = ap (λ (s : OnDisk _). s.log) c.self.view_is;
      lawful = ap (λ (h : Held). h.lawful) c.row.ensures.same ∙ ap (λ (s : OnDisk _). s.rows.lawful) c.self.view_is;
      saved = ap (λ (h : Held). map row_of_kept h.placed.kept) c.row.ensures.same ∙ ap (λ (s : OnDisk _). s.saved) c.self.view_is;
    }

pub invariant_of-self : goal.invariant_of-self
invariant_of-self g c =
    let state = g.D.Disk.state in
    let a = c.self.inside in (
      ap (λ (h : Held). h.lawful) c.row.ensures.same ∙ c.self.invariant.0,
      λ tells.
          let told = c.row.ensures.uses.told_before ((g.met.D.Disk.lawful c.row.new.disk).told_is.1 tells) in
          told_read (state a.disk).reads (state c.row.new.disk).reads a.log a.rows c.row.new.self c.row.new.self.placed c.row.ensures.same (c.row.ensures.there told) c.row.ensures.firm
          (c.self.invariant.1 ((g.met.D.Disk.lawful a.disk).told_is.0 told)),
    )
