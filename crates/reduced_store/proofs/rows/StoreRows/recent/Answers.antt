use Rattle.std.proofs.Common.{◌≡◌, ◌≤◌, ◌+◌, length, map, arith, ap, subst, sym, refl}
use Rattle.std.specs.List.{All}
use Rattle.reach_rows.specs.Kept.{row_of_kept}
use Rattle.reach_rows.specs.declared.rows.Row.{Row as KeptRow}
use Rattle.row_codec.specs.Rows.{CanBeSpelled}
use Rattle.saved_rows.specs.Joining.{mark_in, rows_now}
use Rattle.saved_rows.specs.Saved.{as_kept}
use Rattle.reduced_store.specs.Placing.{Follow}
use Rattle.reduced_store.proofs.LeadLemmas.{kept_follow}
use Rattle.reduced_store.proofs.SpellingLemmas.{recent_spelled}
use Rattle.reduced_store.proofs.rows.StoreRows.recent.Goals as goal

pub returns-clause-spelled : goal.returns-clause-spelled
returns-clause-spelled c =
    let a = c.self.inside.rows in
    subst (All (λ (r : KeptRow). CanBeSpelled (as_kept r))) (sym c.recent.ensures.rows)
    (recent_spelled (mark_in a.renewed) a.kept a.recent c.self.inside.objects.items c.self.invariant.0 (omega (arith, c.recent.ensures.few, ap length c.recent.ensures.rows)))

pub returns-clause-follow : goal.returns-clause-follow
returns-clause-follow c =
    let a = c.self.inside.rows in
    subst Follow c.self.view_is (record {
      tied = refl;
      single = c.self.invariant.1;
      kept = kept_follow (mark_in a.renewed) a.kept a.recent c.self.inside.objects.items (map row_of_kept (rows_now a)) refl c.self.invariant.0;
    })
