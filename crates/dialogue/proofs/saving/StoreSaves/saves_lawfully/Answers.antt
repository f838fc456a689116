use Rattle.std.proofs.Common.{[], ◌∷◌, map, take, refl, sym, arith}
use Rattle.std.proofs.lemmas.List.{append-nil}
use Rattle.audit_lex.specs.History.{Byte, Settle}
use Rattle.outside.proofs.Moments.{uses_in_a_row}
use Rattle.dialogue.specs.Dialogue.{settled_on, taken_on}
use Rattle.dialogue.proofs.SaveLemmas.{cut_later, cut_so, further, log_left, taken_counted}
use Rattle.dialogue.proofs.StoreLemmas.{rose_on, rose_too}
use Rattle.dialogue.proofs.saving.StoreSaves.saves_lawfully.Goals as goal

pub returns : goal.returns
returns g c =
    let state = g.D.Disk.state in
    let stay = c.what_is_saved_stays_saved.ensures in
    record {
      still_can = λ a b same can. c.what_can_commit_still_can.ensures a b same can;
      takes_on = λ start limits old new m n same marked counts stands away.
          further state start limits old new m (taken_on n m) (map Byte (take n m.log)) stay same marked (taken_counted state start limits old new m n counts stands away) refl refl (log_left m n) away;
      settles_on = λ start limits old new m same marked part away.
          further state start limits old new m (settled_on m) (Settle ∷ []) stay same marked (omega (arith, part)) refl refl refl away;
      stays = λ start limits old new m same marked part away.
          further state start limits old new m m [] stay same marked (omega (arith, part)) refl (sym (append-nil m.history)) refl away;
      ends_so = λ start limits engine rows m why none same away. cut_so state start limits engine rows m why none same away;
      ends_later = λ start limits rows m n why cut. cut_later state start limits rows m (taken_on n m) (map Byte (take n m.log)) why refl refl (log_left m n) cut;
      ends_settled = λ start limits rows m why cut. cut_later state start limits rows m (settled_on m) (Settle ∷ []) why refl refl refl cut;
      uses_same = λ a b same. same.disk.uses;
      uses_both = λ a b c first second. uses_in_a_row a.disk b.disk c.disk first second;
      rose_after = λ a b c uses rose. rose_too (g.D.Disk.faults a.disk) (g.D.Disk.faults b.disk) (g.D.Disk.faults c.disk) (g.D.Disk.spent c.disk) uses.later rose;
      rose_before = λ a b c rose uses. rose_on (g.D.Disk.faults a.disk) (g.D.Disk.faults b.disk) (g.D.Disk.faults c.disk) (g.D.Disk.spent b.disk) (g.D.Disk.spent c.disk) uses.later uses.stays rose;
    }
