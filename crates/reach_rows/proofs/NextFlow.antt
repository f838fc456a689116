-- A next flow, behind the rows that a mode keeps of the flows before it.
use Rattle.std.proofs.Common.{suc, ◌≤◌, ◌<◌, ◌^◌, max, List, [], ◌∷◌, ◌++◌, length, sym, subst, arith}
use Rattle.std.specs.List.{Contains}
use Rattle.std.proofs.lemmas.List.{length-append, length-set}
use Rattle.std.proofs.lemmas.List.Elements.{Contains-push, Contains-append_left}
use Rattle.flow_base.specs.declared.types.Flow.{Flow}
use Rattle.reach_model.specs.declared.modes.Mode.{Mode}
use Rattle.reach_model.specs.declared.modes.Verdict.TheVariants.{Drop, Add, Extend}
use Rattle.reach_model.specs.Flows.{source, target, time, IsLawful}
use Rattle.reach_model.specs.Numbers.{IsNumbered, beyond, known}
use Rattle.reach_model.specs.Rows.{Row, Keeps, none, more, firsts}
use Rattle.reach_model.proofs.Faithful.{kept_first, kept_last}
use Rattle.reach_model.proofs.Lawful.{lawful_front, before_last, last_ends, times_ordered}
use Rattle.reach_model.proofs.Members.{Contains-map}
use Rattle.reach_model.proofs.Numbering.{numbered_last}
use Rattle.reach_model.proofs.RowNumbers.{known_kept}
use Rattle.reach_rows.specs.Kept.{ComesAfter, GoesOn}

module _ {mode : Mode} (F : List Flow) (R : List Row) (f : Flow) (l : IsLawful (F ++ f ∷ [])) (k : Keeps mode F R) where
  earlier : (g : Flow) → Contains F g → time g ≤ time f
  earlier g c = times_ordered l g f (Contains-append_left F (f ∷ []) g c) (Contains-push F f) (omega (arith, before_last F f g l c))

  first_there : (r : Row) → Contains R r → Contains F r.first
  first_there r c = kept_first (lawful_front F f l) k r.first (Contains-map (λ (x : Row). x.first) R r c)

  last_there : (r : Row) → Contains R r → Contains F r.last
  last_there r c = kept_last (lawful_front F f l) k r.last (Contains-map (λ (x : Row). x.last) R r c)

  pub comes_after : ComesAfter R f
  comes_after = record {
    firsts = λ r c. before_last F f r.first l (first_there r c);
    lasts = λ r c. before_last F f r.last l (last_there r c);
    first_times = λ r c. earlier r.first (first_there r c);
    last_times = λ r c. earlier r.last (last_there r c);
  }

  pub goes_on : IsNumbered (F ++ f ∷ []) → beyond f < 2 ^ 32 → GoesOn (known (firsts R)) f
  goes_on numbered few =
      let same = sym (known_kept (lawful_front F f l) k) in
      let ends = numbered_last F f numbered in
      record {
        ends_differ = last_ends F f l;
        source_known_or_next = subst (λ n. source f ≤ n) same ends.0;
        target_known_or_next = subst (λ n. target f ≤ max n (suc (source f))) same ends.1;
        few = few;
      }

pub no_more_rows : {mode : Mode} {F : List Flow} {R : List Row} → Keeps mode F R → length R ≤ length F
no_more_rows none = omega arith
no_more_rows (more {F} {R} f Drop k v) = let old = no_more_rows k in simp length-append (omega (arith, old))
no_more_rows (more {F} {R} f Add k v) = let old = no_more_rows k in simp (length-append, length-append) (omega (arith, old))
no_more_rows (more {F} {R} f (Extend i) k v) = let old = no_more_rows k in simp (length-append, length-set) (omega (arith, old))
