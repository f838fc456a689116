-- What the tables decide.
use Rattle.std.proofs.Common.{◌≡◌, ℕ, ◌<◌, ◌≤◌, List, length, get_or, Option, Some, None, arith}
use Rattle.std.specs.List.{Contains}
use Rattle.flow_base.specs.declared.types.Flow.{Flow}
use Rattle.reach_model.specs.Flows.{source, target, place}
use Rattle.reach_model.specs.Rows.{Row}
use Rattle.reach_model.specs.ByRows.{CarriesOnRow}
use Rattle.reduce_continuous.specs.declared.places.Run.{Run}
use Rattle.reduce_continuous.specs.Tables.{IsAfter, IsGreatest, IsRunOf, IsRun}

-- no row of the pair
pub no_run : (R : List Row) (f : Flow) (o : Option Run) → IsRun R (source f) (target f) o → o ≡ None → (r : Row) → Contains R r → ¬ CarriesOnRow R r f
no_run R f None h e r c on = h r c on.pair
no_run R f (Some run) h e r c on = absurd (cc)

-- a row that carries on ends where the run does
run_place : (R : List Row) (f : Flow) (run : Run) → IsRunOf R (source f) (target f) run → (r : Row) → Contains R r → CarriesOnRow R r f → place r.last ≤ run.place
run_place R f run h r c on = h.greatest r c on.pair.0 on.pair.1

pub after_inflow : (R : List Row) (f : Flow) (run : Run) → IsRunOf R (source f) (target f) run → (o : Option ℕ) → IsGreatest R (λ h. target h ≡ source f) o → IsAfter o run.place → (r : Row) → Contains R r → ¬ CarriesOnRow R r f
after_inflow R f run h None g a r c on = a
after_inflow R f run h (Some n) g a r c on =
    let low = run_place R f run h r c on in
    let at : place (g.row).last ≡ n = g.at in
    (on.nothing_after g.row g.there (omega arith)).0 g.meets

pub after_outflow : (R : List Row) (f : Flow) (run : Run) → IsRunOf R (source f) (target f) run → (o : Option ℕ) → IsGreatest R (λ h. source h ≡ target f) o → IsAfter o run.place → (r : Row) → Contains R r → ¬ CarriesOnRow R r f
after_outflow R f run h None g a r c on = a
after_outflow R f run h (Some n) g a r c on =
    let low = run_place R f run h r c on in
    let at : place (g.row).last ≡ n = g.at in
    (on.nothing_after g.row g.there (omega arith)).1 g.meets

-- nothing that meets P ends after a place
none_after : (R : List Row) (P : Flow → Type 0) (o : Option ℕ) (n : ℕ) → IsGreatest R P o → ¬ IsAfter o n → (s : Row) → Contains R s → n < place s.last → ¬ P s.last
none_after R P None n g a s c after p = g s c p
none_after R P (Some m) n g a s c after p = let top : place s.last ≤ m = g.greatest s c p in a (omega arith)

pub carries_run : (R : List Row) (f : Flow) (run : Run) → IsRunOf R (source f) (target f) run
    → (into : Option ℕ) → IsGreatest R (λ h. target h ≡ source f) into → ¬ IsAfter into run.place
    → (out : Option ℕ) → IsGreatest R (λ h. source h ≡ target f) out → ¬ IsAfter out run.place
    → (run.row < length R) × ((d : Row) → CarriesOnRow R (get_or R run.row d) f)
carries_run R f run h into gi ai out go ao = (
  h.within,
  λ d. record {
    pair = (h.from d, h.to d);
    nothing_after = λ s c after. let at : place (get_or R run.row d).last ≡ run.place = h.at d in
        (none_after R (λ x. target x ≡ source f) into run.place gi ai s c (omega arith), none_after R (λ x. source x ≡ target f) out run.place go ao s c (omega arith));
    no_later = λ s c after same. let at : place (get_or R run.row d).last ≡ run.place = h.at d in
        let top : place s.last ≤ run.place = h.greatest s c same.0 same.1 in absurd (omega arith);
  },
)
