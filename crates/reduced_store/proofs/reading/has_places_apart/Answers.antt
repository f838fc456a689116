use Rattle.std.proofs.Common.{◌<◌, ℕ, [], nat_eq, length, refl, sym, subst, arith}
use Rattle.std.specs.List.{IsDistinct}
use Rattle.std.proofs.lemmas.Map.Keys.{IsDistinct-from_apart}
use Rattle.reduced_store.specs.Reading.{last_places}
use Rattle.reduced_store.proofs.reading.has_places_apart.Goals as goal

pub returns-in-None : goal.returns-in-None
returns-in-None c = (
  λ so. subst (λ o. IsDistinct nat_eq (last_places o)) (sym c.in-None.is) (IsDistinct-from_apart nat_eq [] (λ i j d low h. absurd (omega (arith, h)))),
  λ distinct. refl,
)
