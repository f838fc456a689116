-- What the rows of a mode reach is what the flows reach.
use Rattle.std.proofs.Common.{ℕ, ◌≤◌, List, Option, Some, None, arith}
use Rattle.std.specs.List.{Contains}
use Rattle.flow_base.specs.declared.types.Flow.{Flow}
use Rattle.reach_model.specs.declared.modes.Mode.{Mode}
use Rattle.reach_model.specs.declared.modes.Mode.TheVariants.{Continuous, Full}
use Rattle.reach_model.specs.Flows.{place, IsLawful}
use Rattle.reach_model.specs.Paths.{IsUntil, IsSince, Back, Fore}
use Rattle.reach_model.specs.Rows.{Row, firsts, lasts, Keeps}
use Rattle.reach_model.proofs.Lawful.{times_ordered}
use Rattle.reach_model.proofs.RowFacts.{rows_of}
use Rattle.reach_model.proofs.Twins.{first_there, last_there, continuous_earlier, continuous_later, full_earlier}
use Rattle.reach_model.proofs.Within.{ClosedDown, kept_path, back_within, fore_within}

pub until_closed : {F : List Flow} → IsLawful F → (t : Option ℕ) → ClosedDown F (IsUntil t)
until_closed l None g e cg ce h s = s
until_closed l (Some t) g e cg ce h s = let o = times_ordered l g e cg ce h in omega arith

pub since_closed : {F : List Flow} → IsLawful F → (t : Option ℕ) (g e : Flow) → Contains F g → Contains F e → place e ≤ place g → IsSince t e → IsSince t g
since_closed l None g e cg ce h s = s
since_closed l (Some t) g e cg ce h s = let o = times_ordered l e g ce cg h in omega arith

module _ {mode : Mode} {F : List Flow} {R : List Row} (l : IsLawful F) (k : Keeps mode F R) where
  pub kept_first : (g : Flow) → Contains (firsts R) g → Contains F g
  kept_first g c = first_there R g (rows_of l k) c

  pub kept_last : (g : Flow) → Contains (lasts R) g → Contains F g
  kept_last g c = last_there R g (rows_of l k) c

  -- what the rows reach, the flows reach
  pub back_sound : (v : ℕ) (t : Option ℕ) (u : ℕ) → Back (firsts R) v t u → Back F v t u
  back_sound v t u (p, w) = (p, kept_path F (firsts R) l kept_first (IsUntil t) u v p w)

  pub fore_sound : (u : ℕ) (s : Option ℕ) (v : ℕ) → Fore (lasts R) u s v → Fore F u s v
  fore_sound u s v (p, w) = (p, kept_path F (lasts R) l kept_last (IsSince s) u v p w)

module _ {F : List Flow} {R : List Row} (l : IsLawful F) (k : Keeps Continuous F R) where
  pub continuous_back : (v : ℕ) (t : Option ℕ) (u : ℕ) → Back F v t u → Back (firsts R) v t u
  continuous_back v t u (p, w) =
      let r = back_within F (firsts R) l (kept_first l k) (IsUntil t) (continuous_earlier l k) (λ g e cg ce same. until_closed l t g e cg ce) u v p w in
      (r.0, r.1)

  pub continuous_fore : (u : ℕ) (s : Option ℕ) (v : ℕ) → Fore F u s v → Fore (lasts R) u s v
  continuous_fore u s v (p, w) =
      let r = fore_within F (lasts R) l (kept_last l k) (IsSince s) (continuous_later l k) (λ g e cg ce same. since_closed l s g e cg ce) u v p w in
      (r.0, r.1)

module _ {F : List Flow} {R : List Row} (l : IsLawful F) (k : Keeps Full F R) where
  pub full_back : (v : ℕ) (t : Option ℕ) (u : ℕ) → Back F v t u → Back (firsts R) v t u
  full_back v t u (p, w) =
      let r = back_within F (firsts R) l (kept_first l k) (IsUntil t) (full_earlier l k) (λ g e cg ce same. until_closed l t g e cg ce) u v p w in
      (r.0, r.1)
