-- What of an object stays while its rows are read and grow.
use Rattle.std.specs.Prelude.{⊤}

-- a relation between states that holds of each state with itself, and goes on from one to the next
pub record GoesAlong {S : Type 0} (alike : S → S → Type 0) : Type 0 where
  pub same : (s : S) → alike s s
  pub next : (a b c : S) → alike a b → alike b c → alike a c

-- where any two states are alike
pub all_alike : {S : Type 0} → GoesAlong (λ (a b : S). ⊤)
all_alike = record { same = λ s. tt; next = λ a b c ab bc. tt }
