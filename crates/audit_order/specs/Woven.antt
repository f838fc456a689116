-- Lines that stand among others.
use Rattle.std.specs.Prelude.{◌≡◌, ◌⊎◌, List, [], ◌∷◌}

-- the last list has the lines of the three others among one another, those of each in their order
abbrev pub IsWoven : {A : Type 0} → (ends peers given all : List A) → Type 0
IsWoven ends peers given [] = (ends ≡ []) × (peers ≡ []) × (given ≡ [])
IsWoven {A} ends peers given (line ∷ all) =
    ((rest : List A) × (ends ≡ line ∷ rest) × IsWoven rest peers given all)
    ⊎ (((rest : List A) × (peers ≡ line ∷ rest) × IsWoven ends rest given all)
    ⊎ ((rest : List A) × (given ≡ line ∷ rest) × IsWoven ends peers rest all))
