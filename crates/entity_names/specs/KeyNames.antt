-- The names of one key, as its entry keeps them.
use Rattle.std.specs.Prelude.{◌∷◌, if◌then◌else◌, ℕ, List, [], vec_capacity}
use Rattle.entity_names.specs.declared.key_names.Kept.{Kept}
use Rattle.entity_names.specs.declared.key_names.Kept.TheVariants.{Nothing, One, Many}

-- the names, how many fit without memory, and how many there were at the mark
pub record KeyNames : Type 0 where
  pub texts : List (List ℕ)
  pub capacity : ℕ
  pub saved : ℕ

-- an entry has a place for one name, and for more of them if it keeps a vector
abbrev pub names_kept : Kept → KeyNames
names_kept Nothing = record { texts = []; capacity = 1; saved = 0 }
names_kept (One saved text) = record { texts = text ∷ []; capacity = 1; saved = if saved then 1 else 0 }
names_kept (Many saved texts) = record { texts = texts.items; capacity = vec_capacity texts; saved = saved }
