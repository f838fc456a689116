-- The fields of Life rows and of Waiting rows.
use Rattle.std.specs.Prelude.{◌≡◌, ℕ, zero, suc, ◌<◌, ◌^◌, List, [], ◌∷◌, ◌++◌, length, Option, Some, None, Bool, true, false, ⊤}
use Rattle.std.specs.List.{AllByRecursion}
use Rattle.proc_table.specs.declared.life.Life.{Life}
use Rattle.row_codec.specs.Parsing.{Parsed, both_at, seen_at, text, text_at, list, list_at}
use Rattle.row_codec.specs.Fields.{n4, n4_at, n8, n8_at, flag, flag_at}

-- ---- the parent that a life awaits: awaits flag, ppid n4 (0 if it awaits nobody)

abbrev pub awaits_parts : Option ℕ → Bool × ℕ
awaits_parts None = (false, 0)
awaits_parts (Some ppid) = (true, ppid)

abbrev pub awaits : Option ℕ → List ℕ
awaits parent = flag (awaits_parts parent).0 ++ n4 (awaits_parts parent).1

abbrev pub FitsAwaits : Option ℕ → Type 0
FitsAwaits None = ⊤
FitsAwaits (Some ppid) = ppid < 2 ^ 32

abbrev pub awaited : Bool → ℕ → Option (Option ℕ)
awaited true ppid = Some (Some ppid)
awaited false zero = Some None
awaited false (suc n) = None

abbrev pub awaits_at : List ℕ → Parsed (Option ℕ)
awaits_at = seen_at (λ p. awaited p.0 p.1) (both_at flag_at n4_at)

-- ---- a life: life n8, live flag, awaits, linked flag

abbrev pub life : Life → List ℕ
life l = n8 l.life ++ (flag l.live ++ (awaits l.awaits ++ flag l.linked))

pub record FitsLife (l : Life) : Type 0 where
  pub life : l.life < 2 ^ 64
  pub awaits : FitsAwaits l.awaits

abbrev pub life_of : ℕ × (Bool × (Option ℕ × Bool)) → Life
life_of p = record { life = p.0; live = p.1.0; awaits = p.1.1.0; linked = p.1.1.1 }

abbrev pub life_at : List ℕ → Parsed Life
life_at = seen_at (λ p. Some (life_of p)) (both_at n8_at (both_at flag_at (both_at awaits_at flag_at)))

-- ---- lines: their number n4, then each as a text

abbrev pub lines : List (List ℕ) → List ℕ
lines texts = list text texts

abbrev pub FitsText : List ℕ → Type 0
FitsText bytes = length bytes < 2 ^ 32

abbrev pub FitsLines : List (List ℕ) → Type 0
FitsLines texts = (length texts < 2 ^ 32) × AllByRecursion FitsText texts

abbrev pub lines_at : List ℕ → Parsed (List (List ℕ))
lines_at = list_at text_at
