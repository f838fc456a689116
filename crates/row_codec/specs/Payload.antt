-- The payload of a batch: the magic, the version, the mode and the rows, to its end.
use Rattle.std.specs.Prelude.{◌≡◌, ℕ, zero, suc, List, [], ◌∷◌, ◌++◌, Option, Some, None}
use Rattle.std.specs.List.{All, flat_map}
use Rattle.reach_model.specs.declared.modes.Mode.{Mode}
use Rattle.reach_model.specs.declared.modes.Mode.TheVariants.{Plain, Continuous, Full, Source}
use Rattle.row_codec.specs.declared.rows.StoreRow.{StoreRow}
use Rattle.row_codec.specs.Parsing.{Parsed, seen_at, byte_at, after_at}
use Rattle.row_codec.specs.Rows.{row, Fits}

-- the byte of a mode
abbrev pub mode_number : Mode → ℕ
mode_number Plain = 1
mode_number Continuous = 2
mode_number Full = 3
mode_number Source = 4

abbrev pub mode_of : ℕ → Option Mode
mode_of zero = None
mode_of (suc zero) = Some Plain
mode_of (suc (suc zero)) = Some Continuous
mode_of (suc (suc (suc zero))) = Some Full
mode_of (suc (suc (suc (suc zero)))) = Some Source
mode_of (suc (suc (suc (suc (suc n))))) = None

abbrev pub mode_at : List ℕ → Parsed Mode
mode_at = seen_at mode_of byte_at

-- ADLR, the version 1 and the byte of the mode
abbrev pub header : Mode → List ℕ
header mode = 65 ∷ 68 ∷ 76 ∷ 82 ∷ 1 ∷ mode_number mode ∷ []

abbrev pub header_at : List ℕ → Parsed Mode
header_at = after_at 65 (after_at 68 (after_at 76 (after_at 82 (after_at 1 mode_at))))

-- the bytes are the spellings of these rows, one after the other
pub record AreSpellings (rows : List StoreRow) (bytes : List ℕ) : Type 0 where
  pub fit : All Fits rows
  pub are : bytes ≡ flat_map row rows

-- the bytes are the payload of a batch of this mode with these rows
pub record IsPayload (mode : Mode) (rows : List StoreRow) (bytes : List ℕ) : Type 0 where
  pub fit : All Fits rows
  pub is : bytes ≡ header mode ++ flat_map row rows
