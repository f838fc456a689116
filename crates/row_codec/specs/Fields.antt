-- Flags, links, marks and the fields of Kept and Extend rows. For each: its one spelling, which values have one (`Fits`), and
-- what is read. A number in a contract can be of any size, so its width is among the conditions.
use Rattle.std.specs.Prelude.{◌≡◌, ℕ, zero, suc, ◌+◌, ◌-◌, ◌<◌, ◌^◌, List, [], ◌∷◌, ◌++◌, Option, Some, None, Bool, true, false, IfSome}
use Rattle.std.specs.Int.{w32, w64}
use Rattle.flow_base.specs.declared.types.How.{How}
use Rattle.flow_base.specs.declared.types.How.TheVariants.{Fork, Exec, Read, Write, Make, Alter}
use Rattle.reach_rows.specs.declared.rows.Mark.{Mark}
use Rattle.row_codec.specs.declared.rows.KeptRow.{KeptRow}
use Rattle.row_codec.specs.declared.rows.ExtendRow.{ExtendRow}
use Rattle.row_codec.specs.Parsing.{Parsed, both_at, seen_at, byte_at, number_at, number}

abbrev pub n4 : ℕ → List ℕ
n4 n = number w32 n

abbrev pub n4_at : List ℕ → Parsed ℕ
n4_at = number_at w32

abbrev pub n8 : ℕ → List ℕ
n8 n = number w64 n

abbrev pub n8_at : List ℕ → Parsed ℕ
n8_at = number_at w64

-- ---- a flag is a byte 0 or 1

abbrev pub flag_number : Bool → ℕ
flag_number false = 0
flag_number true = 1

abbrev pub flag_of : ℕ → Option Bool
flag_of zero = Some false
flag_of (suc zero) = Some true
flag_of (suc (suc n)) = None

abbrev pub flag : Bool → List ℕ
flag b = flag_number b ∷ []

abbrev pub flag_at : List ℕ → Parsed Bool
flag_at = seen_at flag_of byte_at

-- ---- a link is the index of a row plus 1, or 0

abbrev pub link_number : Option ℕ → ℕ
link_number None = 0
link_number (Some row) = row + 1

abbrev pub link_of : ℕ → Option (Option ℕ)
link_of zero = Some None
link_of (suc row) = Some (Some row)

abbrev pub link : Option ℕ → List ℕ
link before = n8 (link_number before)

abbrev pub FitsLink : Option ℕ → Type 0
FitsLink before = IfSome before (λ row. row < 2 ^ 64 - 1)

abbrev pub link_at : List ℕ → Parsed (Option ℕ)
link_at = seen_at link_of n8_at

-- ---- how a flow came about is a byte

abbrev pub how_number : How → ℕ
how_number Fork = 1
how_number Exec = 2
how_number Read = 3
how_number Write = 4
how_number Make = 5
how_number Alter = 6

abbrev pub how_of : ℕ → Option How
how_of zero = None
how_of (suc zero) = Some Fork
how_of (suc (suc zero)) = Some Exec
how_of (suc (suc (suc zero))) = Some Read
how_of (suc (suc (suc (suc zero)))) = Some Write
how_of (suc (suc (suc (suc (suc zero))))) = Some Make
how_of (suc (suc (suc (suc (suc (suc zero)))))) = Some Alter
how_of (suc (suc (suc (suc (suc (suc (suc n))))))) = None

abbrev pub how : How → List ℕ
how h = how_number h ∷ []

abbrev pub how_at : List ℕ → Parsed How
how_at = seen_at how_of byte_at

-- ---- a mark is ms n8, place n8, how, serial n4

abbrev pub mark : Mark → List ℕ
mark m = n8 m.at.ms ++ (n8 m.at.place ++ (how m.how ++ n4 m.serial))

pub record FitsMark (m : Mark) : Type 0 where
  pub ms : m.at.ms < 2 ^ 64
  pub place : m.at.place < 2 ^ 64
  pub serial : m.serial < 2 ^ 32

abbrev pub mark_of : ℕ × (ℕ × (How × ℕ)) → Mark
mark_of p = record { at = record { ms = p.0; place = p.1.0 }; how = p.1.1.0; serial = p.1.1.1 }

abbrev pub mark_at : List ℕ → Parsed Mark
mark_at = seen_at (λ p. Some (mark_of p)) (both_at n8_at (both_at n8_at (both_at how_at n4_at)))

-- ---- the fields of a Kept row: from n4, to n4, mark, before_to, before_from

abbrev pub kept : KeptRow → List ℕ
kept row = n4 row.from.0 ++ (n4 row.to.0 ++ (mark row.mark ++ (link row.before_to ++ link row.before_from)))

pub record FitsKept (row : KeptRow) : Type 0 where
  pub from : row.from.0 < 2 ^ 32
  pub to : row.to.0 < 2 ^ 32
  pub mark : FitsMark row.mark
  pub before_to : FitsLink row.before_to
  pub before_from : FitsLink row.before_from

abbrev pub kept_of : ℕ × (ℕ × (Mark × (Option ℕ × Option ℕ))) → KeptRow
kept_of p = record { from = record { 0 = p.0 }; to = record { 0 = p.1.0 }; mark = p.1.1.0; before_to = p.1.1.1.0; before_from = p.1.1.1.1 }

abbrev pub kept_at : List ℕ → Parsed KeptRow
kept_at = seen_at (λ p. Some (kept_of p)) (both_at n4_at (both_at n4_at (both_at mark_at (both_at link_at link_at))))

-- ---- the fields of an Extend row: row n8, mark

abbrev pub extend : ExtendRow → List ℕ
extend e = n8 e.row ++ mark e.mark

pub record FitsExtend (e : ExtendRow) : Type 0 where
  pub row : e.row < 2 ^ 64
  pub mark : FitsMark e.mark

abbrev pub extend_of : ℕ × Mark → ExtendRow
extend_of p = record { row = p.0; mark = p.1 }

abbrev pub extend_at : List ℕ → Parsed ExtendRow
extend_at = seen_at (λ p. Some (extend_of p)) (both_at n8_at mark_at)
