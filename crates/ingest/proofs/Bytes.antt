-- Bytes of a history, and its lines.
use Rattle.std.proofs.Common.{◌≡◌, ◌≤◌, ◌+◌, ◌==◌, ◌++◌, ◌∙◌, refl, ap, ℕ, Bool, true, false, List, [], ◌∷◌, length, map, arith, length-append, if◌then◌else◌}
use Rattle.std.specs.List.{fold}
use Rattle.std.specs.Prelude.{cond}
use Rattle.std.proofs.lemmas.List.Sums.{sum_by-append, sum_by-cons}
use Rattle.audit_lex.specs.History.{History, Step, Byte, Settle, Cuts, ended, settled, one_more, nothing_cut, lines_of, with_bytes}
use Rattle.ingest.specs.Counting.{is_byte, bytes_in}

abbrev pub one_byte : Step → ℕ
one_byte step = cond (is_byte step) 1 0

pub bytes_append : (front back : History) → bytes_in (front ++ back) ≡ bytes_in front + bytes_in back
bytes_append front back = sum_by-append one_byte front back

bytes_of_piece : (piece : List ℕ) → bytes_in (map Byte piece) ≡ length piece
bytes_of_piece [] = refl
bytes_of_piece (b ∷ piece) = omega (arith, sum_by-cons one_byte (Byte b) (map Byte piece), bytes_of_piece piece)

pub bytes_more : (h : History) (piece : List ℕ) → bytes_in (with_bytes h piece) ≡ bytes_in h + length piece
bytes_more h piece = bytes_append h (map Byte piece) ∙ ap (λ n. bytes_in h + n) (bytes_of_piece piece)

pub bytes_settled : (h : History) → bytes_in (h ++ Settle ∷ []) ≡ bytes_in h
bytes_settled h = bytes_append h (Settle ∷ []) ∙ omega arith

-- a tail counts as a line
abbrev pub begun : List ℕ → ℕ
begun [] = 0
begun (b ∷ tail) = 1

abbrev pub weight : Cuts → ℕ
weight cuts = length cuts.lines + begun cuts.tail

begun_most : (tail : List ℕ) → begun tail ≤ 1
begun_most [] = omega arith
begun_most (b ∷ tail) = omega arith

byte_weighs : (cuts : Cuts) (feed : Bool) (tail : List ℕ) → weight (if feed then ended cuts else record { lines = cuts.lines; tail = tail }) ≤ weight cuts + 1
byte_weighs cuts true tail = simp length-append (omega arith)
byte_weighs cuts false tail = omega (arith, begun_most tail)

settle_weighs : (lines : List (List ℕ)) (tail : List ℕ) → weight (settled lines tail) ≤ length lines + begun tail
settle_weighs lines [] = omega arith
settle_weighs lines (b ∷ tail) = simp length-append (omega arith)

pub all_weigh : (cuts : Cuts) (h : History) → weight (fold one_more cuts h) ≤ weight cuts + bytes_in h
all_weigh cuts [] = omega arith
all_weigh cuts (Byte b ∷ h) = omega (arith, byte_weighs cuts (b == 10) (cuts.tail ++ b ∷ []), all_weigh (one_more cuts (Byte b)) h, sum_by-cons one_byte (Byte b) h)
all_weigh cuts (Settle ∷ h) = omega (arith, settle_weighs cuts.lines cuts.tail, all_weigh (one_more cuts Settle) h, sum_by-cons one_byte Settle h)

-- each line has a byte of its own
pub few_lines : (h : History) → length (lines_of h) ≤ bytes_in h
few_lines h = omega (arith, all_weigh nothing_cut h)
