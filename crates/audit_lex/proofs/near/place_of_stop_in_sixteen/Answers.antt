use Rattle.std.proofs.Common.{◌≡◌, ◌∙◌, ℕ, ◌+◌, ◌&&◌, ◌||◌, ◌≤◌, ◌<◌, List, Bool, false, length, get_or, take, drop, map, replicate, eqb, sym, ap, arith}
use Rattle.std.specs.Prelude.{bit_and, bit_or}
use Rattle.std.specs.Simd.Lanes.{zip2, top}
use Rattle.std.proofs.lemmas.Simd.{length-chunk, zip2_splat}
use Rattle.std.proofs.lemmas.List.{get_or-take, get_or-drop}
use Rattle.audit_lex.specs.Stops.{stops_at}
use Rattle.audit_lex.proofs.NearLemmas.{AreTested, lane, start_marks, length_start, start_at, no_mark, some_mark}
use Rattle.audit_lex.proofs.near.place_of_stop_in_sixteen.Goals as goal

module _ (text : List ℕ) (first : ℕ) (room : 17 ≤ length text) where
  -- the lanes that have a byte
  abbrev lanes_of : ℕ → List ℕ → List ℕ
  lanes_of byte bytes = zip2 (λ a b. lane (eqb a b)) bytes (replicate 16 byte)

  abbrev bytes : List ℕ
  bytes = take 16 text

  abbrev behind : List ℕ
  behind = take 16 (drop 1 text)

  -- the marks as the code makes them
  abbrev marks : List Bool
  marks = map (top 7) (zip2 bit_or (zip2 bit_and (lanes_of 32 bytes) (lanes_of first behind)) (lanes_of 34 bytes))

  size : length bytes ≡ 16
  size = length-chunk 0 16 text (omega (arith, room))

  size_behind : length behind ≡ 16
  size_behind = length-chunk 1 16 text room

  splat : (byte : ℕ) (xs : List ℕ) → length xs ≡ 16 → lanes_of byte xs ≡ map (λ x. lane (eqb x byte)) xs
  splat byte xs long = zip2_splat (λ a b. lane (eqb a b)) xs 16 byte long

  is : marks ≡ start_marks (λ x. eqb x 32) (λ x. eqb x first) (λ x. eqb x 34) bytes behind
  is = ap (λ lanes. map (top 7) (zip2 bit_or (zip2 bit_and lanes (lanes_of first behind)) (lanes_of 34 bytes))) (splat 32 bytes size)
      ∙ ap (λ lanes. map (top 7) (zip2 bit_or (zip2 bit_and (map (λ x. lane (eqb x 32)) bytes) lanes) (lanes_of 34 bytes))) (splat first behind size_behind)
      ∙ ap (λ lanes. map (top 7) (zip2 bit_or (zip2 bit_and (map (λ x. lane (eqb x 32)) bytes) (map (λ x. lane (eqb x first)) behind)) lanes)) (splat 34 bytes size)

  same_length : length bytes ≡ length behind
  same_length = size ∙ sym size_behind

  next_byte : (k : ℕ) → k < 16 → get_or behind k 0 ≡ get_or text (k + 1) 0
  next_byte k below = get_or-take 16 (drop 1 text) k 0 below ∙ get_or-drop 1 text k 0 ∙ ap (λ n. get_or text n 0) (omega arith)

  tested : AreTested marks (stops_at first text)
  tested = record {
    size = ap length is ∙ length_start _ _ _ bytes behind same_length ∙ size;
    each = λ k below. ap (λ ms. get_or ms k false) is
        ∙ start_at _ _ _ bytes behind k same_length (omega (arith, below, size))
        ∙ ap (λ byte. (eqb byte 32 && eqb (get_or behind k 0) first) || eqb byte 34) (get_or-take 16 text k 0 below)
        ∙ ap (λ byte. (eqb (get_or text k 0) 32 && eqb byte first) || eqb (get_or text k 0) 34) (next_byte k below);
  }

pub returns-then-stops-eq0 : goal.returns-then-stops-eq0
returns-then-stops-eq0 c =
    let found = no_mark _ _ (tested c.args.text.now c.args.first c.requires) c.if-stops-eq0.true in
    record { before = found.before; there = found.there; within = found.within }

pub returns : goal.returns
returns c =
    let found = some_mark _ _ (tested c.args.text.now c.args.first c.requires) c.if-stops-eq0.false in
    record { before = found.before; there = found.there; within = found.within }
