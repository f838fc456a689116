use Rattle.std.proofs.Common.{◌≡◌, ◌∙◌, ℕ, ◌≤◌, List, Bool, false, length, get_or, take, map, replicate, eqb, ap, arith}
use Rattle.std.specs.Prelude.{bit_or}
use Rattle.std.specs.Simd.Lanes.{zip2, top}
use Rattle.std.proofs.lemmas.Simd.{length-chunk, zip2_splat}
use Rattle.std.proofs.lemmas.List.{get_or-take}
use Rattle.memchr.specs.Find.{is_byte2}
use Rattle.audit_lex.proofs.NearLemmas.{AreTested, lane, either_marks, length_either, either_at, no_mark, some_mark}
use Rattle.audit_lex.proofs.near.place_of_either_in_sixteen.Goals as goal

module _ (text : List ℕ) (one other : ℕ) (room : 16 ≤ length text) where
  -- the marks as the code makes them
  abbrev marks : List Bool
  marks = map (top 7) (zip2 bit_or (zip2 (λ a b. lane (eqb a b)) (take 16 text) (replicate 16 one)) (zip2 (λ a b. lane (eqb a b)) (take 16 text) (replicate 16 other)))

  size : length (take 16 text) ≡ 16
  size = length-chunk 0 16 text room

  is : marks ≡ either_marks (λ x. eqb x one) (λ x. eqb x other) (take 16 text)
  is = ap (λ lanes. map (top 7) (zip2 bit_or lanes (zip2 (λ a b. lane (eqb a b)) (take 16 text) (replicate 16 other)))) (zip2_splat (λ a b. lane (eqb a b)) (take 16 text) 16 one size)
      ∙ ap (λ lanes. map (top 7) (zip2 bit_or (map (λ x. lane (eqb x one)) (take 16 text)) lanes)) (zip2_splat (λ a b. lane (eqb a b)) (take 16 text) 16 other size)

  tested : AreTested marks (λ k. is_byte2 one other (get_or text k 0))
  tested = record {
    size = ap length is ∙ length_either _ _ (take 16 text) ∙ size;
    each = λ k below. ap (λ ms. get_or ms k false) is ∙ either_at _ _ (take 16 text) k (omega (arith, below, size)) ∙ ap (is_byte2 one other) (get_or-take 16 text k 0 below);
  }

pub returns-then-either-eq0 : goal.returns-then-either-eq0
returns-then-either-eq0 c =
    let found = no_mark _ _ (tested c.args.text.now c.args.one c.args.other c.requires) c.if-either-eq0.true in
    record { before = found.before; there = found.there; within = found.within }

pub returns : goal.returns
returns c =
    let found = some_mark _ _ (tested c.args.text.now c.args.one c.args.other c.requires) c.if-either-eq0.false in
    record { before = found.before; there = found.there; within = found.within }
