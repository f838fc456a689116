-- Ranges of bytes.
use Rattle.std.proofs.Common.{◌≡◌, ◌≤◌, ◌+◌, ◌-◌, ◌*◌, ◌/◌, ◌%◌, ◌∙◌, ◌++◌, ℕ, List, length, take, drop, sym, ap, arith, length-drop}
use Rattle.std.proofs.lemmas.List.{drop-drop, drop-take, length-take, take-take}
use Rattle.std.proofs.Math.Seq.{take-add}
use Rattle.std.proofs.lemmas.Nat.{div-add-mod'}
use Rattle.std.proofs.lemmas.Slice.{take-put_mid}
use borrow.Rule.Slice.PartMut.{put_mid}
use Rattle.block_cache.specs.Cached.{BLOCK, range, block_of, HasRange}

-- a range of a range
pub range_within : (at n from m : ℕ) (bytes : List ℕ) → from + m ≤ n → range from m (range at n bytes) ≡ range (at + from) m bytes
range_within at n from m bytes within =
    let all : n ≡ from + (n - from) = omega (arith, within) in
    ap (λ k. take m (drop from (take k (drop at bytes)))) all
    ∙ ap (take m) (drop-take from (n - from) (drop at bytes))
    ∙ take-take m (n - from) (drop from (drop at bytes)) (omega (arith, within))
    ∙ ap (take m) (drop-drop from at bytes)

-- what a range has depends on the bytes before its end alone
pub range_before : (at n end : ℕ) (old new : List ℕ) → at + n ≤ end → take end new ≡ take end old → range at n new ≡ range at n old
range_before at n end old new within same =
    let here : 0 + at ≡ at = omega arith in
    ap (λ k. range k n new) (sym here) ∙ sym (range_within 0 end at n new within) ∙ ap (range at n) same ∙ range_within 0 end at n old within ∙ ap (λ k. range k n old) here

-- a range that has all its bytes is there
pub has_range : (at n : ℕ) (bytes : List ℕ) → length (range at n bytes) ≡ n → HasRange at n bytes
has_range at n bytes whole = λ some. omega (arith, whole, some, length-take n (drop at bytes), length-drop at bytes)

-- a piece of the block in which it stands
pub piece_of_block : (at : ℕ) (held piece bytes : List ℕ) → at % 4096 + length piece ≤ 4096 → held ≡ block_of (at / 4096) bytes
    → piece ≡ range (at % 4096) (length piece) held → piece ≡ range at (length piece) bytes
piece_of_block at held piece bytes within same of =
    of ∙ ap (range (at % 4096) (length piece)) same
    ∙ range_within (at / 4096 * BLOCK) BLOCK (at % 4096) (length piece) bytes within
    ∙ ap (λ k. range k (length piece) bytes) (div-add-mod' at 4096)

-- the block is there, so the piece is
pub piece_there : (at n : ℕ) (held bytes : List ℕ) → at % 4096 + n ≤ 4096 → length held ≡ BLOCK → held ≡ block_of (at / 4096) bytes → HasRange at n bytes
piece_there at n held bytes within whole same = λ some.
    let there = has_range (at / 4096 * BLOCK) BLOCK bytes (sym (ap length same) ∙ whole) in
    omega (arith, div-add-mod' at 4096, within, some, there (omega arith))

-- a buffer that is filled up to a place, and filled further by the next piece
pub range_more : (at done count k : ℕ) (buf piece bytes : List ℕ) → done ≤ length buf → length piece ≡ count → take done buf ≡ range at done bytes
    → piece ≡ range (at + done) (length piece) bytes → take (done + count) (put_mid done k buf piece) ≡ range at (done + count) bytes
range_more at done count k buf piece bytes within long first second =
    let next : piece ≡ take count (drop done (drop at bytes)) = second ∙ ap (λ n. range (at + done) n bytes) long ∙ ap (take count) (sym (drop-drop done at bytes)) in
    take-put_mid done k buf piece (done + count) (omega (arith, long)) within
    ∙ (λ i. first i ++ next i)
    ∙ sym (take-add done count (drop at bytes))
