-- Reading in pieces.
use Rattle.std.proofs.Common.{◌≡◌, ℕ, ◌+◌, ◌≤◌, ◌++◌, ◌∙◌, List, length, take, drop, sym, ap}
use Rattle.std.proofs.lemmas.List.{drop-drop, length-take-le, take-append-le}
use Rattle.std.proofs.Math.Seq.{take-add, take-append-add}

-- a second piece after a first
pub reads_more : (a n at : ℕ) (buf piece rest reads : List ℕ) → a ≤ length buf → n ≤ length piece
    → take a buf ≡ take a (drop at reads) → take n piece ≡ take n (drop (at + a) reads)
    → take (a + n) (take a buf ++ (piece ++ rest)) ≡ take (a + n) (drop at reads)
reads_more a n at buf piece rest reads within some first second =
    ap (λ (k : ℕ). take (k + n) (take a buf ++ (piece ++ rest))) (sym (length-take-le a buf within))
    ∙ take-append-add (take a buf) (piece ++ rest) n
    ∙ (λ i. first i ++ (take-append-le n piece rest some ∙ second ∙ ap (take n) (sym (drop-drop a at reads))) i)
    ∙ sym (take-add a n (drop at reads))
