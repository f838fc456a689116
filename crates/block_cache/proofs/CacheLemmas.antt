-- Caches of a disk over the calls on them.
use Rattle.std.proofs.Common.{◌≡◌, ◌≤◌, ◌⊎◌, ◌+◌, ◌*◌, ◌∙◌, ℕ, List, take, inl, inr, sym, ap, subst, arith}
use Rattle.std.specs.List.{Contains}
use Rattle.block_cache.specs.Cached.{BLOCK, Cached, IsCacheOf, block_of}
use Rattle.block_cache.proofs.RangeLemmas.{range_before}

-- a cache with these blocks
abbrev pub cached : List (ℕ × List ℕ) → ℕ → Cached
cached blocks firm = record { blocks = blocks; firm = firm }

-- one that holds no more than before
pub holds_no_more : (bytes : List ℕ) (firm : ℕ) (old new : List (ℕ × List ℕ)) → IsCacheOf bytes (cached old firm)
    → ((n : ℕ) (held : List ℕ) → Contains new (n, held) → Contains old (n, held)) → IsCacheOf bytes (cached new firm)
holds_no_more bytes firm old new is less = λ n held there. is n held (less n held there)

-- one that may hold one block more, which was read
pub holds_one_more : (bytes : List ℕ) (firm number : ℕ) (block : List ℕ) (old new : List (ℕ × List ℕ)) → IsCacheOf bytes (cached old firm)
    → ((n : ℕ) (held : List ℕ) → Contains new (n, held) → Contains old (n, held) ⊎ ((n ≡ number) × (held ≡ block)))
    → number * BLOCK + BLOCK ≤ firm → block ≡ block_of number bytes → IsCacheOf bytes (cached new firm)
holds_one_more bytes firm number block old new is each firmly read = λ n held there. elim (each n held there) [
  | inl was ↦ is n held was
  | inr added ↦ record {
    firmly = subst (λ k. k * BLOCK + BLOCK ≤ firm) (sym added.0) firmly;
    same = added.1 ∙ read ∙ ap (λ k. block_of k bytes) (sym added.0);
  }
]

-- the same bytes before the firm place
pub cache_of_firm : (old new : List ℕ) (cache : Cached) → IsCacheOf old cache → take cache.firm new ≡ take cache.firm old → IsCacheOf new cache
cache_of_firm old new cache is same = λ n held there.
    let block = is n held there in
    record {
      firmly = block.firmly;
      same = block.same ∙ sym (range_before (n * BLOCK) BLOCK cache.firm old new block.firmly same);
    }

-- a later firm place
pub cache_of_more : (bytes : List ℕ) (cache : Cached) (firm : ℕ) → IsCacheOf bytes cache → cache.firm ≤ firm → IsCacheOf bytes (record cache { firm = firm })
cache_of_more bytes cache firm is later = λ n held there.
    let block = is n held there in
    record { firmly = omega (arith, block.firmly, later); same = block.same }
