use Rattle.std.proofs.Common.{ℕ, List, ◌⊎◌, ◌≡◌, subst}
use Rattle.std.specs.List.{Contains}
use Rattle.lru.specs.LruCache.{LruCache}
use Rattle.block_cache.proofs.HeldLemmas.{held_put, whole_put}
use Rattle.block_cache.proofs.blocks.Blocks.keep.Goals as goal

pub invariant_of-self : goal.invariant_of-self
invariant_of-self c = whole_put c.self.inside.held.entries _ c.args.number c.args.block c.self.invariant c.requires.whole
    (λ n held there. held_put c.self.inside.held c.args.number c.args.block n held (subst (λ (s : LruCache ℕ (List ℕ)). Contains s.entries (n, held)) c.in-Ok.ensures.entries there))

pub returns-in-Ok : goal.returns-in-Ok
returns-in-Ok c = record {
  no_more = λ n held there.
      let new = held_put c.self.inside.held c.args.number c.args.block n held (subst (λ (s : LruCache ℕ (List ℕ)). Contains s.entries (n, held)) c.in-Ok.ensures.entries there) in
      subst (λ (es : List (ℕ × List ℕ)). Contains es (n, held) ⊎ ((n ≡ c.args.number) × (held ≡ c.args.block))) c.self.view_is new;
}

pub invariant_of-self-2 : goal.invariant_of-self-2
invariant_of-self-2 c = λ n held there. c.self.invariant n held (subst (λ (s : LruCache ℕ (List ℕ)). Contains s.entries (n, held)) c.in-Err.ensures.err there)
