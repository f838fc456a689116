use Rattle.std.proofs.Common.{ℕ, List, length, nat_eq, subst, sym, ap, arith, ◌∙◌}
use Rattle.std.specs.List.{Contains}
use Rattle.std.specs.Option.{option_copied}
use Rattle.lru.specs.LruCache.{LruCache}
use Rattle.lru.proofs.CallerLemmas.{Contains-promoted}
use Rattle.block_cache.specs.Cached.{IsHeld, range}
use Rattle.block_cache.proofs.HeldLemmas.{held_at, held_promoted, found}
use Rattle.block_cache.proofs.blocks.Blocks.copy_held.Goals as goal

pub invariant_of-self : goal.invariant_of-self
invariant_of-self c = λ n held there.
    let was = Contains-promoted (nat_eq c.args.number) c.self.inside.held.entries (n, held) (subst (λ (s : LruCache ℕ (List ℕ)). Contains s.entries (n, held)) c.get.follows.holds-at-none there) in
    c.self.invariant n held was

pub returns-in_default-clause-exact : goal.returns-in_default-clause-exact
returns-in_default-clause-exact c = λ held.
    let was = subst (λ (es : List (ℕ × List ℕ)). IsHeld c.args.number es) (sym c.self.view_is) held in
    absurd (found c.self.inside.held.entries c.args.number was (sym c.get.ensures.value ∙ ap option_copied c.in_default.is))

pub returns-in_default-clause-no_more : goal.returns-in_default-clause-no_more
returns-in_default-clause-no_more c = λ n held there.
    let was = Contains-promoted (nat_eq c.args.number) c.self.inside.held.entries (n, held) (subst (λ (s : LruCache ℕ (List ℕ)). Contains s.entries (n, held)) c.get.follows.holds-at-none there) in
    subst (λ (es : List (ℕ × List ℕ)). Contains es (n, held)) c.self.view_is was

pub returns-in_default-clause-no_fewer : goal.returns-in_default-clause-no_fewer
returns-in_default-clause-no_fewer c = λ n held.
    let was = subst (λ (es : List (ℕ × List ℕ)). IsHeld n es) (sym c.self.view_is) held in
    subst (λ (s : LruCache ℕ (List ℕ)). IsHeld n s.entries) (sym c.get.follows.holds-at-none) (held_promoted (nat_eq c.args.number) c.self.inside.held.entries n was)

pub copy_from-requires : goal.copy_from-requires
copy_from-requires c =
    let there = held_at c.self.inside.held.entries c.args.number c.in-Some.block.now (sym c.in-Some.ensures.value) in
    let whole = ap length c.as_slice.ensures ∙ c.self.invariant c.args.number c.in-Some.block.now there in
    record { within = omega (arith, c.requires.within, whole) }

pub invariant_of-self-2 : goal.invariant_of-self-2
invariant_of-self-2 c = λ n held there.
    let was = Contains-promoted (nat_eq c.args.number) c.self.inside.held.entries (n, held) (subst (λ (s : LruCache ℕ (List ℕ)). Contains s.entries (n, held)) c.get.follows.holds-at-none there) in
    c.self.invariant n held was

pub returns-clause-held : goal.returns-clause-held
returns-clause-held c = λ yes.
    let there = held_at c.self.inside.held.entries c.args.number c.in-Some.block.now (sym c.in-Some.ensures.value) in
    record {
      held = c.in-Some.block.now;
      there = subst (λ (es : List (ℕ × List ℕ)). Contains es (c.args.number, c.in-Some.block.now)) c.self.view_is there;
      whole = c.self.invariant c.args.number c.in-Some.block.now there;
      same = c.copy_from.ensures ∙ ap (range c.args.from (length c.copy_from.new.piece)) c.as_slice.ensures;
    }

pub returns-clause-no_more : goal.returns-clause-no_more
returns-clause-no_more c = λ n held there.
    let was = Contains-promoted (nat_eq c.args.number) c.self.inside.held.entries (n, held) (subst (λ (s : LruCache ℕ (List ℕ)). Contains s.entries (n, held)) c.get.follows.holds-at-none there) in
    subst (λ (es : List (ℕ × List ℕ)). Contains es (n, held)) c.self.view_is was

pub returns-clause-no_fewer : goal.returns-clause-no_fewer
returns-clause-no_fewer c = λ n held.
    let was = subst (λ (es : List (ℕ × List ℕ)). IsHeld n es) (sym c.self.view_is) held in
    subst (λ (s : LruCache ℕ (List ℕ)). IsHeld n s.entries) (sym c.get.follows.holds-at-none) (held_promoted (nat_eq c.args.number) c.self.inside.held.entries n was)
