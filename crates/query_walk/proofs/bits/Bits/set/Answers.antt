use Rattle.std.proofs.Common.{◌≡◌, ℕ, ◌*◌, ◌/◌, ◌%◌, ◌^◌, ◌<◌, ◌↔◌, ◌⊎◌, List, length, get_or, set, sym, subst, ◌∙◌, arith}
use Rattle.std.specs.Prelude.{bit_or}
use Rattle.std.proofs.lemmas.List.{get_or_default}
use Rattle.query_walk.specs.Bits.{IsSet}
use Rattle.query_walk.proofs.BitLemmas.{set_more}
use Rattle.query_walk.proofs.bits.Bits.set.Goals as goal

pub returns-clause-set : goal.returns-clause-set
returns-clause-set c = λ p.
    let words = c.self.inside.words.items in
    let place = c.args.place in
    let w = place / 64 in
    let bits = c.index_mut.result.now in
    let h : w < length words = subst (λ (xs : List ℕ). w < length xs) (sym c.self.view_is) (omega (arith, c.requires)) in
    let is : bits ≡ get_or words w 0 = c.index_mut.ensures.value ∙ get_or_default words w bits 0 h in
    subst (λ (xs : List ℕ). IsSet (set words w (bit_or bits (1 * 2 ^ (place % 64) % 2 ^ 64))) p ↔ (IsSet xs p ⊎ (p ≡ place))) c.self.view_is
    (subst (λ x. IsSet (set words w (bit_or x (1 * 2 ^ (place % 64) % 2 ^ 64))) p ↔ (IsSet words p ⊎ (p ≡ place))) (sym is) (set_more words place h p))
