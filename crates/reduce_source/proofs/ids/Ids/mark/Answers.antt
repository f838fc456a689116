use Rattle.std.proofs.Common.{◌≡◌, ◌↔◌, ◌⊎◌, ℕ, ◌/◌, ◌%◌, ◌<◌, List, length, get_or, set, sym, subst, ap, ◌∙◌, arith}
use Rattle.std.proofs.lemmas.List.{get_or_default}
use Rattle.reduce_source.specs.BitsOf.{HasBit}
use Rattle.reduce_source.specs.Owners.{AreHeldBy}
use Rattle.reduce_source.specs.Pools.{AreHeldIn, ReplacesPage, Has, page_id, words_on}
use Rattle.reduce_source.proofs.Pooling.{own_page, held_page}
use Rattle.reduce_source.proofs.SetBits.{one_marked}
use Rattle.reduce_source.proofs.ids.Ids.mark.Goals as goal

pub mark-requires-clause-held : goal.mark-requires-clause-held
mark-requires-clause-held c =
    let ids = c.self.inside.ids.items in
    let page = c.args.number / 8192 in
    let pools = c.args.pools.now in
    let held : AreHeldIn c.args.object pools ids = subst (AreHeldIn c.args.object pools) (sym c.self.view_is) c.requires.held in
    let fits : page < length ids = let v = ap length c.self.view_is in let p = c.requires.place in omega (arith, v, p) in
    let at : get_or ids page 0 ≡ c.index.result.now = get_or_default ids page 0 c.index.result.now fits ∙ sym c.index.ensures in
    subst (λ i. AreHeldBy c.args.object pools.blocks.slots.items (page_id pools i)) at (own_page c.args.object pools ids page held)

pub returns-clause-set : goal.returns-clause-set
returns-clause-set c =
    let ids = c.self.inside.ids.items in
    let page = c.args.number / 8192 in
    let old = c.args.pools.now in
    let new = c.mark.new.self in
    let held : AreHeldIn c.args.object old ids = subst (AreHeldIn c.args.object old) (sym c.self.view_is) c.requires.held in
    let fits : page < length ids = let v = ap length c.self.view_is in let p = c.requires.place in omega (arith, v, p) in
    let at : get_or ids page 0 ≡ c.index.result.now = get_or_default ids page 0 c.index.result.now fits ∙ sym c.index.ensures in
    let r : ReplacesPage c.args.object (get_or ids page 0) c.mark.result old new = subst (λ m. ReplacesPage c.args.object m c.mark.result old new) (sym at) c.mark.ensures.replaces in
    let bits : (k j : ℕ) → k < 16 → HasBit (words_on new c.mark.result k) j ↔ (HasBit (words_on old (get_or ids page 0) k) j ⊎ ((k ≡ c.args.number / 512 % 16) × (j ≡ c.args.number % 512))) =
    subst (λ i. (k j : ℕ) → k < 16 → HasBit (words_on new c.mark.result k) j ↔ (HasBit (words_on old i k) j ⊎ ((k ≡ c.args.number / 512 % 16) × (j ≡ c.args.number % 512)))) (sym at) c.mark.ensures.bits in
    subst (λ (was : List ℕ). (n : ℕ) → Has new (set ids page c.mark.result) n ↔ (Has old was n ⊎ (n ≡ c.args.number))) c.self.view_is
    (one_marked c.args.object c.mark.result ids old new c.args.number fits held r bits)

pub returns-clause-held : goal.returns-clause-held
returns-clause-held c =
    let ids = c.self.inside.ids.items in
    let page = c.args.number / 8192 in
    let old = c.args.pools.now in
    let new = c.mark.new.self in
    let held : AreHeldIn c.args.object old ids = subst (AreHeldIn c.args.object old) (sym c.self.view_is) c.requires.held in
    let fits : page < length ids = let v = ap length c.self.view_is in let p = c.requires.place in omega (arith, v, p) in
    let at : get_or ids page 0 ≡ c.index.result.now = get_or_default ids page 0 c.index.result.now fits ∙ sym c.index.ensures in
    held_page c.args.object page c.mark.result ids old new fits held (subst (λ m. ReplacesPage c.args.object m c.mark.result old new) (sym at) c.mark.ensures.replaces)
