-- Accepts that wait no more, one after the other.
use Rattle.std.proofs.Common.{◌≡◌, ◌<◌, ◌≤◌, ◌∙◌, ◌+◌, sym, refl, ap, subst, ℕ, Bool, true, false, List, [], ◌∷◌, length, drop, slice_index_or, Option, None, Some, if◌then◌else◌}
use Rattle.std.proofs.lemmas.List.{at_drop_more, at_drop_all, drop_more, drop_all}
use Rattle.order_rules.specs.declared.early.Early.{Early}
use Rattle.order_rules.specs.Doors.{is_fresh, fresh, first_name}

skips : (b : Bool) (first : Early) (later rest : List Early) → false ≡ b → (if b then first ∷ later else rest) ≡ rest
skips true first later rest e = absurd (cc e)
skips false first later rest e = refl

stops : (b : Bool) (first : Early) (later rest : List Early) → b ≡ true → (if b then first ∷ later else rest) ≡ first ∷ later
stops true first later rest e = refl
stops false first later rest e = absurd (cc e)

pub passed_more : (now i : ℕ) (items : List Early) (x : Early) → i < length items → x ≡ slice_index_or items i x → false ≡ is_fresh now x
    → fresh now (drop i items) ≡ fresh now items → fresh now (drop (i + 1) items) ≡ fresh now items
passed_more now i items x less is stale so_far =
    sym (at_drop_more (fresh now) items i x less
    ∙ ap (λ (e : Early). fresh now (e ∷ drop (i + 1) items)) (sym is)
    ∙ skips (is_fresh now x) x (drop (i + 1) items) (fresh now (drop (i + 1) items)) stale)
    ∙ so_far

pub passed_here : (now i : ℕ) (items : List Early) (x : Early) → i < length items → x ≡ slice_index_or items i x → is_fresh now x ≡ true
    → fresh now (drop i items) ≡ fresh now items → drop i items ≡ fresh now items
passed_here now i items x less is waits so_far =
    drop_more items i x less
    ∙ ap (λ (e : Early). e ∷ drop (i + 1) items) (sym is)
    ∙ sym (at_drop_more (fresh now) items i x less
    ∙ ap (λ (e : Early). fresh now (e ∷ drop (i + 1) items)) (sym is)
    ∙ stops (is_fresh now x) x (drop (i + 1) items) (fresh now (drop (i + 1) items)) waits)
    ∙ so_far

pub passed_all : (now i k : ℕ) (items : List Early) → length items ≤ i → length items ≤ k → fresh now (drop i items) ≡ fresh now items
    → drop k items ≡ fresh now items
passed_all now i k items most all so_far = drop_all k items all ∙ sym (at_drop_all (fresh now) items i most) ∙ so_far

-- the first of those that are left
pub first_left : (now i : ℕ) (items : List Early) (x : Early) → i < length items → x ≡ slice_index_or items i x → drop i items ≡ fresh now items
    → Some x.name ≡ first_name (fresh now items)
first_left now i items x less is left =
    sym (ap first_name (drop_more items i x less ∙ ap (λ (e : Early). e ∷ drop (i + 1) items) (sym is))) ∙ ap first_name left

pub none_left : (now i : ℕ) (items : List Early) → length items ≤ i → drop i items ≡ fresh now items → None ≡ first_name (fresh now items)
none_left now i items most left = sym (ap first_name (drop_all i items most)) ∙ ap first_name left
