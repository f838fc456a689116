-- The rows of a commit are ordered, and the last one is the State.
use Rattle.std.proofs.Common.{◌≡◌, ◌∙◌, refl, sym, ap, subst, ℕ, zero, suc, ◌+◌, ◌<◌, ◌≤◌, List, [], ◌∷◌, ◌++◌, map, length, arith, append_assoc}
use Rattle.std.specs.Prelude.{slice_index_or, ⊤}
use Rattle.std.specs.List.{AllByRecursion}
use Rattle.row_codec.specs.declared.rows.StoreRow.{StoreRow}
use Rattle.row_codec.specs.declared.rows.StoreRow.TheVariants.{Entity, Kept, Extend, Name, Life, Held, Address, Born, Waiting, State}
use Rattle.store_check.specs.Order.{tag, MayFollow, AreOrdered, EndInState}
use Rattle.stored.specs.Batch.{Batch, Ascend, Ascends, front, back, laid, name_row, life_row, held_row, address_row, born_row, waiting_row}

-- neighbours may follow each other
abbrev Chained : List StoreRow → Type 0
Chained [] = ⊤
Chained (x ∷ []) = ⊤
Chained (x ∷ y ∷ rows) = MayFollow x y × Chained (y ∷ rows)

from_chain : (rows : List StoreRow) → Chained rows → (i : ℕ) (d : StoreRow) → i + 1 < length rows → MayFollow (slice_index_or rows i d) (slice_index_or rows (i + 1) d)
from_chain [] c i d lt = absurd (omega arith)
from_chain (x ∷ []) c i d lt = absurd (omega arith)
from_chain (x ∷ y ∷ rows) c zero d lt = c.0
from_chain (x ∷ y ∷ rows) c (suc i) d lt =
    let e : suc i + 1 ≡ suc (i + 1) = omega arith in
    subst (λ (n : ℕ). MayFollow (slice_index_or (y ∷ rows) i d) (slice_index_or (x ∷ y ∷ rows) n d)) (sym e) (from_chain (y ∷ rows) c.1 i d (omega arith))

later : (x y : StoreRow) → tag x < tag y → MayFollow x y
later (Entity k) y lt = omega arith
later (Kept r) y lt = omega arith
later (Extend e) (Entity k2) lt = absurd (omega arith)
later (Extend e) (Kept r2) lt = absurd (omega arith)
later (Extend e) (Extend e2) lt = absurd (omega arith)
later (Extend e) (Name k2 t2) lt = omega arith
later (Extend e) (Life p2 l2) lt = omega arith
later (Extend e) (Held p2 f2 h2) lt = omega arith
later (Extend e) (Address a2 b2) lt = omega arith
later (Extend e) (Born f2 b2) lt = omega arith
later (Extend e) (Waiting m2 s2 c2 l2) lt = omega arith
later (Extend e) (State s2) lt = omega arith
later (Name k t) y lt = omega arith
later (Life p l) (Entity k2) lt = absurd (omega arith)
later (Life p l) (Kept r2) lt = absurd (omega arith)
later (Life p l) (Extend e2) lt = absurd (omega arith)
later (Life p l) (Name k2 t2) lt = absurd (omega arith)
later (Life p l) (Life p2 l2) lt = absurd (omega arith)
later (Life p l) (Held p2 f2 h2) lt = omega arith
later (Life p l) (Address a2 b2) lt = omega arith
later (Life p l) (Born f2 b2) lt = omega arith
later (Life p l) (Waiting m2 s2 c2 l2) lt = omega arith
later (Life p l) (State s2) lt = omega arith
later (Held p f h) (Entity k2) lt = absurd (omega arith)
later (Held p f h) (Kept r2) lt = absurd (omega arith)
later (Held p f h) (Extend e2) lt = absurd (omega arith)
later (Held p f h) (Name k2 t2) lt = absurd (omega arith)
later (Held p f h) (Life p2 l2) lt = absurd (omega arith)
later (Held p f h) (Held p2 f2 h2) lt = absurd (omega arith)
later (Held p f h) (Address a2 b2) lt = omega arith
later (Held p f h) (Born f2 b2) lt = omega arith
later (Held p f h) (Waiting m2 s2 c2 l2) lt = omega arith
later (Held p f h) (State s2) lt = omega arith
later (Address a b) (Entity k2) lt = absurd (omega arith)
later (Address a b) (Kept r2) lt = absurd (omega arith)
later (Address a b) (Extend e2) lt = absurd (omega arith)
later (Address a b) (Name k2 t2) lt = absurd (omega arith)
later (Address a b) (Life p2 l2) lt = absurd (omega arith)
later (Address a b) (Held p2 f2 h2) lt = absurd (omega arith)
later (Address a b) (Address a2 b2) lt = absurd (omega arith)
later (Address a b) (Born f2 b2) lt = omega arith
later (Address a b) (Waiting m2 s2 c2 l2) lt = omega arith
later (Address a b) (State s2) lt = omega arith
later (Born f b) (Entity k2) lt = absurd (omega arith)
later (Born f b) (Kept r2) lt = absurd (omega arith)
later (Born f b) (Extend e2) lt = absurd (omega arith)
later (Born f b) (Name k2 t2) lt = absurd (omega arith)
later (Born f b) (Life p2 l2) lt = absurd (omega arith)
later (Born f b) (Held p2 f2 h2) lt = absurd (omega arith)
later (Born f b) (Address a2 b2) lt = absurd (omega arith)
later (Born f b) (Born f2 b2) lt = absurd (omega arith)
later (Born f b) (Waiting m2 s2 c2 l2) lt = omega arith
later (Born f b) (State s2) lt = omega arith
later (Waiting m s c l) (Entity k2) lt = absurd (omega arith)
later (Waiting m s c l) (Kept r2) lt = absurd (omega arith)
later (Waiting m s c l) (Extend e2) lt = absurd (omega arith)
later (Waiting m s c l) (Name k2 t2) lt = absurd (omega arith)
later (Waiting m s c l) (Life p2 l2) lt = absurd (omega arith)
later (Waiting m s c l) (Held p2 f2 h2) lt = absurd (omega arith)
later (Waiting m s c l) (Address a2 b2) lt = absurd (omega arith)
later (Waiting m s c l) (Born f2 b2) lt = absurd (omega arith)
later (Waiting m s c l) (Waiting m2 s2 c2 l2) lt = absurd (omega arith)
later (Waiting m s c l) (State s2) lt = omega arith
later (State s) (Entity k2) lt = absurd (omega arith)
later (State s) (Kept r2) lt = absurd (omega arith)
later (State s) (Extend e2) lt = absurd (omega arith)
later (State s) (Name k2 t2) lt = absurd (omega arith)
later (State s) (Life p2 l2) lt = absurd (omega arith)
later (State s) (Held p2 f2 h2) lt = absurd (omega arith)
later (State s) (Address a2 b2) lt = absurd (omega arith)
later (State s) (Born f2 b2) lt = absurd (omega arith)
later (State s) (Waiting m2 s2 c2 l2) lt = absurd (omega arith)
later (State s) (State s2) lt = absurd (omega arith)

-- ---- parts that stand one after the other

abbrev Upto : ℕ → List StoreRow → Type 0
Upto t rows = AllByRecursion (λ x. tag x ≤ t) rows

abbrev Above : ℕ → List StoreRow → Type 0
Above t rows = AllByRecursion (λ x. t < tag x) rows

chain_join : (t : ℕ) (xs ys : List StoreRow) → Chained xs → Chained ys → Upto t xs → Above t ys → Chained (xs ++ ys)
chain_join t [] ys cx cy a b = cy
chain_join t (x ∷ []) [] cx cy a b = tt
chain_join t (x ∷ []) (y ∷ ys) cx cy a b = (later x y (let p = a.0 in let q = b.0 in omega (arith, p, q)), cy)
chain_join t (x ∷ z ∷ xs) ys cx cy a b = (cx.0, chain_join t (z ∷ xs) ys cx.1 cy a.1 b)

above_less : (s t : ℕ) → s < t → (rows : List StoreRow) → Above t rows → Above s rows
above_less s t lt [] a = tt
above_less s t lt (x ∷ rows) a = ((let p = a.0 in omega (arith, p, lt)), above_less s t lt rows a.1)

above_joined : (t : ℕ) (xs ys : List StoreRow) → Above t xs → Above t ys → Above t (xs ++ ys)
above_joined t [] ys a b = b
above_joined t (x ∷ xs) ys a b = (a.0, above_joined t xs ys a.1 b)

module _ {B : Type 0} (make : B → StoreRow) where
  upto_made : (t : ℕ) → ((b : B) → tag (make b) ≡ t) → (bs : List B) → Upto t (map make bs)
  upto_made t is [] = tt
  upto_made t is (b ∷ bs) = ((let e = is b in omega (arith, e)), upto_made t is bs)

  above_made : (s t : ℕ) → s < t → ((b : B) → tag (make b) ≡ t) → (bs : List B) → Above s (map make bs)
  above_made s t lt is [] = tt
  above_made s t lt is (b ∷ bs) = ((let e = is b in omega (arith, e, lt)), above_made s t lt is bs)

  chain_up : (Less : B → B → Type 0) → ((x y : B) → Less x y → MayFollow (make x) (make y)) → (bs : List B) → Ascends Less bs → Chained (map make bs)
  chain_up Less to [] up = tt
  chain_up Less to (x ∷ []) up = tt
  chain_up Less to (x ∷ y ∷ bs) up = (to x y up.0.0, chain_up Less to (y ∷ bs) up.1)

  chain_free : ((x y : B) → MayFollow (make x) (make y)) → (bs : List B) → Chained (map make bs)
  chain_free to [] = tt
  chain_free to (x ∷ []) = tt
  chain_free to (x ∷ y ∷ bs) = (to x y, chain_free to (y ∷ bs))

  lay : (s t : ℕ) → s < t → ((b : B) → tag (make b) ≡ t) → (bs : List B) (rest : List StoreRow) → Chained (map make bs) → Chained rest × Above t rest → Chained (map make bs ++ rest) × Above s (map make bs ++ rest)
  lay s t lt is bs rest c r = (
    chain_join t (map make bs) rest c r.0 (upto_made t is bs) r.1,
    above_joined s (map make bs) rest (above_made s t lt is bs) (above_less s t lt rest r.1),
  )

chain_back : (b : Batch) → Ascend b → Chained (back b) × Above 5 (back b)
chain_back b up =
    lay held_row 5 6 (omega arith) (λ e. refl) b.held _ (chain_up held_row _ (λ x y h. h) b.held up.held) (
    lay address_row 6 7 (omega arith) (λ e. refl) b.addresses _ (chain_up address_row _ (λ x y h. h) b.addresses up.addresses) (
    lay born_row 7 8 (omega arith) (λ e. refl) b.births _ (chain_up born_row _ (λ x y h. h) b.births up.births) (
    lay waiting_row 8 9 (omega arith) (λ e. refl) b.waiting (State b.state ∷ []) (chain_up waiting_row _ (λ x y h. h) b.waiting up.waiting) (tt, ((let e : 9 < 10 = omega arith in e), tt)))))

chain_all : (b : Batch) → Ascend b → Chained (map Entity b.entities ++ (map Kept b.kept ++ (map Extend b.extends ++ (map name_row b.names ++ (map life_row b.lives ++ back b)))))
chain_all b up =
    (lay Entity 0 1 (omega arith) (λ e. refl) b.entities _ (chain_free Entity (λ x y. omega arith) b.entities) (
    lay Kept 1 2 (omega arith) (λ e. refl) b.kept _ (chain_free Kept (λ x y. omega arith) b.kept) (
    lay Extend 2 3 (omega arith) (λ e. refl) b.extends _ (chain_up Extend _ (λ x y h. h) b.extends up.extends) (
    lay name_row 3 4 (omega arith) (λ e. refl) b.names _ (chain_free name_row (λ x y. omega arith) b.names) (
    lay life_row 4 5 (omega arith) (λ e. refl) b.lives _ (chain_up life_row _ (λ x y h. h) b.lives up.lives) (chain_back b up)))))).0

five : (a b c d e r : List StoreRow) → (a ++ (b ++ (c ++ (d ++ e)))) ++ r ≡ a ++ (b ++ (c ++ (d ++ (e ++ r))))
five a b c d e r =
    append_assoc a (b ++ (c ++ (d ++ e))) r ∙ ap (λ (l : List StoreRow). a ++ l) (append_assoc b (c ++ (d ++ e)) r ∙ ap (λ (l : List StoreRow). b ++ l) (append_assoc c (d ++ e) r ∙ ap (λ (l : List StoreRow). c ++ l) (append_assoc d e r)))

pub batch_ordered : (b : Batch) → Ascend b → AreOrdered (laid b)
batch_ordered b up = from_chain (laid b) (subst Chained (sym (five (map Entity b.entities) (map Kept b.kept) (map Extend b.extends) (map name_row b.names) (map life_row b.lives) (back b))) (chain_all b up))

-- ---- the State

end_more : (x : StoreRow) (rows : List StoreRow) → EndInState rows → EndInState (x ∷ rows)
end_more x rows e = (suc e.0, (let at = e.1 in let two : suc e.0 + 1 ≡ suc (e.0 + 1) = omega arith in two ∙ ap suc at), e.2)

end_behind : (xs ys : List StoreRow) → EndInState ys → EndInState (xs ++ ys)
end_behind [] ys e = e
end_behind (x ∷ xs) ys e = end_more x (xs ++ ys) (end_behind xs ys e)

pub batch_ended : (b : Batch) → EndInState (laid b)
batch_ended b =
    end_behind (front b) (back b) (end_behind (map held_row b.held) _ (end_behind (map address_row b.addresses) _ (end_behind (map born_row b.births) _ (end_behind (map waiting_row b.waiting) _ (0, refl, λ d. refl)))))
