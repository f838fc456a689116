-- The groups that wait by the rows of a batch are in order, and its last row is a State.
use Rattle.std.proofs.Common.{◌≡◌, refl, sym, ap, subst, ℕ, zero, suc, ◌+◌, Bool, List, [], ◌∷◌, ◌++◌, get_or, arith, append_assoc, inl, inr}
use Rattle.std.specs.Prelude.{⊤}
use Rattle.std.specs.List.{AllByRecursion}
use Rattle.std.proofs.lemmas.List.{append-nil}
use Rattle.audit_lex.specs.declared.header.EventKey.{EventKey}
use Rattle.row_codec.specs.declared.state.StateRow.{StateRow}
use Rattle.row_codec.specs.declared.rows.StoreRow.{StoreRow}
use Rattle.row_codec.specs.declared.rows.StoreRow.TheVariants.{Entity, Kept, Extend, Name, Life, Held, Address, Born, Waiting, State}
use Rattle.store_check.specs.Conditions.{EachAfter}
use Rattle.store_check.specs.Order.{tag, MayFollow, AreOrdered, EndInState}
use Rattle.stored.specs.Batch.{Ascends, IsKeyBefore}
use Rattle.stored.specs.Words.{groups_of}

rest_ordered : (x : StoreRow) (rows : List StoreRow) → AreOrdered (x ∷ rows) → AreOrdered rows
rest_ordered x rows ordered = λ i d h.
    let e : suc i + 1 ≡ suc (i + 1) = omega arith in
    subst (λ (n : ℕ). MayFollow (get_or rows i d) (get_or (x ∷ rows) n d)) e (ordered (suc i) d (omega (arith, h)))

-- a row may be followed by the first of others
abbrev FirstMay : StoreRow → List StoreRow → Type 0
FirstMay x [] = ⊤
FirstMay x (y ∷ rows) = MayFollow x y

first_may : (x : StoreRow) (rows : List StoreRow) → AreOrdered (x ∷ rows) → FirstMay x rows
first_may x [] ordered = tt
first_may x (y ∷ rows) ordered = ordered 0 x (omega arith)

-- ---- what waits

abbrev key_of : ℕ → ℕ → EventKey
key_of m s = record { ms = m; serial = s }

before_next : (a b c : EventKey) → IsKeyBefore a b → IsKeyBefore b c → IsKeyBefore a c
before_next a b c (inl x) (inl y) = inl (omega (arith, x, y))
before_next a b c (inl x) (inr y) = inl (omega (arith, x, y.0))
before_next a b c (inr x) (inl y) = inl (omega (arith, x.0, y))
before_next a b c (inr x) (inr y) = inr (omega (arith, x.0, y.0), omega (arith, x.1, y.1))

-- what may follow a later group may follow an earlier one
follows_still : (m s n t : ℕ) (c d : Bool) (l k : List (List ℕ)) → IsKeyBefore (key_of m s) (key_of n t) → (y : StoreRow) → MayFollow (Waiting n t d k) y → MayFollow (Waiting m s c l) y
follows_still m s n t c d l k up (Entity a) may = may
follows_still m s n t c d l k up (Kept a) may = may
follows_still m s n t c d l k up (Extend a) may = may
follows_still m s n t c d l k up (Name a b) may = may
follows_still m s n t c d l k up (Life a b) may = may
follows_still m s n t c d l k up (Held a b e) may = may
follows_still m s n t c d l k up (Address a b) may = may
follows_still m s n t c d l k up (Born a b) may = may
follows_still m s n t c d l k up (Waiting o u e j) may = before_next (key_of m s) (key_of n t) (key_of o u) up may
follows_still m s n t c d l k up (State z) may = may

first_still : (m s n t : ℕ) (c d : Bool) (l k : List (List ℕ)) (rows : List StoreRow) → IsKeyBefore (key_of m s) (key_of n t) → FirstMay (Waiting n t d k) rows → FirstMay (Waiting m s c l) rows
first_still m s n t c d l k [] up may = tt
first_still m s n t c d l k (y ∷ rows) up may = follows_still m s n t c d l k up y may

nothing_after : (z : StateRow) (y : StoreRow) → ¬ MayFollow (State z) y
nothing_after z (Entity a) may = absurd (omega (arith, may))
nothing_after z (Kept a) may = absurd (omega (arith, may))
nothing_after z (Extend a) may = absurd (omega (arith, may))
nothing_after z (Name a b) may = absurd (omega (arith, may))
nothing_after z (Life a b) may = absurd (omega (arith, may))
nothing_after z (Held a b e) may = absurd (omega (arith, may))
nothing_after z (Address a b) may = absurd (omega (arith, may))
nothing_after z (Born a b) may = absurd (omega (arith, may))
nothing_after z (Waiting o u e j) may = absurd (omega (arith, may))
nothing_after z (State y) may = may

none_after : (P : List StoreRow → Type 0) (z : StateRow) (rows : List StoreRow) → FirstMay (State z) rows → P [] → P rows
none_after P z [] may none = none
none_after P z (y ∷ rows) may none = absurd (nothing_after z y may)

groups_after : (m s : ℕ) (c : Bool) (l : List (List ℕ)) (rows : List StoreRow) → FirstMay (Waiting m s c l) rows → AreOrdered rows → AllByRecursion (λ g. IsKeyBefore (key_of m s) g.0) (groups_of rows)
groups_after m s c l [] may ordered = tt
groups_after m s c l (Entity a ∷ rows) may ordered = absurd (omega (arith, may))
groups_after m s c l (Kept a ∷ rows) may ordered = absurd (omega (arith, may))
groups_after m s c l (Extend a ∷ rows) may ordered = absurd (omega (arith, may))
groups_after m s c l (Name a b ∷ rows) may ordered = absurd (omega (arith, may))
groups_after m s c l (Life a b ∷ rows) may ordered = absurd (omega (arith, may))
groups_after m s c l (Held a b e ∷ rows) may ordered = absurd (omega (arith, may))
groups_after m s c l (Address a b ∷ rows) may ordered = absurd (omega (arith, may))
groups_after m s c l (Born a b ∷ rows) may ordered = absurd (omega (arith, may))
groups_after m s c l (Waiting n t d k ∷ rows) may ordered =
    (may, groups_after m s c l rows (first_still m s n t c d l k rows may (first_may (Waiting n t d k) rows ordered)) (rest_ordered (Waiting n t d k) rows ordered))
groups_after m s c l (State z ∷ rows) may ordered = none_after (λ others. AllByRecursion (λ g. IsKeyBefore (key_of m s) g.0) (groups_of others)) z rows (first_may (State z) rows ordered) tt

pub groups_ascend : (rows : List StoreRow) → AreOrdered rows → Ascends (λ x y. IsKeyBefore x.0 y.0) (groups_of rows)
groups_ascend [] ordered = tt
groups_ascend (Entity a ∷ rows) ordered = groups_ascend rows (rest_ordered (Entity a) rows ordered)
groups_ascend (Kept a ∷ rows) ordered = groups_ascend rows (rest_ordered (Kept a) rows ordered)
groups_ascend (Extend a ∷ rows) ordered = groups_ascend rows (rest_ordered (Extend a) rows ordered)
groups_ascend (Name a b ∷ rows) ordered = groups_ascend rows (rest_ordered (Name a b) rows ordered)
groups_ascend (Life a b ∷ rows) ordered = groups_ascend rows (rest_ordered (Life a b) rows ordered)
groups_ascend (Held a b e ∷ rows) ordered = groups_ascend rows (rest_ordered (Held a b e) rows ordered)
groups_ascend (Address a b ∷ rows) ordered = groups_ascend rows (rest_ordered (Address a b) rows ordered)
groups_ascend (Born a b ∷ rows) ordered = groups_ascend rows (rest_ordered (Born a b) rows ordered)
groups_ascend (Waiting m s c l ∷ rows) ordered =
    (groups_after m s c l rows (first_may (Waiting m s c l) rows ordered) (rest_ordered (Waiting m s c l) rows ordered), groups_ascend rows (rest_ordered (Waiting m s c l) rows ordered))
groups_ascend (State z ∷ rows) ordered = groups_ascend rows (rest_ordered (State z) rows ordered)

-- ---- the last row

-- rows of which the last one is a State
pub record HasState (rows : List StoreRow) : Type 0 where
  pub front : List StoreRow
  pub state : StateRow
  pub is : rows ≡ front ++ State state ∷ []

alone_state : (x : StoreRow) → tag x ≡ 10 → HasState (x ∷ [])
alone_state (Entity a) is = absurd (omega (arith, is))
alone_state (Kept a) is = absurd (omega (arith, is))
alone_state (Extend a) is = absurd (omega (arith, is))
alone_state (Name a b) is = absurd (omega (arith, is))
alone_state (Life a b) is = absurd (omega (arith, is))
alone_state (Held a b e) is = absurd (omega (arith, is))
alone_state (Address a b) is = absurd (omega (arith, is))
alone_state (Born a b) is = absurd (omega (arith, is))
alone_state (Waiting o u e j) is = absurd (omega (arith, is))
alone_state (State z) is = record { front = []; state = z; is = refl }

pub has_state : (rows : List StoreRow) → EndInState rows → HasState rows
has_state [] (i, at, is) = absurd (omega (arith, at))
has_state (x ∷ []) (zero, at, is) = alone_state x (is x)
has_state (x ∷ []) (suc i, at, is) = absurd (omega (arith, at))
has_state (x ∷ y ∷ rows) (zero, at, is) = absurd (omega (arith, at))
has_state (x ∷ y ∷ rows) (suc i, at, is) =
    let rest = has_state (y ∷ rows) (i, omega (arith, at), is) in
    record { front = x ∷ rest.front; state = rest.state; is = ap (λ (r : List StoreRow). x ∷ r) rest.is }

-- what is asked of the last row
pub last_stands : (P : List StoreRow → StoreRow → Type 0) (before front : List StoreRow) (row : StoreRow) → EachAfter P before (front ++ row ∷ []) → P (before ++ front) row
last_stands P before [] row each = subst (λ (r : List StoreRow). P r row) (sym (append-nil before)) each.0
last_stands P before (x ∷ front) row each = subst (λ (r : List StoreRow). P r row) (append_assoc before (x ∷ []) front) (last_stands P (before ++ x ∷ []) front row each.1)
