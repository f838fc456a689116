-- Values in a pool by their ids.
use Rattle.std.proofs.Common.{◌≡◌, ◌≢◌, ℕ, zero, suc, ◌+◌, ◌-◌, ◌<◌, ◌≤◌, List, [], ◌∷◌, ◌++◌, length, get_or, set, Option, Some, None, refl, sym, ap, subst, ◌∙◌, arith, inl, inr}
use Rattle.std.proofs.lemmas.Bool.{cases_eq}
use Rattle.reduce_source.specs.Slots.{value_at, value_of, owner_at, owner_of}
use Rattle.reduce_source.specs.declared.slot.Slot.{Slot}
use Rattle.reduce_source.specs.declared.slot.Owner.TheVariants.{Nobody}

-- no value is past the end
value_past : {T : Type 0} → (slots : List (Slot T)) (k : ℕ) → length slots ≤ k → value_at slots k ≡ None
value_past [] k h = refl
value_past (s ∷ rest) zero h = absurd (omega (arith, h))
value_past (s ∷ rest) (suc k) h = value_past rest k (omega (arith, h))

owner_past : {T : Type 0} → (slots : List (Slot T)) (k : ℕ) → length slots ≤ k → owner_at slots k ≡ Nobody 0
owner_past [] k h = refl
owner_past (s ∷ rest) zero h = absurd (omega (arith, h))
owner_past (s ∷ rest) (suc k) h = owner_past rest k (omega (arith, h))

-- the value at a place
value_there : {T : Type 0} → (slots : List (Slot T)) (k : ℕ) (d : Slot T) → k < length slots → value_at slots k ≡ Some (get_or slots k d).value
value_there [] k d h = absurd (omega (arith, h))
value_there (s ∷ rest) zero d h = refl
value_there (s ∷ rest) (suc k) d h = value_there rest k d (omega (arith, h))

owner_there : {T : Type 0} → (slots : List (Slot T)) (k : ℕ) (d : Slot T) → k < length slots → owner_at slots k ≡ (get_or slots k d).owner
owner_there [] k d h = absurd (omega (arith, h))
owner_there (s ∷ rest) zero d h = refl
owner_there (s ∷ rest) (suc k) d h = owner_there rest k d (omega (arith, h))

-- one more value: it stands last, and the others stay
value_push : {T : Type 0} → (slots : List (Slot T)) (new : Slot T) (k : ℕ) → k ≢ length slots → value_at (slots ++ new ∷ []) k ≡ value_at slots k
value_push [] new zero n = absurd (n refl)
value_push [] new (suc k) n = refl
value_push (s ∷ rest) new zero n = refl
value_push (s ∷ rest) new (suc k) n = value_push rest new k (λ e. n (ap suc e))

owner_push : {T : Type 0} → (slots : List (Slot T)) (new : Slot T) (k : ℕ) → k ≢ length slots → owner_at (slots ++ new ∷ []) k ≡ owner_at slots k
owner_push [] new zero n = absurd (n refl)
owner_push [] new (suc k) n = refl
owner_push (s ∷ rest) new zero n = refl
owner_push (s ∷ rest) new (suc k) n = owner_push rest new k (λ e. n (ap suc e))

value_last : {T : Type 0} → (slots : List (Slot T)) (new : Slot T) → value_at (slots ++ new ∷ []) (length slots) ≡ Some new.value
value_last [] new = refl
value_last (s ∷ rest) new = value_last rest new

owner_last : {T : Type 0} → (slots : List (Slot T)) (new : Slot T) → owner_at (slots ++ new ∷ []) (length slots) ≡ new.owner
owner_last [] new = refl
owner_last (s ∷ rest) new = owner_last rest new

-- a value in the place of another: the others stay
value_set : {T : Type 0} → (slots : List (Slot T)) (i : ℕ) (new : Slot T) → i < length slots → value_at (set slots i new) i ≡ Some new.value
value_set [] i new h = absurd (omega (arith, h))
value_set (s ∷ rest) zero new h = refl
value_set (s ∷ rest) (suc i) new h = value_set rest i new (omega (arith, h))

owner_set : {T : Type 0} → (slots : List (Slot T)) (i : ℕ) (new : Slot T) → i < length slots → owner_at (set slots i new) i ≡ new.owner
owner_set [] i new h = absurd (omega (arith, h))
owner_set (s ∷ rest) zero new h = refl
owner_set (s ∷ rest) (suc i) new h = owner_set rest i new (omega (arith, h))

value_beside : {T : Type 0} → (slots : List (Slot T)) (i k : ℕ) (new : Slot T) → k ≢ i → value_at (set slots i new) k ≡ value_at slots k
value_beside [] i k new n = refl
value_beside (s ∷ rest) zero zero new n = absurd (n refl)
value_beside (s ∷ rest) zero (suc k) new n = refl
value_beside (s ∷ rest) (suc i) zero new n = refl
value_beside (s ∷ rest) (suc i) (suc k) new n = value_beside rest i k new (λ e. n (ap suc e))

owner_beside : {T : Type 0} → (slots : List (Slot T)) (i k : ℕ) (new : Slot T) → k ≢ i → owner_at (set slots i new) k ≡ owner_at slots k
owner_beside [] i k new n = refl
owner_beside (s ∷ rest) zero zero new n = absurd (n refl)
owner_beside (s ∷ rest) zero (suc k) new n = refl
owner_beside (s ∷ rest) (suc i) zero new n = refl
owner_beside (s ∷ rest) (suc i) (suc k) new n = owner_beside rest i k new (λ e. n (ap suc e))

-- the same by ids
pub id_past : {T : Type 0} → (slots : List (Slot T)) (id : ℕ) → 0 < id → length slots < id → value_of slots id ≡ None
id_past slots zero some h = absurd (omega (arith, some))
id_past slots (suc k) some h = value_past slots k (omega (arith, h))

pub id_value : {T : Type 0} → (slots : List (Slot T)) (id : ℕ) (d : Slot T) → 0 < id → id ≤ length slots → value_of slots id ≡ Some (get_or slots (id - 1) d).value
id_value slots zero d some h = absurd (omega (arith, some))
id_value slots (suc k) d some h = let e : suc k - 1 ≡ k = omega arith in value_there slots k d (omega (arith, h)) ∙ ap (λ i. Some (get_or slots i d).value) (sym e)

pub id_owner : {T : Type 0} → (slots : List (Slot T)) (id : ℕ) (d : Slot T) → 0 < id → id ≤ length slots → owner_of slots id ≡ (get_or slots (id - 1) d).owner
id_owner slots zero d some h = absurd (omega (arith, some))
id_owner slots (suc k) d some h = let e : suc k - 1 ≡ k = omega arith in owner_there slots k d (omega (arith, h)) ∙ ap (λ i. (get_or slots i d).owner) (sym e)

-- what a list of values says of each id after one was put at `id`
pub record IsPutAt {T : Type 0} (id : ℕ) (slot : Slot T) (old new : List (Slot T)) : Type 0 where
  pub value : value_of new id ≡ Some slot.value
  pub owner : owner_of new id ≡ slot.owner
  pub others : (other : ℕ) → other ≢ id → value_of new other ≡ value_of old other
  pub owners : (other : ℕ) → other ≢ id → owner_of new other ≡ owner_of old other

pub pushed : {T : Type 0} → (slots : List (Slot T)) (slot : Slot T) (id : ℕ) → id ≡ length slots + 1 → IsPutAt id slot slots (slots ++ slot ∷ [])
pushed slots slot zero e = absurd (omega (arith, e))
pushed slots slot (suc k) e =
    let last : k ≡ length slots = omega (arith, e) in
    record {
      value = ap (value_at (slots ++ slot ∷ [])) last ∙ value_last slots slot;
      owner = ap (owner_at (slots ++ slot ∷ [])) last ∙ owner_last slots slot;
      others = values;
      owners = owners;
    }
  where
    values : (other : ℕ) → other ≢ suc k → value_of (slots ++ slot ∷ []) other ≡ value_of slots other
    values zero n = refl
    values (suc i) n = value_push slots slot i (λ l. n (omega (arith, l, e)))

    owners : (other : ℕ) → other ≢ suc k → owner_of (slots ++ slot ∷ []) other ≡ owner_of slots other
    owners zero n = refl
    owners (suc i) n = owner_push slots slot i (λ l. n (omega (arith, l, e)))

pub replaced : {T : Type 0} → (slots : List (Slot T)) (slot : Slot T) (id : ℕ) → 0 < id → id ≤ length slots → IsPutAt id slot slots (set slots (id - 1) slot)
replaced slots slot zero some h = absurd (omega (arith, some))
replaced slots slot (suc k) some h =
    let e : suc k - 1 ≡ k = omega arith in
    subst (λ i. IsPutAt (suc k) slot slots (set slots i slot)) (sym e)
    (record {
      value = value_set slots k slot (omega (arith, h));
      owner = owner_set slots k slot (omega (arith, h));
      others = values;
      owners = owners;
    })
  where
    values : (other : ℕ) → other ≢ suc k → value_of (set slots k slot) other ≡ value_of slots other
    values zero n = refl
    values (suc i) n = value_beside slots k i slot (λ l. n (ap suc l))

    owners : (other : ℕ) → other ≢ suc k → owner_of (set slots k slot) other ≡ owner_of slots other
    owners zero n = refl
    owners (suc i) n = owner_beside slots k i slot (λ l. n (ap suc l))

-- nobody has a value past the end
pub id_free : {T : Type 0} → (slots : List (Slot T)) (id : ℕ) → 0 < id → length slots < id → owner_of slots id ≡ Nobody 0
id_free slots zero some h = absurd (omega (arith, some))
id_free slots (suc k) some h = owner_past slots k (omega (arith, h))

abbrev pub boxed : {T : Type 0} → Slot T → Option T
boxed s = Some s.value

-- the same value at an id
pub value_kept : {T : Type 0} → (slots : List (Slot T)) (id : ℕ) (was new : Slot T) → 0 < id → id ≤ length slots → was ≡ get_or slots (id - 1) was → Some new.value ≡ Some was.value
    → (other : ℕ) → value_of (set slots (id - 1) new) other ≡ value_of slots other
value_kept slots id was new some h is same other =
    let put = replaced slots new id some h in
    elim (cases_eq other id) [
      | inl e ↦
          let now : value_of (set slots (id - 1) new) other ≡ Some was.value = ap (value_of (set slots (id - 1) new)) e ∙ put.value ∙ same in
          let before : value_of slots other ≡ Some was.value = ap (value_of slots) e ∙ id_value slots id was some h ∙ ap boxed (sym is) in
          now ∙ sym before
      | inr n ↦ put.others other n
    ]
