-- What sets may do to values of a pool, and what stays of those of the others.
use Rattle.std.proofs.Common.{◌≡◌, ◌≢◌, ◌⊎◌, ℕ, ◌+◌, ◌≤◌, List, length, refl, sym, ap, subst, ◌∙◌, arith, inl, inr}
use Rattle.std.specs.declared.vec.Vec.{Vec}
use Rattle.std.proofs.lemmas.Bool.{cases_eq, cases_lt, eqb-true, eq-eqb}
use Rattle.reduce_source.specs.Slots.{value_of, owner_of}
use Rattle.reduce_source.specs.Owners.{IsFree, may_have, MayHave, IsKept, AreHeldBy, Changes, Replaces, Puts, Notes}
use Rattle.reduce_source.specs.declared.slot.Slot.{Slot}
use Rattle.reduce_source.proofs.Shelves.{id_free}
use Rattle.reduce_source.specs.declared.slot.Owner.{Owner}
use Rattle.reduce_source.specs.declared.slot.Owner.TheVariants.{Nobody, One, Many}

-- a value that the set of another object may have is kept from x
pub kept_from : (x v : ℕ) (o : Owner) → v ≢ x → MayHave v o → IsKept x o
kept_from x v (Nobody next) n h = absurd (cc)
kept_from x v (One y) n h = λ e. n (eqb-true v y h ∙ e)
kept_from x v Many n h = tt

pub may_own : (x : ℕ) (o : Owner) → o ≡ One x → MayHave x o
may_own x o e = ap (may_have x) e ∙ eq-eqb x x refl

pub may_share : (x : ℕ) (o : Owner) → o ≡ Many → MayHave x o
may_share x o e = ap (may_have x) e

-- it stays kept
pub kept_next : (x : ℕ) (old new : Owner) → (new ≡ old) ⊎ (new ≡ Many) → IsKept x old → IsKept x new
kept_next x old new s k = elim s [ inl e ↦ subst (IsKept x) (sym e) k | inr e ↦ subst (IsKept x) (sym e) tt ]

-- and stays that of the other object
pub had_next : (v : ℕ) (old new : Owner) → (new ≡ old) ⊎ (new ≡ Many) → MayHave v old → MayHave v new
had_next v old new s h = elim s [ inl e ↦ subst (MayHave v) (sym e) h | inr e ↦ may_share v new e ]

-- alone, it had it alone before
pub alone_before : (v : ℕ) (old new : Owner) → (new ≡ old) ⊎ (new ≡ Many) → new ≡ One v → old ≡ One v
alone_before v old new s e = elim s [ inl o ↦ sym o ∙ e | inr m ↦ let clash : Many ≡ One v = sym m ∙ e in absurd (cc) ]

-- a value that x may have is its own or also that of others
pub own_or_many : (x : ℕ) (o : Owner) → MayHave x o → (o ≡ One x) ⊎ (o ≡ Many)
own_or_many x (Nobody next) h = absurd (cc)
own_or_many x (One y) h = inl (ap One (sym (eqb-true x y h)))
own_or_many x Many h = inr refl

-- the values of the list of another object stay as they were
pub values_stay : {T A : Type 0} (x most v : ℕ) (old new : Vec (Slot T) A) (ids : ℕ → ℕ) → Changes x most old new → v ≢ x → AreHeldBy v old.items ids → (k : ℕ) → value_of new.items (ids k) ≡ value_of old.items (ids k)
values_stay x most v old new ids c n h k = c.values (ids k) (kept_from x v (owner_of old.items (ids k)) n (h.held k))

-- nothing has changed
pub no_change : {T A : Type 0} (x : ℕ) (old : Vec (Slot T) A) → Changes x 0 old old
no_change x old = record { values = λ id k. refl; owners = λ id k. inl refl; count = omega arith; capacity = refl }

-- changes after others
pub changes_next : {T A : Type 0} (x most more : ℕ) (old middle new : Vec (Slot T) A) → Changes x most old middle → Changes x more middle new → Changes x (most + more) old new
changes_next x most more old middle new a b = record {
  values = λ id k. b.values id (kept_next x (owner_of old.items id) (owner_of middle.items id) (a.owners id k) k) ∙ a.values id k;
  owners = λ id k. both (owner_of old.items id) (owner_of middle.items id) (owner_of new.items id) (a.owners id k) (b.owners id (kept_next x (owner_of old.items id) (owner_of middle.items id) (a.owners id k) k));
  count = let p = a.count in let q = b.count in omega (arith, p, q);
  capacity = b.capacity ∙ a.capacity;
}
  where
    both : (o m n : Owner) → (m ≡ o) ⊎ (m ≡ Many) → (n ≡ m) ⊎ (n ≡ Many) → (n ≡ o) ⊎ (n ≡ Many)
    both o m n s t = elim t [ inl e ↦ elim s [ inl f ↦ inl (e ∙ f) | inr f ↦ inr (e ∙ f) ] | inr e ↦ inr e ]

-- fewer values were added than may be
pub changes_most : {T A : Type 0} (x less most : ℕ) (old new : Vec (Slot T) A) → less ≤ most → Changes x less old new → Changes x most old new
changes_most x less most old new low c = record { values = c.values; owners = c.owners; count = let n = c.count in omega (arith, n, low); capacity = c.capacity }

-- the same ids, by place
pub held_same : {T : Type 0} (x : ℕ) (slots : List (Slot T)) (ids same : ℕ → ℕ) → ((k : ℕ) → same k ≡ ids k) → AreHeldBy x slots ids → AreHeldBy x slots same
held_same x slots ids same e h = record {
  held = λ k. subst (λ i. MayHave x (owner_of slots i)) (sym (e k)) (h.held k);
  once = λ j k s one. h.once j k (sym (e j) ∙ s ∙ e k) (ap (owner_of slots) (sym (e j)) ∙ one);
}

-- another set has the values that it had
pub held_others : {T A : Type 0} (x most v : ℕ) (old new : Vec (Slot T) A) (ids : ℕ → ℕ) → Changes x most old new → v ≢ x → AreHeldBy v old.items ids → AreHeldBy v new.items ids
held_others x most v old new ids c n h = record {
  held = λ k. had_next v (owner_of old.items (ids k)) (owner_of new.items (ids k)) (next k) (h.held k);
  once = λ j k s one. h.once j k s (alone_before v (owner_of old.items (ids j)) (owner_of new.items (ids j)) (next j) one);
}
  where
    next : (k : ℕ) → (owner_of new.items (ids k) ≡ owner_of old.items (ids k)) ⊎ (owner_of new.items (ids k) ≡ Many)
    next k = c.owners (ids k) (kept_from x v (owner_of old.items (ids k)) n (h.held k))

-- a set keeps its value in place of itself
pub no_replace : {T A : Type 0} (x id : ℕ) (old : Vec (Slot T) A) → MayHave x (owner_of old.items id) → Replaces x id id old old
no_replace x id old has = record {
  held = has;
  fresh = λ one. inl refl;
  rest = λ other n one. refl;
  own = λ other n one. one;
  changes = changes_most x 0 1 old old (omega arith) (no_change x old);
}

-- The set of x has the value `next` in place of that at a place of its list.
module _ {T A : Type 0} (x place next : ℕ) (ids after : ℕ → ℕ) (old new : Vec (Slot T) A) (there : after place ≡ next) (elsewhere : (k : ℕ) → k ≢ place → after k ≡ ids k)
    (h : AreHeldBy x old.items ids) (r : Replaces x (ids place) next old new) where
  -- the values of the other places of the list are others, or shared
  apart : (k : ℕ) → k ≢ place → owner_of old.items (ids k) ≡ One x → ids k ≢ ids place
  apart k n one e = n (h.once k place e one)

  pub value_beside : (k : ℕ) → k ≢ place → value_of new.items (ids k) ≡ value_of old.items (ids k)
  value_beside k n = elim (own_or_many x (owner_of old.items (ids k)) (h.held k)) [
    | inl one ↦ r.rest (ids k) (apart k n one) one
    | inr many ↦ r.changes.values (ids k) (subst (IsKept x) (sym many) tt)
  ]

  owner_beside : (k : ℕ) → k ≢ place → (owner_of new.items (ids k) ≡ owner_of old.items (ids k)) ⊎ (owner_of new.items (ids k) ≡ Many)
  owner_beside k n = elim (own_or_many x (owner_of old.items (ids k)) (h.held k)) [
    | inl one ↦ inl (r.own (ids k) (apart k n one) one ∙ sym one)
    | inr many ↦ r.changes.owners (ids k) (subst (IsKept x) (sym many) tt)
  ]

  -- the new value stands nowhere else if the set has it alone
  not_beside : (k : ℕ) → k ≢ place → ids k ≡ next → owner_of new.items next ≢ One x
  not_beside k n e one =
      let before : owner_of old.items (ids k) ≡ One x =
      alone_before x (owner_of old.items (ids k)) (owner_of new.items (ids k)) (owner_beside k n) (ap (owner_of new.items) e ∙ one) in
      elim (r.fresh one) [
        | inl mine ↦ apart k n before (e ∙ mine)
        | inr free ↦ subst IsFree (ap (owner_of old.items) (sym e) ∙ before) free
      ]

  pub held_next : AreHeldBy x new.items after
  held_next = record { held = held; once = once }
    where
      held : (k : ℕ) → MayHave x (owner_of new.items (after k))
      held k = elim (cases_eq k place) [
        | inl e ↦ subst (λ i. MayHave x (owner_of new.items i)) (sym (ap (λ i. after i) e ∙ there)) r.held
        | inr n ↦ subst (λ i. MayHave x (owner_of new.items i)) (sym (elsewhere k n))
            (had_next x (owner_of old.items (ids k)) (owner_of new.items (ids k)) (owner_beside k n) (h.held k))
      ]

      once : (j k : ℕ) → after j ≡ after k → owner_of new.items (after j) ≡ One x → j ≡ k
      once j k e one = elim (cases_eq j place) [
        | inl sj ↦
            let at : after j ≡ next = ap (λ i. after i) sj ∙ there in
            elim (cases_eq k place) [
              | inl sk ↦ sj ∙ sym sk
              | inr nk ↦ absurd (not_beside k nk (sym (elsewhere k nk) ∙ sym e ∙ at) (ap (owner_of new.items) (sym at) ∙ one))
            ]
        | inr nj ↦ elim (cases_eq k place) [
          | inl sk ↦
              let at : after j ≡ next = e ∙ ap (λ i. after i) sk ∙ there in
              absurd (not_beside j nj (sym (elsewhere j nj) ∙ at) (ap (owner_of new.items) (sym at) ∙ one))
          | inr nk ↦
              h.once j k (sym (elsewhere j nj) ∙ e ∙ elsewhere k nk)
              (alone_before x (owner_of old.items (ids j)) (owner_of new.items (ids j)) (owner_beside j nj) (ap (owner_of new.items) (sym (elsewhere j nj)) ∙ one))
        ]
      ]

-- A value of x alone, or of none, is put at an id.
module _ {T A : Type 0} (x id most : ℕ) (slot : Slot T) (old new : Vec (Slot T) A) (p : Puts id slot most old new) where
  -- it was not kept from x
  not_kept : (other : ℕ) → ¬ IsKept x (owner_of old.items id) → IsKept x (owner_of old.items other) → other ≢ id
  not_kept other off k e = off (subst (λ i. IsKept x (owner_of old.items i)) e k)

  pub put_changes : most ≤ 1 → ¬ IsKept x (owner_of old.items id) → Changes x 1 old new
  put_changes few off = record {
    values = λ other k. p.others other (not_kept other off k);
    owners = λ other k. inl (p.owners other (not_kept other off k));
    count = let c = p.count in omega (arith, c, few);
    capacity = p.capacity;
  }

pub free_not_kept : (x : ℕ) (o : Owner) → IsFree o → ¬ IsKept x o
free_not_kept x (Nobody next) f k = k
free_not_kept x (One y) f k = f
free_not_kept x Many f k = f

pub own_not_kept : (x : ℕ) (o : Owner) → o ≡ One x → ¬ IsKept x o
own_not_kept x o e k = (subst (IsKept x) e k) refl

-- a free value is not one of x
pub free_not_own : (x : ℕ) (o : Owner) → IsFree o → o ≢ One x
free_not_own x o f e = subst IsFree e f

-- x changes a value that it alone has
pub put_own : {T A : Type 0} (x id : ℕ) (slot : Slot T) (old new : Vec (Slot T) A) → Puts id slot 0 old new → slot.owner ≡ One x → owner_of old.items id ≡ One x → Replaces x id id old new
put_own x id slot old new p own was = record {
  held = may_own x (owner_of new.items id) (p.owner ∙ own);
  fresh = λ e. inl refl;
  rest = λ other n one. p.others other n;
  own = λ other n one. p.owners other n ∙ one;
  changes = put_changes x id 0 slot old new p (omega arith) (own_not_kept x (owner_of old.items id) was);
}

-- x has a new value
pub put_new : {T A : Type 0} (x mine next : ℕ) (slot : Slot T) (old new : Vec (Slot T) A) → Puts next slot 1 old new → slot.owner ≡ One x → IsFree (owner_of old.items next) → Replaces x mine next old new
put_new x mine next slot old new p own free = record {
  held = may_own x (owner_of new.items next) (p.owner ∙ own);
  fresh = λ e. inr free;
  rest = λ other n one. p.others other (apart other one);
  own = λ other n one. p.owners other (apart other one) ∙ one;
  changes = put_changes x next 1 slot old new p (omega arith) (free_not_kept x (owner_of old.items next) free);
}
  where
    apart : (other : ℕ) → owner_of old.items other ≡ One x → other ≢ next
    apart other one e = free_not_own x (owner_of old.items next) free (ap (owner_of old.items) (sym e) ∙ one)

-- there is a value that some set may have
pub id_fits : {T : Type 0} (x : ℕ) (slots : List (Slot T)) (id : ℕ) → IsKept x (owner_of slots id) → id ≤ length slots
id_fits x slots id k = elim (cases_lt (length slots) id) [
  | inl past ↦ absurd (subst (IsKept x) (id_free slots id (omega (arith, past)) past) k)
  | inr low ↦ omega (arith, low)
]

-- x leaves its value and takes over another, which others have too
pub taken_over : {T A : Type 0} (x mine other : ℕ) (old middle new : Vec (Slot T) A) → IsKept x (owner_of old.items other) → Notes mine old middle
    → (IsKept x (owner_of old.items mine) → owner_of middle.items mine ≡ owner_of old.items mine) → Notes other middle new → owner_of new.items other ≡ Many
    → Replaces x mine other old new
taken_over x mine other old middle new k left kept shared many = record {
  held = may_share x (owner_of new.items other) many;
  fresh = λ e. let clash : Many ≡ One x = sym many ∙ e in absurd (cc);
  rest = λ id n one. same id;
  own = λ id n one. shared.owners id (apart id one) ∙ left.owners id n ∙ one;
  changes = record {
    values = λ id h. same id;
    owners = owners;
    count = let a = left.count in let b = shared.count in omega (arith, a, b);
    capacity = shared.capacity ∙ left.capacity;
  };
}
  where
    same : (id : ℕ) → value_of new.items id ≡ value_of old.items id
    same id = shared.values id ∙ left.values id

    apart : (id : ℕ) → owner_of old.items id ≡ One x → id ≢ other
    apart id one e = own_not_kept x (owner_of old.items other) (ap (owner_of old.items) (sym e) ∙ one) k

    stayed : (id : ℕ) → IsKept x (owner_of old.items id) → owner_of middle.items id ≡ owner_of old.items id
    stayed id h = elim (cases_eq id mine) [
      | inl e ↦ subst (λ i. owner_of middle.items i ≡ owner_of old.items i) (sym e) (kept (subst (λ i. IsKept x (owner_of old.items i)) e h))
      | inr n ↦ left.owners id n
    ]

    owners : (id : ℕ) → IsKept x (owner_of old.items id) → (owner_of new.items id ≡ owner_of old.items id) ⊎ (owner_of new.items id ≡ Many)
    owners id h = elim (cases_eq id other) [
      | inl e ↦ inr (ap (owner_of new.items) e ∙ many)
      | inr n ↦ inl (shared.owners id n ∙ stayed id h)
    ]
