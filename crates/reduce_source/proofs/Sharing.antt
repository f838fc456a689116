-- The sets of all objects after one took in the numbers of another.
use Rattle.std.proofs.Common.{◌≡◌, ◌≢◌, ◌⊎◌, ◌↔◌, ℕ, zero, suc, ◌/◌, ◌%◌, ◌<◌, ◌≤◌, List, [], ◌∷◌, ◌++◌, length, get_or, set, Bool, true, false, if◌then◌else◌, refl, sym, ap, subst, ◌∙◌, arith, inl, inr}
use Rattle.std.proofs.lemmas.Bool.{cases_eq}
use Rattle.std.proofs.lemmas.List.{length-set, get_or-set_same, get_or-set_other}
use Rattle.reduce_source.specs.BitsOf.{HasBit}
use Rattle.reduce_source.specs.IdLists.{AreHeld}
use Rattle.reduce_source.specs.Pools.{AreHeldIn, AreKeptIn, ChangesBoth, Has, words_at}
use Rattle.reduce_source.specs.declared.pools.Pools.{Pools}
use Rattle.reduce_source.proofs.Pooling.{none_kept, others_kept, others_held, kept_words}
use Rattle.reduce_source.proofs.SetBits.{none_beyond}

-- another list than that of x may share its pages with x
pub list_kept : (x with : ℕ) (sets : List (List ℕ)) (empty : List ℕ) (pools : Pools) → empty ≡ [] → x < length sets → ((v : ℕ) → AreHeldIn v pools (get_or sets v [])) → AreKeptIn x pools (get_or (set sets x empty) with [])
list_kept x with sets empty pools none fits held = elim (cases_eq with x) [
  | inl e ↦ none_kept x pools (get_or (set sets x empty) with []) (ap (λ w. get_or (set sets x empty) w []) e ∙ get_or-set_same sets x empty [] fits ∙ none)
  | inr n ↦ subst (AreKeptIn x pools) (sym (get_or-set_other sets x with empty [] n)) (others_kept x with pools n (get_or sets with []) (held with))
]

-- The object `into` has another list now.
module _ (into most : ℕ) (sets after : List (List ℕ)) (joined : List ℕ) (old new : Pools) (there : get_or after into [] ≡ joined) (elsewhere : (v : ℕ) → v ≢ into → get_or after v [] ≡ get_or sets v [])
    (held : (v : ℕ) → AreHeldIn v old (get_or sets v [])) (changes : ChangesBoth into most old new) where
  -- each object has its pages and blocks
  pub all_held : (width : ℕ) → AreHeldIn into new joined → length joined ≤ width → ((v : ℕ) → length (get_or sets v []) ≤ width) → AreHeld after new width
  all_held width own fits narrow = record {
    ids = λ v. elim (cases_eq v into) [
      | inl e ↦ subst (λ w. AreHeldIn w new (get_or after w [])) (sym e) (subst (AreHeldIn into new) (sym there) own)
      | inr n ↦ subst (AreHeldIn v new) (sym (elsewhere v n)) (others_held into most old new changes v n (get_or sets v []) (held v))
    ];
    narrow = λ v. elim (cases_eq v into) [
      | inl e ↦ subst (λ w. length (get_or after w []) ≤ width) (sym e) (subst (λ list. length list ≤ width) (sym there) fits)
      | inr n ↦ subst (λ list. length list ≤ width) (sym (elsewhere v n)) (narrow v)
    ];
  }

  -- the numbers of another object are as before
  pub same_numbers : (v : ℕ) → v ≢ into → (n : ℕ) → Has new (get_or after v []) n ↔ Has old (get_or sets v []) n
  same_numbers v d n =
      let same : words_at new (get_or after v []) (n / 512) ≡ words_at old (get_or sets v []) (n / 512) =
      ap (λ list. words_at new list (n / 512)) (elsewhere v d) ∙ kept_words into most old new changes (get_or sets v []) (others_kept into v old d (get_or sets v []) (held v)) (n / 512) in
      (λ t. subst (λ w. HasBit w (n % 512)) same t, λ t. subst (λ w. HasBit w (n % 512)) (sym same) t)

  -- it took one number in
  pub sets_marked : (number : ℕ) → ((n : ℕ) → Has new joined n ↔ (Has old (get_or sets into []) n ⊎ (n ≡ number))) → (v n : ℕ) → Has new (get_or after v []) n ↔ (Has old (get_or sets v []) n ⊎ ((v ≡ into) × (n ≡ number)))
  sets_marked number more v n = elim (cases_eq v into) [
    | inl e ↦
        let at : get_or after v [] ≡ joined = ap (λ w. get_or after w []) e ∙ there in
        let was : get_or sets v [] ≡ get_or sets into [] = ap (λ w. get_or sets w []) e in (
          λ t. elim ((more n).0 (subst (λ list. Has new list n) at t)) [
            | inl o ↦ inl (subst (λ list. Has old list n) (sym was) o)
            | inr s ↦ inr (e, s)
          ],
          λ o. subst (λ list. Has new list n) (sym at) ((more n).1 (elim o [
            | inl t ↦ inl (subst (λ list. Has old list n) was t)
            | inr p ↦ inr p.1
          ])),
        )
    | inr d ↦
        let same = same_numbers v d n in
        (λ t. inl (same.0 t), λ o. elim o [ inl t ↦ same.1 t | inr p ↦ absurd (d p.0) ])
  ]

-- The list of an object was taken out, and another was put in its place.
module _ (into : ℕ) (sets : List (List ℕ)) (empty joined : List ℕ) (fits : into < length sets) where
  pub put_there : get_or (set (set sets into empty) into joined) into [] ≡ joined
  put_there = get_or-set_same (set sets into empty) into joined [] (let l = length-set sets into empty in omega (arith, l, fits))

  pub put_elsewhere : (v : ℕ) → v ≢ into → get_or (set (set sets into empty) into joined) v [] ≡ get_or sets v []
  put_elsewhere v n = get_or-set_other (set sets into empty) into v joined [] n ∙ get_or-set_other sets into v empty [] n

module _ (into most : ℕ) (sets : List (List ℕ)) (empty joined : List ℕ) (old new : Pools) (fits : into < length sets)
    (held : (v : ℕ) → AreHeldIn v old (get_or sets v [])) (changes : ChangesBoth into most old new) where
  pub sets_joined : (with : ℕ) (mine more : List ℕ) → empty ≡ [] → mine ≡ get_or sets into [] → more ≡ get_or (set sets into empty) with []
      → ((n : ℕ) → Has new joined n ↔ (Has old mine n ⊎ Has old more n))
      → (v n : ℕ) → Has new (get_or (set (set sets into empty) into joined) v []) n ↔ (Has old (get_or sets v []) n ⊎ ((v ≡ into) × Has old (get_or sets with []) n))
  sets_joined with mine more none mine_is more_is both v n = elim (cases_eq v into) [
    | inl e ↦
        let at : get_or (set (set sets into empty) into joined) v [] ≡ joined = ap (λ w. get_or (set (set sets into empty) into joined) w []) e ∙ put_there into sets empty joined fits in
        let was : mine ≡ get_or sets v [] = mine_is ∙ ap (λ w. get_or sets w []) (sym e) in (
          λ t. elim ((both n).0 (subst (λ list. Has new list n) at t)) [
            | inl o ↦ inl (subst (λ list. Has old list n) was o)
            | inr m ↦ inr (e, taken n m)
          ],
          λ o. subst (λ list. Has new list n) (sym at) ((both n).1 (elim o [
            | inl t ↦ inl (subst (λ list. Has old list n) (sym was) t)
            | inr p ↦ given n p.1
          ])),
        )
    | inr d ↦
        let same = same_numbers into most sets (set (set sets into empty) into joined) joined old new (put_there into sets empty joined fits) (put_elsewhere into sets empty joined fits) held changes v d n in
        (λ t. inl (same.0 t), λ o. elim o [ inl t ↦ same.1 t | inr p ↦ absurd (d p.0) ])
  ]
    where
      -- the other list was that of another object, or it is the empty one
      apart : with ≢ into → more ≡ get_or sets with []
      apart d = more_is ∙ get_or-set_other sets into with empty [] d

      taken : (n : ℕ) → Has old more n → Has old (get_or sets with []) n
      taken n m = elim (cases_eq with into) [
        | inl e ↦
            let none_there : more ≡ [] = more_is ∙ ap (λ w. get_or (set sets into empty) w []) e ∙ get_or-set_same sets into empty [] fits ∙ none in
            absurd (none_beyond old [] n (omega arith) (subst (λ list. Has old list n) none_there m))
        | inr d ↦ subst (λ list. Has old list n) (apart d) m
      ]

      given : (n : ℕ) → Has old (get_or sets with []) n → Has old mine n ⊎ Has old more n
      given n h = elim (cases_eq with into) [
        | inl e ↦ inl (subst (λ list. Has old list n) (ap (λ w. get_or sets w []) e ∙ sym mine_is) h)
        | inr d ↦ inr (subst (λ list. Has old list n) (sym (apart d)) h)
      ]

-- one more object has no list yet
none_pushed : (sets : List (List ℕ)) (none : List ℕ) → none ≡ [] → (v : ℕ) → get_or (sets ++ none ∷ []) v [] ≡ get_or sets v []
none_pushed [] none e zero = e
none_pushed [] none e (suc v) = refl
none_pushed (s ∷ sets) none e zero = refl
none_pushed (s ∷ sets) none e (suc v) = none_pushed sets none e v

pub pushed_or_not : (pushed : Bool) (sets after : List (List ℕ)) (none : List ℕ) → none ≡ [] → after ≡ (if pushed then sets ++ none ∷ [] else sets) → (v : ℕ) → get_or after v [] ≡ get_or sets v []
pushed_or_not true sets after none e is v = ap (λ s. get_or s v []) is ∙ none_pushed sets none e v
pushed_or_not false sets after none e is v = ap (λ s. get_or s v []) is

-- the same lists by object
pub same_lists : (sets other : List (List ℕ)) (pools : Pools) (width : ℕ) → ((v : ℕ) → get_or other v [] ≡ get_or sets v []) → AreHeld sets pools width → AreHeld other pools width
same_lists sets other pools width e h = record {
  ids = λ v. subst (AreHeldIn v pools) (sym (e v)) (h.ids v);
  narrow = λ v. subst (λ list. length list ≤ width) (sym (e v)) (h.narrow v);
}
