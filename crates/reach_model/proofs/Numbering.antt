-- What numbers by first appearance say of a list of flows, and of one flow more.
use Rattle.std.proofs.Common.{◌≡◌, ℕ, suc, ◌<◌, ◌≤◌, max, List, [], ◌∷◌, ◌++◌, length, get_or, take, refl, ap, subst, ◌∙◌, arith, inl, inr}
use Rattle.std.specs.List.{Contains}
use Rattle.std.proofs.lemmas.List.{length-append, get_or_append_left, get_or_push, take-append-le}
use Rattle.std.proofs.lemmas.List.Elements.{Contains-get_or, Contains-append_left, Contains-push, Contains-push_cases}
use Rattle.std.proofs.lemmas.Bool.{cases_lt}
use Rattle.std.proofs.Math.Seq.{take-length}
use Rattle.flow_base.specs.declared.types.Flow.{Flow}
use Rattle.reach_model.specs.Flows.{source, target, time}
use Rattle.reach_model.specs.Numbers.{beyond, known, IsNumbered, IsLawfulWith, MayFollow}
use Rattle.reach_model.proofs.Lawful.{lawful_front, lawful_push, last_place, last_ends, before_last, times_ordered}
use Rattle.reach_model.proofs.Members.{Contains-cons_cases}

pub known_push : (F : List Flow) (f : Flow) → known (F ++ f ∷ []) ≡ max (known F) (beyond f)
known_push [] f = omega arith
known_push (g ∷ F) f = let i = known_push F f in omega arith

pub ends_known : (F : List Flow) (g : Flow) → Contains F g → (source g < known F) × (target g < known F)
ends_known [] g c = absurd (omega (arith, c.1))
ends_known (f ∷ F) g c = elim (Contains-cons_cases F f g c) [
  | inl e ↦ (omega (arith, ap source e), omega (arith, ap target e))
  | inr r ↦ let i = ends_known F g r in (omega (arith, i.0), omega (arith, i.1))
]

-- both ends of each flow are below count
abbrev pub AreEndsBelow : ℕ → List Flow → Type 0
AreEndsBelow count F = (k : ℕ) (d : Flow) → k < length F → (source (get_or F k d) < count) × (target (get_or F k d) < count)

pub ends_below : {count : ℕ} {F : List Flow} → IsLawfulWith count F → AreEndsBelow count F
ends_below {count} {F} l k d h = let b = ends_known F (get_or F k d) (Contains-get_or F k d h) in
    let same = l.objects in
    (omega (arith, b.0), omega (arith, b.1))

-- one more flow, with the next numbers
module _ (F : List Flow) (f : Flow) where
  front : (k : ℕ) → k < length F → take k (F ++ f ∷ []) ≡ take k F
  front k h = let low : k ≤ length F = omega arith in take-append-le k F (f ∷ []) low

  whole : take (length F) (F ++ f ∷ []) ≡ F
  whole = take-append-le (length F) F (f ∷ []) (omega arith) ∙ take-length F

  pub numbered_front : IsNumbered (F ++ f ∷ []) → IsNumbered F
  numbered_front n = record {
    sources = λ k d h. rw (get_or_append_left F (f ∷ []) d k h, front k h) at (n.sources k d (simp length-append (omega arith)));
    targets = λ k d h. rw (get_or_append_left F (f ∷ []) d k h, front k h) at (n.targets k d (simp length-append (omega arith)));
  }

  pub numbered_last : IsNumbered (F ++ f ∷ []) → (source f ≤ known F) × (target f ≤ max (known F) (suc (source f)))
  numbered_last n = let at = get_or_push F f f (length F) refl in
      (rw (at, whole) at (n.sources (length F) f (simp length-append (omega arith))), rw (at, whole) at (n.targets (length F) f (simp length-append (omega arith))))

  pub numbered_push : IsNumbered F → source f ≤ known F → target f ≤ max (known F) (suc (source f)) → IsNumbered (F ++ f ∷ [])
  numbered_push n s t = record {
    sources = λ k d h. elim (cases_lt k (length F)) [
      | inl old ↦ rw (get_or_append_left F (f ∷ []) d k old, front k old) (n.sources k d old)
      | inr new ↦ let e : length F ≡ k = omega (arith, length-append F (f ∷ [])) in
          rw (get_or_push F f d k e, subst (λ j. take j (F ++ f ∷ []) ≡ F) e whole) s
    ];
    targets = λ k d h. elim (cases_lt k (length F)) [
      | inl old ↦ rw (get_or_append_left F (f ∷ []) d k old, front k old) (n.targets k d old)
      | inr new ↦ let e : length F ≡ k = omega (arith, length-append F (f ∷ [])) in
          rw (get_or_push F f d k e, subst (λ j. take j (F ++ f ∷ []) ≡ F) e whole) t
    ];
  }

pub lawful_next : (count : ℕ) (F : List Flow) (f : Flow) → IsLawfulWith count F → MayFollow F f → IsLawfulWith (max count (beyond f)) (F ++ f ∷ [])
lawful_next count F f l n = record {
  lawful = lawful_push F f l.lawful n.next_place n.no_earlier n.ends_differ;
  numbered = numbered_push F f l.numbered n.source_known_or_next n.target_known_or_next;
  objects = known_push F f ∙ ap (λ k. max k (beyond f)) l.objects;
}

-- a flow that is no earlier than a time that none before it passed is the latest
pub latest_push : (F : List Flow) (f : Flow) (t : ℕ) → ((g : Flow) → Contains F g → time g ≤ t) → t ≤ time f → (g : Flow) → Contains (F ++ f ∷ []) g → time g ≤ time f
latest_push F f t h le g c = elim (Contains-push_cases F f g c) [
  | inl old ↦ omega (arith, h g old)
  | inr new ↦ omega (arith, ap time new)
]

pub only_next : (count : ℕ) (F : List Flow) (f : Flow) → IsLawfulWith count (F ++ f ∷ []) → IsLawfulWith (known F) F × MayFollow F f
only_next count F f l =
    let last = numbered_last F f l.numbered in (
      record { lawful = lawful_front F f l.lawful; numbered = numbered_front F f l.numbered; objects = refl },
      record {
        next_place = last_place F f l.lawful;
        no_earlier = λ g c. times_ordered l.lawful g f (Contains-append_left F (f ∷ []) g c) (Contains-push F f) (omega (arith, before_last F f g l.lawful c));
        ends_differ = last_ends F f l.lawful;
        source_known_or_next = last.0;
        target_known_or_next = last.1;
      },
    )
