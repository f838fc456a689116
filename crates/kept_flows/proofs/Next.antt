-- Flows that come next, one by one.
use Rattle.std.proofs.Common.{◌≡◌, ℕ, suc, ◌<◌, ◌≤◌, ◌^◌, ◌+◌, inl, inr, List, [], ◌∷◌, ◌++◌, length, get_or, take, drop, refl, sym, ap, subst, ◌∙◌, arith}
use Rattle.std.specs.List.{Contains}
use Rattle.std.specs.Option.{unwrap_or}
use Rattle.std.proofs.lemmas.List.{append_assoc, get_or_append_left, length-append, take-append-le, take_more}
use Rattle.std.proofs.lemmas.List.Elements.{Contains-push, Contains-append_left, Contains-append_right}
use Rattle.std.proofs.Math.Seq.{get_or-append_right, split_at}
use Rattle.flow_base.specs.declared.types.Flow.{Flow}
use Rattle.reach_model.specs.declared.modes.Mode.{Mode}
use Rattle.reach_model.specs.Flows.{IsLawful, place, time}
use Rattle.reach_model.specs.Numbers.{IsNumbered, known}
use Rattle.reach_model.specs.Rows.{Row, Keeps}
use Rattle.reach_model.proofs.Faithful.{kept_first, kept_last}
use Rattle.reach_model.proofs.Lawful.{below_length, last_ends, times_ordered}
use Rattle.reach_model.proofs.Numbering.{ends_known, known_push, numbered_last}
use Rattle.reach_rows.specs.Kept.{GoOn}
use Rattle.reach_rows.proofs.NextFlow.{no_more_rows}
use Rattle.kept_flows.specs.KeptFlows.{ComeNext, KeptFlows, StandsFor}
use Rattle.kept_flows.specs.Taking.{AllComeAfter, IsFlowOf, IsNextOf, MayTakeIn}
use Rattle.kept_flows.proofs.Later.{after_rows}

module _ (G H : List Flow) where
  longer : (k : ℕ) → k < length G → k < length (G ++ H)
  longer k h = simp length-append (omega arith)

  front : (k : ℕ) → k < length G → take k (G ++ H) ≡ take k G
  front k h = let low : k ≤ length G = omega arith in take-append-le k G H low

  -- lawful flows began lawfully
  pub lawful_start : IsLawful (G ++ H) → IsLawful G
  lawful_start l = record {
    places = λ k d h. rw (get_or_append_left G H d k h) at (l.places k d (longer k h));
    times = λ j k d i h. let low : j < length G = omega arith in
        rw (get_or_append_left G H d j low) at (rw (get_or_append_left G H d k h) at (l.times j k d i (longer k h)));
    ends = λ k d h. rw (get_or_append_left G H d k h) at (l.ends k d (longer k h));
  }

  -- and with the first numbers
  pub numbered_start : IsNumbered (G ++ H) → IsNumbered G
  numbered_start n = record {
    sources = λ k d h. rw (get_or_append_left G H d k h, front k h) at (n.sources k d (longer k h));
    targets = λ k d h. rw (get_or_append_left G H d k h, front k h) at (n.targets k d (longer k h));
  }

-- the flows up to one of those that come next
up_to : (F more : List Flow) (i : ℕ) (d : Flow) → i < length more → F ++ more ≡ ((F ++ take i more) ++ get_or more i d ∷ []) ++ drop (suc i) more
up_to F more i d h = ap (λ xs. F ++ xs) (split_at more i d h) ∙ simp append_assoc refl

-- one flow after the other
pub one_more : (F more : List Flow) (i : ℕ) (d : Flow) → i < length more → (F ++ take i more) ++ get_or more i d ∷ [] ≡ F ++ take (i + 1) more
one_more F more i d h = append_assoc F (take i more) (get_or more i d ∷ []) ∙ ap (λ xs. F ++ xs) (sym (take_more more i d h))

-- each of the flows that come next is the next one after those before it
pub next_of : (F more : List Flow) (i : ℕ) (d : Flow) → i < length more → ComeNext F more → IsNextOf (F ++ take i more) (get_or more i d)
next_of F more i d h n =
    let f = get_or more i d in
    let G = (F ++ take i more) ++ f ∷ [] in
    let H = drop (suc i) more in
    let split = up_to F more i d h in
    let b = ends_known (G ++ H) f (Contains-append_left G H f (Contains-push (F ++ take i more) f)) in
    let few : known (G ++ H) < 2 ^ 32 = subst (λ xs. known xs < 2 ^ 32) split n.few_objects in
    record {
      lawful = lawful_start G H (subst IsLawful split n.lawful);
      numbered = numbered_start G H (subst IsNumbered split n.numbered);
      few_objects = omega (arith, b.0, b.1, few);
    }

-- flows that come next go on with the numbering
pub go_on : (F more : List Flow) → IsLawful (F ++ more) → IsNumbered (F ++ more) → known (F ++ more) < 2 ^ 32 → GoOn (known F) more
go_on F [] l n few = tt
go_on F (f ∷ more) l n few =
    let G = F ++ f ∷ [] in
    let split : F ++ f ∷ more ≡ G ++ more = sym (append_assoc F (f ∷ []) more) in
    let lawful = subst IsLawful split l in
    let numbered = subst IsNumbered split n in
    let all : known (G ++ more) < 2 ^ 32 = subst (λ xs. known xs < 2 ^ 32) split few in
    let ends = numbered_last F f (numbered_start G more numbered) in
    let b = ends_known (G ++ more) f (Contains-append_left G more f (Contains-push F f)) in (
      record {
        ends_differ = last_ends F f (lawful_start G more lawful);
        source_known_or_next = ends.0;
        target_known_or_next = ends.1;
        few = omega (arith, b.0, b.1, all);
      },
      subst (λ k. GoOn k more) (known_push F f) (go_on G more lawful numbered all),
    )

-- and come after the rows that a mode keeps of the flows before them
module _ {mode : Mode} {F : List Flow} {R : List Row} (k : Keeps mode F R) (l : IsLawful F) (more : List Flow) (all : IsLawful (F ++ more)) where
  there : (i : ℕ) (d : Flow) → get_or (F ++ more) (length F + i) d ≡ get_or more i d
  there i d = get_or-append_right F more (length F + i) d (omega arith) ∙ ap (λ n. get_or more n d) (omega arith)

  within : (i : ℕ) → i < length more → length F + i < length (F ++ more)
  within i h = simp length-append (omega arith)

  kept_before : (h : Flow) → IsFlowOf R h → Contains F h
  kept_before h is = elim is [ inl first ↦ kept_first l k h first | inr last ↦ kept_last l k h last ]

  pub come_after : AllComeAfter R more
  come_after = record {
    rows = λ g c. after_rows R g (λ h is.
        let old = kept_before h is in
        let low = below_length l h old in
        let at : place g ≡ length F + c.0 = subst (λ (x : Flow). place x ≡ length F + c.0) (there c.0 g ∙ c.2) (all.places (length F + c.0) g (within c.0 c.1)) in
        let before : place h < place g = omega (arith, low, at) in
        (before, times_ordered all h g (Contains-append_left F more h old) (Contains-append_right F more g c) (omega (arith, before))));
    places = λ i j d low h.
        let hi : i < length more = omega (arith, low, h) in
        let first = subst (λ (x : Flow). place x ≡ length F + i) (there i d) (all.places (length F + i) d (within i hi)) in
        let second = subst (λ (x : Flow). place x ≡ length F + j) (there j d) (all.places (length F + j) d (within j h)) in
        omega (arith, low, first, second);
    times = λ i j d low h.
        subst (λ (x : Flow). time x ≤ time (get_or more j d)) (there i d)
        (subst (λ (x : Flow). time (get_or (F ++ more) (length F + i) d) ≤ time x) (there j d) (all.times (length F + i) (length F + j) d (omega arith) (within j h)));
  }

pub come_next_may : (kept : KeptFlows) (F more : List Flow) → StandsFor kept F → ComeNext F more → MayTakeIn kept more
come_next_may kept F more s n = record {
  numbered = subst (λ k. GoOn k more) s.objects_known (go_on F more n.lawful n.numbered n.few_objects);
  few_flows =
      let fewer = no_more_rows s.keeps in
      let all : length (F ++ more) ≡ length F + length more = length-append F more in
      omega (arith, s.counted, n.few_flows, fewer, all);
  later = λ R e. subst (λ T. AllComeAfter T more) (ap (λ o. unwrap_or o R) (sym s.told ∙ e)) (come_after s.keeps s.lawful more n.lawful);
}
