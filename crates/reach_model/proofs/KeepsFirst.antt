-- In every mode the first flow of each object is the first flow of a row.
use Rattle.std.proofs.Common.{◌≡◌, ℕ, suc, List, [], ◌∷◌, ◌++◌, get_or, refl, sym, ap, subst, ◌∙◌, ◌⊎◌, inl, inr}
use Rattle.std.specs.List.{Contains}
use Rattle.std.specs.Option.{option_or}
use Rattle.std.proofs.lemmas.List.{map-append}
use Rattle.std.proofs.Math.Seq.{map-set_same}
use Rattle.flow_base.specs.declared.types.Flow.{Flow}
use Rattle.reach_model.specs.declared.modes.Mode.{Mode}
use Rattle.reach_model.specs.declared.modes.Mode.TheVariants.{Plain, Continuous, Full, Source}
use Rattle.reach_model.specs.declared.modes.Verdict.TheVariants.{Drop, Add, Extend}
use Rattle.reach_model.specs.Flows.{source, target, place, IsLawful}
use Rattle.reach_model.specs.Paths.{Path}
use Rattle.reach_model.specs.Sources.{first_at}
use Rattle.reach_model.specs.Rows.{Row, IsSourceOf, IsVerdict, row_of, firsts, Keeps, none, more}
use Rattle.reach_model.proofs.Lawful.{lawful_front, last_ends}
use Rattle.reach_model.proofs.RowFacts.{rows_of, carries}
use Rattle.reach_model.proofs.Twins.{first_there}
use Rattle.reach_model.proofs.FirstFlows.{IsKnown, known_by, known_or_not, first_push, first_same, first_new, source_stays, has_source, touches_source, touches_target}

-- a path between two objects makes them known
pub path_start : (F : List Flow) (n u v : ℕ) (p : List Flow) → Path (Contains F) n u v p → (u ≡ v) ⊎ IsKnown F u
path_start F n u v [] w = inl w
path_start F n u v (f ∷ p) w = inr (known_by F f u w.0 (touches_source f u w.2))

pub path_end : (F : List Flow) (n u v : ℕ) (p : List Flow) → Path (Contains F) n u v p → (u ≡ v) ⊎ IsKnown F v
path_end F n u v [] w = inl w
path_end F n u v (f ∷ []) w = inr (known_by F f v w.0 (touches_target f v w.3))
path_end F n u v (f ∷ g ∷ p) w = elim (path_end F (suc (place f)) (target f) v (g ∷ p) w.3) [
  | inl e ↦ inr (subst (IsKnown F) e (known_by F f (target f) w.0 (touches_target f (target f) refl)))
  | inr k ↦ inr k
]

source_known : (F : List Flow) (f : Flow) → IsLawful (F ++ f ∷ []) → ((x : ℕ) → IsSourceOf F f (source f) x → IsSourceOf F f (target f) x) → IsKnown F (source f)
source_known F f l v = elim (known_or_not F (source f)) [
  | inl k ↦ k
  | inr fresh ↦ let r = v (source f) ((f, first_new F f (source f) fresh (touches_source f (source f) refl), refl), ([], refl)) in
      elim (path_start F 0 (source f) (target f) r.1.0 r.1.1) [ inl e ↦ absurd (last_ends F f l e) | inr k ↦ k ]
]

target_known : (F : List Flow) (f : Flow) → IsLawful (F ++ f ∷ []) → ((x : ℕ) → IsSourceOf F f (source f) x → IsSourceOf F f (target f) x) → IsKnown F (source f) → IsKnown F (target f)
target_known F f l v k =
    let s = has_source F (lawful_front F f l) (source f) k in
    let r = v s.0 (source_stays F f s.0 s.1, s.2) in
    elim (path_end F 0 s.0 (target f) r.1.0 r.1.1) [
      | inl e ↦ subst (IsKnown F) e (s.1.0, s.1.1)
      | inr t ↦ t
    ]

pub dropped_known : (mode : Mode) (F : List Flow) (R : List Row) (f : Flow) → IsLawful (F ++ f ∷ []) → Keeps mode F R → IsVerdict mode F R f Drop → IsKnown F (source f) × IsKnown F (target f)
dropped_known Plain F R f l k v = absurd v
dropped_known Continuous F R f l k v = absurd v
dropped_known Full F R f l k v = let c = first_there R v.by (rows_of (lawful_front F f l) k) v.kept in
    (known_by F v.by (source f) c (touches_source v.by (source f) v.pair.0), known_by F v.by (target f) c (touches_target v.by (target f) v.pair.1))
dropped_known Source F R f l k v = let s = source_known F f l v in (s, target_known F f l v s)

pub first_kept : {mode : Mode} {F : List Flow} {R : List Row} → IsLawful F → Keeps mode F R → (x : ℕ) → first_at (firsts R) x ≡ first_at F x
first_kept l none x = refl
first_kept {mode} l (more {F} {R} f Drop k v) x =
    let both = dropped_known mode F R f l k v in
    first_kept (lawful_front F f l) k x ∙ sym (first_same F f both.0 both.1 x)
first_kept l (more {F} {R} f Add k v) x =
    let ih = first_kept (lawful_front F f l) k x in
    ap (λ K. first_at K x) (map-append (λ (r : Row). r.first) R (row_of f ∷ [])) ∙ first_push (firsts R) f x ∙ ap (λ o. option_or o (first_at (f ∷ []) x)) ih ∙ sym (first_push F f x)
first_kept {mode} l (more {F} {R} f (Extend i) k v) x =
    let c = carries mode F R f i v in
    let on = c.1 (row_of f) in
    let r = get_or R i (row_of f) in
    let same = map-set_same (λ (r : Row). r.first) R i (record r { last = f }) (row_of f) refl in
    let s = known_by F r.last (source f) on.there (touches_source r.last (source f) on.pair.0) in
    let t = known_by F r.last (target f) on.there (touches_target r.last (target f) on.pair.1) in
    ap (λ K. first_at K x) same ∙ first_kept (lawful_front F f l) k x ∙ sym (first_same F f s t x)
