-- A mode keeps one list of rows of a list of flows.
use Rattle.std.proofs.Common.{◌≡◌, ℕ, ◌<◌, ◌≤◌, List, [], ◌∷◌, ◌++◌, length, get_or, refl, sym, ap, subst, ◌∙◌, arith, inl, inr}
use Rattle.std.proofs.lemmas.List.{get_or-map, length-map}
use Rattle.std.proofs.lemmas.List.Elements.{All-get_or, Contains-get_or}
use Rattle.std.proofs.lemmas.Bool.{cases_order}
use Rattle.flow_base.specs.declared.types.Flow.{Flow}
use Rattle.reach_model.specs.declared.modes.Mode.{Mode}
use Rattle.reach_model.specs.declared.modes.Mode.TheVariants.{Plain, Continuous, Full, Source}
use Rattle.reach_model.specs.declared.modes.Verdict.{Verdict}
use Rattle.reach_model.specs.declared.modes.Verdict.TheVariants.{Drop, Add, Extend}
use Rattle.reach_model.specs.Flows.{place, IsLawful}
use Rattle.reach_model.specs.Rows.{Row, CarriesOn, IsVerdict, row_of, rows_after, Keeps, none, more}
use Rattle.reach_model.proofs.Lawful.{lawful_front, same_place}
use Rattle.reach_model.proofs.RowFacts.{IsRowOf, rows_of}
use Rattle.reach_model.proofs.Redundant.{continuous_parts, ascends}

-- lists that end with an item are equal part by part
pub push_parts : {A : Type 0} (xs ys : List A) (x y : A) → xs ++ x ∷ [] ≡ ys ++ y ∷ [] → (xs ≡ ys) × (x ≡ y)
push_parts [] [] x y e = (refl, cc)
push_parts [] (b ∷ []) x y e = absurd (cc)
push_parts [] (b ∷ c ∷ ys) x y e = absurd (cc)
push_parts (a ∷ []) [] x y e = absurd (cc)
push_parts (a ∷ c ∷ xs) [] x y e = absurd (cc)
push_parts (a ∷ xs) (b ∷ ys) x y e =
    let tails : xs ++ x ∷ [] ≡ ys ++ y ∷ [] = cc in
    let heads : a ≡ b = cc in
    let r = push_parts xs ys x y tails in (cc (r.0, heads), r.1)

-- how the rows of F and then f came about
pub record Came (mode : Mode) (F : List Flow) (f : Flow) (S : List Row) : Type 0 where
  pub before : List Row
  pub verdict : Verdict
  pub kept : Keeps mode F before
  pub given : IsVerdict mode F before f verdict
  pub is : S ≡ rows_after before f verdict

pub came : {mode : Mode} {G : List Flow} {S : List Row} → Keeps mode G S → (F : List Flow) (f : Flow) → G ≡ F ++ f ∷ [] → Came mode F f S
came none [] f e = absurd (cc)
came none (g ∷ F) f e = absurd (cc)
came {mode} (more {F = F'} {R = R'} f' d k v) F f e =
    let p = push_parts F' F f' f e in
    record {
      before = R';
      verdict = d;
      kept = subst (λ X. Keeps mode X R') p.0 k;
      given = subst (λ x. IsVerdict mode F R' x d) p.1 (subst (λ X. IsVerdict mode X R' f' d) p.0 v);
      is = ap (λ x. rows_after R' x d) p.1;
    }

-- f carries on from one flow at most
one_carried : {F : List Flow} → IsLawful F → (f g h : Flow) → CarriesOn F g f → CarriesOn F h f → g ≡ h
one_carried l f g h a b = elim (cases_order (place g) (place h)) [
  | inl e ↦ same_place l g h a.there b.there e
  | inr o ↦ elim o [
    | inl low ↦ absurd (a.no_later h b.there low b.pair)
    | inr high ↦ absurd (b.no_later g a.there high a.pair)
  ]
]

-- which is the last of one row at most
no_two : {F : List Flow} {R : List Row} → IsLawful F → Keeps Continuous F R → (f : Flow) (i j : ℕ) → i < j → j < length R → CarriesOn F (get_or R i (row_of f)).last f → CarriesOn F (get_or R j (row_of f)).last f → ⊥
no_two {F} {R} l k f i j low hj a b =
    let d = row_of f in
    let hi : i < length R = omega arith in
    let all = rows_of l k in
    let r = get_or R i d in
    let s = get_or R j d in
    let wr = All-get_or (IsRowOf F) R i d hi all in
    let ws = All-get_or (IsRowOf F) R j d hj all in
    let up = ascends l k i j f low (simp length-map hj) in
    let fi = get_or-map (λ (r : Row). r.first) R i d f hi in
    let fj = get_or-map (λ (r : Row). r.first) R j d f hj in
    let up' : place r.first < place s.first = omega (arith, ap place fi, ap place fj) in
    let p = continuous_parts l k r s (Contains-get_or R i d hi) (Contains-get_or R j d hj)
    (sym wr.pair.0 ∙ a.pair.0 ∙ sym b.pair.0 ∙ ws.pair.0, sym wr.pair.1 ∙ a.pair.1 ∙ sym b.pair.1 ∙ ws.pair.1) up' in
    let before : place r.last < place s.first = p.before in
    let o : place s.first ≤ place s.last = ws.ordered in
    omega (arith, ap place (one_carried l f r.last s.last a b))

same_verdict : (mode : Mode) (F : List Flow) (R : List Row) (f : Flow) (d e : Verdict) → IsLawful F → Keeps mode F R → IsVerdict mode F R f d → IsVerdict mode F R f e → rows_after R f d ≡ rows_after R f e
same_verdict mode F R f Drop Drop l k v w = refl
same_verdict mode F R f Add Add l k v w = refl
same_verdict Plain F R f Drop Add l k v w = absurd v
same_verdict Plain F R f Add Drop l k v w = absurd w
same_verdict Plain F R f (Extend i) e l k v w = absurd v
same_verdict Plain F R f Drop (Extend i) l k v w = absurd w
same_verdict Plain F R f Add (Extend i) l k v w = absurd w
same_verdict Continuous F R f Drop Add l k v w = absurd v
same_verdict Continuous F R f Drop (Extend i) l k v w = absurd v
same_verdict Continuous F R f Add Drop l k v w = absurd w
same_verdict Continuous F R f Add (Extend i) l k v w = absurd (v (get_or R i (row_of f)).last (w.1 (row_of f)))
same_verdict Continuous F R f (Extend i) Drop l k v w = absurd w
same_verdict Continuous F R f (Extend i) Add l k v w = absurd (w (get_or R i (row_of f)).last (v.1 (row_of f)))
same_verdict Continuous F R f (Extend i) (Extend j) l k v w = elim (cases_order i j) [
  | inl e ↦ ap (λ n. rows_after R f (Extend n)) e
  | inr o ↦ elim o [
    | inl low ↦ absurd (no_two l k f i j low w.0 (v.1 (row_of f)) (w.1 (row_of f)))
    | inr high ↦ absurd (no_two l k f j i high v.0 (w.1 (row_of f)) (v.1 (row_of f)))
  ]
]
same_verdict Full F R f Drop Add l k v w = absurd (w v)
same_verdict Full F R f Add Drop l k v w = absurd (v w)
same_verdict Full F R f (Extend i) e l k v w = absurd v
same_verdict Full F R f Drop (Extend i) l k v w = absurd w
same_verdict Full F R f Add (Extend i) l k v w = absurd w
same_verdict Source F R f Drop Add l k v w = absurd (w.2 (v w.0 w.1))
same_verdict Source F R f Add Drop l k v w = absurd (v.2 (w v.0 v.1))
same_verdict Source F R f (Extend i) e l k v w = absurd v
same_verdict Source F R f Drop (Extend i) l k v w = absurd w
same_verdict Source F R f Add (Extend i) l k v w = absurd w

pub same_rows : {mode : Mode} {F : List Flow} {R S : List Row} → IsLawful F → Keeps mode F R → Keeps mode F S → R ≡ S
same_rows {mode} l none m = empty m refl
  where
    empty : {G : List Flow} {S : List Row} → Keeps mode G S → G ≡ [] → [] ≡ S
    empty none e = refl
    empty (more {F = []} f d k v) e = absurd (cc)
    empty (more {F = g ∷ F} f d k v) e = absurd (cc)
same_rows {mode} {S = S} l (more {F} {R} f d k v) m =
    let c = came m F f refl in
    let l' = lawful_front F f l in
    let e = same_rows l' k c.kept in
    same_verdict mode F R f d c.verdict l' k v (subst (λ X. IsVerdict mode F X f c.verdict) (sym e) c.given) ∙ ap (λ X. rows_after X f c.verdict) e ∙ sym c.is
