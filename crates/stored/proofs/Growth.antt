-- How the rows that a mode keeps grow: new first flows come later than all before them, and last flows don't fall back.
use Rattle.std.proofs.Common.{◌≡◌, ◌≢◌, ◌∙◌, sym, ap, subst, ℕ, zero, suc, ◌<◌, ◌≤◌, List, [], ◌∷◌, ◌++◌, length, arith, append_assoc}
use Rattle.std.specs.Prelude.{max, slice_set, slice_index_or, ⊤}
use Rattle.std.specs.List.{AllByRecursion, Contains}
use Rattle.std.proofs.lemmas.List.{append-nil, map-append}
use Rattle.std.proofs.lemmas.List.Elements.{recursion_from_All}
use Rattle.flow_base.specs.declared.types.Flow.{Flow}
use Rattle.reach_model.specs.declared.modes.Mode.{Mode}
use Rattle.reach_model.specs.declared.modes.Verdict.{Verdict}
use Rattle.reach_model.specs.declared.modes.Verdict.TheVariants.{Drop, Add, Extend as Extends}
use Rattle.reach_model.specs.Flows.{IsLawful, source, target, place}
use Rattle.reach_model.specs.Numbers.{known, IsLawfulWith}
use Rattle.reach_model.specs.Rows.{Row, Keeps, none, more, IsVerdict, firsts, row_of, rows_after}
use Rattle.reach_model.proofs.RowFacts.{IsRowOf, rows_of as facts}
use Rattle.reach_model.proofs.RowNumbers.{known_kept}
use Rattle.reach_model.proofs.Numbering.{only_next}
use Rattle.reach_model.proofs.Lawful.{before_last}
use Rattle.reach_model.proofs.Determined.{same_rows, push_parts}
use Rattle.store_check.specs.Conditions.{IsLater}
use Rattle.stored.proofs.Lists.{IsFront}
use Rattle.stored.proofs.KeptLaws.{firsts_set, last_first}

-- f is later than all flows of K, and goes on with their numbers
pub record IsNextFlow (K : List Flow) (f : Flow) : Type 0 where
  pub differ : source f ≢ target f
  pub from : source f ≤ known K
  pub to : target f ≤ max (known K) (suc (source f))
  pub later : (g : Flow) → Contains K g → IsLater g.at f.at

abbrev pub AreNext : List Flow → List Flow → Type 0
AreNext K [] = ⊤
AreNext K (f ∷ F) = IsNextFlow K f × AreNext (K ++ f ∷ []) F

next_push : (K F : List Flow) (f : Flow) → AreNext K F → IsNextFlow (K ++ F) f → AreNext K (F ++ f ∷ [])
next_push K [] f are next = (subst (λ (l : List Flow). IsNextFlow l f) (append-nil K) next, tt)
next_push K (g ∷ F) f are next = (are.0, next_push (K ++ g ∷ []) F f are.1 (subst (λ (l : List Flow). IsNextFlow l f) (sym (append_assoc K (g ∷ []) F)) next))

-- no last flow falls back
abbrev pub LastsRise : List Row → List Row → Type 0
LastsRise [] R = ⊤
LastsRise (q ∷ Q) [] = ⊥
LastsRise (q ∷ Q) (r ∷ R) = (place q.last ≤ place r.last) × LastsRise Q R

rise_same : (R : List Row) → LastsRise R R
rise_same [] = tt
rise_same (r ∷ R) = (omega arith, rise_same R)

rise_push : (Q R : List Row) (r : Row) → LastsRise Q R → LastsRise Q (R ++ r ∷ [])
rise_push [] R r rise = tt
rise_push (q ∷ Q) [] r rise = absurd rise
rise_push (q ∷ Q) (s ∷ R) r rise = (rise.0, rise_push Q R r rise.1)

rise_set : (Q R : List Row) (i : ℕ) (f : Flow) → LastsRise Q R → AllByRecursion (λ r. place r.last ≤ place f) R → LastsRise Q (slice_set R i (record (slice_index_or R i (row_of f)) { last = f }))
rise_set [] R i f rise all = tt
rise_set (q ∷ Q) [] i f rise all = absurd rise
rise_set (q ∷ Q) (r ∷ R) zero f rise all = ((let a = rise.0 in let b = all.0 in omega (arith, a, b)), rise.1)
rise_set (q ∷ Q) (r ∷ R) (suc i) f rise all = (rise.0, rise_set Q R i f rise.1 all.1)

-- the rows before, and those of now
pub record Growth (before now : List Row) : Type 0 where
  pub new : List Flow
  pub is : firsts now ≡ firsts before ++ new
  pub next : AreNext (firsts before) new
  pub rise : LastsRise before now

growth_same : (R : List Row) → Growth R R
growth_same R = record { new = []; is = sym (append-nil (firsts R)); next = tt; rise = rise_same R }

growth_of : (R S : List Row) → R ≡ S → Growth R S
growth_of R S is = subst (Growth R) is (growth_same R)

each_before : (F : List Flow) (f : Flow) → IsLawful (F ++ f ∷ []) → (R : List Row) → AllByRecursion (IsRowOf F) R → AllByRecursion (λ r. place r.last ≤ place f) R
each_before F f l [] all = tt
each_before F f l (r ∷ R) all = ((let lt = before_last F f r.last l all.0.last_there in omega (arith, lt)), each_before F f l R all.1)

first_found : (F : List Flow) (R : List Row) → AllByRecursion (IsRowOf F) R → (g : Flow) (i : ℕ) → i < length (firsts R) → slice_index_or (firsts R) i g ≡ g → Contains F g
first_found F [] all g i lt is = absurd (omega arith)
first_found F (r ∷ R) all g zero lt is = subst (Contains F) is all.0.first_there
first_found F (r ∷ R) all g (suc i) lt is = first_found F R all.1 g i (omega arith) is

firsts_there : (F : List Flow) (R : List Row) → AllByRecursion (IsRowOf F) R → (g : Flow) → Contains (firsts R) g → Contains F g
firsts_there F R all g c = first_found F R all g c.0 c.1 c.2

next_flow : {mode : Mode} {F : List Flow} {R : List Row} (count : ℕ) (f : Flow) → IsLawfulWith count (F ++ f ∷ []) → Keeps mode F R → IsNextFlow (firsts R) f
next_flow {mode} {F} {R} count f l k =
    let n = only_next count F f l in
    let same : known F ≡ known (firsts R) = sym (known_kept n.0.lawful k) in
    let all : AllByRecursion (IsRowOf F) R = recursion_from_All (IsRowOf F) R (facts n.0.lawful k) in
    record {
      differ = n.1.ends_differ;
      from = subst (λ (x : ℕ). source f ≤ x) same n.1.source_known_or_next;
      to = subst (λ (x : ℕ). target f ≤ max x (suc (source f))) same n.1.target_known_or_next;
      later = λ g c. let there = firsts_there F R all g c in record { place = before_last F f g l.lawful there; time = n.1.no_earlier g there };
    }

growth_after : {mode : Mode} {F : List Flow} {R : List Row} (count : ℕ) (f : Flow) (d : Verdict) → IsLawfulWith count (F ++ f ∷ []) → Keeps mode F R → (R0 : List Row) → Growth R0 R → Growth R0 (rows_after R f d)
growth_after count f Drop l k R0 g = g
growth_after {mode} {F} {R} count f Add l k R0 g = record {
  new = g.new ++ f ∷ [];
  is = map-append (λ (r : Row). r.first) R (row_of f ∷ []) ∙ ap (λ (x : List Flow). x ++ f ∷ []) g.is ∙ append_assoc (firsts R0) g.new (f ∷ []);
  next = next_push (firsts R0) g.new f g.next (subst (λ (x : List Flow). IsNextFlow x f) g.is (next_flow count f l k));
  rise = rise_push R0 R (row_of f) g.rise;
}
growth_after {mode} {F} {R} count f (Extends i) l k R0 g = record {
  new = g.new;
  is = firsts_set R i f ∙ g.is;
  next = g.next;
  rise = rise_set R0 R i f g.rise (each_before F f l.lawful R (recursion_from_All (IsRowOf F) R (facts (only_next count F f l).0.lawful k)));
}

growth_step : {mode : Mode} {F : List Flow} {R : List Row} (count : ℕ) (f : Flow) (d : Verdict) → IsLawfulWith count (F ++ f ∷ []) → Keeps mode F R → IsVerdict mode F R f d → (F0 : List Flow) (R0 : List Row) → Keeps mode F0 R0
    → (IsFront F0 F → Growth R0 R) → (rest : List Flow) → F ++ f ∷ [] ≡ F0 ++ rest → Growth R0 (rows_after R f d)
growth_step {mode} {F} {R} count f d l k v F0 R0 k0 go [] is =
    growth_of R0 (rows_after R f d) (same_rows l.lawful (subst (λ (G : List Flow). Keeps mode G R0) (sym (is ∙ append-nil F0)) k0) (more f d k v))
growth_step {mode} {F} {R} count f d l k v F0 R0 k0 go (x ∷ rest) is =
    let s = last_first x rest in
    let parts = push_parts F (F0 ++ s.0) f s.1 (is ∙ ap (λ (z : List Flow). F0 ++ z) s.2 ∙ sym (append_assoc F0 s.0 (s.1 ∷ []))) in
    growth_after count f d l k R0 (go (s.0, parts.0))

-- the rows of a prefix of the flows grow to the rows of all of them
pub growth : {mode : Mode} {F : List Flow} {R : List Row} (count : ℕ) → IsLawfulWith count F → Keeps mode F R → (F0 : List Flow) (R0 : List Row) → Keeps mode F0 R0 → IsFront F0 F → Growth R0 R
growth {mode} count l none [] R0 k0 f = growth_of R0 [] (same_rows l.lawful k0 none)
growth {mode} count l none (x ∷ F0) R0 k0 f = absurd (let e = f.1 in cc)
growth {mode} count l (more {F} {R} f d k v) F0 R0 k0 g = growth_step count f d l k v F0 R0 k0 (growth (known F) (only_next count F f l).0 k F0 R0 k0) g.0 g.1
