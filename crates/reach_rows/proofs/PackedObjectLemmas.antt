-- What is known of packed objects, after one more row.
use Rattle.std.proofs.Common.{◌≡◌, ◌≢◌, ℕ, ◌<◌, List, [], ◌∷◌, ◌++◌, length, get_or, set, Option, Some, None, true, false, if◌then◌else◌, refl, sym, ap, subst, ◌∙◌, arith}
use Rattle.std.proofs.lemmas.List.{length-map, get_or-map, map-append, map-set}
use Rattle.std.proofs.lemmas.Bool.{eq-eqb, ne_eqb}
use Rattle.flow_base.specs.declared.types.Flow.{Flow}
use Rattle.reach_model.specs.Flows.{source, target}
use Rattle.reach_rows.specs.Indexes.{index_in}
use Rattle.reach_rows.specs.Objects.{AreObjects, HasLeft}
use Rattle.reach_rows.specs.Packed.{NONE, row_of_link, object_of_packed, objects_of_packed}
use Rattle.reach_rows.specs.declared.index48.Index48.{Index48}
use Rattle.reach_rows.specs.declared.objects.Object.{Object}
use Rattle.reach_rows.specs.declared.packed_objects.PackedObject.{PackedObject}
use Rattle.reach_rows.proofs.ObjectLemmas.{leaves_known, leaves_new, enters_known, enters_new}

link_is : (n : ℕ) → n < NONE → row_of_link n ≡ Some n
link_is n h = let differ : n ≢ NONE = omega (arith, h) in ap (λ b. if b then None else Some n) (ne_eqb n NONE differ)

none_is : row_of_link NONE ≡ None
none_is = ap (λ b. if b then None else Some NONE) (eq-eqb NONE NONE refl)

module _ (K : List Flow) (f : Flow) (differ : source f ≢ target f) (P : List PackedObject) (row : ℕ) (at : length K ≡ row) (low : row < NONE)
    (index : Index48) (names : index_in index ≡ row) where
  abbrev O : List Object
  O = objects_of_packed P

  all : length O ≡ length P
  all = length-map P object_of_packed

  link : row_of_link (index_in index) ≡ Some (length K)
  link = ap row_of_link names ∙ link_is row low ∙ ap Some (sym at)

  there : (x : ℕ) (p : PackedObject) → x < length P → p ≡ get_or P x p → object_of_packed p ≡ get_or O x (object_of_packed p)
  there x p h is = sym (get_or-map object_of_packed P x p (object_of_packed p) h ∙ ap object_of_packed (sym is))

  pub left_known : (p : PackedObject) → AreObjects K O → source f < length P → p ≡ get_or P (source f) p → HasLeft K f (objects_of_packed (set P (source f) (record p { last_from = index })))
  left_known p a h is =
      let o = object_of_packed p in
      let same : objects_of_packed (set P (source f) (record p { last_from = index })) ≡ set O (source f) (record o { last_from = Some (length K) })
      = map-set object_of_packed P (source f) (record p { last_from = index }) ∙ ap (λ (l : Option ℕ). set O (source f) (record o { last_from = l })) link in
      subst (HasLeft K f) (sym same) (leaves_known K f differ O o a (omega (arith, h, all)) (there (source f) p h is))

  pub left_new : (none : Index48) → index_in none ≡ NONE → AreObjects K O → source f ≡ length P
      → HasLeft K f (objects_of_packed (P ++ record { ms = f.at.ms; place = f.at.place; last_into = none; last_from = index; out = true } ∷ []))
  left_new none names_none a e =
      let p : PackedObject = record { ms = f.at.ms; place = f.at.place; last_into = none; last_from = index; out = true } in
      let is : object_of_packed p ≡ record { first = record { at = f.at; out = true }; last_into = None; last_from = Some (length K) }
      = ap (λ (l : Option ℕ). record (object_of_packed p) { last_into = l }) (ap row_of_link names_none ∙ none_is)
      ∙ ap (λ (l : Option ℕ). record { first = record { at = f.at; out = true }; last_into = None; last_from = l }) link in
      subst (HasLeft K f) (sym (map-append object_of_packed P (p ∷ []) ∙ ap (λ (o : Object). O ++ o ∷ []) is)) (leaves_new K f differ O a (e ∙ sym all))

  pub entered_known : (p : PackedObject) → HasLeft K f O → target f < length P → p ≡ get_or P (target f) p → AreObjects (K ++ f ∷ []) (objects_of_packed (set P (target f) (record p { last_into = index })))
  entered_known p a h is =
      let o = object_of_packed p in
      let same : objects_of_packed (set P (target f) (record p { last_into = index })) ≡ set O (target f) (record o { last_into = Some (length K) })
      = map-set object_of_packed P (target f) (record p { last_into = index }) ∙ ap (λ (l : Option ℕ). set O (target f) (record o { last_into = l })) link in
      subst (AreObjects (K ++ f ∷ [])) (sym same) (enters_known K f differ O o a (omega (arith, h, all)) (there (target f) p h is))

  pub entered_new : (none : Index48) → index_in none ≡ NONE → HasLeft K f O → target f ≡ length P
      → AreObjects (K ++ f ∷ []) (objects_of_packed (P ++ record { ms = f.at.ms; place = f.at.place; last_into = index; last_from = none; out = false } ∷ []))
  entered_new none names_none a e =
      let p : PackedObject = record { ms = f.at.ms; place = f.at.place; last_into = index; last_from = none; out = false } in
      let is : object_of_packed p ≡ record { first = record { at = f.at; out = false }; last_into = Some (length K); last_from = None }
      = ap (λ (l : Option ℕ). record (object_of_packed p) { last_from = l }) (ap row_of_link names_none ∙ none_is)
      ∙ ap (λ (l : Option ℕ). record { first = record { at = f.at; out = false }; last_into = l; last_from = None }) link in
      subst (AreObjects (K ++ f ∷ [])) (sym (map-append object_of_packed P (p ∷ []) ∙ ap (λ (o : Object). O ++ o ∷ []) is)) (enters_new K f differ O a (e ∙ sym all))
