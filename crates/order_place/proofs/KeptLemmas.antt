-- What is looked up of nodes, if what was kept last stands before the rest.
use Rattle.std.proofs.Common.{◌≡◌, ◌∙◌, sym, refl, ap, ℕ, Bool, true, false, List, ◌∷◌, ◌++◌, Option, None, Some, if◌then◌else◌}
use Rattle.std.specs.Prelude.{option_to_list}
use Rattle.std.specs.Map.{lookup}
use Rattle.std.proofs.lemmas.Map.Text.{is_eq-slice_cmp}
use Rattle.std.proofs.lemmas.Slice.Eq.{bytes_eq-Decides}
use Rattle.order_place.specs.Nodes.{is_node, is_of}
use Rattle.order_place.proofs.ClockLemmas.{by_test}
use Rattle.order_place.proofs.NodeLemmas.{one_node}

pub itself : (a : List ℕ) → is_node a a ≡ true
itself a = is_eq-slice_cmp a a ∙ (bytes_eq-Decides a a).1 refl

turned_true : (a b : List ℕ) → is_node a b ≡ true → is_node b a ≡ true
turned_true a b same = ap (λ (x : List ℕ). is_node b x) (one_node a b same) ∙ itself b

pub turned : (a b : List ℕ) → is_node a b ≡ is_node b a
turned a b = by_test (is_node a b)
    (λ same. same ∙ sym (turned_true a b same))
    (λ isnt. by_test (is_node b a)
    (λ same. turned_true b a same ∙ sym same)
    (λ isnt2. isnt ∙ sym isnt2))

module _ {T : Type 0} where
  pub here_after : (name : List ℕ) (last : Option (List ℕ × T)) (es : List (List ℕ × T)) → is_of name last ≡ false
      → lookup (is_node name) es ≡ lookup (is_node name) (option_to_list last ++ es)
  here_after name None es isnt = refl
  here_after name (Some kept) es isnt = rw isnt refl

  pub others_after : (name : List ℕ) (last : Option (List ℕ × T)) (es es2 : List (List ℕ × T))
      → ((other : List ℕ) → is_node name other ≡ false → lookup (is_node other) es2 ≡ lookup (is_node other) es)
      → (other : List ℕ) → is_node name other ≡ false → lookup (is_node other) (option_to_list last ++ es2) ≡ lookup (is_node other) (option_to_list last ++ es)
  others_after name None es es2 moved other isnt = moved other isnt
  others_after name (Some kept) es es2 moved other isnt =
      ap (λ (o : Option T). if is_node other kept.0 then Some kept.1 else o) (moved other isnt)

  pub here_first : (name : List ℕ) (kept : List ℕ × T) (es : List (List ℕ × T)) → is_node name kept.0 ≡ true
      → Some kept.1 ≡ lookup (is_node name) (kept ∷ es)
  here_first name kept es same = rw same refl

  pub others_first : (name : List ℕ) (kept : List ℕ × T) (es : List (List ℕ × T)) → is_node name kept.0 ≡ true
      → (other : List ℕ) → is_node name other ≡ false → lookup (is_node other) es ≡ lookup (is_node other) (kept ∷ es)
  others_first name kept es same other isnt =
      let apart : is_node other kept.0 ≡ false =
      ap (is_node other) (sym (one_node name kept.0 same)) ∙ (turned other name ∙ isnt) in
      rw apart refl

  pub put_first : (kept : List ℕ × T) (es es2 : List (List ℕ × T))
      → ((name : List ℕ) → lookup (is_node name) es2 ≡ (if is_node kept.0 name then Some kept.1 else lookup (is_node name) es))
      → (name : List ℕ) → lookup (is_node name) es2 ≡ lookup (is_node name) (kept ∷ es)
  put_first kept es es2 put name = put name ∙ ap (λ (b : Bool). if b then Some kept.1 else lookup (is_node name) es) (turned kept.0 name)

  pub kept_here : (name : List ℕ) (item : T) (es : List (List ℕ × T)) → lookup (is_node name) ((name, item) ∷ es) ≡ Some item
  kept_here name item es = rw (itself name) refl

  pub kept_others : (name : List ℕ) (item : T) (es es2 : List (List ℕ × T))
      → ((other : List ℕ) → lookup (is_node other) es2 ≡ lookup (is_node other) es)
      → (other : List ℕ) → is_node name other ≡ false → lookup (is_node other) ((name, item) ∷ es2) ≡ lookup (is_node other) es
  kept_others name item es es2 moved other isnt = rw (turned other name ∙ isnt) (moved other)

  pub others_taken : (name : List ℕ) (last now : Option (List ℕ × T)) (kept : List ℕ × T) (es old : List (List ℕ × T)) (b : Bool)
      → b ≡ is_of name last → b ≡ true → last ≡ Some kept → now ≡ None → option_to_list last ++ es ≡ old
      → (other : List ℕ) → is_node name other ≡ false → lookup (is_node other) (option_to_list now ++ es) ≡ lookup (is_node other) old
  others_taken name last now kept es old b is true_is some none whole other isnt =
      let same : is_node name kept.0 ≡ true = sym (ap (is_of name) some) ∙ sym is ∙ true_is in
      ap (λ (o : Option (List ℕ × T)). lookup (is_node other) (option_to_list o ++ es)) none
      ∙ others_first name kept es same other isnt
      ∙ ap (λ (o : Option (List ℕ × T)). lookup (is_node other) (option_to_list o ++ es)) (sym some)
      ∙ ap (lookup (is_node other)) whole
