-- A front of a text, and what stands behind it.
use Rattle.std.proofs.Common.{◌≡◌, ◌==◌, ◌∙◌, sym, refl, ap, ℕ, Bool, true, false, List, [], ◌∷◌, ◌++◌, length, take, drop, Option, None, Some, if◌then◌else◌}
use Rattle.std.specs.Prelude.{◌&&◌}
use Rattle.std.specs.Option.{option_and_then}
use Rattle.std.specs.Str.{bytes_eq}
use Rattle.audit_lex.specs.Header.{behind}

both_tests : {A : Type 0} (same rest : Bool) (found : Option A) → (if same && rest then found else None) ≡ (if same then (if rest then found else None) else None)
both_tests true rest found = refl
both_tests false rest found = refl

-- a front of a byte more is that byte, and then the rest of the front
behind_byte : (c b : ℕ) (front text : List ℕ) → behind (c ∷ front) (b ∷ text) ≡ (if b == c then behind front text else None)
behind_byte c b front text = both_tests (b == c) (bytes_eq (take (length front) text) front) (Some (drop (length front) text))

then_found : {A B : Type 0} (same : Bool) (f : A → Option B) (found : Option B) (first : Option A) → found ≡ option_and_then f first
    → (if same then found else None) ≡ option_and_then f (if same then first else None)
then_found true f found first is = is
then_found false f found first is = refl

-- the text behind two fronts in a row is the one behind the second, in the text behind the first
pub behind_append : (front back text : List ℕ) → behind (front ++ back) text ≡ option_and_then (behind back) (behind front text)
behind_append [] back text = refl
behind_append (c ∷ front) back [] = refl
behind_append (c ∷ front) back (b ∷ text) =
    behind_byte c b (front ++ back) text
    ∙ then_found (b == c) (behind back) (behind (front ++ back) text) (behind front text) (behind_append front back text)
    ∙ sym (ap (option_and_then (behind back)) (behind_byte c b front text))
