-- A usual name at the front of a text.
use Rattle.std.proofs.Common.{◌≡◌, ◌∙◌, sym, refl, ap, ℕ, ◌-◌, ◌<◌, ◌≤◌, ◌||◌, List, ◌++◌, length, take, get_or, Bool, true, false, not, Option, arith}
use Rattle.std.proofs.lemmas.List.{get_or-take, take-append-le, length-take-le}
use Rattle.std.proofs.Math.Seq.{take-append_seam}
use Rattle.std.proofs.lemmas.List.Elements.{All-get_or}
use Rattle.std.proofs.lemmas.List.Sums.{AllPass-from_list_all}
use Rattle.audit_lex.specs.Tokens.{name_len, word_len}
use Rattle.audit_lex.specs.Fronts.{IsNameFront, IsUsual, is_name_byte}
use Rattle.audit_lex.specs.FieldNames.{field_called}
use Rattle.audit_lex.specs.TablePlaces.{place_in}
use Rattle.audit_lex.specs.declared.fields.Kind.{Kind}
use Rattle.audit_lex.specs.declared.fields.Field.{Field}
use Rattle.audit_lex.proofs.TokenLemmas.{NoEnd, name_ends, goes_on}
use Rattle.audit_lex.proofs.TableLemmas.{named_place, named_within}
use Rattle.std.specs.Option.{option_and_then}

neither : (a b : Bool) → not (a || b) ≡ true → (a ≡ false) × (b ≡ false)
neither true b is = cc is
neither false true is = cc is
neither false false is = (refl, refl)

-- a text that begins with a front reads as the front there
reads : (text front : List ℕ) (k : ℕ) → take (length front) text ≡ front → k < length front → get_or text k 0 ≡ get_or front k 0
reads text front k begins below = sym (get_or-take (length front) text k 0 below) ∙ ap (λ xs. get_or xs k 0) begins

-- a byte before the `=` is one of a name
of_name : (text front : List ℕ) (called : Option Field) (k : ℕ) → take (length front) text ≡ front → IsNameFront front called → k < length front - 1
    → is_name_byte (get_or text k 0) ≡ true
of_name text front called k begins is below =
    let size = length-take-le (length front - 1) front (omega arith) in
    ap is_name_byte (reads text front k begins (omega (arith, below)) ∙ sym (get_or-take (length front - 1) front k 0 below))
    ∙ All-get_or (λ byte. is_name_byte byte ≡ true) (take (length front - 1) front) k 0 (omega (arith, size, below)) (AllPass-from_list_all _ _ is.name)

-- no byte before the `=` ends the name
no_end : (text front : List ℕ) (called : Option Field) → take (length front) text ≡ front → IsNameFront front called → NoEnd text (length front - 1)
no_end text front called begins is = record {
  sign = λ k below. (neither _ _ (of_name text front called k begins is below)).1;
  space = λ k below. (neither _ _ (of_name text front called k begins is below)).0;
}

-- where a text begins with a name and an `=`, the name ends there
usual_ends : (text front : List ℕ) (called : Option Field) → take (length front) text ≡ front → length front ≤ length text → IsNameFront front called
    → (length front - 1 ≡ name_len text) × (name_len text < word_len text)
usual_ends text front called begins long is =
    let name = length front - 1 in
    let within : name < length text = omega (arith, long, is.some) in
    let sign : get_or text name 0 ≡ 61 = reads text front name begins (omega (arith, is.some)) ∙ is.equals in
    let none = no_end text front called begins is in
    let ends = name_ends text name (omega (arith, within)) none (λ some other. absurd (other sign)) in
    (ends, goes_on text name ends sign)

-- a front of a name stands for it
pub usual_is : (k : Kind) (text front rest : List ℕ) (called : Option Field) → text ≡ front ++ rest → length front ≤ length text → IsNameFront front called
    → IsUsual k text (record { len = length front - 1; place = option_and_then (place_in k) called })
usual_is k text front rest called split long is =
    let ends = usual_ends text front called (ap (take (length front)) split ∙ take-append_seam front rest) long is in
    let same : take (length front - 1) text ≡ take (length front - 1) front =
    ap (take (length front - 1)) split ∙ take-append-le (length front - 1) front rest (omega arith) in
    record {
      len = sym ends.0;
      named = rw ends.0 ends.1;
      place = λ place below. named_place k (take (length front - 1) text) called place (ap field_called same ∙ is.field) below;
      within = named_within k called;
    }
