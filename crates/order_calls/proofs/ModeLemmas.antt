-- The mode is looked for word by word.
use Rattle.std.proofs.Common.{◌≡◌, ◌<◌, ◌∙◌, ◌==◌, ◌||◌, arith, sym, refl, ap, ℕ, Bool, true, false, List, [], ◌∷◌, Option, None, Some, option_map, length, if◌then◌else◌}
use Rattle.std.proofs.lemmas.Option.{same_Some}
use Rattle.order_text.specs.Cut.{Parts, with_byte, first_cut}
use Rattle.order_calls.specs.Lines.{mode_at, is_file_mode, has_file_mode}

-- the word after a blank, or a later one
abbrev from_word : List ℕ → Bool
from_word rest = is_file_mode rest || has_file_mode rest

cut_step : (blank : Bool) (b : ℕ) (text : List ℕ) (cut : Option Parts) (before rest : List ℕ)
    → ((x y : List ℕ) → cut ≡ Some (x, y) → has_file_mode text ≡ from_word y)
    → (if blank then Some ([], text) else option_map (with_byte b) cut) ≡ Some (before, rest) → mode_at blank text (has_file_mode text) ≡ from_word rest
cut_step true b text cut before rest ih e = ap from_word (ap (λ (p : Parts). p.1) (same_Some _ _ e))
cut_step false b text None before rest ih e = absurd (cc e)
cut_step false b text (Some (x, y)) before rest ih e = ih x y refl ∙ ap from_word (ap (λ (p : Parts). p.1) (same_Some _ _ e))

pub mode_cut : (text before rest : List ℕ) → first_cut 32 text ≡ Some (before, rest) → has_file_mode text ≡ from_word rest
mode_cut [] before rest e = absurd (cc e)
mode_cut (b ∷ text) before rest e = cut_step (b == 32) b text (first_cut 32 text) before rest (λ x y is. mode_cut text x y is) e

pub mode_found : (text before rest : List ℕ) (passes : Bool) → first_cut 32 text ≡ Some (before, rest)
    → passes ≡ is_file_mode rest → passes ≡ true → has_file_mode text ≡ true
mode_found text before rest passes cut is passed =
    mode_cut text before rest cut ∙ ap (λ (b : Bool). b || has_file_mode rest) (sym is ∙ passed)

pub mode_missed : (text before rest : List ℕ) (passes : Bool) → first_cut 32 text ≡ Some (before, rest)
    → passes ≡ is_file_mode rest → passes ≡ false → has_file_mode text ≡ has_file_mode rest
mode_missed text before rest passes cut is failed =
    mode_cut text before rest cut ∙ ap (λ (b : Bool). b || has_file_mode rest) (sym is ∙ failed)

none_step : (blank : Bool) (b : ℕ) (text : List ℕ) (cut : Option Parts) → (cut ≡ None → has_file_mode text ≡ false)
    → (if blank then Some ([], text) else option_map (with_byte b) cut) ≡ None → mode_at blank text (has_file_mode text) ≡ false
none_step true b text cut ih e = absurd (cc e)
none_step false b text None ih e = ih refl
none_step false b text (Some parts) ih e = absurd (cc e)

pub mode_none : (text : List ℕ) → first_cut 32 text ≡ None → has_file_mode text ≡ false
mode_none [] e = refl
mode_none (b ∷ text) e = none_step (b == 32) b text (first_cut 32 text) (λ is. mode_none text is) e

short_step : (blank : Bool) (b : ℕ) (text : List ℕ) (cut : Option Parts) (before rest : List ℕ)
    → ((x y : List ℕ) → cut ≡ Some (x, y) → length y < length text)
    → (if blank then Some ([], text) else option_map (with_byte b) cut) ≡ Some (before, rest) → length rest < length (b ∷ text)
short_step true b text cut before rest ih e =
    let same = ap (λ (p : Parts). length p.1) (same_Some _ _ e) in
    omega (arith, same)
short_step false b text None before rest ih e = absurd (cc e)
short_step false b text (Some (x, y)) before rest ih e =
    let same = ap (λ (p : Parts). length p.1) (same_Some _ _ e) in
    let less = ih x y refl in
    omega (arith, same, less)

pub cut_shorter : (text before rest : List ℕ) → first_cut 32 text ≡ Some (before, rest) → length rest < length text
cut_shorter [] before rest e = absurd (cc e)
cut_shorter (b ∷ text) before rest e = short_step (b == 32) b text (first_cut 32 text) before rest (λ x y is. cut_shorter text x y is) e
