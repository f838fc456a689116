-- One more line is counted.
use Rattle.std.proofs.Common.{◌≡◌, ◌≤◌, ◌+◌, ◌++◌, ◌∙◌, ap, sym, refl, ℕ, Bool, true, false, List, [], ◌∷◌, length, length-append, arith, nat_lt, if◌then◌else◌}
use Rattle.std.proofs.lemmas.Bool.{ltb-true}
use Rattle.std.proofs.lemmas.List.Sums.{fold-append}
use Rattle.flow_base.specs.declared.limits.Limits.{Limits}
use Rattle.flow_base.specs.declared.types.Bad.{Bad}
use Rattle.audit_lex.specs.LineClass.{Class, Used, Other, Blank, Malformed, class_of}
use Rattle.audit_lex.specs.Tally.{Classed, nothing_counted, one_counted, tally_of}
use Rattle.audit_lex.specs.declared.fields.Kind.{Kind}
use Rattle.audit_lex.specs.declared.header.EventKey.{EventKey}
use Rattle.audit_lex.specs.declared.tally.Tally.{Tally}
use Rattle.audit_lex.proofs.TallyLaws.{all_counted}
use Rattle.ingest.specs.Counting.{classed_from, tally_of_lines, total}

abbrev classed : ℕ → ℕ → List ℕ → Classed
classed limit number text = record { number = number; class = class_of limit text }

classed_more : (limit number : ℕ) (lines : List (List ℕ)) (text : List ℕ)
    → classed_from limit number (lines ++ text ∷ []) ≡ classed_from limit number lines ++ classed limit (number + length lines) text ∷ []
classed_more limit number [] text =
    let same : number ≡ number + 0 = omega arith in
    ap (λ n. classed limit n text ∷ []) same
classed_more limit number (line ∷ lines) text =
    let same : number + 1 + length lines ≡ number + length (line ∷ lines) = omega arith in
    ap (λ later. classed limit number line ∷ later) (classed_more limit (number + 1) lines text)
    ∙ ap (λ n. classed limit number line ∷ (classed_from limit (number + 1) lines ++ classed limit n text ∷ [])) same

-- one more line is counted behind those that are
pub tally_more : (limits : Limits) (lines : List (List ℕ)) (text : List ℕ)
    → one_counted limits.shown (tally_of_lines limits lines) (record { number = length lines + 1; class = class_of limits.line text }) ≡ tally_of_lines limits (lines ++ text ∷ [])
tally_more limits lines text =
    let before = classed_from limits.line 1 lines in
    let line = classed limits.line (1 + length lines) text in
    let number : length lines + 1 ≡ 1 + length lines = omega arith in
    ap (λ n. one_counted limits.shown (tally_of_lines limits lines) (classed limits.line n text)) number
    ∙ ap (λ tally. one_counted limits.shown tally line) (sym (all_counted limits.shown before))
    ∙ sym (fold-append (one_counted limits.shown) nothing_counted before (line ∷ []))
    ∙ all_counted limits.shown (before ++ line ∷ [])
    ∙ ap (tally_of limits.shown) (sym (classed_more limits.line 1 lines text))

-- one more line of a class that is known
pub class_more : (limits : Limits) (tally : Tally) (lines : List (List ℕ)) (text : List ℕ) (class : Class) → tally ≡ tally_of_lines limits lines → class ≡ class_of limits.line text
    → one_counted limits.shown tally (record { number = length lines + 1; class = class }) ≡ tally_of_lines limits (lines ++ text ∷ [])
class_more limits tally lines text class is same =
    ap (λ (t : Tally). one_counted limits.shown t (record { number = length lines + 1; class = class })) is
    ∙ ap (λ (k : Class). one_counted limits.shown (tally_of_lines limits lines) (record { number = length lines + 1; class = k })) same
    ∙ tally_more limits lines text

-- one more used line
pub used_more : (limits : Limits) (tally : Tally) (lines : List (List ℕ)) (text : List ℕ) (key : EventKey) (kind : Kind) → tally ≡ tally_of_lines limits lines → class_of limits.line text ≡ Used key kind
    → record tally { used = tally.used + 1 } ≡ tally_of_lines limits (lines ++ text ∷ [])
used_more limits tally lines text key kind is used = class_more limits tally lines text (Used key kind) is (sym used)

-- counting a line adds one
pub one_adds : (shown number : ℕ) (tally : Tally) (class : Class) → total (one_counted shown tally (record { number = number; class = class })) ≡ total tally + 1
one_adds shown number tally (Used key kind) = omega arith
one_adds shown number tally Other = omega arith
one_adds shown number tally Blank = omega arith
one_adds shown number tally (Malformed f) = omega arith

list_if : (shown : ℕ) (bad : List Bad) (line : Bad) (b : Bool) → nat_lt (length bad) shown ≡ b → length bad ≤ shown → length (if b then bad ++ line ∷ [] else bad) ≤ shown
list_if shown bad line true is few = let less = ltb-true (length bad) shown is in omega (arith, less, length-append bad (line ∷ []))
list_if shown bad line false is few = few

-- few malformed lines are listed then too
pub few_listed : (shown number : ℕ) (tally : Tally) (class : Class) → length tally.bad ≤ shown → length (one_counted shown tally (record { number = number; class = class })).bad ≤ shown
few_listed shown number tally (Used key kind) few = few
few_listed shown number tally Other few = few
few_listed shown number tally Blank few = few
few_listed shown number tally (Malformed f) few = list_if shown tally.bad _ (nat_lt (length tally.bad) shown) refl few
