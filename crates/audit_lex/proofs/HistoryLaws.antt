-- How a history grows.
use Rattle.std.proofs.Common.{◌≡◌, ◌≤◌, ℕ, ◌+◌, ◌==◌, ◌∙◌, sym, refl, ap, List, [], ◌∷◌, ◌++◌, length, Bool, true, false, if◌then◌else◌, append_assoc, append-nil, arith, length-append}
use Rattle.std.specs.List.{fold}
use Rattle.std.proofs.lemmas.List.{map-append}
use Rattle.std.proofs.lemmas.List.Sums.{fold-append}
use Rattle.audit_lex.specs.History.{Step, Byte, Settle, History, Cuts, ended, settled, one_more, nothing_cut, cuts_of, lines_of, tail_of, with_bytes}

pub joined : (history : History) (first second : List ℕ) → with_bytes (with_bytes history first) second ≡ with_bytes history (first ++ second)
joined history first second = simp (map-append, append_assoc)

-- the lines of some cuts begin with those of others
abbrev pub Extends : Cuts → Cuts → Type 0
Extends before after = (later : List (List ℕ)) × (after.lines ≡ before.lines ++ later)

extends_ended : (cuts : Cuts) (feed : Bool) (tail : List ℕ) → Extends cuts (if feed then ended cuts else record { lines = cuts.lines; tail = tail })
extends_ended cuts true tail = (cuts.tail ∷ [], refl)
extends_ended cuts false tail = ([], sym (append-nil cuts.lines))

extends_settled : (lines : List (List ℕ)) (tail : List ℕ) → Extends (record { lines = lines; tail = tail }) (settled lines tail)
extends_settled lines [] = ([], sym (append-nil lines))
extends_settled lines (byte ∷ tail) = ((byte ∷ tail) ∷ [], refl)

one_extends : (cuts : Cuts) (step : Step) → Extends cuts (one_more cuts step)
one_extends cuts (Byte b) = extends_ended cuts (b == 10) (cuts.tail ++ b ∷ [])
one_extends cuts Settle = extends_settled cuts.lines cuts.tail

all_extend : (cuts : Cuts) (more : History) → Extends cuts (fold one_more cuts more)
all_extend cuts [] = ([], sym (append-nil cuts.lines))
all_extend cuts (step ∷ more) =
    let first = one_extends cuts step in
    let rest = all_extend (one_more cuts step) more in
    (first.0 ++ rest.0, rest.1 ∙ ap (λ lines. lines ++ rest.0) first.1 ∙ append_assoc cuts.lines first.0 rest.0)

pub stay : (history more : History) → (later : List (List ℕ)) × (lines_of (history ++ more) ≡ lines_of history ++ later)
stay history more =
    let all = all_extend (cuts_of history) more in
    (all.0, ap (λ (cuts : Cuts). cuts.lines) (fold-append one_more nothing_cut history more) ∙ all.1)

few_ended : (cuts : Cuts) (feed : Bool) (tail : List ℕ) → length (if feed then ended cuts else record { lines = cuts.lines; tail = tail }).lines ≤ length cuts.lines + 1
few_ended cuts true tail = simp length-append (omega arith)
few_ended cuts false tail = omega arith

few_settled : (lines : List (List ℕ)) (tail : List ℕ) → length (settled lines tail).lines ≤ length lines + 1
few_settled lines [] = omega arith
few_settled lines (byte ∷ tail) = simp length-append (omega arith)

one_few : (cuts : Cuts) (step : Step) → length (one_more cuts step).lines ≤ length cuts.lines + 1
one_few cuts (Byte b) = few_ended cuts (b == 10) (cuts.tail ++ b ∷ [])
one_few cuts Settle = few_settled cuts.lines cuts.tail

all_few : (cuts : Cuts) (more : History) → length (fold one_more cuts more).lines ≤ length cuts.lines + length more
all_few cuts [] = omega arith
all_few cuts (step ∷ more) = omega (arith, one_few cuts step, all_few (one_more cuts step) more)

pub few : (history : History) → length (lines_of history) ≤ length history
few history = omega (arith, all_few nothing_cut history)

pub settled_empty : (lines : List (List ℕ)) (tail : List ℕ) → (settled lines tail).tail ≡ []
settled_empty lines [] = refl
settled_empty lines (byte ∷ tail) = refl

settled_again : (lines : List (List ℕ)) (tail : List ℕ) → settled (settled lines tail).lines (settled lines tail).tail ≡ settled lines tail
settled_again lines [] = refl
settled_again lines (byte ∷ tail) = refl

pub after_settle : (history : History) → cuts_of (history ++ Settle ∷ []) ≡ settled (lines_of history) (tail_of history)
after_settle history = fold-append one_more nothing_cut history (Settle ∷ [])

pub settled_twice : (history : History) → cuts_of (history ++ Settle ∷ (Settle ∷ [])) ≡ cuts_of (history ++ Settle ∷ [])
settled_twice history =
    fold-append one_more nothing_cut history (Settle ∷ (Settle ∷ [])) ∙ settled_again (lines_of history) (tail_of history) ∙ sym (after_settle history)
