-- Lines without a line feed, and what is written of them.
use Rattle.std.proofs.Common.{◌≡◌, ◌∙◌, ◌==◌, sym, refl, ap, subst, ℕ, Bool, true, false, List, [], ◌∷◌, ◌++◌, Option, Some, map, append_assoc, append-nil, not, if◌then◌else◌}
use Rattle.std.specs.List.{All, fold}
use Rattle.std.specs.List.Sorted.{IsPermutation}
use Rattle.std.specs.Io.KnownBytes.{Appends}
use Rattle.std.proofs.lemmas.Bool.{and_parts}
use Rattle.std.proofs.lemmas.List.{map-append}
use Rattle.std.proofs.lemmas.List.Folds.{list_all-append}
use Rattle.std.proofs.lemmas.List.Sums.{fold-append}
use Rattle.std.proofs.lemmas.List.Elements.{All-nil, All-cons, All-head, All-tail, All-push, All-append, All-weaker}
use Rattle.std.proofs.lemmas.List.Sorted.{All-permutation}
use Rattle.audit_lex.specs.History.{Step, Byte, Settle, History, Cuts, ended, settled, one_more, nothing_cut, lines_of}
use Rattle.order_text.specs.Undo.{undone}
use Rattle.order_text.specs.Laws.{is_one_line, IsOneLine}
use Rattle.audit_order.specs.declared.bounds.Bounds.{Bounds}
use Rattle.audit_order.specs.declared.switches.Switches.{Switches}
use Rattle.audit_order.specs.declared.counts.Counts.{Counts}
use Rattle.audit_order.specs.Lines.{text_of, IsEnd, IsPeer, AddsNoFeed}
use Rattle.audit_order.specs.Reads.{log_lines, Orders, Undoes, GivesBack}

-- ---- the lines of a log have no line feed

record OneLines (cuts : Cuts) : Type 0 where
  lines : All IsOneLine cuts.lines
  tail : IsOneLine cuts.tail

one_byte : (b : ℕ) → (b == 10) ≡ false → IsOneLine (b ∷ [])
one_byte b isnt = rw isnt refl

longer : (tail : List ℕ) (b : ℕ) → IsOneLine tail → (b == 10) ≡ false → IsOneLine (tail ++ b ∷ [])
longer tail b one isnt = list_all-append (λ (byte : ℕ). not (byte == 10)) tail (b ∷ []) ∙ rw (one, isnt) refl

after_byte : (feed : Bool) (cuts : Cuts) (b : ℕ) → (b == 10) ≡ feed → OneLines cuts
    → OneLines (if feed then ended cuts else record { lines = cuts.lines; tail = cuts.tail ++ b ∷ [] })
after_byte true cuts b is one = record { lines = All-push IsOneLine cuts.lines cuts.tail one.lines one.tail; tail = refl }
after_byte false cuts b isnt one = record { lines = one.lines; tail = longer cuts.tail b one.tail isnt }

after_settle : (lines : List (List ℕ)) (tail : List ℕ) → OneLines (record { lines = lines; tail = tail }) → OneLines (settled lines tail)
after_settle lines [] one = record { lines = one.lines; tail = refl }
after_settle lines (b ∷ tail) one = record { lines = All-push IsOneLine lines (b ∷ tail) one.lines one.tail; tail = refl }

after_step : (cuts : Cuts) (step : Step) → OneLines cuts → OneLines (one_more cuts step)
after_step cuts (Byte b) one = after_byte (b == 10) cuts b refl one
after_step cuts Settle one = after_settle cuts.lines cuts.tail one

after_all : (cuts : Cuts) (history : History) → OneLines cuts → OneLines (fold one_more cuts history)
after_all cuts [] one = one
after_all cuts (step ∷ history) one = after_all (one_more cuts step) history (after_step cuts step one)

lines_one : (history : History) → All IsOneLine (lines_of history)
lines_one history = (after_all nothing_cut history (record { lines = All-nil IsOneLine; tail = refl })).lines

-- ---- what is written has no line feed of its own

pub one_each : (outs : List (List ℕ)) → All AddsNoFeed outs → All IsOneLine (map undone outs) → All IsOneLine outs
one_each [] own one = All-nil IsOneLine
one_each (out ∷ outs) own one =
    All-cons IsOneLine out outs
    (All-head AddsNoFeed out outs own (All-head IsOneLine (undone out) (map undone outs) one))
    (one_each outs (All-tail AddsNoFeed out outs own) (All-tail IsOneLine (undone out) (map undone outs) one))

pub given_back_one : (bytes : List ℕ) (added peers lines : List (List ℕ)) → All IsEnd added → All IsPeer peers
    → IsPermutation (added ++ (peers ++ log_lines bytes)) lines → All IsOneLine lines
given_back_one bytes added peers lines ends blank same =
    All-permutation IsOneLine (added ++ (peers ++ log_lines bytes)) lines same
    (All-append IsOneLine added (peers ++ log_lines bytes) (All-weaker IsEnd IsOneLine (λ end is. is.one) added ends)
    (All-append IsOneLine peers (log_lines bytes) (All-weaker IsPeer IsOneLine (λ peer is. is.one) peers blank)
    (lines_one (map Byte bytes ++ Settle ∷ []))))

-- ---- such lines are read again

isnt_true : (b : Bool) → not b ≡ true → b ≡ false
isnt_true true e = absurd (cc e)
isnt_true false e = refl

first_byte : (b : ℕ) (text : List ℕ) → IsOneLine (b ∷ text) → (b == 10) ≡ false
first_byte b text one = isnt_true (b == 10) (and_parts (not (b == 10)) (is_one_line text) one).0

one_plain : (cuts : Cuts) (b : ℕ) → (b == 10) ≡ false → one_more cuts (Byte b) ≡ record { lines = cuts.lines; tail = cuts.tail ++ b ∷ [] }
one_plain cuts b isnt = rw isnt refl

plain_bytes : (cuts : Cuts) (part : List ℕ) → IsOneLine part
    → fold one_more cuts (map Byte part) ≡ record { lines = cuts.lines; tail = cuts.tail ++ part }
plain_bytes cuts [] one = ap (λ (t : List ℕ). record { lines = cuts.lines; tail = t }) (sym (append-nil cuts.tail))
plain_bytes cuts (b ∷ part) one =
    ap (λ start. fold one_more start (map Byte part)) (one_plain cuts b (first_byte b part one))
    ∙ plain_bytes (record { lines = cuts.lines; tail = cuts.tail ++ b ∷ [] }) part (and_parts (not (b == 10)) (is_one_line part) one).1
    ∙ ap (λ (t : List ℕ). record { lines = cuts.lines; tail = t }) (append_assoc cuts.tail (b ∷ []) part)

line_steps : (out rest : List ℕ) → map Byte ((out ++ 10 ∷ []) ++ rest) ≡ map Byte out ++ (Byte 10 ∷ map Byte rest)
line_steps out rest = ap (map Byte) (append_assoc out (10 ∷ []) rest) ∙ map-append Byte out (10 ∷ rest)

cut_line : (lines : List (List ℕ)) (out rest : List ℕ) → IsOneLine out
    → fold one_more (record { lines = lines; tail = [] }) (map Byte ((out ++ 10 ∷ []) ++ rest))
    ≡ fold one_more (record { lines = lines ++ out ∷ []; tail = [] }) (map Byte rest)
cut_line lines out rest one =
    ap (fold one_more (record { lines = lines; tail = [] })) (line_steps out rest)
    ∙ fold-append one_more (record { lines = lines; tail = [] }) (map Byte out) (Byte 10 ∷ map Byte rest)
    ∙ ap (λ (cuts : Cuts). fold one_more cuts (Byte 10 ∷ map Byte rest)) (plain_bytes (record { lines = lines; tail = [] }) out one)

cut_text : (lines outs : List (List ℕ)) → All IsOneLine outs
    → fold one_more (record { lines = lines; tail = [] }) (map Byte (text_of outs)) ≡ record { lines = lines ++ outs; tail = [] }
cut_text lines [] one = ap (λ (l : List (List ℕ)). record { lines = l; tail = [] }) (sym (append-nil lines))
cut_text lines (out ∷ outs) one =
    cut_line lines out (text_of outs) (All-head IsOneLine out outs one)
    ∙ cut_text (lines ++ out ∷ []) outs (All-tail IsOneLine out outs one)
    ∙ ap (λ (l : List (List ℕ)). record { lines = l; tail = [] }) (append_assoc lines (out ∷ []) outs)

pub text_lines : (outs : List (List ℕ)) → All IsOneLine outs → log_lines (text_of outs) ≡ outs
text_lines outs one =
    ap (λ (cuts : Cuts). cuts.lines) (fold-append one_more nothing_cut (map Byte (text_of outs)) (Settle ∷ []))
    ∙ ap (λ (cuts : Cuts). (fold one_more cuts (Settle ∷ [])).lines) (cut_text [] outs one)

pub undone_orders : (bounds : Bounds) (switches : Switches) (bytes ordered : List ℕ) (before now : Option (List ℕ)) (counts : Counts)
    → Orders bounds switches bytes (Some []) (Some ordered) counts → Undoes ordered before now → GivesBack bytes before now
undone_orders bounds switches bytes ordered before now counts o undoes =
    let lines : log_lines ordered ≡ o.outs = ap log_lines o.written ∙ text_lines o.outs o.one in
    record {
      lines = map undone o.outs;
      added = o.added;
      peers = o.peers;
      written = subst (λ (l : List (List ℕ)). Appends before now (text_of (map undone l))) lines undoes;
      same = o.same;
      ends = o.ends;
      blank = o.blank;
      one = given_back_one bytes o.added o.peers (map undone o.outs) o.ends o.blank o.same;
    }
