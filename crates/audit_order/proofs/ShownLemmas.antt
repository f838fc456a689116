-- Lines as they are written one after the other.
use Rattle.std.proofs.Common.{◌≡◌, ◌+◌, ◌∙◌, ◌&&◌, sym, refl, ap, subst, ℕ, Bool, true, false, List, [], ◌∷◌, ◌++◌, length, Option, None, Some, option_map, map, max, nat_lt, reverse, arith, append_assoc, append-nil, length-append, if◌then◌else◌}
use Rattle.std.specs.List.{All, filter}
use Rattle.std.proofs.lemmas.Bool.{ltb-true, ltb-false}
use Rattle.std.proofs.lemmas.List.{reverse-append}
use Rattle.std.proofs.lemmas.List.Elements.{All-nil, All-cons, All-head, All-tail, All-push, All-append, filter-append}
use Rattle.std.proofs.lemmas.List.Sorted.{All-permutation}
use Rattle.order_text.specs.Stamp.{Stamp, time_of, stamp_of}
use Rattle.order_text.specs.Undo.{written_after, is_rewritten, takes_rewrite}
use Rattle.order_text.specs.declared.rewrite.Rewrite.{Rewrite}
use Rattle.order_text.proofs.CutLemmas.{by_test}
use Rattle.order_text.proofs.UndoLemmas.{has_parts, written_told}
use Rattle.audit_order.specs.declared.bounds.Bounds.{Bounds}
use Rattle.audit_order.specs.declared.switches.Switches.{Switches}
use Rattle.order_lines.specs.Rules.{or_else}
use Rattle.order_rules.specs.Rules.{AllKnown, StandsForLines, rewrite_of, event_of, said_of, lacks_stamped}
use Rattle.order_rules.specs.Deeds.{of_event, under_in}
use Rattle.order_rules.specs.Rewrites.{ends_in, lacks_peer}
use Rattle.order_place.specs.Places.{node_of}
use Rattle.order_rules.proofs.LawLemmas.{rewrite_off}
use Rattle.order_rules.specs.declared.settings.Settings as rules
use Rattle.audit_order.specs.declared.counts.Counts.{Counts}
use Rattle.order_kin.specs.Families.{child_of, child_stamped}
use Rattle.audit_order.specs.Shown.{Latest, later_of, no_time, latest, rules_of, change_alone, Told, untold, lines_in, seen_as, seen_in, change_by, change_after, shown, WasLacking, shown_after}
use Rattle.audit_order.specs.Turns.{Motion, Read, Came, Went, Ended, reads_in, told_in}
use Rattle.audit_order.specs.Woven.{IsWoven}
use Rattle.audit_order.proofs.WovenLemmas.{woven_same}
use Rattle.audit_order.specs.Lines.{rewritten_in, risen, more_if}
use Rattle.audit_order.specs.Reads.{Orders}

-- one more line is the newest of those before
turned : (x : Told) (lines before : List Told) → reverse lines ++ x ∷ before ≡ reverse (x ∷ lines) ++ before
turned x lines before =
    sym (append_assoc (reverse lines) (x ∷ []) before) ∙ ap (λ (t : List Told). t ++ before) (sym (reverse-append (x ∷ []) lines))

shown_more : (switches : Switches) (before lines : List Told) (line : Told)
    → shown_after switches before (lines ++ line ∷ []) ≡ shown_after switches before lines ++ shown switches (reverse lines ++ before) line ∷ []
shown_more switches before [] line = refl
shown_more switches before (x ∷ lines) line =
    let more = ap (λ (b : List Told). shown_after switches (x ∷ before) lines ++ shown switches b line ∷ []) (turned x lines before) in
    ap (λ (l : List (List ℕ)). shown switches before x ∷ l) (shown_more switches (x ∷ before) lines line ∙ more)

-- a line is written as it is shown after these
shown_so : (switches own : Switches) (settings : rules.Settings) (t : Latest) (change : Option Rewrite) (before : List Told) (line : Told)
    → own ≡ switches → settings ≡ rules_of switches → t ≡ latest (lines_in before)
    → change ≡ change_by own settings (seen_in before) line
    → written_after t.time t.ms line.line change ≡ shown switches before line
shown_so switches own settings t change before line same are greatest by = rw (by, same, are, greatest) refl

-- one more line is written as it is shown next
pub exact_more : (switches own : Switches) (settings : rules.Settings) (t : Latest) (change : Option Rewrite) (outs : List (List ℕ)) (lines : List Told) (line : Told)
    → outs ≡ shown_after switches [] lines → own ≡ switches → settings ≡ rules_of switches → t ≡ latest (lines_in (reverse lines))
    → change ≡ change_by own settings (seen_in (reverse lines)) line
    → outs ++ written_after t.time t.ms line.line change ∷ [] ≡ shown_after switches [] (lines ++ line ∷ [])
exact_more switches own settings t change outs lines line exact same of greatest by =
    let out = written_after t.time t.ms line.line change in
    ap (λ (l : List (List ℕ)). l ++ out ∷ []) exact
    ∙ ap (λ (o : List ℕ). shown_after switches [] lines ++ o ∷ [])
    (shown_so switches own settings t change (reverse lines) line same of greatest by ∙ ap (λ (b : List Told). shown switches b line) (sym (append-nil (reverse lines))))
    ∙ sym (shown_more switches [] lines line)

-- and the rules have seen it
pub stands_more : (all : AllKnown) (lines : List Told) (line : Told) → StandsForLines all (seen_as line ∷ seen_in (reverse lines))
    → StandsForLines all (seen_in (reverse (lines ++ line ∷ [])))
stands_more all lines line stands =
    subst (λ (l : List Told). StandsForLines all (seen_in l)) (sym (reverse-append lines (line ∷ []))) stands

-- and its time is the greatest, if it is greater
pub greatest_more : (old new : Latest) (lines : List Told) (line : Told) → old ≡ latest (lines_in (reverse lines)) → new ≡ later_of old (stamp_of line.line)
    → new ≡ latest (lines_in (reverse (lines ++ line ∷ [])))
greatest_more old new lines line was is =
    is ∙ ap (λ (t : Latest). later_of t (stamp_of line.line)) was ∙ ap (λ (l : List Told). latest (lines_in l)) (sym (reverse-append lines (line ∷ [])))

max_less : (a b : ℕ) (e : nat_lt a b ≡ true) → b ≡ max a b
max_less a b e = let less = ltb-true a b e in omega (arith, less)

max_more : (a b : ℕ) (e : nat_lt a b ≡ false) → a ≡ max a b
max_more a b e = let more = ltb-false a b e in omega (arith, more)

pub later_ms : (t : Latest) (found : Option Stamp) → (later_of t found).ms ≡ risen t.ms (option_map (λ (s : Stamp). s.ms) found)
later_ms t None = refl
later_ms t (Some s) = by_test (nat_lt t.ms s.ms) (λ less. rw less (max_less t.ms s.ms less)) (λ more. rw more (max_more t.ms s.ms more))

-- ---- counts

one_counted : (b : Bool) (n : ℕ) (out : List ℕ) → n + length (if b then out ∷ [] else []) ≡ more_if b n
one_counted true n out = refl
one_counted false n out = omega arith

pub counted_more : (test : List ℕ → Bool) (outs : List (List ℕ)) (out : List ℕ) → length (filter test (outs ++ out ∷ [])) ≡ more_if (test out) (length (filter test outs))
counted_more test outs out =
    ap length (filter-append test outs (out ∷ [])) ∙ length-append (filter test outs) (filter test (out ∷ []))
    ∙ one_counted (test out) (length (filter test outs)) out

-- ---- without rules

stamp_timed : (line : List ℕ) (s : Stamp) → stamp_of line ≡ Some s → time_of s.time ≡ Some s.ms
stamp_timed line s e = (has_parts line s e).time

later_timed : (t : Latest) (line : List ℕ) (found : Option Stamp) → time_of t.time ≡ Some t.ms → stamp_of line ≡ found
    → time_of (later_of t found).time ≡ Some (later_of t found).ms
later_timed t line None timed e = timed
later_timed t line (Some s) timed e = by_test (nat_lt t.ms s.ms) (λ less. rw less (stamp_timed line s e)) (λ more. rw more timed)

pub latest_timed : (lines : List (List ℕ)) → time_of (latest lines).time ≡ Some (latest lines).ms
latest_timed [] = refl
latest_timed (line ∷ lines) = later_timed (latest lines) line (stamp_of line) (latest_timed lines) refl

none_alone : (switches : Switches) (found : Option Stamp) → switches.join ≡ false → switches.compat ≡ false → change_alone switches found ≡ None
none_alone switches None join compat = refl
none_alone switches (Some s) join compat = rw (join, compat) refl

no_rewrite : (found : Option Stamp) → takes_rewrite None found ≡ false
no_rewrite None = refl
no_rewrite (Some s) = refl

no_change : (switches : Switches) (before : List Told) (told : Told) → told.child ≡ None → switches.join ≡ false → switches.names ≡ false → switches.own ≡ false
    → switches.compat ≡ false → takes_rewrite (change_after switches before told) (stamp_of told.line) ≡ false
no_change switches before told none join names own compat =
    let line = told.line in
    ap (λ (child : Option ℕ). takes_rewrite (change_after switches before (record { line = line; child = child })) (stamp_of line)) none
    ∙ ap (λ (change : Option Rewrite). takes_rewrite (or_else change (rewrite_of (rules_of switches) (seen_in before) line)) (stamp_of line)) (none_alone switches (stamp_of line) join compat)
    ∙ ap (λ (change : Option Rewrite). takes_rewrite change (stamp_of line)) (rewrite_off (rules_of switches) (seen_in before) line names own join)
    ∙ no_rewrite (stamp_of line)

none_rewritten : (out : List ℕ) (outs : List (List ℕ)) → is_rewritten out ≡ false → rewritten_in outs ≡ 0 → rewritten_in (out ∷ outs) ≡ 0
none_rewritten out outs isnt none = rw isnt none

abbrev IsUntold : Told → Type 0
IsUntold told = told.child ≡ None

plain_lines : (switches : Switches) (before lines : List Told) → All IsUntold lines → switches.join ≡ false → switches.names ≡ false → switches.own ≡ false → switches.compat ≡ false
    → rewritten_in (shown_after switches before lines) ≡ 0
plain_lines switches before [] none join names own compat = refl
plain_lines switches before (line ∷ lines) none join names own compat =
    let t = latest (lines_in before) in
    none_rewritten (shown switches before line) (shown_after switches (line ∷ before) lines)
    (written_told t.time t.ms line.line (change_after switches before line) (latest_timed (lines_in before))
    ∙ no_change switches before line (All-head IsUntold line lines none) join names own compat)
    (plain_lines switches (line ∷ before) lines (All-tail IsUntold line lines none) join names own compat)

-- no child is told without the rule on pid namespaces

no_child : (lines : List (List ℕ)) (line : List ℕ) (found : Option Stamp) → child_stamped false lines line found ≡ None
no_child lines line None = refl
no_child lines line (Some s) = refl

untold_in : (motions : List Motion) → All IsUntold (told_in false motions)
untold_in [] = All-nil IsUntold
untold_in (Read place line ∷ before) = untold_in before
untold_in (Came item ∷ before) = untold_in before
untold_in (Went item ∷ before) =
    All-push IsUntold (told_in false before) (record { line = item.line; child = child_of false (reads_in before) item.line }) (untold_in before)
    (no_child (reads_in before) item.line (stamp_of item.line))
untold_in (Ended ∷ before) = untold_in before

-- lines that are added are untold
untold_all : (lines : List (List ℕ)) → All IsUntold (map untold lines)
untold_all [] = All-nil IsUntold
untold_all (line ∷ lines) = All-cons IsUntold (untold line) (map untold lines) refl (untold_all lines)

woven_untold : (ends peers given all : List Told) → IsWoven ends peers given all → All IsUntold ends → All IsUntold peers → All IsUntold given → All IsUntold all
woven_untold ends peers given all w none those others =
    All-permutation IsUntold (ends ++ (peers ++ given)) all (woven_same ends peers given all w)
    (All-append IsUntold ends (peers ++ given) none (All-append IsUntold peers given those others))

pub rewrites_by_rules : (bounds : Bounds) (switches : Switches) (bytes : List ℕ) (before now : Option (List ℕ)) (counts : Counts)
    → switches.join ≡ false → switches.names ≡ false → switches.own ≡ false → switches.compat ≡ false → Orders bounds switches bytes before now counts → counts.rewrites ≡ 0
rewrites_by_rules bounds switches bytes before now counts join names own compat o =
    let given : All IsUntold (told_in switches.compat o.motions) =
    subst (λ (b : Bool). All IsUntold (told_in b o.motions)) (sym compat) (untold_in o.motions) in
    o.counts_rewritten ∙ ap rewritten_in o.exact
    ∙ plain_lines switches [] o.told
    (woven_untold (map untold o.added) (map untold o.peers) (told_in switches.compat o.motions) o.told o.order (untold_all o.added) (untold_all o.peers) given)
    join names own compat

-- ---- without connections that are apart

isnt_lacking : (join apart : Bool) (b : Bool) → join && apart ≡ false → (join && (apart && b)) ≡ false
isnt_lacking true true b e = absurd (cc e)
isnt_lacking true false b e = refl
isnt_lacking false apart b e = refl

lacks_none : (settings : rules.Settings) (before : List (List ℕ)) (found : Option Stamp) → settings.join && settings.apart ≡ false
    → lacks_stamped settings before found ≡ false
lacks_none settings before None off = refl
lacks_none settings before (Some s) off =
    let said = said_of (node_of s.front) before in
    isnt_lacking settings.join settings.apart (lacks_peer (ends_in said) (of_event (under_in said) (event_of s)) (event_of s)) off

none_lacked : (switches : Switches) (lines : List Told) (peers : List (List ℕ)) → switches.join && switches.apart ≡ false
    → All (WasLacking switches lines) peers → length peers ≡ 0
none_lacked switches lines [] off lacked = refl
none_lacked switches lines (peer ∷ peers) off lacked =
    let was = All-head (WasLacking switches lines) peer peers lacked in
    absurd (cc (was.lacks ∙ lacks_none (rules_of switches) (seen_in (reverse was.before)) (stamp_of peer) off))

pub peers_by_rules : (bounds : Bounds) (switches : Switches) (bytes : List ℕ) (before now : Option (List ℕ)) (counts : Counts)
    → switches.join && switches.apart ≡ false → Orders bounds switches bytes before now counts → counts.added_peers ≡ 0
peers_by_rules bounds switches bytes before now counts off o = o.counts_peers ∙ none_lacked switches o.told o.peers off o.lacked
