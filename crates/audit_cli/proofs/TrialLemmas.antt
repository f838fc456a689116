-- Trials of some modes, one after another.
use Rattle.std.proofs.Common.{◌≡◌, ◌≤◌, ◌-◌, ◌^◌, ℕ, zero, suc, List, [], ◌∷◌, ◌++◌, length, take, drop, refl, ap, sym, arith, append_assoc, ◌∙◌, Option, subst}
use Rattle.std.specs.Prelude.{Result, Ok, Err, IfErr}
use Rattle.std.specs.Io.KnownBytes.{Appends}
use Rattle.std.proofs.lemmas.List.{append-nil, take-append-drop}
use Rattle.flow_base.specs.declared.limits.Limits.{Limits}
use Rattle.flow_base.specs.declared.limits.Full.{Full}
use Rattle.audit_lex.specs.History.{History}
use Rattle.reach_model.specs.declared.modes.Mode.{Mode}
use Rattle.report_json.specs.declared.reply.Reply.{Reply}
use Rattle.report_json.specs.declared.reply.Reply.TheVariants as reply
use Rattle.ingest.specs.Events.{objects_of}
use Rattle.ingest.specs.Replies.{IsReply, counts_of}
use Rattle.ingest.specs.Stops.{Fits, Stops}
use Rattle.dialogue.specs.declared.halt.Halt.{Halt}
use Rattle.dialogue.specs.declared.halt.Halt.TheVariants as halt
use Rattle.dialogue.specs.Course.{HasCauses, IsDue}
use Rattle.audit_gen.specs.Logs.{generated}
use Rattle.report_json.specs.Replies.{line_of}
use Rattle.audit_cli.specs.declared.trial_line.Totals.{Totals}
use Rattle.audit_cli.specs.Trials.{AreTotals, IsModeLine, AreModeLines, AreCutLines, CountsBack, Tried, back_from, settled, size_of, totals_in, trial_data, trial_history}
use Rattle.dialogue.proofs.ExactLemmas.{NeverStops}
use Rattle.dialogue.proofs.TalkLemmas.{appends_both, appends_none}

-- one line
pub one_line : (kind : Mode) (limits : Limits) (h : History) (line : List ℕ) → IsModeLine kind limits h line → AreModeLines limits h (kind ∷ []) line
one_line kind limits h line is = (line, [], is, refl, sym (append-nil line))

-- lines and then more lines
lines_both : (limits : Limits) (h : History) (first second : List Mode) (a b : List ℕ) → AreModeLines limits h first a → AreModeLines limits h second b → AreModeLines limits h (first ++ second) (a ++ b)
lines_both limits h [] second a b none more = rw none more
lines_both limits h (kind ∷ later) second a b (line, rest, is, lines, whole) more = (line, rest ++ b, is, lines_both limits h later second rest b lines more, rw whole (append_assoc line rest b))

-- nothing written
pub no_lines : (limits : Limits) (h : History) (modes : List Mode) → AreCutLines limits h modes []
no_lines limits h modes = record { tried = []; untried = modes; more = []; parts = refl; lines = refl }

-- all written
pub whole_lines : (limits : Limits) (h : History) (modes : List Mode) (bytes : List ℕ) → AreModeLines limits h modes bytes → AreCutLines limits h modes bytes
whole_lines limits h modes bytes lines = record { tried = modes; untried = []; more = []; parts = sym (append-nil modes); lines = rw (append-nil bytes) lines }

-- a part of a line
half_line : (kind : Mode) (limits : Limits) (h : History) (line : List ℕ) (done : ℕ) → IsModeLine kind limits h line → AreCutLines limits h (kind ∷ []) (take done line)
half_line kind limits h line done is = record { tried = kind ∷ []; untried = []; more = drop done line; parts = refl; lines = rw (take-append-drop done line) (one_line kind limits h line is) }

cut_both : (limits : Limits) (h : History) (first second : List Mode) (a b : List ℕ) → AreModeLines limits h first a → AreCutLines limits h second b → AreCutLines limits h (first ++ second) (a ++ b)
cut_both limits h first second a b lines x = record {
  tried = first ++ x.tried;
  untried = x.untried;
  more = x.more;
  parts = rw (x.parts) (sym (append_assoc first x.tried x.untried));
  lines = rw (append_assoc a b x.more) (lines_both limits h first x.tried a (b ++ x.more) lines x.lines);
}

cut_more : (limits : Limits) (h : History) (modes later : List Mode) (bytes : List ℕ) → AreCutLines limits h modes bytes → AreCutLines limits h (modes ++ later) bytes
cut_more limits h modes later bytes x = record {
  tried = x.tried;
  untried = x.untried ++ later;
  more = x.more;
  parts = rw (x.parts) (append_assoc x.tried x.untried later);
  lines = x.lines;
}

-- some modes and then more of them. What fits stops in none of them
pub tried_then : NeverStops → (limits : Limits) (h : History) (first second : List Mode) (old mid new : Option (List ℕ)) (r : Result Unit Halt) → Tried limits h first old mid (Ok tt) → Tried limits h second mid new r
    → Tried limits h (first ++ second) old new r
tried_then fitting limits h first second old mid new (Ok done) x y = record {
  bytes = x.bytes ++ y.bytes;
  wrote = appends_both old mid new x.bytes y.bytes x.wrote y.wrote;
  course = (lines_both limits h first second x.bytes y.bytes x.course.0 y.course.0, y.course.1);
}
tried_then fitting limits h first second old mid new (Err (halt.Full full)) x y = absurd (fitting limits h full x.course.1 y.course.1)
tried_then fitting limits h first second old mid new (Err halt.NoMemory) x y = record { bytes = x.bytes ++ y.bytes; wrote = appends_both old mid new x.bytes y.bytes x.wrote y.wrote; course = cut_both limits h first second x.bytes y.bytes x.course.0 y.course }
tried_then fitting limits h first second old mid new (Err halt.ReadFault) x y = record { bytes = x.bytes ++ y.bytes; wrote = appends_both old mid new x.bytes y.bytes x.wrote y.wrote; course = cut_both limits h first second x.bytes y.bytes x.course.0 y.course }
tried_then fitting limits h first second old mid new (Err halt.WriteFault) x y = record { bytes = x.bytes ++ y.bytes; wrote = appends_both old mid new x.bytes y.bytes x.wrote y.wrote; course = cut_both limits h first second x.bytes y.bytes x.course.0 y.course }
tried_then fitting limits h first second old mid new (Err halt.StoreFault) x y = record { bytes = x.bytes ++ y.bytes; wrote = appends_both old mid new x.bytes y.bytes x.wrote y.wrote; course = cut_both limits h first second x.bytes y.bytes x.course.0 y.course }
tried_then fitting limits h first second old mid new (Err (halt.BadRow place)) x y = record { bytes = x.bytes ++ y.bytes; wrote = appends_both old mid new x.bytes y.bytes x.wrote y.wrote; course = cut_both limits h first second x.bytes y.bytes x.course.0 y.course }
tried_then fitting limits h first second old mid new (Err (halt.Unwritten other)) x y = record { bytes = x.bytes ++ y.bytes; wrote = appends_both old mid new x.bytes y.bytes x.wrote y.wrote; course = cut_both limits h first second x.bytes y.bytes x.course.0 y.course }

-- no further mode after a halt
pub tried_short : (limits : Limits) (h : History) (first second : List Mode) (old new : Option (List ℕ)) (why : Halt) → Tried limits h first old new (Err why) → Tried limits h (first ++ second) old new (Err why)
tried_short limits h first second old new (halt.Full full) x = record { bytes = x.bytes; wrote = x.wrote; course = x.course }
tried_short limits h first second old new halt.NoMemory x = record { bytes = x.bytes; wrote = x.wrote; course = cut_more limits h first second x.bytes x.course }
tried_short limits h first second old new halt.ReadFault x = record { bytes = x.bytes; wrote = x.wrote; course = cut_more limits h first second x.bytes x.course }
tried_short limits h first second old new halt.WriteFault x = record { bytes = x.bytes; wrote = x.wrote; course = cut_more limits h first second x.bytes x.course }
tried_short limits h first second old new halt.StoreFault x = record { bytes = x.bytes; wrote = x.wrote; course = cut_more limits h first second x.bytes x.course }
tried_short limits h first second old new (halt.BadRow place) x = record { bytes = x.bytes; wrote = x.wrote; course = cut_more limits h first second x.bytes x.course }
tried_short limits h first second old new (halt.Unwritten other) x = record { bytes = x.bytes; wrote = x.wrote; course = cut_more limits h first second x.bytes x.course }

-- a halt before anything is written
pub not_tried : (limits : Limits) (h : History) (modes : List Mode) (old : Option (List ℕ)) (why : Halt) → IsDue (Stops limits h) why → Tried limits h modes old old (Err why)
not_tried limits h modes old (halt.Full full) over = record { bytes = []; wrote = appends_none old; course = (refl, over) }
not_tried limits h modes old halt.NoMemory over = record { bytes = []; wrote = appends_none old; course = no_lines limits h modes }
not_tried limits h modes old halt.ReadFault over = record { bytes = []; wrote = appends_none old; course = no_lines limits h modes }
not_tried limits h modes old halt.WriteFault over = record { bytes = []; wrote = appends_none old; course = no_lines limits h modes }
not_tried limits h modes old halt.StoreFault over = record { bytes = []; wrote = appends_none old; course = no_lines limits h modes }
not_tried limits h modes old (halt.BadRow place) over = record { bytes = []; wrote = appends_none old; course = no_lines limits h modes }
not_tried limits h modes old (halt.Unwritten other) over = record { bytes = []; wrote = appends_none old; course = no_lines limits h modes }

-- the line of a mode, and a part of it
pub tried_one : (kind : Mode) (limits : Limits) (h : History) (old new : Option (List ℕ)) (line : List ℕ) → IsModeLine kind limits h line → Fits limits h → Appends old new line → Tried limits h (kind ∷ []) old new (Ok tt)
tried_one kind limits h old new line is fits wrote = record { bytes = line; wrote = wrote; course = (one_line kind limits h line is, fits) }

pub tried_half : (kind : Mode) (limits : Limits) (h : History) (old new : Option (List ℕ)) (line : List ℕ) (done : ℕ) → IsModeLine kind limits h line → Appends old new (take done line) → Tried limits h (kind ∷ []) old new (Err halt.WriteFault)
tried_half kind limits h old new line done is wrote = record { bytes = take done line; wrote = wrote; course = half_line kind limits h line done is }

few : (n most : ℕ) → n ≤ most → most ≤ 10000000 → n ≤ 2 ^ 32
few n most within small = omega (arith, within, small)

-- objects are fewer than 2 ^ 32, since their limit is
pub few_known : (kind : Mode) (limits : Limits) (h : History) (totals : Totals) → AreTotals kind limits h totals → Fits limits h → totals.known ≤ 2 ^ 32
few_known kind limits h totals x fits =
    let all : totals ≡ totals_in (reply.Stat (counts_of limits h (x.counts.0))) = x.totals_are ∙ ap totals_in (x.counts.2) in
    subst (λ (t : Totals). t.known ≤ 2 ^ 32) (sym all) (few (length (objects_of limits h)) limits.entities fits.entities limits.entities_within)

-- the reply about the last of some objects
pub counts_last : (kind : Mode) (limits : Limits) (h : History) (known back : ℕ) (said : Reply) → (known ≡ 0 → ⊥) → IsReply kind limits h (back_from (known - 1)) said → back ≡ size_of said → CountsBack kind limits h known back
counts_last kind limits h zero back said some is same = absurd (some refl)
counts_last kind limits h (suc last) back said some is same =
    let before : suc last - 1 ≡ last = omega arith in
    (said, subst (λ (of : ℕ). IsReply kind limits h (back_from of) said) before is, same)

-- the line of a mode, from its parts
pub mode_line_of : (kind given : Mode) (limits : Limits) (h : History) (totals : Totals) (back : ℕ) (line : List ℕ) → given ≡ kind → AreTotals kind limits h totals → CountsBack kind limits h totals.known back
    → line ≡ line_of (trial_data given totals back) → IsModeLine kind limits h line
mode_line_of kind given limits h totals back line same x reached whole = record {
  stat = x.stat;
  back = back;
  counts = x.counts;
  reached = subst (λ (all : Totals). CountsBack kind limits h all.known back) x.totals_are reached;
  line_is = whole ∙ ap (λ (all : Totals). line_of (trial_data given all back)) x.totals_are ∙ ap (λ (one : Mode). line_of (trial_data one (totals_in x.stat) back)) same;
}

-- want of memory has a cause whatever devices there are
pub memory_causes : (why : Halt) → why ≡ halt.NoMemory → HasCauses ⊥ ⊥ ⊥ ⊥ ⊥ why
memory_causes why is = rw is tt

-- want of memory is due in any case
pub memory_due : {A : Type 0} (r : Result A Halt) (stops : Full → Type 0) → IfErr r (λ why. why ≡ halt.NoMemory) → IfErr r (IsDue stops)
memory_due (Ok done) stops same = tt
memory_due (Err why) stops same = rw same tt

-- a trial of the log of a seed
pub same_log : (limits : Limits) (seed events : ℕ) (piece log : List ℕ) (modes : List Mode) (old new : Option (List ℕ)) (r : Result Unit Halt) → piece ≡ log → log ≡ generated seed events → Tried limits (settled piece) modes old new r
    → Tried limits (trial_history seed events) modes old new r
same_log limits seed events piece log modes old new r same is x = subst (λ (bytes : List ℕ). Tried limits (settled bytes) modes old new r) (same ∙ is) x
