-- How the reading of a log goes on.
use Rattle.std.proofs.Common.{◌≡◌, ◌+◌, ◌∙◌, sym, refl, ap, subst, ℕ, false, List, [], ◌∷◌, ◌++◌, length, take, drop, Option, None, Some, map, append_assoc, append-nil, Ok, Err, Result, OnOk, ◌-◌}
use Rattle.std.specs.List.Sorted.{IsPermutation}
use Rattle.std.specs.Io.KnownBytes.{Appends, Consumes, IsAtEnd}
use Rattle.std.proofs.Math.Seq.{take-add}
use Rattle.std.proofs.lemmas.List.{map-append, take_rest}
use Rattle.audit_order.specs.declared.halt.Halt.{Halt}
use Rattle.audit_order.specs.declared.halt.Halt.TheVariants as halt
use Rattle.audit_order.specs.Statuses.{status_for, AtDone}
use Rattle.std.proofs.lemmas.Option.{same_Some}
use Rattle.audit_lex.specs.History.{History, Step, Byte, lines_of, with_bytes, is_long, short_text}
use Rattle.audit_lex.specs.LineCut.{StandsFor, Cutter, Gives}
use Rattle.audit_lex.specs.declared.line_cut.Line.{Line}
use Rattle.order_text.specs.Undo.{undone}
use Rattle.audit_order.specs.declared.counts.Counts.{Counts}
use Rattle.audit_order.specs.Start.{Start}
use Rattle.order_queue.specs.declared.waiting.Waiting.{Waiting}
use Rattle.order_queue.specs.Queue.{text_of, texts_of}
use Rattle.std.proofs.lemmas.List.Sorted.{IsPermutation-map, IsPermutation-trans, IsPermutation-append_right}
use Rattle.audit_order.specs.declared.bounds.Bounds.{Bounds}
use Rattle.audit_order.specs.declared.sorter.Sorter.{Sorter}
use Rattle.audit_order.specs.Woven.{IsWoven}
use Rattle.audit_order.specs.Shown.{Told, untold, lines_in}
use Rattle.audit_order.specs.Turns.{AtEnd, InTurn, came, went}
use Rattle.audit_order.proofs.ToldLemmas.{told_lines, lines_same}
use Rattle.audit_order.specs.Sorted.{SortsAt}
use Rattle.audit_order.proofs.FeedLemmas.{one_each, given_back_one}
use Rattle.audit_order.specs.Reads.{Took, TakesAlso, TakesNext, log_lines, Orders}
use Rattle.audit_order.specs.Taken.{Standing}

short : (limit : ℕ) (text : List ℕ) → is_long limit text ≡ false → short_text limit text ≡ text
short limit text e = rw e refl

pub next_took : {T : Type 0} (stands : Standing T) (limit : ℕ) (before : Start) (was now : Option (List ℕ)) (old new : T) (from to : History) (line : Option Line)
    → Gives limit from to line → TakesNext stands was old now new line → stands before was old (lines_of from) → stands before now new (lines_of to)
next_took stands limit before was now old new from to None same goes s =
    subst (λ (lines : List (List ℕ)). stands before now new lines) (sym same) (goes before (lines_of from) s)
next_took stands limit before was now old new from to (Some line) gives takes s =
    let is = gives.2 in
    let long : is_long limit gives.0 ≡ false = sym (ap (λ (l : Line). l.long) is) ∙ takes.0 in
    let whole : line.text ≡ gives.0 = ap (λ (l : Line). l.text) is ∙ short limit gives.0 long in
    subst (λ (lines : List (List ℕ)). stands before now new lines)
    (ap (λ (t : List ℕ). lines_of from ++ t ∷ []) whole ∙ sym gives.1) (takes.1 before (lines_of from) s)

pub joined_bytes : (history : History) (piece : List ℕ) (a n : ℕ)
    → (history ++ map Byte (take a piece)) ++ map Byte (take n (drop a piece)) ≡ history ++ map Byte (take (a + n) piece)
joined_bytes history piece a n =
    append_assoc history (map Byte (take a piece)) (map Byte (take n (drop a piece)))
    ∙ ap (λ (t : List Step). history ++ t) (sym (map-append Byte (take a piece) (take n (drop a piece))))
    ∙ ap (λ (t : List ℕ). history ++ map Byte t) (sym (take-add a n piece))

pub joined_parts : (history : History) (first second : List ℕ) → (history ++ map Byte first) ++ map Byte second ≡ history ++ map Byte (first ++ second)
joined_parts history first second =
    append_assoc history (map Byte first) (map Byte second) ∙ ap (λ (t : List Step). history ++ t) (sym (map-append Byte first second))

-- some of a log was taken, and the rest is left
pub record InLog {T : Type 0} (stands : Standing T) (bytes : List ℕ) (left was : Option (List ℕ)) (cut : Cutter) (s : T) (now : Option (List ℕ)) (cut2 : Cutter) (s2 : T) : Type 0 where
  pub part : List ℕ
  pub rest : List ℕ
  pub told : left ≡ Some rest
  pub whole : bytes ≡ part ++ rest
  pub takes : TakesAlso stands was cut s now cut2 s2 (map Byte part)

pub begins_log : {T : Type 0} (stands : Standing T) (bytes : List ℕ) (left was : Option (List ℕ)) (cut : Cutter) (s : T) → left ≡ Some bytes → InLog stands bytes left was cut s was cut s
begins_log stands bytes left was cut s told = record {
  part = [];
  rest = bytes;
  told = told;
  whole = refl;
  takes = λ before history took. subst (λ (h : History). Took stands before was cut s h) (sym (append-nil history)) took;
}

consumed : (old new : Option (List ℕ)) (rest piece : List ℕ) → old ≡ Some rest → Consumes old new piece → (later : List ℕ) × (new ≡ Some later) × (rest ≡ piece ++ later)
consumed None new rest piece told e = absurd (cc told)
consumed (Some xs) None rest piece told e = absurd e
consumed (Some xs) (Some ys) rest piece told e = (ys, refl, sym (same_Some _ _ told) ∙ e)

pub goes_on_log : {T : Type 0} (stands : Standing T) (bytes : List ℕ) (left later was now next : Option (List ℕ)) (cut cut2 cut3 : Cutter) (s s2 s3 : T) (piece : List ℕ)
    → InLog stands bytes left was cut s now cut2 s2 → Consumes left later piece → TakesAlso stands now cut2 s2 next cut3 s3 (map Byte piece)
    → InLog stands bytes later was cut s next cut3 s3
goes_on_log stands bytes left later was now next cut cut2 cut3 s s2 s3 piece log read takes =
    let is = consumed left later log.rest piece log.told read in
    record {
      part = log.part ++ piece;
      rest = is.0;
      told = is.1;
      whole = log.whole ∙ ap (λ (t : List ℕ). log.part ++ t) is.2 ∙ sym (append_assoc log.part piece is.0);
      takes = λ before history took. subst (λ (h : History). Took stands before next cut3 s3 h) (joined_parts history log.part piece)
          (takes before (history ++ map Byte log.part) (log.takes before history took));
    }

at_end : (later : Option (List ℕ)) (rest : List ℕ) → later ≡ Some rest → IsAtEnd later → rest ≡ []
at_end None rest told e = absurd (cc told)
at_end (Some xs) rest told e = sym (same_Some _ _ told) ∙ e

pub record Ended {T : Type 0} (stands : Standing T) (bytes : List ℕ) (later was : Option (List ℕ)) (cut : Cutter) (s : T) (now : Option (List ℕ)) (cut2 : Cutter) (s2 : T) : Type 0 where
  pub takes : TakesAlso stands was cut s now cut2 s2 (map Byte bytes)
  pub none : later ≡ Some []

pub ends_log : {T : Type 0} (stands : Standing T) (bytes : List ℕ) (left later was now : Option (List ℕ)) (cut cut2 : Cutter) (s s2 : T) (piece : List ℕ) → piece ≡ []
    → InLog stands bytes left was cut s now cut2 s2 → Consumes left later piece → IsAtEnd later → Ended stands bytes later was cut s now cut2 s2
ends_log stands bytes left later was now cut cut2 s s2 piece empty log read ended =
    let is = consumed left later log.rest piece log.told read in
    let none = at_end later is.0 is.1 ended in
    let all : bytes ≡ log.part = log.whole ∙ ap (λ (t : List ℕ). log.part ++ t) (is.2 ∙ ap (λ (p : List ℕ). p ++ is.0) empty ∙ none) ∙ append-nil log.part in
    record {
      takes = subst (λ (b : List ℕ). TakesAlso stands was cut s now cut2 s2 (map Byte b)) (sym all) log.takes;
      none = is.1 ∙ ap (λ (r : List ℕ). Some r) none;
    }

-- what was written at the end orders the log
pub orders : (bytes : List ℕ) (before : Start) (now : Option (List ℕ)) (s : Sorter) (lines : List (List ℕ)) (counts : Counts) → s.writer.pending ≡ [] → s.queue.waits ≡ []
    → lines ≡ log_lines bytes → counts.times_raised ≡ s.writer.raised → counts.added_ends ≡ s.writer.added → counts.added_peers ≡ s.writer.peers → counts.rewrites ≡ s.writer.rewritten
    → counts.events ≡ s.tally.events → counts.late ≡ s.tally.late → SortsAt AtEnd before now s lines → Orders before.bounds before.switches bytes before.written now counts
orders bytes before now sorter lines counts flushed none are raised added peers rewritten events late s =
    let c = s.course in
    let t = s.turns in
    let all : IsPermutation (came t.motions) (went t.motions) =
    subst (λ (l : List Waiting). IsPermutation (came t.motions) l) (ap (λ (l : List Waiting). went t.motions ++ l) none ∙ append-nil (went t.motions)) t.rest in
    let given : IsPermutation (log_lines bytes) (lines_in s.given) =
    subst (λ (l : List (List ℕ)). IsPermutation l (lines_in s.given)) (t.lines_are ∙ are)
    (subst (λ (l : List (List ℕ)). IsPermutation (texts_of (came t.motions)) l) (sym (told_lines before.switches.compat t.motions) ∙ ap lines_in t.given_are)
    (IsPermutation-map text_of (came t.motions) (went t.motions) all)) in
    let same : IsPermutation (c.added ++ (c.peers ++ log_lines bytes)) (map undone c.outs) =
    IsPermutation-trans (c.added ++ (c.peers ++ log_lines bytes)) (c.added ++ (c.peers ++ lines_in s.given)) (map undone c.outs)
    (IsPermutation-append_right c.added (c.peers ++ log_lines bytes) (c.peers ++ lines_in s.given) (IsPermutation-append_right c.peers (log_lines bytes) (lines_in s.given) given))
    (subst (λ (l : List (List ℕ)). IsPermutation (c.added ++ (c.peers ++ lines_in s.given)) l) (sym c.are) (lines_same c.added c.peers s.given c.told c.woven)) in
    record {
      outs = c.outs;
      told = c.told;
      added = c.added;
      peers = c.peers;
      written = subst (λ (t : List ℕ). Appends before.written now t) (sym (append-nil c.done) ∙ ap (λ (p : List ℕ). c.done ++ p) (sym flushed) ∙ c.text) c.appends;
      same = same;
      rises = c.rises;
      ends = c.ends;
      blank = c.blank;
      lacked = c.lacked;
      one = one_each c.outs c.own (given_back_one bytes c.added c.peers (map undone c.outs) c.ends c.blank same);
      counts_raised = raised ∙ c.counts_raised;
      counts_added = added ∙ c.counts_added;
      counts_peers = peers ∙ c.counts_peers;
      counts_rewritten = rewritten ∙ c.counts_rewritten;
      are = c.are;
      exact = c.exact;
      seen = sorter.places;
      motions = t.motions;
      read = t.lines_are ∙ are;
      all_went = all;
      in_turn = subst (λ (b : Bounds). InTurn before.switches.compat b sorter.places t.motions) s.bounds_are t.turns;
      order = subst (λ (g : List Told). IsWoven (map untold c.added) (map untold c.peers) g c.told) (sym t.given_are) c.woven;
      counts_events = events ∙ t.counts.events;
      counts_late = late ∙ t.counts.late;
    }

-- ---- slices, and results

-- a part of the rest of a piece
pub joined_slice : (history : History) (piece : List ℕ) (a n : ℕ)
    → (history ++ map Byte (take a piece)) ++ map Byte (take n (take (length piece - a) (drop a piece))) ≡ history ++ map Byte (take (a + n) piece)
joined_slice history piece a n =
    ap (λ (t : List ℕ). (history ++ map Byte (take a piece)) ++ map Byte (take n t)) (take_rest piece a) ∙ joined_bytes history piece a n

pub on_ok_two : {T E P Q S : Type 0} (r : Result T E) → OnOk r P → OnOk r Q → (P → Q → S) → OnOk r S
on_ok_two (Ok x) p q f = f p q
on_ok_two (Err e) p q f = tt

pub on_ok_three : {T E P Q R S : Type 0} (r : Result T E) → OnOk r P → OnOk r Q → OnOk r R → (P → Q → R → S) → OnOk r S
on_ok_three (Ok x) p q r f = f p q r
on_ok_three (Err e) p q r f = tt

pub at_done : (r : Result Unit Halt) (P : Type 0) → OnOk r P → AtDone (status_for r) P
at_done (Ok x) P p = p
at_done (Err halt.NoMemory) P p = tt
at_done (Err halt.ReadFault) P p = tt
at_done (Err halt.WriteFault) P p = tt

-- a part of the log was cut, and the line that ended in it is taken
pub part_took : {T : Type 0} (stands : Standing T) (was now : Option (List ℕ)) (cut cut2 : Cutter) (old new : T) (bytes : List ℕ) (line : Option Line)
    → ((history : History) → StandsFor cut history → Gives cut.limit history (with_bytes history bytes) line)
    → ((history : History) → StandsFor cut history → StandsFor cut2 (with_bytes history bytes))
    → TakesNext stands was old now new line → TakesAlso stands was cut old now cut2 new (map Byte bytes)
part_took stands was now cut cut2 old new bytes line gives cuts takes before history took = record {
  cuts = cuts history took.cuts;
  takes = next_took stands cut.limit before was now old new history (with_bytes history bytes) line (gives history took.cuts) takes took.takes;
}
