-- The end of a dialogue over bytes of questions.
use Rattle.std.proofs.Common.{length, take, drop, arith, ◌≡◌, ℕ, List, [], ◌∷◌, ◌++◌, refl, ap, sym, ◌∙◌, Option, subst, append_assoc}
use Rattle.std.specs.Prelude.{Result, Ok, Err, OnOk}
use Rattle.std.proofs.lemmas.List.{append-nil, map-append, length-take, length-append}
use Rattle.flow_base.specs.declared.limits.Limits.{Limits}
use Rattle.audit_lex.specs.History.{History, Settle, with_bytes, lines_of}
use Rattle.audit_lex.specs.LineCut.{Cutter}
use Rattle.ingest.specs.Parts.{Engine}
use Rattle.report_json.specs.declared.ask.Ask.{Ask}
use Rattle.dialogue.specs.declared.halt.Halt.{Halt}
use Rattle.dialogue.specs.declared.halt.Turn.{Turn}
use Rattle.dialogue.specs.declared.halt.Turn.TheVariants as turn
use Rattle.dialogue.specs.Dialogue.{Moment, Beyond, asked, asks, lines_in, nothing_beyond}
use Rattle.dialogue.specs.Course.{Kind, At, EndCourse, EndTalked, IsDue, Talked, ended, never}
use Rattle.dialogue.specs.Hearing.{Heard, HeardLast, WhenMore}
use Rattle.dialogue.proofs.TalkLemmas.{appends_none, appends_both, nothing_said, other_halt, end_course, end_whole, end_after}
use Rattle.dialogue.proofs.HearLemmas.{LinesStay, whole_lines}

-- no line was left
pub last_none : {K : Type 0} → (kind : Kind K) (limits : Limits) (e : Engine K) (l old : Option (List ℕ)) (m : Moment) (h : History) → At kind limits e l m → lines_of (h ++ Settle ∷ []) ≡ lines_of h → HeardLast kind limits nothing_beyond e l old old (Ok tt) m h
last_none kind limits e l old m h at lines = record {
  last = [];
  lines = lines ∙ sym (append-nil (lines_of h));
  talked = record { to = m; bytes = []; wrote = appends_none old; course = ([], refl, refl); at = at };
}

at_end : (r : Result Turn Halt) (P : Type 0) → OnOk r P → OnOk (ended r) P
at_end (Ok t) P at = at
at_end (Err why) P at = tt

-- one line was left, and was answered
pub last_line : {K : Type 0} → (kind : Kind K) (limits : Limits) (e : Engine K) (l old new : Option (List ℕ)) (r : Result Turn Halt) (m : Moment) (h : History) (text : List ℕ) (q : Option Ask)
    → q ≡ asked limits.question text → lines_of (h ++ Settle ∷ []) ≡ lines_of h ++ text ∷ [] → Talked kind limits nothing_beyond e l old new r m (q ∷ []) → HeardLast kind limits nothing_beyond e l old new (ended r) m h
last_line kind limits e l old new r m h text q asks lines x = record {
  last = text ∷ [];
  lines = lines;
  talked = record {
    to = x.to;
    bytes = x.bytes;
    wrote = x.wrote;
    course = subst (λ (y : Option Ask). EndCourse limits nothing_beyond (ended r) m (y ∷ []) x.bytes x.to) asks (end_whole limits nothing_beyond r m x.to (q ∷ []) x.bytes x.course);
    at = at_end r _ x.at;
  };
}

-- the dialogue ended, or halted, within the questions
pub end_heard : {K : Type 0} → LinesStay → (kind : Kind K) (limits : Limits) (beyond : Beyond) (c : Cutter) (e : Engine K) (l old new : Option (List ℕ)) (r : Result Turn Halt) (m : Moment) (q : List ℕ)
    → WhenMore r ⊥ → Heard kind limits beyond c e l old new r m [] q → EndTalked kind limits beyond e l old new (ended r) m (asks limits (lines_in q))
end_heard stay kind limits beyond c e l old new r m q none x =
    let more = stay (with_bytes [] q) (Settle ∷ []) in
    let lines : lines_in q ≡ x.answered ++ (x.unheard ++ more.0) = more.1 ∙ ap (λ (ls : List (List ℕ)). ls ++ more.0) x.lines ∙ append_assoc x.answered x.unheard more.0 in
    let all : asks limits (lines_in q) ≡ asks limits x.answered ++ asks limits (x.unheard ++ more.0) = ap (asks limits) lines ∙ map-append (asked limits.question) x.answered (x.unheard ++ more.0) in
    record {
      to = x.talked.to;
      bytes = x.talked.bytes;
      wrote = x.talked.wrote;
      course = subst (λ (qs : List (Option Ask)). EndCourse limits beyond (ended r) m qs x.talked.bytes x.talked.to) (sym all)
          (end_course limits beyond r m x.talked.to (asks limits x.answered) (asks limits (x.unheard ++ more.0)) x.talked.bytes none x.talked.course);
      at = at_end r _ x.talked.at;
    }

-- all was heard, and then came the end
pub end_both : {K : Type 0} → (kind : Kind K) (limits : Limits) (beyond : Beyond) (c : Cutter) (e e2 : Engine K) (l l2 old mid new : Option (List ℕ)) (r : Result Unit Halt) (m : Moment) (q : List ℕ)
    → (first : Heard kind limits nothing_beyond c e l old mid (Ok turn.More) m [] q) → HeardLast kind limits nothing_beyond e2 l2 mid new r first.talked.to (with_bytes [] q) → EndTalked kind limits beyond e2 l2 old new r m (asks limits (lines_in q))
end_both kind limits beyond c e e2 l l2 old mid new r m q first last =
    let lines : lines_in q ≡ first.answered ++ last.last = last.lines ∙ ap (λ (ls : List (List ℕ)). ls ++ last.last) (whole_lines kind limits nothing_beyond c e l old mid m [] q first) in
    let all : asks limits (lines_in q) ≡ asks limits first.answered ++ asks limits last.last = ap (asks limits) lines ∙ map-append (asked limits.question) first.answered last.last in
    record {
      to = last.talked.to;
      bytes = first.talked.bytes ++ last.talked.bytes;
      wrote = appends_both old mid new first.talked.bytes last.talked.bytes first.talked.wrote last.talked.wrote;
      course = subst (λ (qs : List (Option Ask)). EndCourse limits beyond r m qs (first.talked.bytes ++ last.talked.bytes) last.talked.to) (sym all)
          (subst (λ (bs : List ℕ). EndCourse limits beyond r m (asks limits first.answered ++ asks limits last.last) (bs ++ last.talked.bytes) last.talked.to) (sym first.talked.course.1)
          (end_after limits beyond r m first.talked.to last.talked.to (asks limits first.answered) (asks limits last.last) first.talked.course.0 last.talked.bytes first.talked.course.2 last.talked.course));
      at = last.talked.at;
    }

-- a run that halted before its first question, for another cause than a limit
pub ended_early : {K : Type 0} → (kind : Kind K) (limits : Limits) (beyond : Beyond) (e : Engine K) (l old : Option (List ℕ)) (why : Halt) (m : Moment) (questions : List (Option Ask)) → IsDue never why → EndTalked kind limits beyond e l old old (Err why) m questions
ended_early kind limits beyond e l old why m questions due = record {
  to = m;
  bytes = [];
  wrote = appends_none old;
  course = other_halt limits beyond m questions [] why due (nothing_said limits m questions);
  at = tt;
}

-- what was written into a buffer keeps its length
pub kept_room : (len : ℕ) (new old : List ℕ) → length new ≡ 65536 → len ≡ 65536 → length (take len (new ++ drop (length new) old)) ≡ 65536
kept_room len new old long whole =
    let taken = length-take len (new ++ drop (length new) old) in
    let both = length-append new (drop (length new) old) in
    omega arith
