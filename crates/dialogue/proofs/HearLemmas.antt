-- Pieces of the questions, one after another.
use Rattle.std.proofs.Common.{◌≡◌, ◌≤◌, ◌<◌, ◌-◌, ◌+◌, arith, length, ℕ, List, [], ◌∷◌, ◌++◌, map, take, drop, refl, ap, sym, append_assoc, ◌∙◌, Option, Some, subst, inl, inr}
use Rattle.std.specs.Prelude.{◌⊎◌, Result, Ok, Err, OnOk}
use Rattle.std.proofs.lemmas.List.{append-nil, map-append, length-drop, drop-drop}
use Rattle.std.proofs.Math.Seq.{take-add}
use Rattle.flow_base.specs.declared.limits.Limits.{Limits}
use Rattle.flow_base.specs.declared.limits.Full.{Full}
use Rattle.audit_lex.specs.History.{History, Byte, with_bytes, lines_of}
use Rattle.audit_lex.specs.LineCut.{Cutter}
use Rattle.ingest.specs.Parts.{Engine}
use Rattle.report_json.specs.declared.ask.Ask.{Ask}
use Rattle.dialogue.specs.declared.halt.Halt.{Halt}
use Rattle.dialogue.specs.declared.halt.Halt.TheVariants as halt
use Rattle.dialogue.specs.declared.halt.Turn.{Turn}
use Rattle.dialogue.specs.declared.halt.Turn.TheVariants as turn
use Rattle.dialogue.specs.Dialogue.{Moment, Beyond, Leads, asked, asks, QuestionsStop, ReadsNoFurther, input_full, nothing_beyond}
use Rattle.dialogue.specs.Course.{Kind, At, Course, Halted, Talked, IsDue, never}
use Rattle.dialogue.specs.Hearing.{Holds, Heard, WhenMore}
use Rattle.dialogue.specs.Listening.{PassesRoom, EndsWithin}
use Rattle.dialogue.proofs.TalkLemmas.{appends_none, appends_both, leads_none, leads_closes, course_after, nothing_said, other_halt, Carries}

-- lines that have ended stay
abbrev pub LinesStay : Type 0
LinesStay = (history more : History) → (later : List (List ℕ)) × (lines_of (history ++ more) ≡ lines_of history ++ later)

-- bytes that come in two pieces
pub pieces : (h : History) (p q : List ℕ) → with_bytes (with_bytes h p) q ≡ with_bytes h (p ++ q)
pieces h p q = rw (map-append, append_assoc) refl

-- the lines of a piece that was heard whole
pub whole_lines : {K : Type 0} → (kind : Kind K) (limits : Limits) (beyond : Beyond) (c : Cutter) (e : Engine K) (l old new : Option (List ℕ)) (m : Moment) (h : History) (p : List ℕ)
    → (x : Heard kind limits beyond c e l old new (Ok turn.More) m h p) → lines_of (with_bytes h p) ≡ lines_of h ++ x.answered
whole_lines kind limits beyond c e l old new m h p x =
    x.lines ∙ ap (λ (ls : List (List ℕ)). lines_of h ++ (x.answered ++ ls)) x.whole ∙ ap (λ (ls : List (List ℕ)). lines_of h ++ ls) (append-nil x.answered)

-- a part of a run after another one that goes on
pub talked_after : {K : Type 0} → (kind : Kind K) (limits : Limits) (P Q : Beyond) (e1 e2 : Engine K) (l1 l2 old mid new : Option (List ℕ)) (r : Result Turn Halt) (from : Moment) (f g : List (Option Ask))
    → Carries f P Q → (first : Talked kind limits nothing_beyond e1 l1 old mid (Ok turn.More) from f) → Talked kind limits P e2 l2 mid new r first.to g → Talked kind limits Q e2 l2 old new r from (f ++ g)
talked_after kind limits P Q e1 e2 l1 l2 old mid new r from f g carries first second = record {
  to = second.to;
  bytes = first.bytes ++ second.bytes;
  wrote = appends_both old mid new first.bytes second.bytes first.wrote second.wrote;
  course = subst (λ (bs : List ℕ). Course limits Q r from (f ++ g) (bs ++ second.bytes) second.to) (sym first.course.1)
      (course_after limits P Q r from first.to second.to f g first.course.0 second.bytes carries first.course.2 second.course);
  at = second.at;
}

-- nothing asked yet
pub talked_none : {K : Type 0} → (kind : Kind K) (limits : Limits) (beyond : Beyond) (e : Engine K) (l old : Option (List ℕ)) (m : Moment) → At kind limits e l m → Talked kind limits beyond e l old old (Ok turn.More) m []
talked_none kind limits beyond e l old m at = record { to = m; bytes = []; wrote = appends_none old; course = ([], refl, leads_none limits m); at = at }

-- nothing heard yet
pub heard_none : {K : Type 0} → (kind : Kind K) (limits : Limits) (beyond : Beyond) (c : Cutter) (e : Engine K) (l old : Option (List ℕ)) (m : Moment) (h : History) → At kind limits e l m → Holds limits c h → Heard kind limits beyond c e l old old (Ok turn.More) m h []
heard_none kind limits beyond c e l old m h at holds = record {
  answered = [];
  unheard = [];
  lines = ap lines_of (append-nil h) ∙ sym (append-nil (lines_of h));
  talked = talked_none kind limits beyond e l old m at;
  holds = subst (λ (x : History). Holds limits c x) (sym (append-nil h)) holds;
  whole = refl;
}

-- one piece after another that was heard whole
pub heard_both : {K : Type 0} → (kind : Kind K) (limits : Limits) (P Q : Beyond) (c1 c2 : Cutter) (e1 e2 : Engine K) (l1 l2 old mid new : Option (List ℕ)) (r : Result Turn Halt) (from : Moment) (h : History) (p q : List ℕ)
    → (first : Heard kind limits nothing_beyond c1 e1 l1 old mid (Ok turn.More) from h p) → Carries (asks limits first.answered) P Q → Heard kind limits P c2 e2 l2 mid new r first.talked.to (with_bytes h p) q → Heard kind limits Q c2 e2 l2 old new r from h (p ++ q)
heard_both kind limits P Q c1 c2 e1 e2 l1 l2 old mid new r from h p q first carries second =
    let whole = whole_lines kind limits nothing_beyond c1 e1 l1 old mid from h p first in
    record {
      answered = first.answered ++ second.answered;
      unheard = second.unheard;
      lines = ap lines_of (sym (pieces h p q)) ∙ second.lines ∙ ap (λ (ls : List (List ℕ)). ls ++ (second.answered ++ second.unheard)) whole
          ∙ append_assoc (lines_of h) first.answered (second.answered ++ second.unheard)
          ∙ ap (λ (ls : List (List ℕ)). lines_of h ++ ls) (sym (append_assoc first.answered second.answered second.unheard));
      talked = rw (map-append (asked limits.question) first.answered second.answered) (talked_after kind limits P Q e1 e2 l1 l2 old mid new r from _ _ carries first.talked second.talked);
      holds = subst (λ (x : History). WhenMore r (Holds limits c2 x)) (pieces h p q) second.holds;
      whole = second.whole;
    }

never_more : (r : Result Turn Halt) (P : Type 0) → WhenMore r ⊥ → WhenMore r P
never_more (Ok turn.More) P none = absurd none
never_more (Ok turn.Ended) P none = tt
never_more (Err why) P none = tt

when_more : (r : Result Turn Halt) (P : Type 0) → P → WhenMore r P
when_more (Ok turn.More) P p = p
when_more (Ok turn.Ended) P p = tt
when_more (Err why) P p = tt

-- a longer piece, of which no more is heard
pub heard_longer : {K : Type 0} → LinesStay → (kind : Kind K) (limits : Limits) (beyond : Beyond) (c : Cutter) (e : Engine K) (l old new : Option (List ℕ)) (r : Result Turn Halt) (from : Moment) (h : History) (p q : List ℕ)
    → WhenMore r ⊥ → Heard kind limits beyond c e l old new r from h p → Heard kind limits beyond c e l old new r from h (p ++ q)
heard_longer stay kind limits beyond c e l old new r from h p q none x =
    let more = stay (with_bytes h p) (map Byte q) in
    record {
      answered = x.answered;
      unheard = x.unheard ++ more.0;
      lines = ap lines_of (sym (pieces h p q)) ∙ more.1 ∙ ap (λ (ls : List (List ℕ)). ls ++ more.0) x.lines
          ∙ append_assoc (lines_of h) (x.answered ++ x.unheard) more.0
          ∙ ap (λ (ls : List (List ℕ)). lines_of h ++ ls) (append_assoc x.answered x.unheard more.0);
      talked = x.talked;
      holds = never_more r _ none;
      whole = never_more r _ none;
    }

-- a part that ends a line, which was answered
pub heard_line : {K : Type 0} → (kind : Kind K) (limits : Limits) (beyond : Beyond) (c : Cutter) (e : Engine K) (l old new : Option (List ℕ)) (r : Result Turn Halt) (m : Moment) (h : History) (part text : List ℕ) (q : Option Ask)
    → q ≡ asked limits.question text → Holds limits c (with_bytes h part) → lines_of (with_bytes h part) ≡ lines_of h ++ text ∷ [] → Talked kind limits beyond e l old new r m (q ∷ []) → Heard kind limits beyond c e l old new r m h part
heard_line kind limits beyond c e l old new r m h part text q asks holds lines talked = record {
  answered = text ∷ [];
  unheard = [];
  lines = lines;
  talked = subst (λ (x : Option Ask). Talked kind limits beyond e l old new r m (x ∷ [])) asks talked;
  holds = when_more r _ holds;
  whole = when_more r _ refl;
}

-- a part that ends no line
pub heard_no_line : {K : Type 0} → (kind : Kind K) (limits : Limits) (beyond : Beyond) (c : Cutter) (e : Engine K) (l old : Option (List ℕ)) (m : Moment) (h : History) (part : List ℕ)
    → At kind limits e l m → Holds limits c (with_bytes h part) → lines_of (with_bytes h part) ≡ lines_of h → Heard kind limits beyond c e l old old (Ok turn.More) m h part
heard_no_line kind limits beyond c e l old m h part at holds lines = record {
  answered = [];
  unheard = [];
  lines = lines ∙ sym (append-nil (lines_of h));
  talked = talked_none kind limits beyond e l old m at;
  holds = holds;
  whole = refl;
}

-- nothing heard before a halt
pub heard_nothing : {K : Type 0} → LinesStay → (kind : Kind K) (limits : Limits) (beyond : Beyond) (c : Cutter) (e : Engine K) (l old : Option (List ℕ)) (why : Halt) (m : Moment) (h : History) (piece : List ℕ)
    → IsDue never why → Heard kind limits beyond c e l old old (Err why) m h piece
heard_nothing stay kind limits beyond c e l old why m h piece due =
    let more = stay h (map Byte piece) in
    record {
      answered = [];
      unheard = more.0;
      lines = more.1;
      talked = record { to = m; bytes = []; wrote = appends_none old; course = other_halt limits beyond m [] [] why due (nothing_said limits m []); at = tt };
      holds = tt;
      whole = tt;
    }

weaker : (A B C : Type 0) → (B → C) → A ⊎ B → A ⊎ C
weaker A B C f (inl a) = inl a
weaker A B C f (inr b) = inr (f b)

-- with one more cause
abbrev pub Weaker : Beyond → Beyond → Type 0
Weaker P Q = (answered : List (Option Ask)) (full : Full) → P answered full → Q answered full

halted_weaker : (limits : Limits) (P Q : Beyond) (a : Moment) (f : List (Option Ask)) (bytes : List ℕ) (why : Halt) → Weaker P Q → Halted limits P a f bytes why → Halted limits Q a f bytes why
halted_weaker limits P Q a f bytes (halt.Full full) more x = record {
  said = x.said;
  to = x.to;
  stops = record { answered = x.stops.answered; later = x.stops.later; parts = x.stops.parts; leads = x.stops.leads; cause = weaker _ _ _ (more x.stops.answered full) x.stops.cause };
  fits = x.fits;
  bytes_are = x.bytes_are;
}
halted_weaker limits P Q a f bytes halt.NoMemory more x = x
halted_weaker limits P Q a f bytes halt.ReadFault more x = x
halted_weaker limits P Q a f bytes halt.WriteFault more x = x
halted_weaker limits P Q a f bytes halt.StoreFault more x = x
halted_weaker limits P Q a f bytes (halt.BadRow place) more x = x
halted_weaker limits P Q a f bytes (halt.Unwritten other) more x = x

course_weaker : (limits : Limits) (P Q : Beyond) (r : Result Turn Halt) (a b : Moment) (f : List (Option Ask)) (bytes : List ℕ) → Weaker P Q → Course limits P r a f bytes b → Course limits Q r a f bytes b
course_weaker limits P Q (Ok turn.More) a b f bytes more h = h
course_weaker limits P Q (Ok turn.Ended) a b f bytes more h = h
course_weaker limits P Q (Err why) a b f bytes more h = halted_weaker limits P Q a f bytes why more h

pub heard_weaker : {K : Type 0} → (kind : Kind K) (limits : Limits) (P Q : Beyond) (c : Cutter) (e : Engine K) (l old new : Option (List ℕ)) (r : Result Turn Halt) (from : Moment) (h : History) (p : List ℕ)
    → Weaker P Q → Heard kind limits P c e l old new r from h p → Heard kind limits Q c e l old new r from h p
heard_weaker kind limits P Q c e l old new r from h p more x = record {
  answered = x.answered;
  unheard = x.unheard;
  lines = x.lines;
  talked = record {
    to = x.talked.to;
    bytes = x.talked.bytes;
    wrote = x.talked.wrote;
    course = course_weaker limits P Q r from x.talked.to (asks limits x.answered) x.talked.bytes more x.talked.course;
    at = x.talked.at;
  };
  holds = x.holds;
  whole = x.whole;
}

-- a longer piece, of which the rest may not be heard
pub heard_full : {K : Type 0} → LinesStay → (kind : Kind K) (limits : Limits) (beyond : Beyond) (c : Cutter) (e : Engine K) (l old new : Option (List ℕ)) (from : Moment) (h : History) (p q : List ℕ)
    → (x : Heard kind limits nothing_beyond c e l old new (Ok turn.More) from h p) → beyond (asks limits x.answered) (input_full limits) → Heard kind limits beyond c e l old new (Err (halt.Full (input_full limits))) from h (p ++ q)
heard_full stay kind limits beyond c e l old new from h p q x over =
    let more = stay (with_bytes h p) (map Byte q) in
    record {
      answered = x.answered;
      unheard = x.unheard ++ more.0;
      lines = ap lines_of (sym (pieces h p q)) ∙ more.1 ∙ ap (λ (ls : List (List ℕ)). ls ++ more.0) x.lines
          ∙ append_assoc (lines_of h) (x.answered ++ x.unheard) more.0
          ∙ ap (λ (ls : List (List ℕ)). lines_of h ++ ls) (append_assoc x.answered x.unheard more.0);
      talked = record {
        to = x.talked.to;
        bytes = x.talked.bytes;
        wrote = x.talked.wrote;
        course = record {
          said = x.talked.course.0;
          to = x.talked.to;
          stops = record { answered = asks limits x.answered; later = []; parts = sym (append-nil (asks limits x.answered)); leads = x.talked.course.2; cause = inr over };
          fits = x.talked.at.stands_at.stands.fits;
          bytes_are = x.talked.course.1;
        };
        at = tt;
      };
      holds = tt;
      whole = tt;
    }

-- a part that goes on had no cause to halt
pub heard_more : {K : Type 0} → (kind : Kind K) (limits : Limits) (P Q : Beyond) (c : Cutter) (e : Engine K) (l old new : Option (List ℕ)) (from : Moment) (h : History) (p : List ℕ)
    → Heard kind limits P c e l old new (Ok turn.More) from h p → Heard kind limits Q c e l old new (Ok turn.More) from h p
heard_more kind limits P Q c e l old new from h p x = record {
  answered = x.answered;
  unheard = x.unheard;
  lines = x.lines;
  talked = record { to = x.talked.to; bytes = x.talked.bytes; wrote = x.talked.wrote; course = x.talked.course; at = x.talked.at };
  holds = x.holds;
  whole = x.whole;
}

-- what was heard within the room leaves more to hear
pub questions_pass : {K : Type 0} → (kind : Kind K) (limits : Limits) (c : Cutter) (e : Engine K) (l old new : Option (List ℕ)) (from : Moment) (h : History) (p q : List ℕ) (room : ℕ)
    → p ≡ take room q → room < length q → (x : Heard kind limits nothing_beyond c e l old new (Ok turn.More) from h p) → PassesRoom limits room h q (asks limits x.answered) (input_full limits)
questions_pass kind limits c e l old new from h p q room is over x = record {
  ended = x.answered;
  lines = ap (λ (xs : List ℕ). lines_of (with_bytes h xs)) (sym is) ∙ whole_lines kind limits nothing_beyond c e l old new from h p x;
  all = refl;
  past = over;
  is = refl;
}

-- `end` was heard within the room
pub questions_closed : {K : Type 0} → LinesStay → (kind : Kind K) (limits : Limits) (c : Cutter) (e : Engine K) (l old new : Option (List ℕ)) (from : Moment) (h : History) (p q : List ℕ) (n room : ℕ)
    → p ≡ take n q → n ≤ room → Heard kind limits nothing_beyond c e l old new (Ok turn.Ended) from h p → EndsWithin limits room from h q
questions_closed stay kind limits c e l old new from h p q n room is within x =
    let sum : n + (room - n) ≡ room = omega arith in
    let split : take room q ≡ p ++ take (room - n) (drop n q) = sym (ap (λ (k : ℕ). take k q) sum) ∙ take-add n (room - n) q ∙ ap (λ (xs : List ℕ). xs ++ take (room - n) (drop n q)) (sym is) in
    let rest = take (room - n) (drop n q) in
    let more = stay (with_bytes h p) (map Byte rest) in
    record {
      answered = x.answered;
      unheard = x.unheard ++ more.0;
      lines = ap (λ (xs : List ℕ). lines_of (with_bytes h xs)) split ∙ ap lines_of (sym (pieces h p rest)) ∙ more.1 ∙ ap (λ (ls : List (List ℕ)). ls ++ more.0) x.lines
          ∙ append_assoc (lines_of h) (x.answered ++ x.unheard) more.0
          ∙ ap (λ (ls : List (List ℕ)). lines_of h ++ ls) (append_assoc x.answered x.unheard more.0);
      said = x.talked.course.0;
      to = x.talked.to;
      closes = x.talked.course.2;
    }

-- the bytes that were heard, and further ones up to the limit
front_of : (limits : Limits) (n : ℕ) (q : List ℕ) → n ≤ limits.input → take n q ++ take (limits.input - n) (drop n q) ≡ take limits.input q
front_of limits n q within =
    let sum : n + (limits.input - n) ≡ limits.input = omega arith in
    sym (take-add n (limits.input - n) q) ∙ ap (λ (k : ℕ). take k q) sum

-- the same, after all that was heard before
pub questions_pass_after : {K : Type 0} → (kind : Kind K) (limits : Limits) (n : ℕ) (c : Cutter) (e : Engine K) (l old new : Option (List ℕ)) (from : Moment) (q : List ℕ)
    → n ≤ limits.input → n ≤ length q → (first : Heard kind limits nothing_beyond c e l old new (Ok turn.More) from [] (take n q))
    → Carries (asks limits first.answered) (PassesRoom limits (limits.input - n) (with_bytes [] (take n q)) (drop n q)) (QuestionsStop limits q)
questions_pass_after kind limits n c e l old new from q within part first = λ answered full x.
    let whole = whole_lines kind limits nothing_beyond c e l old new from [] (take n q) first in
    let lines : lines_of (with_bytes [] (take limits.input q)) ≡ first.answered ++ x.ended =
    ap (λ (xs : List ℕ). lines_of (with_bytes [] xs)) (sym (front_of limits n q within)) ∙ ap lines_of (sym (pieces [] (take n q) (take (limits.input - n) (drop n q)))) ∙ x.lines ∙ ap (λ (ls : List (List ℕ)). ls ++ x.ended) whole in
    let left = length-drop n q in
    let over = x.past in
    record {
      all = ap (λ (qs : List (Option Ask)). asks limits first.answered ++ qs) x.all ∙ sym (map-append (asked limits.question) first.answered x.ended) ∙ sym (ap (asks limits) lines);
      past = omega arith;
      is = x.is;
    }

-- the same, after all that was heard before
pub questions_closed_after : {K : Type 0} → (kind : Kind K) (limits : Limits) (n : ℕ) (c : Cutter) (e : Engine K) (l old new : Option (List ℕ)) (from : Moment) (q : List ℕ)
    → n ≤ limits.input → (first : Heard kind limits nothing_beyond c e l old new (Ok turn.More) from [] (take n q)) → EndsWithin limits (limits.input - n) first.talked.to (with_bytes [] (take n q)) (drop n q) → EndsWithin limits limits.input from [] q
questions_closed_after kind limits n c e l old new from q within first x =
    let whole = whole_lines kind limits nothing_beyond c e l old new from [] (take n q) first in
    record {
      answered = first.answered ++ x.answered;
      unheard = x.unheard;
      lines = ap (λ (xs : List ℕ). lines_of (with_bytes [] xs)) (sym (front_of limits n q within)) ∙ ap lines_of (sym (pieces [] (take n q) (take (limits.input - n) (drop n q)))) ∙ x.lines
          ∙ ap (λ (ls : List (List ℕ)). ls ++ (x.answered ++ x.unheard)) whole ∙ sym (append_assoc first.answered x.answered x.unheard);
      said = first.talked.course.0 ++ x.said;
      to = x.to;
      closes = rw (map-append (asked limits.question) first.answered x.answered) (leads_closes limits from first.talked.to x.to (asks limits first.answered) (asks limits x.answered) first.talked.course.0 x.said first.talked.course.2 x.closes);
    }

pub on_ok : {T E : Type 0} → (r : Result T E) (P : Type 0) → P → OnOk r P
on_ok (Ok t) P p = p
on_ok (Err e) P p = tt

-- one read more than what was heard whole
pub no_further : {K : Type 0} → (kind : Kind K) (limits : Limits) (c : Cutter) (e : Engine K) (l old new : Option (List ℕ)) (from : Moment) (q : List ℕ) (n count : ℕ) (left : Option (List ℕ))
    → Heard kind limits nothing_beyond c e l old new (Ok turn.More) from [] (take n q) → count ≤ 65536 → left ≡ Some (drop count (drop n q)) → ReadsNoFurther limits from q left
no_further kind limits c e l old new from q n count left first short told = record {
  before = n;
  count = count;
  said = first.talked.course.0;
  to = first.talked.to;
  leads = subst (λ (ls : List (List ℕ)). Leads limits from (asks limits ls) first.talked.course.0 first.talked.to) (sym (whole_lines kind limits nothing_beyond c e l old new from [] (take n q) first)) first.talked.course.2;
  short = short;
  told = told ∙ ap Some (drop-drop count n q);
}
