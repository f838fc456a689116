-- The three questions of `back`.
use Rattle.std.proofs.Common.{Option, ◌≡◌, ◌≤◌, ◌<◌, ◌-◌, ◌^◌, ℕ, List, [], ◌∷◌, ◌++◌, map, length, take, drop, refl, ap, sym, arith, ◌∙◌, Some, None, subst, inl, inr}
use Rattle.std.specs.Prelude.{Err}
use Rattle.std.proofs.lemmas.List.{length-take, take-append-drop, map-append, take_all as list_take_all}
use Rattle.std.proofs.Math.ListN.{drop_of_length-le}
use Rattle.flow_base.specs.declared.limits.Limits.{Limits}
use Rattle.flow_base.specs.declared.limits.Full.{Full}
use Rattle.audit_lex.specs.History.{History, Byte}
use Rattle.reach_model.specs.declared.modes.Mode.{Mode}
use Rattle.report_json.specs.declared.ask.Ask.TheVariants as ask
use Rattle.reach_rows.specs.declared.questions.Question.TheVariants as question
use Rattle.report_json.specs.declared.reply.Reply.{Reply}
use Rattle.report_json.specs.declared.reply.Reply.TheVariants as reply
use Rattle.report_json.specs.Replies.{text_of}
use Rattle.ingest.specs.Stops.{Fits, Stops}
use Rattle.dialogue.specs.Dialogue.{Moment, after, Answers, nothing_beyond, begin}
use Rattle.dialogue.specs.Course.{Stopped, IsDue, never}
use Rattle.dialogue.specs.declared.halt.Halt.{Halt}
use Rattle.dialogue.specs.declared.halt.Halt.TheVariants as halt
use Rattle.audit_cli.specs.Jobs.{LastCourse}
use Rattle.report_json.specs.declared.ask.Ask.{Ask}
use Rattle.audit_cli.specs.Headline.{back_questions, unsaid, IsLast, IsLastFront}
use Rattle.dialogue.proofs.MomentLemmas.{Stay, count_bytes, take_all}
use Rattle.dialogue.proofs.TalkLemmas.{stops_now}

-- the most that one question takes
abbrev pub most : ℕ
most = 2 ^ 64 - 1

-- the moment when all was taken
abbrev pub taken : Mode → List ℕ → Moment
taken mode bytes = after (Some (ask.Take most)) (begin mode bytes)

-- what was taken within the limits is all
pub all_taken : (mode : Mode) (limits : Limits) (bytes : List ℕ) → limits.input < most → Fits limits (taken mode bytes).history → length bytes ≤ most
all_taken mode limits bytes small fits =
    let count = count_bytes (take most bytes) in
    let long = length-take most bytes in
    let within = fits.input in
    omega arith

pub takes_all : (mode : Mode) (limits : Limits) (bytes : List ℕ) → limits.input < most → Fits limits (taken mode bytes).history → taken mode bytes ≡ after (Some (ask.Take (length bytes))) (begin mode bytes)
takes_all mode limits bytes small fits = take_all (begin mode bytes) most (length bytes) (all_taken mode limits bytes small fits) (omega arith)

-- nothing is left
pub nothing_left : (mode : Mode) (limits : Limits) (bytes : List ℕ) → limits.input < most → Fits limits (taken mode bytes).history → (taken mode bytes).log ≡ []
nothing_left mode limits bytes small fits = drop_of_length-le bytes (all_taken mode limits bytes small fits)

-- the first question passes the limit
pub take_stops : Stay → (mode : Mode) (limits : Limits) (of : ℕ) (bytes : List ℕ) (full : Full) → Fits limits (begin mode bytes).history → Stops limits (taken mode bytes).history full
    → Stopped limits nothing_beyond unsaid (begin mode bytes) (back_questions of bytes) [] full
take_stops stay mode limits of bytes full fits over =
    let split : take (length bytes) bytes ≡ take most bytes ++ drop most bytes = list_take_all (length bytes) bytes (omega arith) ∙ sym (take-append-drop most bytes) in
    let longer : (after (Some (ask.Take (length bytes))) (begin mode bytes)).history ≡ (taken mode bytes).history ++ map Byte (drop most bytes) = rw (split, map-append) refl in
    record {
      said = [];
      to = begin mode bytes;
      stops = stops_now limits nothing_beyond (begin mode bytes) _ _ full (subst (λ (h : History). Stops limits h full) (sym longer) (stay limits (taken mode bytes).history (map Byte (drop most bytes)) full over));
      fits = fits;
      bytes_are = refl;
    }

taken_said : (mode : Mode) (limits : Limits) (bytes : List ℕ) (r : Reply) → limits.input < most → Fits limits (taken mode bytes).history → Answers limits (Some (ask.Take most)) (begin mode bytes) r → Answers limits (Some (ask.Take (length bytes))) (begin mode bytes) r
taken_said mode limits bytes r small fits a =
    let whole = all_taken mode limits bytes small fits in
    let first = length-take most bytes in
    let second = length-take (length bytes) bytes in
    let same : length (take most bytes) ≡ length (take (length bytes) bytes) = omega arith in
    a ∙ ap (λ (n : ℕ). reply.Take n) same

-- the second question passes the limit
pub settle_stops : (mode : Mode) (limits : Limits) (of : ℕ) (bytes : List ℕ) (r : Reply) (full : Full) → limits.input < most → Fits limits (taken mode bytes).history → Answers limits (Some (ask.Take most)) (begin mode bytes) r
    → Stops limits (after (Some ask.Settle) (taken mode bytes)).history full → Stopped limits nothing_beyond unsaid (begin mode bytes) (back_questions of bytes) [] full
settle_stops mode limits of bytes r full small fits a over =
    let all = takes_all mode limits bytes small fits in
    record {
      said = r ∷ [];
      to = after (Some (ask.Take (length bytes))) (begin mode bytes);
      stops = record {
        answered = Some (ask.Take (length bytes)) ∷ [];
        later = Some ask.Settle ∷ Some (ask.Question (question.Back (record { 0 = of }) None)) ∷ [];
        parts = refl;
        leads = λ questions replies end talk. (taken_said mode limits bytes r small fits a, talk);
        cause = inl (subst (λ (x : Moment). Stops limits (after (Some ask.Settle) x).history full) all over);
      };
      fits = subst (λ (x : Moment). Fits limits x.history) all fits;
      bytes_are = refl;
    }

-- a halt before the last reply, with nothing written
pub quiet_halt : (limits : Limits) (why : Halt) (from to : Moment) (questions : List (Option Ask)) (passes : Full → Type 0) → IsDue passes why → ((full : Full) → passes full → Stopped limits nothing_beyond unsaid from questions [] full)
    → LastCourse limits (Err why) from questions [] to
quiet_halt limits (halt.Full full) from to questions passes due stops = stops full due
quiet_halt limits halt.NoMemory from to questions passes due stops = inl refl
quiet_halt limits halt.ReadFault from to questions passes due stops = inl refl
quiet_halt limits halt.WriteFault from to questions passes due stops = inl refl
quiet_halt limits halt.StoreFault from to questions passes due stops = inl refl
quiet_halt limits (halt.BadRow place) from to questions passes due stops = inl refl
quiet_halt limits (halt.Unwritten other) from to questions passes due stops = inl refl

-- a halt within the last reply
pub cut_halt : (limits : Limits) (why : Halt) (from to : Moment) (questions : List (Option Ask)) (bytes : List ℕ) → IsDue never why → IsLastFront limits from questions bytes → LastCourse limits (Err why) from questions bytes to
cut_halt limits (halt.Full full) from to questions bytes none x = absurd none
cut_halt limits halt.NoMemory from to questions bytes none x = inr x
cut_halt limits halt.ReadFault from to questions bytes none x = inr x
cut_halt limits halt.WriteFault from to questions bytes none x = inr x
cut_halt limits halt.StoreFault from to questions bytes none x = inr x
cut_halt limits (halt.BadRow place) from to questions bytes none x = inr x
cut_halt limits (halt.Unwritten other) from to questions bytes none x = inr x

-- all three were answered
pub last_said : (mode : Mode) (limits : Limits) (of : ℕ) (bytes : List ℕ) (a b r : Reply) (text : List ℕ) → limits.input < most → Fits limits (taken mode bytes).history → Answers limits (Some (ask.Take most)) (begin mode bytes) a
    → Answers limits (Some ask.Settle) (taken mode bytes) b
    → Answers limits (Some (ask.Question (question.Back (record { 0 = of }) None))) (after (Some ask.Settle) (taken mode bytes)) r
    → text ≡ text_of r → IsLast limits (begin mode bytes) (back_questions of bytes) text (after (Some ask.Settle) (taken mode bytes))
last_said mode limits of bytes a b r text small fits first second third is =
    let e = takes_all mode limits bytes small fits in
    record {
      said = a ∷ b ∷ [];
      last = r;
      dialogue = (
        taken_said mode limits bytes a small fits first,
        (
          subst (λ (x : Moment). Answers limits (Some ask.Settle) x b) e second,
          (
            subst (λ (x : Moment). Answers limits (Some (ask.Question (question.Back (record { 0 = of }) None))) (after (Some ask.Settle) x) r) e third,
            ap (after (Some ask.Settle)) e,
          ),
        ),
      );
      bytes_are = is;
    }

-- a front of the last reply was written
pub last_cut : (mode : Mode) (limits : Limits) (of : ℕ) (bytes : List ℕ) (a b r : Reply) (done : ℕ) → limits.input < most → Fits limits (taken mode bytes).history → Answers limits (Some (ask.Take most)) (begin mode bytes) a
    → Answers limits (Some ask.Settle) (taken mode bytes) b
    → Answers limits (Some (ask.Question (question.Back (record { 0 = of }) None))) (after (Some ask.Settle) (taken mode bytes)) r
    → IsLastFront limits (begin mode bytes) (back_questions of bytes) (take done (text_of r))
last_cut mode limits of bytes a b r done small fits first second third = record {
  to = after (Some ask.Settle) (taken mode bytes);
  more = drop done (text_of r);
  last = last_said mode limits of bytes a b r _ small fits first second third (take-append-drop done (text_of r));
}
