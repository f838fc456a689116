-- Parts of a dialogue, one after another.
use Rattle.std.proofs.Common.{ℕ, List, [], ◌∷◌, ◌++◌, take, drop, refl, ap, sym, append_assoc, ◌∙◌, Option, Some, None, inl, inr}
use Rattle.std.specs.Prelude.{◌⊎◌, Result, Ok, Err}
use Rattle.std.specs.Io.KnownBytes.{Appends}
use Rattle.std.proofs.lemmas.List.{append-nil, take-append-drop}
use Rattle.std.proofs.lemmas.Grind.{flat_map-append}
use Rattle.flow_base.specs.declared.limits.Limits.{Limits}
use Rattle.flow_base.specs.declared.limits.Full.{Full}
use Rattle.report_json.specs.declared.ask.Ask.{Ask}
use Rattle.report_json.specs.declared.ask.Ask.TheVariants as ask
use Rattle.report_json.specs.declared.reply.Reply.{Reply}
use Rattle.report_json.specs.Replies.{text_of}
use Rattle.ingest.specs.Stops.{Fits, Stops}
use Rattle.dialogue.specs.declared.halt.Turn.{Turn}
use Rattle.dialogue.specs.declared.halt.Turn.TheVariants as turn
use Rattle.dialogue.specs.declared.halt.Halt.{Halt}
use Rattle.dialogue.specs.declared.halt.Halt.TheVariants as halt
use Rattle.dialogue.specs.Dialogue.{Moment, after, Answers, turn_of, AfterTurn, Dialogue, Beyond, Leads, Closes, IsFront, NextStops, StopsAfter, nothing_beyond, texts}
use Rattle.dialogue.specs.Course.{Course, EndCourse, Halted, IsDue, ended, never}
use Rattle.dialogue.specs.Hearing.{WhenMore}

-- what was written twice
pub appends_both : (old mid new : Option (List ℕ)) (xs ys : List ℕ) → Appends old mid xs → Appends mid new ys → Appends old new (xs ++ ys)
appends_both None mid new xs ys first second = tt
appends_both (Some a) None new xs ys first second = absurd first
appends_both (Some a) (Some b) None xs ys first second = absurd second
appends_both (Some a) (Some b) (Some c) xs ys first second = rw (second, first) (append_assoc a xs ys)

pub appends_none : (old : Option (List ℕ)) → Appends old old []
appends_none None = tt
appends_none (Some a) = sym (append-nil a)

-- nothing asked, nothing said
pub leads_none : (limits : Limits) (m : Moment) → Leads limits m [] [] m
leads_none limits m = λ questions replies end talk. talk

pub leads_both : (limits : Limits) (a b c : Moment) (f g : List (Option Ask)) (s t : List Reply) → Leads limits a f s b → Leads limits b g t c → Leads limits a (f ++ g) (s ++ t) c
leads_both limits a b c f g s t first second = λ questions replies end talk.
    rw (append_assoc f g questions, append_assoc s t replies) (first (g ++ questions) (t ++ replies) end (second questions replies end talk))

pub leads_closes : (limits : Limits) (a b c : Moment) (f g : List (Option Ask)) (s t : List Reply) → Leads limits a f s b → Closes limits b g t c → Closes limits a (f ++ g) (s ++ t) c
leads_closes limits a b c f g s t first second = λ questions. rw (append_assoc f g questions) (first (g ++ questions) t c (second questions))

leads_front : (limits : Limits) (a b : Moment) (f g : List (Option Ask)) (s : List Reply) (bytes : List ℕ) → Leads limits a f s b → IsFront limits b g bytes → IsFront limits a (f ++ g) (texts s ++ bytes)
leads_front limits a b f g s bytes first x = record {
  front = f ++ x.front;
  rest = x.rest;
  said = s ++ x.said;
  to = x.to;
  more = x.more;
  parts = rw (x.parts) (sym (append_assoc f x.front x.rest));
  dialogue = first x.front x.said x.to x.dialogue;
  bytes_are = append_assoc (texts s) bytes x.more ∙ ap (λ (bs : List ℕ). texts s ++ bs) x.bytes_are ∙ sym (flat_map-append text_of s x.said);
}

-- what is beyond the questions of a later part is beyond those of both
abbrev pub Carries : List (Option Ask) → Beyond → Beyond → Type 0
Carries f P Q = (answered : List (Option Ask)) (full : Full) → P answered full → Q (f ++ answered) full

pub carries_none : (f : List (Option Ask)) (Q : Beyond) → Carries f nothing_beyond Q
carries_none f Q = λ answered full none. absurd none

either : (A B C D : Type 0) → (A → B) → (C → D) → A ⊎ C → B ⊎ D
either A B C D f g (inl a) = inl (f a)
either A B C D f g (inr c) = inr (g c)

leads_stops : (limits : Limits) (P Q : Beyond) (a b to : Moment) (f g : List (Option Ask)) (s t : List Reply) (full : Full) → Carries f P Q → Leads limits a f s b
    → StopsAfter limits P b g t to full → StopsAfter limits Q a (f ++ g) (s ++ t) to full
leads_stops limits P Q a b to f g s t full carries first x = record {
  answered = f ++ x.answered;
  later = x.later;
  parts = rw (x.parts) (sym (append_assoc f x.answered x.later));
  leads = leads_both limits a b to f x.answered s t first x.leads;
  cause = either _ _ _ _ (λ over. over) (carries x.answered full) x.cause;
}

leads_halted : (limits : Limits) (P Q : Beyond) (a b : Moment) (f g : List (Option Ask)) (s : List Reply) (bytes : List ℕ) (why : Halt) → Carries f P Q → Leads limits a f s b
    → Halted limits P b g bytes why → Halted limits Q a (f ++ g) (texts s ++ bytes) why
leads_halted limits P Q a b f g s bytes (halt.Full full) carries first x = record {
  said = s ++ x.said;
  to = x.to;
  stops = leads_stops limits P Q a b x.to f g s x.said full carries first x.stops;
  fits = x.fits;
  bytes_are = rw (x.bytes_are) (sym (flat_map-append text_of s x.said));
}
leads_halted limits P Q a b f g s bytes halt.NoMemory carries first x = leads_front limits a b f g s bytes first x
leads_halted limits P Q a b f g s bytes halt.ReadFault carries first x = leads_front limits a b f g s bytes first x
leads_halted limits P Q a b f g s bytes halt.WriteFault carries first x = leads_front limits a b f g s bytes first x
leads_halted limits P Q a b f g s bytes halt.StoreFault carries first x = leads_front limits a b f g s bytes first x
leads_halted limits P Q a b f g s bytes (halt.BadRow place) carries first x = x
leads_halted limits P Q a b f g s bytes (halt.Unwritten other) carries first x = leads_front limits a b f g s bytes first x

-- a part that goes on from where another led
pub course_after : (limits : Limits) (P Q : Beyond) (r : Result Turn Halt) (a b c : Moment) (f g : List (Option Ask)) (s : List Reply) (bytes : List ℕ)
    → Carries f P Q → Leads limits a f s b → Course limits P r b g bytes c → Course limits Q r a (f ++ g) (texts s ++ bytes) c
course_after limits P Q (Ok turn.More) a b c f g s bytes carries first (t, is, second) = (s ++ t, rw is (sym (flat_map-append text_of s t)), leads_both limits a b c f g s t first second)
course_after limits P Q (Ok turn.Ended) a b c f g s bytes carries first (t, is, second) = (s ++ t, rw is (sym (flat_map-append text_of s t)), leads_closes limits a b c f g s t first second)
course_after limits P Q (Err why) a b c f g s bytes carries first x = leads_halted limits P Q a b f g s bytes why carries first x

-- before any reply
pub nothing_said : (limits : Limits) (m : Moment) (questions : List (Option Ask)) → IsFront limits m questions []
nothing_said limits m questions = record { front = []; rest = questions; said = []; to = m; more = []; parts = refl; dialogue = refl; bytes_are = refl }

-- the first question passes the limit
pub stops_now : (limits : Limits) (beyond : Beyond) (m : Moment) (q : Option Ask) (rest : List (Option Ask)) (full : Full) → Stops limits (after q m).history full → StopsAfter limits beyond m (q ∷ rest) [] m full
stops_now limits beyond m q rest full over = record { answered = []; later = q ∷ rest; parts = refl; leads = leads_none limits m; cause = inl over }

-- a question that has no reply
pub no_reply : (limits : Limits) (m : Moment) (q : Option Ask) (why : Halt) → Fits limits m.history → IsDue (Stops limits (after q m).history) why → Halted limits nothing_beyond m (q ∷ []) [] why
no_reply limits m q (halt.Full full) fits over = record { said = []; to = m; stops = stops_now limits nothing_beyond m q [] full over; fits = fits; bytes_are = refl }
no_reply limits m q halt.NoMemory fits over = nothing_said limits m _
no_reply limits m q halt.ReadFault fits over = nothing_said limits m _
no_reply limits m q halt.WriteFault fits over = nothing_said limits m _
no_reply limits m q halt.StoreFault fits over = nothing_said limits m _
no_reply limits m q (halt.BadRow place) fits over = over
no_reply limits m q (halt.Unwritten other) fits over = nothing_said limits m _

-- a halt that no limit made
pub other_halt : (limits : Limits) (beyond : Beyond) (m : Moment) (questions : List (Option Ask)) (bytes : List ℕ) (why : Halt) → IsDue never why → IsFront limits m questions bytes → Halted limits beyond m questions bytes why
other_halt limits beyond m questions bytes (halt.Full full) none x = absurd none
other_halt limits beyond m questions bytes halt.NoMemory none x = x
other_halt limits beyond m questions bytes halt.ReadFault none x = x
other_halt limits beyond m questions bytes halt.WriteFault none x = x
other_halt limits beyond m questions bytes halt.StoreFault none x = x
other_halt limits beyond m questions bytes (halt.BadRow place) none x = none
other_halt limits beyond m questions bytes (halt.Unwritten other) none x = x

after_turn : (t : Turn) (A B : Type 0) → A → B → AfterTurn t A B
after_turn turn.More A B a b = b
after_turn turn.Ended A B a b = a

-- a reply of which a part was written
pub half_said : (limits : Limits) (m : Moment) (q : Option Ask) (r : Reply) (done : ℕ) → Answers limits q m r → IsFront limits m (q ∷ []) (take done (text_of r))
half_said limits m q r done answers = record {
  front = q ∷ [];
  rest = [];
  said = r ∷ [];
  to = after q m;
  more = drop done (text_of r);
  parts = refl;
  dialogue = (answers, after_turn (turn_of q) _ _ (refl, refl) refl);
  bytes_are = take-append-drop done (text_of r) ∙ sym (append-nil (text_of r));
}

-- a reply that was written
pub one_turn : (limits : Limits) (beyond : Beyond) (q : Option Ask) (m : Moment) (r : Reply) → Answers limits q m r → Course limits beyond (Ok (turn_of q)) m (q ∷ []) (text_of r) (after q m)
one_turn limits beyond None m r a = (r ∷ [], sym (append-nil (text_of r)), λ questions replies end talk. (a, talk))
one_turn limits beyond (Some (ask.Take n)) m r a = (r ∷ [], sym (append-nil (text_of r)), λ questions replies end talk. (a, talk))
one_turn limits beyond (Some ask.Settle) m r a = (r ∷ [], sym (append-nil (text_of r)), λ questions replies end talk. (a, talk))
one_turn limits beyond (Some (ask.Question q)) m r a = (r ∷ [], sym (append-nil (text_of r)), λ questions replies end talk. (a, talk))
one_turn limits beyond (Some (ask.Why from to until)) m r a = (r ∷ [], sym (append-nil (text_of r)), λ questions replies end talk. (a, talk))
one_turn limits beyond (Some (ask.Find text)) m r a = (r ∷ [], sym (append-nil (text_of r)), λ questions replies end talk. (a, talk))
one_turn limits beyond (Some (ask.Show id)) m r a = (r ∷ [], sym (append-nil (text_of r)), λ questions replies end talk. (a, talk))
one_turn limits beyond (Some ask.Stat) m r a = (r ∷ [], sym (append-nil (text_of r)), λ questions replies end talk. (a, talk))
one_turn limits beyond (Some ask.End) m r a = (r ∷ [], sym (append-nil (text_of r)), λ questions. (a, (refl, refl)))

-- a dialogue may end where it stands
pub dialogue_of : (limits : Limits) (a b : Moment) (f : List (Option Ask)) (s : List Reply) → Leads limits a f s b → Dialogue limits a f s b
dialogue_of limits a b f s leads = let talk = leads [] [] b refl in rw (append-nil f, append-nil s) at talk

front_more : (limits : Limits) (a : Moment) (f g : List (Option Ask)) (bytes : List ℕ) → IsFront limits a f bytes → IsFront limits a (f ++ g) bytes
front_more limits a f g bytes x = record {
  front = x.front;
  rest = x.rest ++ g;
  said = x.said;
  to = x.to;
  more = x.more;
  parts = rw (x.parts) (append_assoc x.front x.rest g);
  dialogue = x.dialogue;
  bytes_are = x.bytes_are;
}

next_more : (limits : Limits) (to : Moment) (later g : List (Option Ask)) (full : Full) → NextStops limits to later full → NextStops limits to (later ++ g) full
next_more limits to [] g full none = absurd none
next_more limits to (q ∷ later) g full over = over

stops_more : (limits : Limits) (beyond : Beyond) (a to : Moment) (f g : List (Option Ask)) (said : List Reply) (full : Full) → StopsAfter limits beyond a f said to full → StopsAfter limits beyond a (f ++ g) said to full
stops_more limits beyond a to f g said full x = record {
  answered = x.answered;
  later = x.later ++ g;
  parts = rw (x.parts) (append_assoc x.answered x.later g);
  leads = x.leads;
  cause = either _ _ _ _ (next_more limits to x.later g full) (λ over. over) x.cause;
}

halted_more : (limits : Limits) (beyond : Beyond) (a : Moment) (f g : List (Option Ask)) (bytes : List ℕ) (why : Halt) → Halted limits beyond a f bytes why → Halted limits beyond a (f ++ g) bytes why
halted_more limits beyond a f g bytes (halt.Full full) x = record { said = x.said; to = x.to; stops = stops_more limits beyond a x.to f g x.said full x.stops; fits = x.fits; bytes_are = x.bytes_are }
halted_more limits beyond a f g bytes halt.NoMemory x = front_more limits a f g bytes x
halted_more limits beyond a f g bytes halt.ReadFault x = front_more limits a f g bytes x
halted_more limits beyond a f g bytes halt.WriteFault x = front_more limits a f g bytes x
halted_more limits beyond a f g bytes halt.StoreFault x = front_more limits a f g bytes x
halted_more limits beyond a f g bytes (halt.BadRow place) x = x
halted_more limits beyond a f g bytes (halt.Unwritten other) x = front_more limits a f g bytes x

-- what ended goes no further
pub end_course : (limits : Limits) (beyond : Beyond) (r : Result Turn Halt) (a b : Moment) (f g : List (Option Ask)) (bytes : List ℕ) → WhenMore r ⊥ → Course limits beyond r a f bytes b → EndCourse limits beyond (ended r) a (f ++ g) bytes b
end_course limits beyond (Ok turn.More) a b f g bytes none h = absurd none
end_course limits beyond (Ok turn.Ended) a b f g bytes none (said, is, closes) = (said, is, closes g)
end_course limits beyond (Err why) a b f g bytes none x = halted_more limits beyond a f g bytes why x

-- what may go on ends with the questions
pub end_whole : (limits : Limits) (beyond : Beyond) (r : Result Turn Halt) (a b : Moment) (f : List (Option Ask)) (bytes : List ℕ) → Course limits beyond r a f bytes b → EndCourse limits beyond (ended r) a f bytes b
end_whole limits beyond (Ok turn.More) a b f bytes (said, is, leads) = (said, is, dialogue_of limits a b f said leads)
end_whole limits beyond (Ok turn.Ended) a b f bytes (said, is, closes) = (said, is, let talk = closes [] in rw (append-nil f) at talk)
end_whole limits beyond (Err why) a b f bytes h = h

-- the end after a part that goes on
pub end_after : (limits : Limits) (beyond : Beyond) (r : Result Unit Halt) (a b c : Moment) (f g : List (Option Ask)) (s : List Reply) (bytes : List ℕ)
    → Leads limits a f s b → EndCourse limits nothing_beyond r b g bytes c → EndCourse limits beyond r a (f ++ g) (texts s ++ bytes) c
end_after limits beyond (Ok done) a b c f g s bytes first (t, is, talk) = (s ++ t, rw is (sym (flat_map-append text_of s t)), first g t c talk)
end_after limits beyond (Err why) a b c f g s bytes first x = leads_halted limits nothing_beyond beyond a b f g s bytes why (carries_none f beyond) first x
