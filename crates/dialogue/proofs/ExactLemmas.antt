-- A dialogue within the limits passes no limit.
use Rattle.std.proofs.Common.{Bool, true, false, if◌then◌else◌, ◌≡◌, ℕ, List, [], ◌∷◌, ◌++◌, map, take, length, refl, ap, sym, arith, ◌∙◌, Option, Some, None, subst, suc, append_assoc, inl, inr, ⊎_elim}
use Rattle.std.proofs.lemmas.List.{append-nil, map-append, length-append}
use Rattle.flow_base.specs.declared.limits.Limits.{Limits}
use Rattle.flow_base.specs.declared.limits.Full.{Full}
use Rattle.audit_lex.specs.History.{History, Byte, Settle, with_bytes, lines_of}
use Rattle.report_json.specs.declared.ask.Ask.{Ask}
use Rattle.report_json.specs.declared.ask.Ask.TheVariants as ask
use Rattle.report_json.specs.declared.reply.Reply.{Reply}
use Rattle.report_json.specs.declared.reply.Reply.TheVariants as reply
use Rattle.ingest.specs.Stops.{Fits, Stops}
use Rattle.dialogue.specs.declared.halt.Turn.{Turn}
use Rattle.dialogue.specs.declared.halt.Turn.TheVariants as turn
use Rattle.dialogue.specs.Dialogue.{Moment, after, settled_on, taken_on, turn_of, AfterTurn, Dialogue, Leads, Closes, Beyond, NextStops, StopsAfter, QuestionsStop, asked, asks}
use Rattle.dialogue.specs.Listening.{KeepsWithin}
use Rattle.dialogue.proofs.MomentLemmas.{Stay}

-- what fits never stops
abbrev pub NeverStops : Type 0
NeverStops = (limits : Limits) (h : History) (full : Full) → Fits limits h → Stops limits h full → ⊥

is_more : (t : Turn) (A B : Type 0) → AfterTurn t A B → (A → ⊥) → t ≡ turn.More
is_more turn.More A B h none = refl
is_more turn.Ended A B h none = absurd (none h)

some_last : (said : List Reply) (r : Reply) → said ++ r ∷ [] ≡ [] → ⊥
some_last [] r is = cc
some_last (x ∷ said) r is = cc

-- what leads on passes over its questions in every dialogue
pub through : (limits : Limits) (front : List (Option Ask)) (from to : Moment) (said : List Reply) → Leads limits from front said to
    → (rest : List (Option Ask)) (replies : List Reply) (end : Moment) → Dialogue limits from (front ++ rest) replies end → (left : List Reply) × Dialogue limits to rest left end
through limits [] from to [] leads rest replies end talk = let same = leads [] [] to refl in (replies, subst (λ (m : Moment). Dialogue limits m rest replies end) (sym same) talk)
through limits [] from to (r ∷ said) leads rest replies end talk = absurd (leads [] [] to refl)
through limits (q ∷ front) from to [] leads rest replies end talk = absurd (leads [] [] to refl)
through limits (q ∷ front) from to (r ∷ said) leads rest [] end talk = absurd talk
through limits (q ∷ front) from to (r ∷ said) leads rest (x ∷ replies) end talk =
    let more = is_more (turn_of q) _ _ ((leads (None ∷ []) (reply.BadQuestion ∷ []) to (refl, refl)).1) (λ ended. some_last said reply.BadQuestion ended.0) in
    through limits front (after q from) to said
    (λ questions replies' end' talk'. let step = (leads questions replies' end' talk').1 in rw more at step)
    rest replies end (let step = talk.1 in rw more at step)

-- the second history goes on from the first
pub record Goes (first second : History) : Type 0 where
  pub more : History
  pub is : second ≡ first ++ more

goes_none : (h : History) → Goes h h
goes_none h = record { more = []; is = sym (append-nil h) }

goes_both : (a b c : History) → Goes a b → Goes b c → Goes a c
goes_both a b c first second = record { more = first.more ++ second.more; is = second.is ∙ ap (λ (h : History). h ++ second.more) first.is ∙ append_assoc a first.more second.more }

if_grows : (b : Bool) (m next : Moment) → Goes m.history next.history → Goes m.history (if b then next else m).history
if_grows true m next goes = goes
if_grows false m next goes = goes_none m.history

-- a question takes nothing away
pub grows : (q : Option Ask) (m : Moment) → Goes m.history (after q m).history
grows None m = goes_none m.history
grows (Some (ask.Take n)) m = if_grows m.takes m (taken_on n m) (record { more = map Byte (take n m.log); is = refl })
grows (Some ask.Settle) m = if_grows m.takes m (settled_on m) (record { more = Settle ∷ []; is = refl })
grows (Some (ask.Question question)) m = goes_none m.history
grows (Some (ask.Why from to until)) m = goes_none m.history
grows (Some (ask.Find text)) m = goes_none m.history
grows (Some (ask.Show id)) m = goes_none m.history
grows (Some ask.Stat) m = goes_none m.history
grows (Some ask.End) m = goes_none m.history

same_history : (a b : Moment) → b ≡ a → Goes a.history b.history
same_history a b same = subst (λ (h : History). Goes a.history h) (sym (ap (λ (m : Moment). m.history) same)) (goes_none a.history)

either_grows : (limits : Limits) (t : Turn) (A : Type 0) (questions : List (Option Ask)) (replies : List Reply) (next end : Moment) → (Dialogue limits next questions replies end → Goes next.history end.history)
    → AfterTurn t (A × (end ≡ next)) (Dialogue limits next questions replies end) → Goes next.history end.history
either_grows limits turn.More A questions replies next end later h = later h
either_grows limits turn.Ended A questions replies next end later h = same_history next end h.1

-- nor does a dialogue
pub talk_grows : (limits : Limits) (questions : List (Option Ask)) (replies : List Reply) (from end : Moment) → Dialogue limits from questions replies end → Goes from.history end.history
talk_grows limits [] [] from end talk = same_history from end talk
talk_grows limits [] (r ∷ replies) from end talk = absurd talk
talk_grows limits (q ∷ questions) [] from end talk = absurd talk
talk_grows limits (q ∷ questions) (r ∷ replies) from end talk =
    goes_both from.history (after q from).history end.history (grows q from)
    (either_grows limits (turn_of q) (replies ≡ []) questions replies (after q from) end (talk_grows limits questions replies (after q from) end) talk.1)

next_grows : (limits : Limits) (q : Option Ask) (questions : List (Option Ask)) (replies : List Reply) (from end : Moment) → Dialogue limits from (q ∷ questions) replies end → Goes (after q from).history end.history
next_grows limits q questions [] from end talk = absurd talk
next_grows limits q questions (r ∷ replies) from end talk = either_grows limits (turn_of q) (replies ≡ []) questions replies (after q from) end (talk_grows limits questions replies (after q from) end) talk.1

within_next : Stay → NeverStops → (limits : Limits) (from to end : Moment) (answered later : List (Option Ask)) (said replies : List Reply) (full : Full) → Leads limits from answered said to
    → Dialogue limits from (answered ++ later) replies end → Fits limits end.history → NextStops limits to later full → ⊥
within_next stay fitting limits from to end answered [] said replies full leads talk fits none = none
within_next stay fitting limits from to end answered (next ∷ rest) said replies full leads talk fits over =
    let left = through limits answered from to said leads (next ∷ rest) replies end talk in
    let grown = next_grows limits next rest left.0 to end left.1 in
    fitting limits end.history full fits (subst (λ (h : History). Stops limits h full) (sym grown.is) (stay limits (after next to).history grown.more full over))

-- a dialogue that ends within the limits passes none
pub within_stops : Stay → NeverStops → (limits : Limits) (beyond : Beyond) (from to end : Moment) (questions : List (Option Ask)) (said replies : List Reply) (full : Full) → Dialogue limits from questions replies end → Fits limits end.history
    → (x : StopsAfter limits beyond from questions said to full) → (beyond x.answered full → ⊥) → ⊥
within_stops stay fitting limits beyond from to end questions said replies full talk fits x none =
    ⊎_elim (within_next stay fitting limits from to end x.answered x.later said replies full x.leads (rw (x.parts) at talk) fits) none x.cause

-- how many replies a dialogue has is settled where `end` is among its questions
ended_same : (limits : Limits) (t : Turn) (next to end : Moment) (front questions : List (Option Ask)) (s xs : List Reply) (A B : Type 0)
    → (((more : List (Option Ask)) → Dialogue limits next (front ++ more) s to) → Dialogue limits next (front ++ questions) xs end → length xs ≡ length s)
    → ((more : List (Option Ask)) → AfterTurn t ((s ≡ []) × A) (Dialogue limits next (front ++ more) s to)) → AfterTurn t ((xs ≡ []) × B) (Dialogue limits next (front ++ questions) xs end) → length xs ≡ length s
ended_same limits turn.More next to end front questions s xs A B same closes talk = same closes talk
ended_same limits turn.Ended next to end front questions s xs A B same closes talk = ap length talk.0 ∙ sym (ap length (closes []).0)

pub closes_length : (limits : Limits) (front : List (Option Ask)) (from to end : Moment) (said : List Reply) (questions : List (Option Ask)) (replies : List Reply)
    → Closes limits from front said to → Dialogue limits from (front ++ questions) replies end → length replies ≡ length said
closes_length limits [] from to end [] questions replies closes talk = absurd (closes (None ∷ []))
closes_length limits [] from to end (r ∷ said) questions replies closes talk = absurd (closes [])
closes_length limits (q ∷ front) from to end [] questions replies closes talk = absurd (closes [])
closes_length limits (q ∷ front) from to end (r ∷ said) questions [] closes talk = absurd talk
closes_length limits (q ∷ front) from to end (r ∷ said) questions (x ∷ replies) closes talk =
    ap suc (ended_same limits (turn_of q) (after q from) to end front questions said replies _ _ (λ c t. closes_length limits front (after q from) to end said questions replies c t) (λ more. (closes more).1) talk.1)

-- what leads on has no `end`
pub leads_open : (limits : Limits) (front rest : List (Option Ask)) (from to end : Moment) (said closed : List Reply) → Leads limits from (front ++ rest) said to → Closes limits from front closed end → ⊥
leads_open limits front rest from to end said closed leads closes =
    let short = leads [] [] to refl in
    let long = leads (None ∷ []) (reply.BadQuestion ∷ []) to (refl, refl) in
    let first = closes_length limits front from end to closed (rest ++ []) (said ++ []) closes (rw (← append_assoc front rest []) short) in
    let second = closes_length limits front from end to closed (rest ++ None ∷ []) (said ++ reply.BadQuestion ∷ []) closes (rw (← append_assoc front rest (None ∷ [])) long) in
    let a = length-append said [] in
    let b = length-append said (reply.BadQuestion ∷ []) in
    omega arith

-- `end` within the limit leaves no question past it
pub questions_within : (limits : Limits) (from to : Moment) (q : List ℕ) (answered : List (Option Ask)) (said : List Reply) (full : Full) → KeepsWithin limits from q → Leads limits from answered said to → QuestionsStop limits q answered full → ⊥
questions_within limits from to q answered said full (inl short) leads x = let over = x.past in omega arith
questions_within limits from to q answered said full (inr e) leads x =
    let lines : lines_of (with_bytes [] (take limits.input q)) ≡ e.answered ++ e.unheard = e.lines in
    let all : answered ≡ asks limits e.answered ++ asks limits e.unheard = x.all ∙ ap (asks limits) lines ∙ map-append (asked limits.question) e.answered e.unheard in
    leads_open limits (asks limits e.answered) (asks limits e.unheard) from to e.to said e.said (rw all at leads) e.closes
