-- Moments of a log that is taken in pieces.
use Rattle.std.proofs.Common.{true, false, ◌≡◌, ◌≤◌, ◌+◌, ◌-◌, ◌^◌, ℕ, zero, suc, List, [], ◌∷◌, ◌++◌, map, length, take, drop, refl, ap, sym, arith, append_assoc, ◌∙◌, subst, Option, Some, None, min}
use Rattle.std.proofs.Math.Seq.{take-add, drop-append_seam, take-append_seam}
use Rattle.std.proofs.lemmas.List.Sums.{sum_by-append}
use Rattle.std.proofs.lemmas.List.{append-nil, length-drop, length-append, drop-drop, map-append, take_all as list_take_all}
use Rattle.std.proofs.Math.ListN.{drop_of_length-le}
use Rattle.std.specs.Prelude.{cond, Result, Ok, Err, OnOk, IfOk}
use Rattle.std.specs.Io.KnownBytes.{Consumes, IsAtEnd}
use Rattle.flow_base.specs.declared.limits.Limits.{Limits}
use Rattle.flow_base.specs.declared.limits.Full.{Full}
use Rattle.audit_lex.specs.History.{History, Byte, Settle, with_bytes}
use Rattle.report_json.specs.declared.ask.Ask.{Ask}
use Rattle.report_json.specs.declared.ask.Ask.TheVariants as ask
use Rattle.report_json.specs.Reading.{ask_of}
use Rattle.report_json.specs.declared.reply.Reply.{Reply}
use Rattle.report_json.specs.declared.reply.Reply.TheVariants as reply
use Rattle.ingest.specs.Counting.{is_byte, bytes_in}
use Rattle.ingest.specs.Events.{events_of}
use Rattle.reach_model.specs.declared.modes.Mode.{Mode}
use Rattle.ingest.specs.Parts.{Engine}
use Rattle.ingest.specs.Replies.{IsQuestion, IsReply}
use Rattle.ingest.specs.StandsFor.{StandsFor}
use Rattle.ingest.specs.Stops.{Stops, StopsBy}
use Rattle.ingest.specs.declared.ask_fault.AskFault.{AskFault}
use Rattle.ingest.specs.declared.ask_fault.AskFault.TheVariants as asking
use Rattle.flow_base.specs.declared.faults.Refused.{Refused}
use Rattle.flow_base.specs.declared.faults.Refused.TheVariants as why
use Rattle.dialogue.specs.declared.halt.Halt.{Halt}
use Rattle.dialogue.specs.declared.halt.Halt.TheVariants as halt
use Rattle.dialogue.specs.Dialogue.{Moment, after, settled_on, taken_on, Answers}
use Rattle.dialogue.specs.Course.{Kind, At, CountsOn, HasCauses, IsDue, halt_for, never}
use Rattle.dialogue.specs.StoreHalts.{ask_halt}

-- what has stopped stays stopped
abbrev pub Stay : Type 0
Stay = (limits : Limits) (h more : History) (full : Full) → Stops limits h full → Stops limits (h ++ more) full

-- a read from a source that tells its bytes
pub told_read : (old new : Option (List ℕ)) (log bytes : List ℕ) (n : ℕ) → old ≡ Some log → Consumes old new bytes → length bytes ≡ n → (new ≡ Some (drop n log)) × (bytes ≡ take n log) × (n ≤ length log)
told_read None new log bytes n told read long = absurd (cc)
told_read (Some xs) None log bytes n told read long = absurd read
told_read (Some xs) (Some ys) log bytes n told read long =
    let whole : log ≡ bytes ++ ys = cc in
    rw (whole, ← long, drop-append_seam, take-append_seam, length-append) (refl, refl, omega arith)

-- where no known byte is left
pub at_end : (left : Option (List ℕ)) (xs : List ℕ) → left ≡ Some xs → IsAtEnd left → xs ≡ []
at_end None xs is none = absurd (cc)
at_end (Some ys) xs is none = let same : ys ≡ xs = cc in sym same ∙ none

-- bytes that are counted in two steps
pub counted_on : (part mid now a b : ℕ) → part + (a + b) ≤ 2 ^ 64 - 1 → CountsOn part mid a → CountsOn mid now b → now ≡ part + (a + b)
counted_on part mid now a b room first second =
    let one = first (omega (arith, room)) in
    let two = second (omega (arith, one, room)) in
    omega (arith, one, two)

-- nothing taken
pub take_none : (m : Moment) → taken_on 0 m ≡ m
take_none m = ap (λ (h : History). record m { history = h }) (append-nil m.history)

-- one piece and then another
pub take_both : (m : Moment) (a b : ℕ) → taken_on b (taken_on a m) ≡ taken_on (a + b) m
take_both m a b =
    let taken = take-add a b m.log in
    let left = drop-drop b a m.log in
    let history : m.history ++ map Byte (take a m.log) ++ map Byte (take b (drop a m.log)) ≡ m.history ++ map Byte (take (a + b) m.log) = rw (taken, map-append, append_assoc) refl in
    cc

-- all that is left
pub take_all : (m : Moment) (a b : ℕ) → length m.log ≤ a → length m.log ≤ b → taken_on a m ≡ taken_on b m
take_all m a b all whole =
    let first = list_take_all a m.log all in
    let second = list_take_all b m.log whole in
    let none = drop_of_length-le m.log all in
    let nothing = drop_of_length-le m.log whole in
    rw (first, second, none, nothing) refl

-- more bytes taken, a longer history
pub take_longer : (m : Moment) (a b : ℕ) → a ≤ b → (more : History) × ((taken_on b m).history ≡ (taken_on a m).history ++ more)
take_longer m a b below =
    let sum : a + (b - a) ≡ b = omega arith in
    let split : take b m.log ≡ take a m.log ++ take (b - a) (drop a m.log) = sym (ap (λ (n : ℕ). take n m.log) sum) ∙ take-add a (b - a) m.log in
    (map Byte (take (b - a) (drop a m.log)), rw (split, map-append, append_assoc) refl)

-- so what stopped within fewer bytes stops within more
pub stop_later : Stay → (limits : Limits) (m : Moment) (a b : ℕ) (full : Full) → a ≤ b → Stops limits (taken_on a m).history full → Stops limits (taken_on b m).history full
stop_later stay limits m a b full below stops =
    let longer = take_longer m a b below in
    subst (λ (h : History). Stops limits h full) (sym longer.1) (stay limits (taken_on a m).history longer.0 full stops)

-- why an engine stopped within a piece is due
pub due_for : (reason : Refused) (limits : Limits) (h : History) (piece : List ℕ) (done : ℕ) (passes : Full → Type 0) → StopsBy limits h piece done reason → ((full : Full) → Stops limits (with_bytes h piece) full → passes full) → IsDue passes (halt_for reason)
due_for why.NoMemory limits h piece done passes stops over = tt
due_for (why.Full full) limits h piece done passes stops over = over full stops.0

-- the same at a settle
pub due_where : (reason : Refused) (passes : Full → Type 0) → ((full : Full) → reason ≡ why.Full full → passes full) → IsDue passes (halt_for reason)
due_where why.NoMemory passes over = tt
due_where (why.Full full) passes over = over full refl

-- the same halt for a weaker cause
pub due_weaker : (reason : Halt) (P Q : Full → Type 0) → ((full : Full) → P full → Q full) → IsDue P reason → IsDue Q reason
due_weaker halt.NoMemory P Q weaker h = tt
due_weaker halt.ReadFault P Q weaker h = tt
due_weaker halt.WriteFault P Q weaker h = tt
due_weaker halt.StoreFault P Q weaker h = tt
due_weaker (halt.BadRow place) P Q weaker h = h
due_weaker (halt.Unwritten other) P Q weaker h = tt
due_weaker (halt.Full full) P Q weaker h = weaker full h

-- where nothing is left all were taken
pub left_none : (m : Moment) (n : ℕ) → (taken_on n m).log ≡ [] → length m.log ≤ n
left_none m n none = let short = ap length none in omega (arith, short, length-drop n m.log)

-- a settle moves on, and leaves the log
pub settled_at : {K : Type 0} → (kind : Kind K) (limits : Limits) (result : Result Reply Halt) (old engine : Engine K) (left : Option (List ℕ)) (m : Moment) → At kind limits old left m
    → OnOk result (StandsFor limits engine (m.history ++ Settle ∷ [])) → kind.holds engine (settled_on m) → OnOk result (At kind limits engine left (settled_on m))
settled_at kind limits (Ok r) old engine left m at stands holds =
    record { in_mode = at.in_mode; may_take = at.may_take; stands_at = record { stands = stands; told = at.stands_at.told }; holds = holds }
settled_at kind limits (Err e) old engine left m at stands holds = tt

-- what isn't observable isn't observable as something
pub none_told : {A : Type 0} (told : Option A) (rows : A) → told ≡ None → told ≡ Some rows → ⊥
none_told told rows none some = cc

-- a question that meets no place without a row names no limit
pub asked_due : (fault : AskFault) → ((place : ℕ) → fault ≡ asking.BadStore place → ⊥) → IsDue never (ask_halt fault)
asked_due asking.StoreFault met = tt
asked_due (asking.BadStore place) met = met place refl
asked_due asking.NoMemory met = tt

-- why a question isn't answered has its cause
pub asked_with : (fault : AskFault) (store told : Type 0) → (fault ≡ asking.StoreFault → store) → ((place : ℕ) → fault ≡ asking.BadStore place → told) → HasCauses ⊥ ⊥ store told ⊥ (ask_halt fault)
asked_with asking.StoreFault store told e f = e refl
asked_with (asking.BadStore place) store told e f = f place refl
asked_with asking.NoMemory store told e f = tt

-- a question to the engine leaves the moment
pub still : (asked : Ask) (m : Moment) → IsQuestion asked → after (Some asked) m ≡ m
still (ask.Take n) m asks = absurd asks
still ask.Settle m asks = absurd asks
still (ask.Question question) m asks = refl
still (ask.Why from to until) m asks = refl
still (ask.Find text) m asks = refl
still (ask.Show id) m asks = refl
still ask.Stat m asks = refl
still ask.End m asks = absurd asks

answered : (limits : Limits) (asked : Ask) (m : Moment) (r : Reply) → IsQuestion asked → IsReply m.mode limits m.history asked r → Answers limits (Some asked) m r
answered limits (ask.Take n) m r asks a = absurd asks
answered limits ask.Settle m r asks a = absurd asks
answered limits (ask.Question question) m r asks a = a
answered limits (ask.Why from to until) m r asks a = a
answered limits (ask.Find text) m r asks a = a
answered limits (ask.Show id) m r asks a = a
answered limits ask.Stat m r asks a = a
answered limits ask.End m r asks a = absurd asks

-- the engine's replies are those of the moment's mode
pub engine_reply : {K : Type 0} → (kind : Kind K) (limits : Limits) (result : Result Reply Halt) (engine : Engine K) (left : Option (List ℕ)) (m : Moment) (asked : Ask) → IsQuestion asked
    → IfOk result (λ r. (limits : Limits) (h : History) → StandsFor limits engine h → IsReply kind.mode limits h asked r) → At kind limits engine left m → IfOk result (Answers limits (Some asked) m)
engine_reply kind limits (Ok r) engine left m asked asks replies at =
    answered limits asked m r asks (subst (λ (x : Mode). IsReply x limits m.history asked r) (sym at.in_mode) (replies limits m.history at.stands_at.stands))
engine_reply kind limits (Err e) engine left m asked asks replies at = tt

-- where a run takes a log, `take` and `settle` move on
pub takes_on : (m : Moment) (n : ℕ) → m.takes ≡ true → after (Some (ask.Take n)) m ≡ taken_on n m
takes_on m n takes = rw takes refl

pub settles_on : (m : Moment) → m.takes ≡ true → after (Some ask.Settle) m ≡ settled_on m
settles_on m takes = rw takes refl

-- and else they don't
pub takes_none : (m : Moment) (n : ℕ) → m.takes ≡ false → after (Some (ask.Take n)) m ≡ m
takes_none m n none = rw none refl

pub settles_none : (m : Moment) → m.takes ≡ false → after (Some ask.Settle) m ≡ m
settles_none m none = rw none refl

pub take_said : (limits : Limits) (m : Moment) (n : ℕ) (count : ℕ) → m.takes ≡ true → count ≡ length (take n m.log) → Answers limits (Some (ask.Take n)) m (reply.Take count)
take_said limits m n count takes is = rw takes (ap reply.Take is)

pub settle_said : (limits : Limits) (result : Result Reply Halt) (m : Moment) → m.takes ≡ true → IfOk result (λ r. r ≡ reply.Settle (length (events_of limits (m.history ++ Settle ∷ []))))
    → IfOk result (Answers limits (Some ask.Settle) m)
settle_said limits (Ok r) m takes is = rw takes is
settle_said limits (Err e) m takes is = tt

pub take_refused : (limits : Limits) (m : Moment) (n : ℕ) → m.takes ≡ false → Answers limits (Some (ask.Take n)) m reply.BadQuestion
take_refused limits m n none = rw none refl

pub settle_refused : (limits : Limits) (m : Moment) → m.takes ≡ false → Answers limits (Some ask.Settle) m reply.BadQuestion
settle_refused limits m none = rw none refl

take-take : (n count : ℕ) (xs : List ℕ) → n ≤ count → take n (take count xs) ≡ take n xs
take-take zero count xs short = refl
take-take (suc n) zero xs short = absurd (omega arith)
take-take (suc n) (suc count) [] short = refl
take-take (suc n) (suc count) (x ∷ xs) short = ap (λ (ys : List ℕ). x ∷ ys) (take-take n count xs (omega arith))

-- a front of what was read is a front of what was told
pub front_told : (buf q : List ℕ) (n count : ℕ) → take count buf ≡ take count q → n ≤ count → take n buf ≡ take n q
front_told buf q n count read short =
    let first = take-take n count buf short in
    let second = take-take n count q short in
    sym first ∙ ap (λ (xs : List ℕ). take n xs) read ∙ second

-- where nothing can be found, nothing is
pub none_found : (line : List ℕ) (found : Option Ask) → found ≡ ask_of line → ((asks : Ask) → ask_of line ≡ Some asks → ⊥) → None ≡ found
none_found line None is none = refl
none_found line (Some asks) is none = absurd (none asks (sym is))

-- the lesser of two is no more than the second
pub no_more : (least first second : ℕ) → least ≡ min first second → least ≤ second
no_more least first second is = omega (arith, is)

-- the bytes of a history, counted in two parts
pub counted_both : (a b : History) → bytes_in (a ++ b) ≡ bytes_in a + bytes_in b
counted_both a b = sum_by-append (λ x. cond (is_byte x) 1 0) a b

-- as many bytes in a history as were taken
pub count_bytes : (bytes : List ℕ) → bytes_in (map Byte bytes) ≡ length bytes
count_bytes [] = refl
count_bytes (b ∷ bytes) =
    let split : bytes_in (map Byte (b ∷ bytes)) ≡ 1 + bytes_in (map Byte bytes) = counted_both (Byte b ∷ []) (map Byte bytes) in
    let rest = count_bytes bytes in
    omega arith
