-- How many settles the questions of a dialogue ask for.
use Rattle.std.proofs.Common.{◌≡◌, ◌≤◌, ◌<◌, ◌+◌, ℕ, List, [], ◌∷◌, ◌++◌, map, length, drop, refl, ap, sym, subst, arith, append_assoc, ◌∙◌, Option, None, length-append}
use Rattle.std.proofs.lemmas.List.{map-append}
use Rattle.std.proofs.Math.Seq.{drop-append_seam}
use Rattle.flow_base.specs.declared.limits.Limits.{Limits}
use Rattle.audit_lex.specs.History.{History, Byte, Settle, with_bytes, lines_of}
use Rattle.report_json.specs.declared.ask.Ask.{Ask}
use Rattle.report_json.specs.declared.reply.Reply.{Reply}
use Rattle.report_json.specs.declared.reply.Reply.TheVariants as reply
use Rattle.dialogue.specs.declared.halt.Turn.{Turn}
use Rattle.dialogue.specs.declared.halt.Turn.TheVariants as turn
use Rattle.dialogue.specs.Dialogue.{Moment, AfterTurn, Dialogue, Leads, after, asked, asks, lines_in, turn_of}
use Rattle.dialogue.specs.Settles.{settles_in_one, last_since, lines_since, settles, settles_since, unless_ended}
use Rattle.dialogue.proofs.HearLemmas.{LinesStay, pieces}

-- ---- lists of questions

fewer : (t : Turn) (one x y : ℕ) → x ≤ y → one + unless_ended t x ≤ one + unless_ended t y
fewer turn.Ended one x y within = omega arith
fewer turn.More one x y within = omega (arith, within)

-- further questions ask for no fewer
front_settles : (a b : List (Option Ask)) → settles a ≤ settles (a ++ b)
front_settles [] b = omega arith
front_settles (q ∷ a) b = fewer (turn_of q) (settles_in_one q) (settles a) (settles (a ++ b)) (front_settles a b)

-- what comes after a question that doesn't end the dialogue
by_turn : (t : Turn) (closed later : Type 0) (one x y z : ℕ) → (closed → ⊥) → (later → x ≡ y + z) → AfterTurn t closed later → one + unless_ended t x ≡ (one + unless_ended t y) + z
by_turn turn.Ended closed later one x y z none goes ends = absurd (none ends)
by_turn turn.More closed later one x y z none goes talk = let rest = goes talk in omega (arith, rest)

-- questions to which there are more replies than questions have no `end`
no_end : (limits : Limits) (from to : Moment) (f questions : List (Option Ask)) (replies : List Reply) (g : List (Option Ask)) → length f < length replies → Dialogue limits from (f ++ questions) replies to → settles (f ++ g) ≡ settles f + settles g
no_end limits from to [] questions replies g many talk = omega arith
no_end limits from to (q ∷ f) questions [] g many talk = absurd (omega (arith, many))
no_end limits from to (q ∷ f) questions (r ∷ replies) g many talk =
    by_turn (turn_of q) ((replies ≡ []) × (to ≡ after q from)) (Dialogue limits (after q from) (f ++ questions) replies to) (settles_in_one q) (settles (f ++ g)) (settles f) (settles g)
    (λ ends. let none = ap length ends.0 in omega (arith, many, none))
    (λ goes. no_end limits (after q from) to f questions replies g (omega (arith, many)) goes) talk.1

-- as many bad questions and one more
abbrev bad : List (Option Ask) → List (Option Ask)
bad [] = None ∷ []
bad (q ∷ f) = None ∷ bad f

abbrev said_bad : List (Option Ask) → List Reply
said_bad [] = reply.BadQuestion ∷ []
said_bad (q ∷ f) = reply.BadQuestion ∷ said_bad f

bad_long : (f : List (Option Ask)) → length (said_bad f) ≡ length f + 1
bad_long [] = omega arith
bad_long (q ∷ f) = let rest = bad_long f in omega (arith, rest)

bad_talk : (limits : Limits) (f : List (Option Ask)) (m : Moment) → Dialogue limits m (bad f) (said_bad f) m
bad_talk limits [] m = (refl, refl)
bad_talk limits (q ∷ f) m = (refl, bad_talk limits f m)

-- questions after which a dialogue goes on, and further ones
settles_both : (limits : Limits) (from to : Moment) (f g : List (Option Ask)) (said : List Reply) → Leads limits from f said to → settles (f ++ g) ≡ settles f + settles g
settles_both limits from to f g said leads =
    let long = bad_long f in
    let both = length-append said (said_bad f) in
    no_end limits from to f (bad f) (said ++ said_bad f) g (omega (arith, long, both)) (leads (bad f) (said_bad f) to (bad_talk limits f to))

-- ---- lines of pieces

since_is : (h : History) (p : List ℕ) (ls : List (List ℕ)) → lines_of (with_bytes h p) ≡ lines_of h ++ ls → lines_since h p ≡ ls
since_is h p ls is = ap (λ (xs : List (List ℕ)). drop (length (lines_of h)) xs) is ∙ drop-append_seam (lines_of h) ls

last_is : (h : History) (ls : List (List ℕ)) → lines_of (h ++ Settle ∷ []) ≡ lines_of h ++ ls → last_since h ≡ ls
last_is h ls is = ap (λ (xs : List (List ℕ)). drop (length (lines_of h)) xs) is ∙ drop-append_seam (lines_of h) ls

-- lines and further ones ask for no fewer settles
more_lines : (limits : Limits) (ls more : List (List ℕ)) → settles (asks limits ls) ≤ settles (asks limits (ls ++ more))
more_lines limits ls more =
    let split = ap settles (map-append (asked limits.question) ls more) in
    let front = front_settles (asks limits ls) (asks limits more) in
    omega (arith, split, front)

-- a longer piece asks for no fewer
pub since_longer : LinesStay → (limits : Limits) (h : History) (p q : List ℕ) → settles_since limits h p ≤ settles_since limits h (p ++ q)
since_longer stay limits h p q =
    let own = stay h (map Byte p) in
    let more = stay (with_bytes h p) (map Byte q) in
    let first = ap (λ (xs : List (List ℕ)). settles (asks limits xs)) (since_is h p own.0 own.1) in
    let lines : lines_of (with_bytes h (p ++ q)) ≡ lines_of h ++ (own.0 ++ more.0) =
    ap lines_of (sym (pieces h p q)) ∙ more.1 ∙ ap (λ (xs : List (List ℕ)). xs ++ more.0) own.1 ∙ append_assoc (lines_of h) own.0 more.0 in
    let both = ap (λ (xs : List (List ℕ)). settles (asks limits xs)) (since_is h (p ++ q) (own.0 ++ more.0) lines) in
    let within = more_lines limits own.0 more.0 in
    omega (arith, first, both, within)

-- one piece after another that was heard whole
pub since_both : LinesStay → (limits : Limits) (from to : Moment) (h : History) (p q : List ℕ) (ls : List (List ℕ)) (said : List Reply) → lines_of (with_bytes h p) ≡ lines_of h ++ ls → Leads limits from (asks limits ls) said to
    → settles_since limits h p + settles_since limits (with_bytes h p) q ≤ settles_since limits h (p ++ q)
since_both stay limits from to h p q ls said is leads =
    let more = stay (with_bytes h p) (map Byte q) in
    let first = ap (λ (xs : List (List ℕ)). settles (asks limits xs)) (since_is h p ls is) in
    let second = ap (λ (xs : List (List ℕ)). settles (asks limits xs)) (since_is (with_bytes h p) q more.0 more.1) in
    let lines : lines_of (with_bytes h (p ++ q)) ≡ lines_of h ++ (ls ++ more.0) =
    ap lines_of (sym (pieces h p q)) ∙ more.1 ∙ ap (λ (xs : List (List ℕ)). xs ++ more.0) is ∙ append_assoc (lines_of h) ls more.0 in
    let both = ap (λ (xs : List (List ℕ)). settles (asks limits xs)) (since_is h (p ++ q) (ls ++ more.0) lines) in
    let sum = ap settles (map-append (asked limits.question) ls more.0) ∙ settles_both limits from to (asks limits ls) (asks limits more.0) said leads in
    omega (arith, first, second, both, sum)

one_asked : (limits : Limits) (text : List ℕ) (q : Option Ask) → q ≡ asked limits.question text → settles_in_one q ≤ settles (asks limits (text ∷ []))
one_asked limits text q is = subst (λ (x : Option Ask). settles_in_one x ≤ settles (asks limits (text ∷ []))) (sym is) (omega arith)

-- a piece that ends one line
pub one_since : (limits : Limits) (h : History) (p text : List ℕ) (q : Option Ask) → q ≡ asked limits.question text → lines_of (with_bytes h p) ≡ lines_of h ++ text ∷ [] → settles_in_one q ≤ settles_since limits h p
one_since limits h p text q is lines =
    let first = ap (λ (xs : List (List ℕ)). settles (asks limits xs)) (since_is h p (text ∷ []) lines) in
    let one = one_asked limits text q is in
    omega (arith, first, one)

-- the last line
pub one_last : (limits : Limits) (h : History) (text : List ℕ) (q : Option Ask) → q ≡ asked limits.question text → lines_of (h ++ Settle ∷ []) ≡ lines_of h ++ text ∷ [] → settles_in_one q ≤ settles (asks limits (last_since h))
one_last limits h text q is lines =
    let first = ap (λ (xs : List (List ℕ)). settles (asks limits xs)) (last_is h (text ∷ []) lines) in
    let one = one_asked limits text q is in
    omega (arith, first, one)

-- the lines of all the questions
pub since_all : LinesStay → (limits : Limits) (q : List ℕ) → settles_since limits [] q ≤ settles (asks limits (lines_in q))
since_all stay limits q =
    let own = stay [] (map Byte q) in
    let more = stay (with_bytes [] q) (Settle ∷ []) in
    let first = ap (λ (xs : List (List ℕ)). settles (asks limits xs)) (since_is [] q own.0 own.1) in
    let lines : lines_in q ≡ own.0 ++ more.0 = more.1 ∙ ap (λ (xs : List (List ℕ)). xs ++ more.0) own.1 in
    let both = ap (λ (xs : List (List ℕ)). settles (asks limits xs)) lines in
    let within = more_lines limits own.0 more.0 in
    omega (arith, first, both, within)

-- all the questions, and what their end ends
pub since_end : LinesStay → (limits : Limits) (from to : Moment) (q : List ℕ) (ls : List (List ℕ)) (said : List Reply) → lines_of (with_bytes [] q) ≡ lines_of [] ++ ls → Leads limits from (asks limits ls) said to
    → settles_since limits [] q + settles (asks limits (last_since (with_bytes [] q))) ≤ settles (asks limits (lines_in q))
since_end stay limits from to q ls said is leads =
    let more = stay (with_bytes [] q) (Settle ∷ []) in
    let first = ap (λ (xs : List (List ℕ)). settles (asks limits xs)) (since_is [] q ls is) in
    let second = ap (λ (xs : List (List ℕ)). settles (asks limits xs)) (last_is (with_bytes [] q) more.0 more.1) in
    let lines : lines_in q ≡ ls ++ more.0 = more.1 ∙ ap (λ (xs : List (List ℕ)). xs ++ more.0) is in
    let both = ap (λ (xs : List (List ℕ)). settles (asks limits xs)) lines in
    let sum = ap settles (map-append (asked limits.question) ls more.0) ∙ settles_both limits from to (asks limits ls) (asks limits more.0) said leads in
    omega (arith, first, second, both, sum)
