-- A line is read as an ask exactly where it is written as one.
use Rattle.std.proofs.Common.{◌≡◌, ◌≢◌, ◌<◌, ◌≤◌, ◌+◌, ◌*◌, ◌^◌, ◌==◌, ◌&&◌, ◌∙◌, sym, refl, ap, subst, ℕ, Bool, true, false, List, [], ◌++◌, ◌∷◌, length, Option, None, Some, if◌then◌else◌, nat_lt, nat_le, codes, arith, option_map, ◌⊎◌, inl, inr, IfOk, IfErr}
use Rattle.std.specs.List.{list_all}
use Rattle.std.specs.Option.{option_and_then, ok_or}
use Rattle.std.specs.Char.{is_ascii_digit, is_ascii_lowercase}
use Rattle.std.specs.Str.{bytes_eq}
use Rattle.std.specs.Str.Parse.{IsNumeral, digits_value}
use Rattle.std.proofs.lemmas.Bool.{and_parts, and_from, eq-eqb, eqb-true, lt-ltb, ltb-true, le-leb, leb-true, cond-true}
use Rattle.std.proofs.lemmas.Slice.Eq.{bytes_eq-Decides}
use Rattle.flow_base.specs.declared.types.EntityId.{EntityId}
use Rattle.report_json.specs.declared.ask.Ask.{Ask}
use Rattle.report_json.specs.declared.ask.Ask.TheVariants as ask
use Rattle.reach_rows.specs.declared.questions.Question.TheVariants as question
use Rattle.report_json.specs.Asks.{Spells, IsId, IsTime, IsBounded, IsAsk}
use Rattle.report_json.specs.Reading.{cut_at, number_of, id_from, id_of, time_from, time_in, time_of, bounded_from, bounded_in, bounded_of, word_of, back_from, fore_from, why_from, why_in, why_of, find_of, show_of, words_of, ask_in, ask_of}
use Rattle.report_json.proofs.Cuts.{HasNo, passing_has_no, cut_here, no_cut, chosen_some, cut_is}
use Rattle.report_json.proofs.DigitLemmas.{digits_are, digits_pass}

-- ---- written, so read

abbrev is_short_number : ℕ → List ℕ → Bool
is_short_number most text = nat_lt 0 (length text) && (nat_le (length text) most && list_all is_ascii_digit text)

number_read : (most : ℕ) (text : List ℕ) → IsNumeral 10 text → length text ≤ most → number_of most text ≡ Some (digits_value 10 text)
number_read most text is short =
    let passes = and_from _ _ (lt-ltb 0 (length text) is.0) (and_from _ _ (le-leb (length text) most short) (digits_pass text is.1)) in
    cond-true (is_short_number most text) (Some (digits_value 10 text)) None passes

spelled : (most : ℕ) (text : List ℕ) (number : ℕ) → Spells most text number → number_of most text ≡ Some number
spelled most text number is = number_read most text is.digits is.short ∙ ap Some (sym is.value)

no_in_digits : (byte : ℕ) (text : List ℕ) → is_ascii_digit byte ≡ false → IsNumeral 10 text → HasNo byte text
no_in_digits byte text isnt is = passing_has_no is_ascii_digit byte text isnt (digits_pass text is.1)

id_read : (text : List ℕ) (of : EntityId) → IsId text of → id_of text ≡ Some of
id_read text of is = ap id_from (spelled 10 text of.0 is.0) ∙ cond-true (nat_lt of.0 (2 ^ 32)) (Some of) None (lt-ltb of.0 (2 ^ 32) is.1)

time_read : (text : List ℕ) (ms : ℕ) → IsTime text ms → time_of text ≡ Some ms
time_read text ms is =
    let numbers = ap (time_from (number_of 15 is.seconds)) (number_read 3 is.millis is.part (omega (arith, is.three)))
    ∙ ap (λ o. time_from o (Some (digits_value 10 is.millis))) (number_read 15 is.seconds is.whole is.short) in
    ap time_of is.written
    ∙ ap (option_and_then time_in) (cut_here 46 is.seconds is.millis (no_in_digits 46 is.seconds refl is.whole))
    ∙ cond-true (length is.millis == 3) (time_from (number_of 15 is.seconds) (number_of 3 is.millis)) None (eq-eqb _ _ is.three)
    ∙ numbers ∙ ap Some (sym is.value)

bounded_read : (text : List ℕ) (of : EntityId) (until : Option ℕ) → IsBounded text of until → bounded_of text ≡ Some (of, until)
bounded_read text of None is =
    ap (bounded_in text) (no_cut 32 text (no_in_digits 32 text refl is.0.digits)) ∙ ap (option_map (λ x. (x, None))) (id_read text of is)
bounded_read text of (Some ms) is =
    ap bounded_of is.2
    ∙ ap (bounded_in (is.0 ++ 32 ∷ is.1)) (cut_here 32 is.0 is.1 (no_in_digits 32 is.0 refl is.3.0.digits))
    ∙ ap (λ x. bounded_from x (time_of is.1)) (id_read is.0 of is.3)
    ∙ ap (bounded_from (Some of)) (time_read is.1 ms is.4)

why_read : (first rest : List ℕ) (from to : EntityId) (until : Option ℕ) → IsId first from → IsBounded rest to until
    → why_of (first ++ 32 ∷ rest) ≡ Some (ask.Why from to until)
why_read first rest from to until object bounded =
    ap (option_and_then why_in) (cut_here 32 first rest (no_in_digits 32 first refl object.0.digits))
    ∙ ap (λ x. why_from x (bounded_of rest)) (id_read first from object)
    ∙ ap (why_from (Some from)) (bounded_read rest to until bounded)

find_read : (text : List ℕ) → text ≢ [] → find_of text ≡ Some (ask.Find text)
find_read [] some = absurd (some refl)
find_read (byte ∷ text) some = refl

-- a line that begins with a word and a space
worded : (word line rest : List ℕ) → list_all is_ascii_lowercase word ≡ true → line ≡ word ++ 32 ∷ rest → ask_of line ≡ words_of word rest
worded word line rest lower is = ap ask_of is ∙ ap (ask_in (word ++ 32 ∷ rest)) (cut_here 32 word rest (passing_has_no is_ascii_lowercase 32 word refl lower))

pub read_where_written : (line : List ℕ) (asked : Ask) → IsAsk line asked → ask_of line ≡ Some asked
read_where_written line (ask.Take count) is = worded (codes "take") line is.0 refl is.1 ∙ ap (option_map ask.Take) (spelled 15 is.0 count is.2)
read_where_written line ask.Settle is = ap ask_of is
read_where_written line (ask.Question (question.Back of until)) is = worded (codes "back") line is.0 refl is.1 ∙ ap (option_map back_from) (bounded_read is.0 of until is.2)
read_where_written line (ask.Question (question.Fore of since)) is = worded (codes "fore") line is.0 refl is.1 ∙ ap (option_map fore_from) (bounded_read is.0 of since is.2)
read_where_written line (ask.Why from to until) is =
    worded (codes "why") line (is.0 ++ 32 ∷ is.1) refl is.2 ∙ why_read is.0 is.1 from to until is.3 is.4
read_where_written line (ask.Find text) is = worded (codes "find") line text refl is.0 ∙ find_read text is.1
read_where_written line (ask.Show id) is =
    worded (codes "show") line is.0 refl is.1 ∙ ap (option_map ask.Show) (id_read is.0 id is.2)
read_where_written line ask.Stat is = ap ask_of is
read_where_written line ask.End is = ap ask_of is

-- ---- read, so written

number_written : (most : ℕ) (text : List ℕ) (number : ℕ) → number_of most text ≡ Some number → Spells most text number
number_written most text number is =
    let chosen = chosen_some (is_short_number most text) (digits_value 10 text) number is in
    let parts = and_parts _ _ chosen.0 in
    let rest = and_parts _ _ parts.1 in
    record {
      digits = (ltb-true _ _ parts.0, digits_are text rest.1);
      short = leb-true _ _ rest.0;
      value = sym chosen.1;
    }

id_written_from : (found : Option ℕ) (text : List ℕ) (of : EntityId) → number_of 10 text ≡ found → id_from found ≡ Some of → IsId text of
id_written_from None text of found is = cc is
id_written_from (Some value) text of found is =
    let chosen = chosen_some (nat_lt value (2 ^ 32)) (record { 0 = value }) of is in
    let same : value ≡ of.0 = ap (λ (x : EntityId). x.0) chosen.1 in
    (number_written 10 text of.0 (found ∙ ap Some same), subst (λ n. n < 2 ^ 32) same (ltb-true _ _ chosen.0))

id_written : (text : List ℕ) (of : EntityId) → id_of text ≡ Some of → IsId text of
id_written text of is = id_written_from (number_of 10 text) text of refl is

time_of_parts : (text seconds millis : List ℕ) (first second : Option ℕ) (ms : ℕ) → text ≡ seconds ++ 46 ∷ millis → length millis ≡ 3
    → number_of 15 seconds ≡ first → number_of 3 millis ≡ second → time_from first second ≡ Some ms → IsTime text ms
time_of_parts text seconds millis None second ms is three whole part made = cc made
time_of_parts text seconds millis (Some n) None ms is three whole part made = cc made
time_of_parts text seconds millis (Some n) (Some m) ms is three whole part made =
    let first = number_written 15 seconds n whole in
    let second = number_written 3 millis m part in
    record {
      seconds = seconds;
      millis = millis;
      written = is;
      whole = first.digits;
      short = first.short;
      part = second.digits;
      three = three;
      value = sym (cc made) ∙ ap (λ x. x * 1000 + m) first.value ∙ ap (λ x. digits_value 10 seconds * 1000 + x) second.value;
    }

if_some : {A : Type 0} (test : Bool) (made : Option A) (a : A) → (if test then made else None) ≡ Some a → (test ≡ true) × (made ≡ Some a)
if_some true made a is = (refl, is)
if_some false made a is = cc is

time_written_from : (found : Option (List ℕ × List ℕ)) (text : List ℕ) (ms : ℕ) → cut_at 46 text ≡ found → option_and_then time_in found ≡ Some ms → IsTime text ms
time_written_from None text ms found is = cc is
time_written_from (Some parts) text ms found is =
    let chosen = if_some (length parts.1 == 3) (time_from (number_of 15 parts.0) (number_of 3 parts.1)) ms is in
    time_of_parts text parts.0 parts.1 (number_of 15 parts.0) (number_of 3 parts.1) ms (cut_is 46 text parts.0 parts.1 found) (eqb-true _ _ chosen.0) refl refl chosen.1

time_written : (text : List ℕ) (ms : ℕ) → time_of text ≡ Some ms → IsTime text ms
time_written text ms is = time_written_from (cut_at 46 text) text ms refl is

bounded_of_id : (found : Option EntityId) (text : List ℕ) (asked : EntityId × Option ℕ) → id_of text ≡ found
    → option_map (λ of. (of, None)) found ≡ Some asked → IsBounded text asked.0 asked.1
bounded_of_id None text asked found is = cc is
bounded_of_id (Some of) text asked found is =
    let same : (of, None) ≡ asked = cc is in
    subst (λ (x : EntityId × Option ℕ). IsBounded text x.0 x.1) same (id_written text of found)

bounded_of_parts : (first : Option EntityId) (second : Option ℕ) (text id time : List ℕ) (asked : EntityId × Option ℕ) → text ≡ id ++ 32 ∷ time
    → id_of id ≡ first → time_of time ≡ second → bounded_from first second ≡ Some asked → IsBounded text asked.0 asked.1
bounded_of_parts None second text id time asked is object bound made = cc made
bounded_of_parts (Some of) None text id time asked is object bound made = cc made
bounded_of_parts (Some of) (Some ms) text id time asked is object bound made =
    let same : (of, Some ms) ≡ asked = cc made in
    subst (λ (x : EntityId × Option ℕ). IsBounded text x.0 x.1) same (id, time, is, id_written id of object, time_written time ms bound)

bounded_written_from : (found : Option (List ℕ × List ℕ)) (text : List ℕ) (asked : EntityId × Option ℕ) → cut_at 32 text ≡ found
    → bounded_in text found ≡ Some asked → IsBounded text asked.0 asked.1
bounded_written_from None text asked found is = bounded_of_id (id_of text) text asked refl is
bounded_written_from (Some parts) text asked found is =
    bounded_of_parts (id_of parts.0) (time_of parts.1) text parts.0 parts.1 asked (cut_is 32 text parts.0 parts.1 found) refl refl is

bounded_written : (text : List ℕ) (asked : EntityId × Option ℕ) → bounded_of text ≡ Some asked → IsBounded text asked.0 asked.1
bounded_written text asked is = bounded_written_from (cut_at 32 text) text asked refl is

-- the first of two choices, or the second
chosen_or : {A : Type 0} (test : Bool) (a b : Option A) (c : A) → (if test then a else b) ≡ Some c → ((test ≡ true) × (a ≡ Some c)) ⊎ (b ≡ Some c)
chosen_or true a b c is = inl (refl, is)
chosen_or false a b c is = inr is

same_word : (word text : List ℕ) → bytes_eq word text ≡ true → word ≡ text
same_word word text is = (bytes_eq-Decides word text).0 is

word_asks : (line : List ℕ) (first asked : Ask) → IsAsk line first → Some first ≡ Some asked → IsAsk line asked
word_asks line first asked is same = let e : first ≡ asked = cc same in subst (IsAsk line) e is

end_written : (line : List ℕ) (asked : Ask) → (if bytes_eq line (codes "end") then Some ask.End else None) ≡ Some asked → IsAsk line asked
end_written line asked is =
    let chosen = chosen_some (bytes_eq line (codes "end")) ask.End asked is in
    subst (IsAsk line) chosen.1 (same_word line (codes "end") chosen.0)

word_written : (line : List ℕ) (asked : Ask) → word_of line ≡ Some asked → IsAsk line asked
word_written line asked is =
    elim (chosen_or (bytes_eq line (codes "settle")) _ _ asked is) [
      | inl settle ↦ word_asks line ask.Settle asked (same_word _ _ settle.0) settle.1
      | inr others ↦ elim (chosen_or (bytes_eq line (codes "stat")) _ _ asked others) [
        | inl stat ↦ word_asks line ask.Stat asked (same_word _ _ stat.0) stat.1
        | inr last ↦ end_written line asked last
      ]
    ]

-- the line behind its first word
abbrev Behind : List ℕ → List ℕ → List ℕ → Type 0
Behind line word rest = line ≡ word ++ 32 ∷ rest

take_written : (found : Option ℕ) (line rest : List ℕ) (asked : Ask) → Behind line (codes "take") rest → number_of 15 rest ≡ found
    → option_map ask.Take found ≡ Some asked → IsAsk line asked
take_written None line rest asked is found made = cc made
take_written (Some count) line rest asked is found made = word_asks line (ask.Take count) asked (rest, is, number_written 15 rest count found) made

-- what is asked of an object, with a time or without
bounded_asks : (from : EntityId × Option ℕ → Ask) (found : Option (EntityId × Option ℕ)) (line rest : List ℕ) (asked : Ask)
    → ((bounded : EntityId × Option ℕ) → IsBounded rest bounded.0 bounded.1 → IsAsk line (from bounded)) → bounded_of rest ≡ found
    → option_map from found ≡ Some asked → IsAsk line asked
bounded_asks from None line rest asked asks found made = cc made
bounded_asks from (Some bounded) line rest asked asks found made =
    word_asks line (from bounded) asked (asks bounded (bounded_written rest bounded found)) made

back_written : (line rest : List ℕ) (asked : Ask) → Behind line (codes "back") rest → option_map back_from (bounded_of rest) ≡ Some asked → IsAsk line asked
back_written line rest asked is made = bounded_asks back_from (bounded_of rest) line rest asked (λ bounded written. (rest, is, written)) refl made

fore_written : (line rest : List ℕ) (asked : Ask) → Behind line (codes "fore") rest → option_map fore_from (bounded_of rest) ≡ Some asked → IsAsk line asked
fore_written line rest asked is made = bounded_asks fore_from (bounded_of rest) line rest asked (λ bounded written. (rest, is, written)) refl made

why_of_parts : (first : Option EntityId) (second : Option (EntityId × Option ℕ)) (line text rest : List ℕ) (asked : Ask)
    → Behind line (codes "why") (text ++ 32 ∷ rest) → id_of text ≡ first → bounded_of rest ≡ second
    → why_from first second ≡ Some asked → IsAsk line asked
why_of_parts None second line text rest asked is object bounded made = cc made
why_of_parts (Some from) None line text rest asked is object bounded made = cc made
why_of_parts (Some from) (Some to) line text rest asked is object bounded made =
    word_asks line (ask.Why from to.0 to.1) asked (text, rest, is, id_written text from object, bounded_written rest to bounded) made

why_written_from : (found : Option (List ℕ × List ℕ)) (line rest : List ℕ) (asked : Ask) → Behind line (codes "why") rest
    → cut_at 32 rest ≡ found → option_and_then why_in found ≡ Some asked → IsAsk line asked
why_written_from None line rest asked is found made = cc made
why_written_from (Some parts) line rest asked is found made =
    let cut = is ∙ ap (λ r. codes "why" ++ 32 ∷ r) (cut_is 32 rest parts.0 parts.1 found) in
    why_of_parts (id_of parts.0) (bounded_of parts.1) line parts.0 parts.1 asked cut refl refl made

find_written : (line rest : List ℕ) (asked : Ask) → Behind line (codes "find") rest → find_of rest ≡ Some asked → IsAsk line asked
find_written line [] asked is made = cc made
find_written line (byte ∷ rest) asked is made = word_asks line (ask.Find (byte ∷ rest)) asked (is, λ none. cc none) made

show_written : (found : Option EntityId) (line rest : List ℕ) (asked : Ask) → Behind line (codes "show") rest → id_of rest ≡ found
    → option_map ask.Show found ≡ Some asked → IsAsk line asked
show_written None line rest asked is found made = cc made
show_written (Some id) line rest asked is found made = word_asks line (ask.Show id) asked (rest, is, id_written rest id found) made

-- the line behind this word, where the first word is the same
behind_same : (line word known rest : List ℕ) → Behind line word rest → bytes_eq word known ≡ true → Behind line known rest
behind_same line word known rest is same = is ∙ ap (λ w. w ++ 32 ∷ rest) (same_word word known same)

-- what the words ask that come last
abbrev last_words_of : List ℕ → List ℕ → Option Ask
last_words_of word rest =
    if bytes_eq word (codes "why") then why_of rest else
    if bytes_eq word (codes "find") then find_of rest else
    if bytes_eq word (codes "show") then show_of rest else None

last_words_written : (line word rest : List ℕ) (asked : Ask) → Behind line word rest → last_words_of word rest ≡ Some asked → IsAsk line asked
last_words_written line word rest asked is made =
    elim (chosen_or (bytes_eq word (codes "why")) _ _ asked made) [
      | inl why ↦ why_written_from (cut_at 32 rest) line rest asked (behind_same line word _ rest is why.0) refl why.1
      | inr others ↦ elim (chosen_or (bytes_eq word (codes "find")) _ _ asked others) [
        | inl find ↦ find_written line rest asked (behind_same line word _ rest is find.0) find.1
        | inr last ↦
            let show = if_some (bytes_eq word (codes "show")) (show_of rest) asked last in
            show_written (id_of rest) line rest asked (behind_same line word _ rest is show.0) refl show.1
      ]
    ]

words_written : (line word rest : List ℕ) (asked : Ask) → Behind line word rest → words_of word rest ≡ Some asked → IsAsk line asked
words_written line word rest asked is made =
    elim (chosen_or (bytes_eq word (codes "take")) _ _ asked made) [
      | inl take ↦ take_written (number_of 15 rest) line rest asked (behind_same line word _ rest is take.0) refl take.1
      | inr others ↦ elim (chosen_or (bytes_eq word (codes "back")) _ _ asked others) [
        | inl back ↦ back_written line rest asked (behind_same line word _ rest is back.0) back.1
        | inr more ↦ elim (chosen_or (bytes_eq word (codes "fore")) _ _ asked more) [
          | inl fore ↦ fore_written line rest asked (behind_same line word _ rest is fore.0) fore.1
          | inr last ↦ last_words_written line word rest asked is last
        ]
      ]
    ]

ask_written : (found : Option (List ℕ × List ℕ)) (line : List ℕ) (asked : Ask) → cut_at 32 line ≡ found → ask_in line found ≡ Some asked → IsAsk line asked
ask_written None line asked found is = word_written line asked is
ask_written (Some parts) line asked found is = words_written line parts.0 parts.1 asked (cut_is 32 line parts.0 parts.1 found) is

pub written_where_read : (line : List ℕ) (asked : Ask) → ask_of line ≡ Some asked → IsAsk line asked
written_where_read line asked is = ask_written (cut_at 32 line) line asked refl is

-- ---- the laws

pub asks_one_thing : (line : List ℕ) (first second : Ask) → IsAsk line first → IsAsk line second → first ≡ second
asks_one_thing line first second is also =
    let same : Some first ≡ Some second = sym (read_where_written line first is) ∙ read_where_written line second also in
    cc same

nothing_asked : (line : List ℕ) → ask_of line ≡ None → (asked : Ask) → ¬ (IsAsk line asked)
nothing_asked line none asked is = let both : None ≡ Some asked = sym none ∙ read_where_written line asked is in cc both

-- what is answered where this was found
pub found_is_asked : {E : Type 0} (line : List ℕ) (found : Option Ask) (bad : E) → found ≡ ask_of line → IfOk (ok_or found bad) (IsAsk line)
found_is_asked line None bad is = tt
found_is_asked line (Some asked) bad is = written_where_read line asked (sym is)

pub else_nothing_is : {E : Type 0} (line : List ℕ) (found : Option Ask) (bad : E) → found ≡ ask_of line
    → IfErr (ok_or found bad) (λ _. (asked : Ask) → ¬ (IsAsk line asked))
else_nothing_is line None bad is = nothing_asked line (sym is)
else_nothing_is line (Some asked) bad is = tt
