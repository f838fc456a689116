-- Tokens of other names, which are passed over together.
use Rattle.std.proofs.Common.{◌≡◌, ◌≢◌, ◌<◌, ◌≤◌, ◌∙◌, sym, ap, refl, ℕ, zero, suc, ◌+◌, ◌-◌, ◌==◌, ◌&&◌, ◌||◌, List, length, drop, get_or, Bool, true, false, arith, ◌⊎◌, inl, inr}
use Rattle.std.specs.List.{position_or_len}
use Rattle.std.specs.Option.{option_or}
use Rattle.std.proofs.lemmas.Bool.{eq-eqb, eqb-false, ne_eqb, cases_lt, cases_eq}
use Rattle.std.proofs.lemmas.List.{get_or-drop, get_or_past, drop-drop, take_rest}
use Rattle.std.proofs.lemmas.List.Sums.{fails_before_first, passes_at_first}
use Rattle.memchr.specs.Find.{is_byte2}
use Rattle.audit_lex.specs.Tokens.{token_len, field_of}
use Rattle.audit_lex.specs.Stops.{stops_at}
use Rattle.audit_lex.proofs.TokenLemmas.{from, field_after_space, field_at_token}
use Rattle.audit_lex.proofs.PastTokens.{plain_token, other_first}

-- ---- what stands before a stop

no_stop : (space first quote : Bool) → ((space && first) || quote) ≡ false → (quote ≡ false) × (space ≡ true → first ≡ false)
no_stop true true quote is = cc
no_stop true false quote is = (is, λ _. refl)
no_stop false first quote is = (is, λ space. cc)

-- no place up to this one is a stop
abbrev pub HasNoStop : ℕ → List ℕ → ℕ → Type 0
HasNoStop first text place = (k : ℕ) → k < place → stops_at first text k ≡ false

-- there the text can be cut: tokens end before it
abbrev pub IsCut : List ℕ → ℕ → Type 0
IsCut text place = (place ≡ 0) ⊎ (get_or text place 0 ≡ 32)

no_quote : (first : ℕ) (text : List ℕ) (k : ℕ) → stops_at first text k ≡ false → get_or text k 0 ≢ 34
no_quote first text k goes = eqb-false _ _ (no_stop (get_or text k 0 == 32) (get_or text (k + 1) 0 == first) _ goes).0

-- what follows a space is another byte
other_start : (first : ℕ) (text : List ℕ) → stops_at first text 0 ≡ false → get_or text 0 0 ≡ 32 → get_or text 1 0 ≢ first
other_start first text goes space = eqb-false _ _ ((no_stop (get_or text 0 0 == 32) (get_or text 1 0 == first) _ goes).1 (eq-eqb _ _ space))

-- stops keep their places in the rest of a text
stops_later : (first : ℕ) (text : List ℕ) (read k : ℕ) → stops_at first (drop read text) k ≡ stops_at first text (read + k)
stops_later first text read k =
    let next : get_or (drop read text) (k + 1) 0 ≡ get_or text (read + k + 1) 0 = get_or-drop read text (k + 1) 0 ∙ ap (λ n. get_or text n 0) (omega arith) in
    ap (λ byte. (byte == 32 && get_or (drop read text) (k + 1) 0 == first) || byte == 34) (get_or-drop read text k 0)
    ∙ ap (λ byte. (get_or text (read + k) 0 == 32 && byte == first) || get_or text (read + k) 0 == 34) next

-- no stop up to a place, and none in what follows
pub goes_further : (first : ℕ) (text : List ℕ) (place more : ℕ) → HasNoStop first text place → HasNoStop first (from place text) more → HasNoStop first text (place + more)
goes_further first text place more goes further = λ k below. elim (cases_lt k place) [
  | inl early ↦ goes k early
  | inr late ↦
      ap (stops_at first text) (let at : k ≡ place + (k - place) = omega (arith, late) in at)
      ∙ sym (stops_later first text place (k - place))
      ∙ ap (λ rest. stops_at first rest (k - place)) (sym (take_rest text place))
      ∙ further (k - place) (omega (arith, below, late))
]

-- ---- a word before a stop

byte_is : (text : List ℕ) (k : ℕ) → get_or text k 0 ≡ 32 → is_byte2 32 34 (get_or text k 0) ≡ true
byte_is text k space = ap (is_byte2 32 34) space

clash : (a : Bool) → a ≡ true → a ≡ false → ⊥
clash true is isnt = cc
clash false is isnt = cc

neither_byte : (a b : Bool) → (a || b) ≡ true → a ≡ false → b ≡ false → ⊥
neither_byte true b is isnt other = cc
neither_byte false true is isnt other = cc
neither_byte false false is isnt other = cc

either_byte : (byte : ℕ) → is_byte2 32 34 byte ≡ true → byte ≢ 34 → byte ≡ 32
either_byte byte is other = elim (cases_eq byte 32) [
  | inl space ↦ space
  | inr isnt ↦ absurd (neither_byte (byte == 32) (byte == 34) is (ne_eqb _ _ isnt) (ne_eqb _ _ other))
]

-- the first token ends at a space before the cut, or there
record Ends (text : List ℕ) (place word : ℕ) : Type 0 where
  some : 0 < word
  within : word ≤ place
  space : get_or text word 0 ≡ 32
  len : token_len text ≡ word

word_before : (first : ℕ) (text : List ℕ) (place : ℕ) → HasNoStop first text place → 0 < place → get_or text place 0 ≡ 32 → get_or text 0 0 ≢ 32
    → Ends text place (position_or_len (is_byte2 32 34) text)
word_before first text place goes some space isnt =
    let word = position_or_len (is_byte2 32 34) text in
    let inside : place < length text = elim (cases_lt place (length text)) [
      | inl below ↦ below
      | inr past ↦ absurd (let none = get_or_past text place 0 past in omega (arith, none, space))
    ] in
    let within : word ≤ place = elim (cases_lt place word) [
      | inl below ↦ absurd (clash _ (byte_is text place space) (fails_before_first (is_byte2 32 34) text place 0 below))
      | inr within ↦ within
    ] in
    let passes = passes_at_first (is_byte2 32 34) text 0 (omega (arith, within, inside)) in
    let ends : get_or text word 0 ≡ 32 = elim (cases_eq word place) [
      | inl here ↦ ap (λ n. get_or text n 0) here ∙ space
      | inr before ↦ either_byte (get_or text word 0) passes (no_quote first text word (goes word (omega (arith, within, before))))
    ] in
    record {
      some = elim (cases_eq word 0) [
        | inl none ↦ absurd (isnt (sym (ap (λ n. get_or text n 0) none) ∙ ends))
        | inr some ↦ omega (arith, some)
      ];
      within = within;
      space = ends;
      len = plain_token text word refl (inr ends);
    }

-- ---- passing over them

-- what a search for a name needs up to a cut
record PassesBy (first : ℕ) (text name : List ℕ) (place : ℕ) : Type 0 where
  goes : HasNoStop first text place
  cut : IsCut text place
  start : get_or text 0 0 ≢ 32 → get_or text 0 0 ≢ first

shorter_cut : (text : List ℕ) (place read : ℕ) → 0 < place → IsCut text place → read ≤ place → IsCut (drop read text) (place - read)
shorter_cut text place read some cut within = elim cut [
  | inl none ↦ absurd (omega (arith, some, none))
  | inr space ↦ inr (get_or-drop read text (place - read) 0 ∙ ap (λ n. get_or text n 0) (omega (arith, within)) ∙ space)
]

rest_goes : (first : ℕ) (text : List ℕ) (place read : ℕ) → HasNoStop first text place → read ≤ place → HasNoStop first (drop read text) (place - read)
rest_goes first text place read goes within = λ k below. stops_later first text read k ∙ goes (read + k) (omega (arith, below, within))

rest_drop : (text name : List ℕ) (place read : ℕ) → read ≤ place → field_of (drop (place - read) (drop read text)) name ≡ field_of (drop place text) name
rest_drop text name place read within = ap (λ t. field_of t name) (drop-drop (place - read) read text ∙ ap (λ n. drop n text) (omega (arith, within)))

-- a token that begins with another byte hasn't this name
token_passed : (first : ℕ) (text name : List ℕ) (word : ℕ) → 0 < length name → get_or name 0 0 ≡ first → 0 < length text → get_or text 0 0 ≢ 32 → get_or text 0 0 ≢ first → token_len text ≡ word
    → field_of text name ≡ field_of (drop word text) name
token_passed first text name word some begins long isnt other len =
    field_at_token text name long isnt
    ∙ ap (λ own. option_or own (field_of (drop (token_len text) text) name)) (other_first text name some (λ same. other (same ∙ begins)))
    ∙ ap (λ n. field_of (drop n text) name) len

-- up to a cut no token has the name
passed : (fuel first : ℕ) (text name : List ℕ) (place : ℕ) → place ≤ fuel → 0 < length name → get_or name 0 0 ≡ first → PassesBy first text name place
    → field_of text name ≡ field_of (drop place text) name
passed zero first text name place short some begins by = ap (λ n. field_of (drop n text) name) (let none : 0 ≡ place = omega (arith, short) in none)
passed (suc fuel) first text name place short some begins by = elim by.cut [
  | inl none ↦ ap (λ n. field_of (drop n text) name) (sym none)
  | inr space ↦ elim (cases_eq place 0) [
    | inl none ↦ ap (λ n. field_of (drop n text) name) (sym none)
    | inr far ↦
        let long : 0 < length text = elim (cases_lt 0 (length text)) [
          | inl below ↦ below
          | inr empty ↦ absurd (let none = get_or_past text place 0 (omega (arith, empty)) in omega (arith, none, space))
        ] in
        elim (cases_eq (get_or text 0 0) 32) [
          | inl gap ↦
              field_after_space text name long gap
              ∙ passed fuel first (drop 1 text) name (place - 1) (omega (arith, short)) some begins (record {
                goes = rest_goes first text place 1 by.goes (omega (arith, far));
                cut = shorter_cut text place 1 (omega (arith, far)) by.cut (omega (arith, far));
                start = λ _ same. other_start first text (by.goes 0 (omega (arith, far))) gap (sym (get_or-drop 1 text 0 0) ∙ same);
              })
              ∙ rest_drop text name place 1 (omega (arith, far))
          | inr isnt ↦
              let word = position_or_len (is_byte2 32 34) text in
              let ends = word_before first text place by.goes (omega (arith, far)) space isnt in
              token_passed first text name word some begins long isnt (by.start isnt) ends.len
              ∙ passed fuel first (drop word text) name (place - word) (omega (arith, short, ends.some)) some begins (record {
                goes = rest_goes first text place word by.goes ends.within;
                cut = shorter_cut text place word (omega (arith, far)) by.cut ends.within;
                start = λ other. absurd (other (get_or-drop word text 0 0 ∙ ap (λ n. get_or text n 0) (omega arith) ∙ ends.space));
              })
              ∙ rest_drop text name place word ends.within
        ]
  ]
]

-- a text that begins with a space can be cut there
pub past_cut : (first : ℕ) (text : List ℕ) (place : ℕ) → get_or text 0 0 ≡ 32 → HasNoStop first text place → IsCut text place
    → (name : List ℕ) → 0 < length name → get_or name 0 0 ≡ first → field_of text name ≡ field_of (from place text) name
past_cut first text place space goes cut name some begins =
    passed place first text name place (omega arith) some begins (record { goes = goes; cut = cut; start = λ other. absurd (other space) })
    ∙ ap (λ t. field_of t name) (sym (take_rest text place))
