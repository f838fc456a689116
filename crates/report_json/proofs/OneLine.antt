-- Compact JSON has no line feed.
use Rattle.std.proofs.Common.{◌≡◌, ◌≢◌, ◌<◌, ◌+◌, ◌/◌, ◌%◌, ◌==◌, ◌||◌, refl, ℕ, zero, suc, Bool, true, false, not, cond, List, [], ◌∷◌, ◌++◌, nat_lt, decimal, arith, pos, negsuc, ℤ, inl, inr}
use Rattle.std.specs.List.{AllByRecursion, list_all}
use Rattle.std.specs.Fmt.{digits, digits_onto, digit_glyph, signed_decimal}
use Rattle.std.specs.Char.{digit_char}
use Rattle.std.proofs.lemmas.Bool.{and_parts, not-true, eqb-false, eqb-true, or_cases, ltb-false}
use Rattle.json.specs.Print.{escape_letter, escape_byte, escape, quoted}
use Rattle.serde_json.specs.Data.{Num, unsigned, negative, float, Data, null, boolean, number, string, array, object, Items, no_items, item, Members, no_members, member}
use Rattle.serde_json.specs.Written.{number_text, comma_if, compact_text, items_text, members_text}
use Rattle.report_json.specs.Replies.{IsLine, data_of, text_of}
use Rattle.report_json.specs.declared.reply.Reply.{Reply}

-- no byte of the text is a line feed
abbrev HasNone : List ℕ → Type 0
HasNone text = AllByRecursion (λ byte. byte ≢ 10) text

abbrev other : ℕ → Bool
other byte = not (byte == 10)

isnt : (byte : ℕ) → (byte == 10) ≡ false → byte ≢ 10
isnt byte fails = eqb-false byte 10 fails

-- a text that is written out
known : (text : List ℕ) → list_all other text ≡ true → HasNone text
known [] passes = tt
known (byte ∷ text) passes =
    let parts = and_parts _ _ passes in
    (isnt byte (not-true (byte == 10) parts.0), known text parts.1)

joined : (first second : List ℕ) → HasNone first → HasNone second → HasNone (first ++ second)
joined [] second none more = more
joined (byte ∷ first) second none more = (none.0, joined first second none.1 more)

either : (test : Bool) (a b : List ℕ) → (test ≡ true → HasNone a) → (test ≡ false → HasNone b) → HasNone (cond test a b)
either true a b first second = first refl
either false a b first second = second refl

-- ---- digits

either_isnt : (test : Bool) (a b : ℕ) → (test ≡ true → a ≢ 10) → (test ≡ false → b ≢ 10) → cond test a b ≢ 10
either_isnt true a b first second = first refl
either_isnt false a b first second = second refl

above : (low n : ℕ) → 10 < low → low + n ≢ 10
above low n more same = absurd (omega (arith, same, more))

glyph_isnt : (d : ℕ) → digit_glyph false d ≢ 10
glyph_isnt d = either_isnt (nat_lt d 10) (48 + d) (87 + d) (λ _. above 48 d (omega arith)) (λ _. above 87 d (omega arith))

char_isnt : (d : ℕ) → digit_char d ≢ 10
char_isnt d = either_isnt (nat_lt d 10) (48 + d) (87 + d) (λ _. above 48 d (omega arith)) (λ _. above 87 d (omega arith))

digits_have_none : (k n : ℕ) (later : List ℕ) → HasNone later → HasNone (digits_onto k 10 false n later)
digits_have_none zero n later none = none
digits_have_none (suc k) n later none =
    let more : HasNone (digit_glyph false (n % 10) ∷ later) = (glyph_isnt (n % 10), none) in
    either (n / 10 == 0) (digit_glyph false (n % 10) ∷ later) (digits_onto k 10 false (n / 10) (digit_glyph false (n % 10) ∷ later))
    (λ _. more) (λ _. digits_have_none k (n / 10) (digit_glyph false (n % 10) ∷ later) more)

decimal_has_none : (n : ℕ) → HasNone (decimal n)
unfolding digits
decimal_has_none n = digits_have_none 64 n [] tt

signed_has_none : (z : ℤ) → HasNone (signed_decimal z)
signed_has_none (pos n) = decimal_has_none n
signed_has_none (negsuc n) = (isnt 45 refl, decimal_has_none (suc n))

number_has_none : (n : Num) → HasNone (number_text n)
number_has_none (unsigned n) = decimal_has_none n
number_has_none (negative z) = signed_has_none z
number_has_none (float x) = tt

-- ---- strings

own_letter : (x : ℕ) → ((x == 34) || (x == 92)) ≡ true → x ≢ 10
own_letter x is same = absurd (elim (or_cases (x == 34) (x == 92) is) [
  | inl quote ↦ omega (arith, eqb-true x 34 quote, same)
  | inr back ↦ omega (arith, eqb-true x 92 back, same)
])

letter_isnt : (x : ℕ) → escape_letter x ≢ 10
letter_isnt x =
    either_isnt ((x == 34) || (x == 92)) x _ (own_letter x) (λ _.
    either_isnt (x == 8) 98 _ (λ _. isnt 98 refl) (λ _.
    either_isnt (x == 12) 102 _ (λ _. isnt 102 refl) (λ _.
    either_isnt (x == 10) 110 _ (λ _. isnt 110 refl) (λ _.
    either_isnt (x == 13) 114 _ (λ _. isnt 114 refl) (λ _.
    either_isnt (x == 9) 116 0 (λ _. isnt 116 refl) (λ _. isnt 0 refl))))))

high_isnt : (x : ℕ) → nat_lt x 32 ≡ false → x ≢ 10
high_isnt x high same = absurd (omega (arith, ltb-false x 32 high, same))

-- two digits behind `\u00`
unicode_has_none : (x : ℕ) → HasNone (92 ∷ 117 ∷ 48 ∷ 48 ∷ digit_char (x / 16) ∷ digit_char (x % 16) ∷ [])
unicode_has_none x =
    let pair : HasNone (digit_char (x / 16) ∷ digit_char (x % 16) ∷ []) = (char_isnt (x / 16), (char_isnt (x % 16), tt)) in
    joined (92 ∷ 117 ∷ 48 ∷ 48 ∷ []) (digit_char (x / 16) ∷ digit_char (x % 16) ∷ []) (known (92 ∷ 117 ∷ 48 ∷ 48 ∷ []) refl) pair

unless_letter : (x : ℕ) → HasNone (cond (nat_lt x 32) (92 ∷ 117 ∷ 48 ∷ 48 ∷ digit_char (x / 16) ∷ digit_char (x % 16) ∷ []) (x ∷ []))
unless_letter x = either (nat_lt x 32) _ (x ∷ []) (λ _. unicode_has_none x) (λ high. (high_isnt x high, tt))

byte_has_none : (x : ℕ) → HasNone (escape_byte x)
unfolding escape_byte
byte_has_none x = either (nat_lt 0 (escape_letter x)) (92 ∷ escape_letter x ∷ []) _ (λ _. (isnt 92 refl, (letter_isnt x, tt))) (λ _. unless_letter x)

escape_has_none : (s : List ℕ) → HasNone (escape s)
escape_has_none [] = tt
escape_has_none (x ∷ s) = joined (escape_byte x) (escape s) (byte_has_none x) (escape_has_none s)

quoted_has_none : (s : List ℕ) → HasNone (quoted s)
quoted_has_none s = (isnt 34 refl, joined (escape s) (34 ∷ []) (escape_has_none s) (isnt 34 refl, tt))

-- ---- values

comma_has_none : (later : Bool) → HasNone (comma_if later)
comma_has_none true = (isnt 44 refl, tt)
comma_has_none false = tt

boolean_has_none : (b : Bool) → HasNone (compact_text (boolean b))
boolean_has_none true = known (compact_text (boolean true)) refl
boolean_has_none false = known (compact_text (boolean false)) refl

mutual
  value_has_none : (value : Data) → HasNone (compact_text value)
  value_has_none null = known (compact_text null) refl
  value_has_none (boolean b) = boolean_has_none b
  value_has_none (number n) = number_has_none n
  value_has_none (string s) = quoted_has_none s
  value_has_none (array items) = (isnt 91 refl, items_have_none false items)
  value_has_none (object members) = (isnt 123 refl, members_have_none false members)

  items_have_none : (later : Bool) (items : Items) → HasNone (items_text later items)
  items_have_none later no_items = (isnt 93 refl, tt)
  items_have_none later (item value items) =
      joined (comma_if later) _ (comma_has_none later) (joined (compact_text value) _ (value_has_none value) (items_have_none true items))

  members_have_none : (later : Bool) (members : Members) → HasNone (members_text later members)
  members_have_none later no_members = (isnt 125 refl, tt)
  members_have_none later (member key value members) =
      joined (comma_if later) _ (comma_has_none later) (joined (quoted key) _ (quoted_has_none key)
      (isnt 58 refl, joined (compact_text value) _ (value_has_none value) (members_have_none true members)))

pub reply_is_line : (said : Reply) → IsLine (text_of said)
reply_is_line said = (compact_text (data_of said), refl, value_has_none (data_of said))
