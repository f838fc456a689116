-- Tokens that are passed over.
use Rattle.std.proofs.Common.{◌≡◌, ◌≢◌, ◌<◌, ◌≤◌, ◌∙◌, sym, ap, refl, ℕ, ◌+◌, ◌-◌, ◌==◌, ◌||◌, List, [], ◌∷◌, length, take, drop, get_or, Bool, true, false, None, Some, arith, ◌⊎◌, inl, inr, nat_lt, if◌then◌else◌}
use Rattle.std.specs.List.{position_or_len}
use Rattle.std.specs.Option.{option_to_list}
use Rattle.std.specs.Str.{bytes_eq}
use Rattle.std.proofs.lemmas.Bool.{ne_eqb, eqb-true, eqb-false, cond-true, cond-false, cases_lt, lt-ltb, le-ltb}
use Rattle.std.proofs.lemmas.Slice.Eq.{bytes_eq-Decides}
use Rattle.std.proofs.lemmas.List.{get_or-take, get_or-drop, get_or_past, length-drop, length-take-le, take_rest}
use Rattle.std.proofs.lemmas.List.Sums.{fails_before_first, passes_at_first, prefix_len-le-length}
use Rattle.memchr.specs.Find.{is_byte, is_byte2}
use Rattle.audit_lex.specs.Tokens.{token_at, token_len, word_len, name_len, value_len, quoted_len, value_in}
use Rattle.audit_lex.specs.FieldTable.{name_of}
use Rattle.audit_lex.specs.declared.fields.Field.{Field}
use Rattle.audit_lex.specs.declared.fields.Field.TheVariants as field
use Rattle.audit_lex.proofs.TokenLemmas.{word_ends, from}

-- ---- a token without a quote

neither : (a b : Bool) → (a || b) ≡ false → (a ≡ false) × (b ≡ false)
neither true b is = cc is
neither false b is = (refl, is)

unquoted : (text : List ℕ) → get_or text 0 0 ≢ 34 → quoted_len text ≡ 0
unquoted [] isnt = refl
unquoted (byte ∷ rest) isnt = cond-false (byte == 34) _ _ (ne_eqb _ _ isnt)

-- a value without a quote ends before the next space
pub plain_value : (text : List ℕ) → get_or text 0 0 ≢ 34 → value_len text ≡ word_len text
plain_value text isnt =
    let whole : 0 + word_len text ≡ word_len text = omega arith in
    ap (λ n. n + position_or_len (is_byte 32) (drop n text)) (unquoted text isnt) ∙ whole

-- up to here stands neither a space nor a quote, and here the text ends or a space stands
abbrev IsPlain : List ℕ → ℕ → Type 0
IsPlain text end = (end ≡ position_or_len (is_byte2 32 34) text) × ((end ≡ length text) ⊎ (get_or text end 0 ≡ 32))

plain_byte : (text : List ℕ) (end k : ℕ) → IsPlain text end → k < end → (is_byte 32 (get_or text k 0) ≡ false) × (is_byte 34 (get_or text k 0) ≡ false)
plain_byte text end k plain below = neither _ _ (fails_before_first (is_byte2 32 34) text k 0 (omega (arith, below, plain.0)))

plain_within : (text : List ℕ) (end : ℕ) → IsPlain text end → end ≤ length text
plain_within text end plain = let short : position_or_len (is_byte2 32 34) text ≤ length text = prefix_len-le-length _ text in omega (arith, plain.0, short)

plain_word : (text : List ℕ) (end : ℕ) → IsPlain text end → end ≡ word_len text
plain_word text end plain = word_ends text end (plain_within text end plain) (λ k below. (plain_byte text end k plain below).0) (λ some. elim plain.1 [
  | inl whole ↦ absurd (omega (arith, some, whole))
  | inr space ↦ space
])

-- no byte up to the end is a quote, nor is the one there
no_quote : (text : List ℕ) (end k : ℕ) → IsPlain text end → k ≤ end → get_or text k 0 ≢ 34
no_quote text end k plain within quote = elim (cases_lt k end) [
  | inl below ↦ (eqb-false (get_or text k 0) 34 (plain_byte text end k plain below).1) quote
  | inr past ↦ elim plain.1 [
    | inl whole ↦ let none = get_or_past text k 0 (omega (arith, past, whole)) in absurd (omega (arith, none, quote))
    | inr space ↦ let same : get_or text k 0 ≡ get_or text end 0 = ap (λ n. get_or text n 0) (let e : k ≡ end = omega (arith, past, within) in e) in absurd (omega (arith, same, space, quote))
  ]
]

-- the rest of the word is the value
rest_of_word : (text : List ℕ) (end name : ℕ) → IsPlain text end → name < end → name + 1 + value_len (drop (name + 1) text) ≡ end
rest_of_word text end name plain below =
    let rest = drop (name + 1) text in
    let within = plain_within text end plain in
    let size = length-drop (name + 1) text in
    let ends : end - (name + 1) ≡ word_len rest = word_ends rest (end - (name + 1)) (omega (arith, size, within))
    (λ k inside. ap (is_byte 32) (get_or-drop (name + 1) text k 0) ∙ (plain_byte text end (name + 1 + k) plain (omega (arith, inside))).0)
    (λ some. get_or-drop (name + 1) text (end - (name + 1)) 0 ∙ ap (λ n. get_or text n 0) (let e : name + 1 + (end - (name + 1)) ≡ end = omega (arith, below) in e) ∙ elim plain.1 [
      | inl whole ↦ absurd (omega (arith, some, size, whole))
      | inr space ↦ space
    ]) in
    let value = plain_value rest (λ quote. no_quote text end (name + 1) plain (omega (arith, below)) (sym (get_or-drop (name + 1) text 0 0 ∙ ap (λ n. get_or text n 0) (let e : name + 1 + 0 ≡ name + 1 = omega arith in e)) ∙ quote)) in
    omega (arith, ends, value, below)

-- a token that is plain up to here ends here
pub plain_token : (text : List ℕ) (end : ℕ) → end ≡ position_or_len (is_byte2 32 34) text → (end ≡ length text) ⊎ (get_or text end 0 ≡ 32) → token_len text ≡ end
plain_token text end is ends =
    let plain : IsPlain text end = (is, ends) in
    let word = plain_word text end plain in
    elim (cases_lt (name_len text) (word_len text)) [
      | inl goes ↦ cond-true (nat_lt (name_len text) (word_len text)) _ _ (lt-ltb _ _ goes) ∙ rest_of_word text end (name_len text) plain (omega (arith, goes, word))
      | inr bare ↦ cond-false (nat_lt (name_len text) (word_len text)) _ _ (le-ltb _ _ bare) ∙ sym word
    ]

-- the code cuts the token off
pub past_plain : (text : List ℕ) (end : ℕ) → end ≡ position_or_len (is_byte2 32 34) text → (end ≡ length text) ⊎ (get_or text end 0 ≡ 32)
    → from end text ≡ drop (token_len text) text
past_plain text end is ends = take_rest text end ∙ ap (λ n. drop n text) (sym (plain_token text end is ends))

-- ---- a token of another name

-- each name has a byte
pub name_some : (f : Field) → 0 < length (name_of f)
name_some field.Arch = omega arith
name_some field.Syscall = omega arith
name_some field.Success = omega arith
name_some field.Exit = omega arith
name_some field.A0 = omega arith
name_some field.A1 = omega arith
name_some field.A2 = omega arith
name_some field.A3 = omega arith
name_some field.Ppid = omega arith
name_some field.Pid = omega arith
name_some field.Exe = omega arith
name_some field.Item = omega arith
name_some field.Name = omega arith
name_some field.Inode = omega arith
name_some field.Dev = omega arith
name_some field.Nametype = omega arith
name_some field.Objtype = omega arith
name_some field.Cwd = omega arith
name_some field.Saddr = omega arith
name_some field.Fd0 = omega arith
name_some field.Fd1 = omega arith
name_some field.Fd = omega arith

-- the first token has this name only if it begins the text, with an `=` after it
record Begins (text name : List ℕ) : Type 0 where
  word : length name < length text
  sign : get_or text (length name) 0 ≡ 61
  first : 0 < length name → get_or text 0 0 ≡ get_or name 0 0

begins_so : (text name : List ℕ) → name_len text < word_len text → take (name_len text) text ≡ name → Begins text name
begins_so text name goes same =
    let within : word_len text ≤ length text = prefix_len-le-length _ text in
    let size : length name ≡ name_len text = ap length (sym same) ∙ length-take-le (name_len text) text (omega (arith, goes, within)) in
    let cut = length-take-le (word_len text) text within in
    let sign = passes_at_first (is_byte 61) (take (word_len text) text) 0 (omega (arith, goes, cut)) in
    record {
      word = omega (arith, size, goes, within);
      sign = ap (λ n. get_or text n 0) size ∙ sym (get_or-take (word_len text) text (name_len text) 0 goes) ∙ eqb-true _ _ sign;
      first = λ some. sym (get_or-take (name_len text) text 0 0 (omega (arith, some, size))) ∙ ap (λ bytes. get_or bytes 0 0) same;
    }

unless : (same : Bool) (value : List ℕ) → ((same ≡ true) → ⊥) → (if same then Some value else None) ≡ None
unless true value not = absurd (not refl)
unless false value not = refl

-- a text that doesn't begin so has another name
not_named : (text name : List ℕ) → (Begins text name → ⊥) → value_in (option_to_list (token_at text)) name ≡ None
not_named text name not = elim (cases_lt (name_len text) (word_len text)) [
  | inl goes ↦
      ap (λ token. value_in (option_to_list token) name) (cond-true (nat_lt (name_len text) (word_len text)) _ _ (lt-ltb _ _ goes))
      ∙ unless (bytes_eq (take (name_len text) text) name) _ (λ same. not (begins_so text name goes ((bytes_eq-Decides (take (name_len text) text) name).0 same)))
  | inr bare ↦ ap (λ token. value_in (option_to_list token) name) (cond-false (nat_lt (name_len text) (word_len text)) _ _ (le-ltb _ _ bare))
]

pub too_short : (text name : List ℕ) → length text ≤ length name → value_in (option_to_list (token_at text)) name ≡ None
too_short text name short = not_named text name (λ begins. absurd (omega (arith, short, begins.word)))

pub other_first : (text name : List ℕ) → 0 < length name → get_or text 0 0 ≢ get_or name 0 0 → value_in (option_to_list (token_at text)) name ≡ None
other_first text name some other = not_named text name (λ begins. other (begins.first some))

pub no_sign : (text name : List ℕ) → (get_or text (length name) 0 == 61) ≡ false → value_in (option_to_list (token_at text)) name ≡ None
no_sign text name other = not_named text name (λ begins. eqb-false _ _ other begins.sign)
