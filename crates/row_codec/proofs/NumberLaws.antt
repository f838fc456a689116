-- The law of a byte, of a number and of a text.
use Rattle.std.proofs.Common.{◌≡◌, ℕ, zero, suc, ◌+◌, ◌^◌, ◌<◌, ◌≤◌, Bool, true, false, cond, ltb, List, [], ◌∷◌, ◌++◌, length, get_or, take, drop, Option, Some, None, refl, sym, ap, subst, ◌∙◌, append_assoc, arith, inl, inr}
use Rattle.std.specs.Int.{Width, w32, w64, byte_len, from_le_bytes, to_le_bytes}
use Rattle.std.proofs.lemmas.Bool.{cases_lt, ltb-false, le-ltb}
use Rattle.std.proofs.lemmas.List.{take_at, drop_at, take-append-drop, length-append, length-take, get_or-take, get_or_past}
use Rattle.std.proofs.lemmas.Nat.{le_bytes_4, le_bytes_8, from_le_bytes-to_le_bytes_4, from_le_bytes-to_le_bytes_8}
use Rattle.row_codec.specs.Parsing.{Parsed, ◌>>=◌, byte_at, number_at, number, piece_at, text_at, text}
use Rattle.row_codec.proofs.ExactLaws.{IsBytes, IsExact, parsed_parts, bind_some}

IsBytes-take : (n : ℕ) (bytes : List ℕ) → IsBytes bytes → IsBytes (take n bytes)
IsBytes-take n bytes h i =
    elim (cases_lt i n) [
      | inl lt ↦ rw (get_or-take n bytes i 0 lt) (h i)
      | inr le ↦ rw (get_or_past (take n bytes) i 0 (omega (arith, length-take n bytes))) (omega arith)
    ]

-- ---- a byte, and numbers

byte_only : (bytes : List ℕ) (n : ℕ) (rest : List ℕ) → IsBytes bytes → byte_at bytes ≡ Some (n, rest) → (n < 256) × (bytes ≡ n ∷ rest)
byte_only [] n rest are e = absurd cc
byte_only (b ∷ bytes) n rest are e = let is = parsed_parts b bytes n rest e in (rw (← is.0) (are 0), rw (is.0, is.1) refl)

pub exact-byte : IsExact (λ n. n ∷ []) byte_at (λ n. n < 256)
exact-byte = record { again = λ n rest fits. refl; only = byte_only }

record IsWide (w : Width) (limit : ℕ) : Type 0 where
  len : (n : ℕ) → length (to_le_bytes w n) ≡ byte_len w
  back : (bytes : List ℕ) → length bytes ≡ byte_len w → IsBytes bytes → to_le_bytes w (from_le_bytes w bytes) ≡ bytes
  again : (n : ℕ) → n < limit → from_le_bytes w (to_le_bytes w n) ≡ n
  below : (bytes : List ℕ) → IsBytes bytes → from_le_bytes w bytes < limit

wide4 : IsWide w32 (2 ^ 32)
wide4 = record {
  len = λ n. refl;
  back = λ bytes len fits. le_bytes_4 bytes _ len fits refl;
  again = λ n lt. from_le_bytes-to_le_bytes_4 n lt;
  below = λ bytes fits. omega (arith, fits 0, fits 1, fits 2, fits 3);
}

wide8 : IsWide w64 (2 ^ 64)
wide8 = record {
  len = λ n. refl;
  back = λ bytes len fits. le_bytes_8 bytes _ len fits refl;
  again = λ n lt. from_le_bytes-to_le_bytes_8 n lt;
  below = λ bytes fits. omega (arith, fits 0, fits 1, fits 2, fits 3, fits 4, fits 5, fits 6, fits 7);
}

guard_some : {A : Type 0} (b : Bool) (x y : A) → cond b None (Some x) ≡ Some y → (b ≡ false) × (x ≡ y)
guard_some true x y e = absurd cc
guard_some false x y e = (refl, cc)

number_again : (w : Width) (limit : ℕ) → IsWide w limit → (n : ℕ) (rest : List ℕ) → n < limit → number_at w (number w n ++ rest) ≡ Some (n, rest)
unfolding number_at number
number_again w limit wide n rest lt =
    let len = wide.len n in
    let long : ltb (length (to_le_bytes w n ++ rest)) (byte_len w) ≡ false = le-ltb _ _ (omega (arith, length-append (to_le_bytes w n) rest)) in
    rw (long, take_at (to_le_bytes w n) rest (byte_len w) len, drop_at (to_le_bytes w n) rest (byte_len w) len, wide.again n lt) refl

number_only : (w : Width) (limit : ℕ) → IsWide w limit → (bytes : List ℕ) (n : ℕ) (rest : List ℕ) → IsBytes bytes → number_at w bytes ≡ Some (n, rest) → (n < limit) × (bytes ≡ number w n ++ rest)
unfolding number_at number
number_only w limit wide bytes n rest are e =
    let g = guard_some (ltb (length bytes) (byte_len w)) (from_le_bytes w (take (byte_len w) bytes), drop (byte_len w) bytes) (n, rest) e in
    let long : byte_len w ≤ length bytes = ltb-false _ _ g.0 in
    let n-is : from_le_bytes w (take (byte_len w) bytes) ≡ n = ap (λ (p : ℕ × List ℕ). p.0) g.1 in
    let rest-is : drop (byte_len w) bytes ≡ rest = ap (λ (p : ℕ × List ℕ). p.1) g.1 in
    let are_front = IsBytes-take (byte_len w) bytes are in
    let front : to_le_bytes w n ≡ take (byte_len w) bytes = rw (← n-is) (wide.back (take (byte_len w) bytes) (omega (arith, length-take (byte_len w) bytes)) are_front) in
    (rw (← n-is) (wide.below (take (byte_len w) bytes) are_front), rw (front, ← rest-is) (sym (take-append-drop (byte_len w) bytes)))

pub exact-n4 : IsExact (number w32) (number_at w32) (λ n. n < 2 ^ 32)
exact-n4 = record { again = number_again w32 (2 ^ 32) wide4; only = number_only w32 (2 ^ 32) wide4 }

pub exact-n8 : IsExact (number w64) (number_at w64) (λ n. n < 2 ^ 64)
exact-n8 = record { again = number_again w64 (2 ^ 64) wide8; only = number_only w64 (2 ^ 64) wide8 }

-- ---- texts

text_again : (t rest : List ℕ) → length t < 2 ^ 32 → text_at (text t ++ rest) ≡ Some (t, rest)
unfolding text_at text
text_again t rest lt =
    let long : ltb (length (t ++ rest)) (length t) ≡ false = le-ltb _ _ (omega (arith, length-append t rest)) in
    let one : number_at w32 ((number w32 (length t) ++ t) ++ rest) ≡ Some (length t, t ++ rest) = rw append_assoc (exact-n4.again (length t) (t ++ rest) lt) in
    rw (one, long, take_at t rest (length t) refl, drop_at t rest (length t) refl) refl

text_parts : (bytes : List ℕ) (n : ℕ) (after t rest : List ℕ) → n < 2 ^ 32 → bytes ≡ number w32 n ++ after → length (take n after) ≡ n → take n after ≡ t → drop n after ≡ rest
    → (length t < 2 ^ 32) × (bytes ≡ text t ++ rest)
unfolding text
text_parts bytes n after t rest lt one len t-is rest-is =
    let n-is : n ≡ length t = sym len ∙ ap length t-is in
    let after-is : after ≡ t ++ rest = sym (take-append-drop n after) ∙ rw (t-is, rest-is) refl in
    (omega arith, one ∙ rw (after-is, append_assoc, ← n-is) refl)

text_only : (bytes t rest : List ℕ) → IsBytes bytes → text_at bytes ≡ Some (t, rest) → (length t < 2 ^ 32) × (bytes ≡ text t ++ rest)
unfolding text_at text
text_only bytes t rest are e =
    let n = bind_some (number_at w32 bytes) (λ n. piece_at n.0 n.1) (t, rest) e in
    let one = exact-n4.only bytes n.0.0 n.0.1 are n.1 in
    let g = guard_some (ltb (length n.0.1) n.0.0) (take n.0.0 n.0.1, drop n.0.0 n.0.1) (t, rest) n.2 in
    let long : n.0.0 ≤ length n.0.1 = ltb-false _ _ g.0 in
    let len : length (take n.0.0 n.0.1) ≡ n.0.0 = omega (arith, length-take n.0.0 n.0.1) in
    text_parts bytes n.0.0 n.0.1 t rest one.0 one.1 len (ap (λ (p : List ℕ × List ℕ). p.0) g.1) (ap (λ (p : List ℕ × List ℕ). p.1) g.1)

pub exact-text : IsExact text text_at (λ t. length t < 2 ^ 32)
exact-text = record { again = text_again; only = text_only }
