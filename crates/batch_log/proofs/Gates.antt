-- What the bytes from an open gate on hold.
use Rattle.std.proofs.Common.{◌≡◌, ◌⊎◌, inl, inr, ⊎_elim, ℕ, ◌+◌, ◌<◌, ◌≤◌, ◌-◌, ◌^◌, Option, Some, List, ◌∷◌, ◌++◌, length, get_or, take, drop, sym, ◌∙◌, ap, subst, arith, append_assoc, length-append, length-drop, take-append-drop}
use Rattle.std.proofs.lemmas.List.{take_at, drop_more, length-take-le}
use Rattle.std.proofs.lemmas.Nat.{from_le_bytes-to_le_bytes_8}
use Rattle.std.specs.Int.{from_le_bytes, w64}
use Rattle.batch_log.specs.declared.find.Found.{Found}
use Rattle.batch_log.specs.declared.find.Found.TheVariants.{Open, Broken}
use Rattle.batch_log.specs.Batches.{CLOSED, OPEN, length_bytes, batch, IsBroken}
use Rattle.batch_log.specs.Finding.{Begins, Finds}
use Rattle.batch_log.proofs.Writing.{length-length_bytes, length-batch}

pub length_bytes_once : (m n : ℕ) → m < 2 ^ 64 → n < 2 ^ 64 → length_bytes m ≡ length_bytes n → m ≡ n
unfolding length_bytes
length_bytes_once m n m_fits n_fits same =
    sym (from_le_bytes-to_le_bytes_8 m m_fits) ∙ ap (from_le_bytes w64) same ∙ from_le_bytes-to_le_bytes_8 n n_fits

module _ (most : ℕ) (rest tail : List ℕ) (is_open : rest ≡ OPEN ∷ tail) where
  open_not_closed : (after : List ℕ) → rest ≡ CLOSED ∷ after → ⊥
  open_not_closed after closed = omega (arith, ap (λ (l : List ℕ). get_or l 0 0) (sym is_open ∙ closed))

  length_whole : (payload after : List ℕ) (next : ℕ) → rest ≡ batch payload ++ next ∷ after → 10 + length payload ≤ length rest
  length_whole payload after next whole =
      omega (arith, ap length whole, length-append (batch payload) (next ∷ after), length-batch payload)

  pub broken_short : length rest < 10 → IsBroken most rest
  broken_short short = record {
    not_closed = open_not_closed;
    not_open = λ payload after next within whole. omega (arith, length_whole payload after next whole);
  }

  module _ (n : ℕ) (field : take 8 tail ≡ length_bytes n) where
    length_is : (payload after : List ℕ) (next : ℕ) → n < 2 ^ 64 → length payload < 2 ^ 64 → rest ≡ batch payload ++ next ∷ after → n ≡ length payload
    length_is payload after next n_fits fits whole =
        let tail_is : tail ≡ length_bytes (length payload) ++ (payload ++ next ∷ after) =
        ap (drop 1) (sym is_open ∙ whole) ∙ append_assoc (length_bytes (length payload)) payload (next ∷ after) in
        length_bytes_once n (length payload) n_fits fits
        (sym field ∙ ap (take 8) tail_is ∙ take_at (length_bytes (length payload)) (payload ++ next ∷ after) 8 (length-length_bytes (length payload)))

    pub broken_long : n < 2 ^ 64 → most ≤ 2 ^ 30 → (most < n) ⊎ (length rest ≤ 9 + n) → IsBroken most rest
    broken_long n_fits few long = record {
      not_closed = open_not_closed;
      not_open = λ payload after next within whole.
          let same : n ≡ length payload = length_is payload after next n_fits (omega (arith, within, few)) whole in
          ⊎_elim (λ (over : most < n). omega (arith, same, within, over)) (λ (past : length rest ≤ 9 + n). omega (arith, same, past, length_whole payload after next whole)) long;
    }

    pub begins : n ≤ most → 9 + n < length rest → Begins most n rest
    begins short room =
        let body = drop 8 tail in
        let size : length rest ≡ 1 + length tail = omega (arith, ap length is_open) in
        let size_body : length body ≡ length tail - 8 = length-drop 8 tail in
        let payload = take n body in
        let next = get_or body n 0 in
        let long : length payload ≡ n = length-take-le n body (omega (arith, size, size_body, room)) in
        let after = drop (n + 1) body in
        let body_is : body ≡ payload ++ next ∷ after =
        sym (take-append-drop n body) ∙ ap (λ (l : List ℕ). payload ++ l) (drop_more body n 0 (omega (arith, size, size_body, room))) in
        let field_is : take 8 tail ≡ length_bytes (length payload) = field ∙ ap length_bytes (sym long) in
        record {
          payload = payload;
          next = next;
          after = after;
          spelled = is_open ∙ ap (λ (l : List ℕ). OPEN ∷ l) (sym (take-append-drop 8 tail)) ∙ (λ i. OPEN ∷ (field_is i ++ body_is i))
              ∙ ap (λ (l : List ℕ). OPEN ∷ l) (sym (append_assoc (length_bytes (length payload)) payload (next ∷ after)));
          long = long;
          short = short;
        }

  -- what was judged of the length that was read is so
  pub judged : (found : Found) (read : Option ℕ) (n room : ℕ) → read ≡ Some n → room ≡ length rest → most ≤ 2 ^ 30
      → ((m : ℕ) × (read ≡ Some m) × (m < 2 ^ 64) × (take 8 tail ≡ length_bytes m))
      → ((found ≡ Open n) × (n ≤ most) × (9 + n < room)) ⊎ ((found ≡ Broken) × ((most < n) ⊎ (room ≤ 9 + n)))
      → Finds most rest found
  judged found read n room some is few field judgement =
      let same : field.0 ≡ n = cc (field.1, some) in
      let fits : n < 2 ^ 64 = omega (arith, same, field.2) in
      let spelled = field.3 ∙ ap length_bytes same in
      ⊎_elim
      (λ (whole : (found ≡ Open n) × (n ≤ most) × (9 + n < room)). subst (Finds most rest) (sym whole.0) (begins n spelled whole.1 (omega (arith, is, whole.2))))
      (λ (broken : (found ≡ Broken) × ((most < n) ⊎ (room ≤ 9 + n))). subst (Finds most rest) (sym broken.0)
      (broken_long n spelled fits few (⊎_elim (λ over. inl over) (λ (past : room ≤ 9 + n). inr (omega (arith, is, past))) broken.1)))
      judgement
