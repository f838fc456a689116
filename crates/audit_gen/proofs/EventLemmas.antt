-- One more event.
use Rattle.std.proofs.Common.{◌≡◌, ℕ, zero, suc, ◌+◌, List, ◌++◌, refl, sym, ap, ◌∙◌, append_assoc, arith, add-one}
use Rattle.std.specs.List.{flat_map, range_with_len}
use Rattle.std.proofs.lemmas.List.{append-nil}
use Rattle.rand_pcg.specs.Lcg.{Lcg, advance, next, next_state, state_after}
use Rattle.audit_gen.specs.Logs.{event_text, generated, generator_of, word_after}

-- the texts of one more number
texts_more : (f : ℕ → List ℕ) (from n : ℕ)
    → flat_map f (range_with_len from (n + 1)) ≡ flat_map f (range_with_len from n) ++ f (from + n)
texts_more f from n = rw add-one (more from n)
  where
    more : (from n : ℕ) → flat_map f (range_with_len from (suc n)) ≡ flat_map f (range_with_len from n) ++ f (from + n)
    more from zero = let none : from + 0 ≡ from = omega arith in rw none (append-nil (f from))
    more from (suc n) =
        let same : from + 1 + n ≡ from + suc n = omega arith in
        let between = flat_map f (range_with_len (from + 1) n) in
        ap (λ rest. f from ++ rest) (more (from + 1) n ∙ ap (λ at. between ++ f at) same)
        ∙ sym (append_assoc (f from) between (f (from + suc n)))

-- the log of one more event
pub generated_more : (seed number : ℕ)
    → generated seed (number + 1) ≡ generated seed number ++ event_text number (word_after number (generator_of seed))
generated_more seed number =
    let text : ℕ → List ℕ = λ at. event_text at (word_after at (generator_of seed)) in
    let same : 0 + number ≡ number = omega arith in
    texts_more text 0 number ∙ ap (λ at. generated seed number ++ text at) same

state_more : (w m increment n state : ℕ)
    → state_after w m increment (suc n) state ≡ next_state w m increment (state_after w m increment n state)
unfolding state_after
state_more w m increment zero state = refl
state_more w m increment (suc n) state = state_more w m increment n (next_state w m increment state)

-- a jump of one step more
pub advance_then_next : (w m n : ℕ) (g : Lcg) → next w m (advance w m n g) ≡ advance w m (n + 1) g
advance_then_next w m n g =
    rw add-one (ap (λ state. record g { state = state }) (sym (state_more w m g.increment n g.state)))

-- no step
pub advance_zero : (w m : ℕ) (g : Lcg) → advance w m 0 g ≡ g
unfolding state_after
advance_zero w m g = refl
