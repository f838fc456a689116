-- Numbers in words and blocks, and how many objects flows know.
use Rattle.std.proofs.Common.{◌≡◌, ℕ, ◌+◌, ◌*◌, ◌/◌, ◌%◌, ◌<◌, ◌≤◌, max, List, length, get_or, take, ap, ◌∙◌, arith}
use Rattle.std.specs.Int.{div_ceil}
use Rattle.std.proofs.lemmas.List.{take_more}
use Rattle.flow_base.specs.declared.types.Flow.{Flow}
use Rattle.reach_model.specs.Flows.{source, target}
use Rattle.reach_model.specs.Numbers.{known, beyond}
use Rattle.reach_model.proofs.Numbering.{known_push}

-- this many pages hold this many numbers
pub enough : (n : ℕ) → n ≤ 8192 * div_ceil n 8192
enough n = omega arith

pub place_of : (k j : ℕ) → j < 64 → (64 * k + j) / 64 ≡ k
place_of k j h = omega arith

pub bit_of : (k j : ℕ) → j < 64 → (64 * k + j) % 64 ≡ j
bit_of k j h = omega arith

-- how many objects are known after one more flow, as the code counts
pub known_next : (F : List Flow) (i : ℕ) (d : Flow) (count first last : ℕ) → i < length F → count ≡ known (take i F) → first ≡ max count (source (get_or F i d) + 1) → last ≡ max first (target (get_or F i d) + 1)
    → last ≡ known (take (i + 1) F)
known_next F i d count first last h e a b =
    let m : known (take (i + 1) F) ≡ max (known (take i F)) (beyond (get_or F i d)) = ap known (take_more F i d h) ∙ known_push (take i F) (get_or F i d) in
    omega arith
