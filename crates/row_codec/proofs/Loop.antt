-- Reading n values one after the other, as a loop does.
use Rattle.std.proofs.Common.{◌≡◌, ℕ, suc, ◌-◌, ◌+◌, ◌≤◌, ◌<◌, List, [], ◌∷◌, ◌++◌, Option, Some, None, refl, sym, ap, ◌∙◌, append_assoc, arith}
use Rattle.std.proofs.lemmas.List.{append-nil}
use Rattle.row_codec.specs.declared.fault.RowRead.{RowRead}
use Rattle.row_codec.specs.declared.fault.RowRead.TheVariants as faults
use Rattle.row_codec.specs.Parsing.{Parsed, ◌>>=◌, IsFaultOf, many_at}

-- what was read before, and what is still read
abbrev pub with_earlier : {A : Type 0} → List A → Parsed (List A) → Parsed (List A)
with_earlier before read = read >>= λ x. Some (before ++ x.0, x.1)

regroup : {A : Type 0} (before : List A) (a : A) (read : Parsed (List A)) → with_earlier before (read >>= λ x. Some (a ∷ x.0, x.1)) ≡ with_earlier (before ++ a ∷ []) read
regroup {A = A} before a (Some x) = ap (λ (found : List A). Some (found, x.1)) (simp append_assoc)
regroup before a None = refl

pub goes_on : {A : Type 0} (read : List ℕ → Parsed A) (before : List A) (count i : ℕ) (bytes : List ℕ) (a : A) (after : List ℕ) (total : Parsed (List A)) → i < count → read bytes ≡ Some (a, after)
    → with_earlier before (many_at read (count - i) bytes) ≡ total → with_earlier (before ++ a ∷ []) (many_at read (count - (i + 1)) after) ≡ total
unfolding many_at
goes_on read before count i bytes a after total lt h so_far =
    let k : count - i ≡ suc (count - (i + 1)) = omega arith in
    let one : with_earlier before (many_at read (count - i) bytes) ≡ with_earlier (before ++ a ∷ []) (many_at read (count - (i + 1)) after) = rw (k, h) (regroup before a (many_at read (count - (i + 1)) after)) in
    sym one ∙ so_far

pub ends : {A : Type 0} (e : RowRead) (read : List ℕ → Parsed A) (before : List A) (count i : ℕ) (bytes : List ℕ) (total : Parsed (List A)) → i < count → IsFaultOf e (read bytes)
    → with_earlier before (many_at read (count - i) bytes) ≡ total → IsFaultOf e total
unfolding many_at
ends faults.NoMemory read before count i bytes total lt h so_far = tt
ends {A = A} faults.Malformed read before count i bytes total lt h so_far =
    let k : count - i ≡ suc (count - (i + 1)) = omega arith in
    let one : with_earlier before (many_at read (count - i) bytes) ≡ None = rw (k, h) refl in
    sym so_far ∙ one

pub is_done : {A : Type 0} (read : List ℕ → Parsed A) (before : List A) (count i : ℕ) (bytes : List ℕ) (total : Parsed (List A)) → count ≤ i → with_earlier before (many_at read (count - i) bytes) ≡ total → total ≡ Some (before, bytes)
unfolding many_at
is_done {A = A} read before count i bytes total le so_far =
    let k : count - i ≡ 0 = omega arith in
    let one : with_earlier before (many_at read (count - i) bytes) ≡ Some (before, bytes) = rw k (ap (λ (found : List A). Some (found, bytes)) (append-nil before)) in
    sym so_far ∙ one
