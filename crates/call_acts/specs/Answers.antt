-- What a call answered, and what its arguments say.
use Rattle.std.specs.Prelude.{ℕ, ◌%◌, ◌^◌, ◌==◌, ◌&&◌, Bool, true, false, not, List, [], Option, None, Some, ℤ, pos, negsuc, nat_lt, if◌then◌else◌}
use Rattle.std.specs.Int.Bits.{bit_and}
use Rattle.audit_record.specs.declared.types.Syscall.{Syscall}

-- the call succeeded, and says so
abbrev pub succeeded : Option Bool → Bool
succeeded None = false
succeeded (Some success) = success

-- the call is ok
abbrev pub is_ok : Syscall → Bool
is_ok call = succeeded call.success

-- an answer of at least 1
abbrev pub is_positive : Option ℤ → Bool
is_positive None = false
is_positive (Some (pos n)) = nat_lt 0 n
is_positive (Some (negsuc n)) = false

-- the call is ok and moved at least one byte
abbrev pub moved : Syscall → Bool
moved call = is_ok call && is_positive call.exit

-- the number of 32 bits that an answer is
abbrev pub number_in : Option ℤ → Option ℕ
number_in None = None
number_in (Some (pos n)) = if nat_lt n (2 ^ 32) then Some n else None
number_in (Some (negsuc n)) = None

-- the descriptor that a call which is ok answered
abbrev pub answered : Syscall → Option ℕ
answered call = if is_ok call then number_in call.exit else None

-- the answer -115 of a connect that goes on by itself
abbrev pub goes_on : Option ℤ → Bool
goes_on None = false
goes_on (Some (pos n)) = false
goes_on (Some (negsuc n)) = n == 114

-- the descriptor that an argument is: its low 32 bits
abbrev pub fd : ℕ → ℕ
fd argument = argument % 2 ^ 32

-- the argument has this flag
abbrev pub has : ℕ → ℕ → Bool
has argument flag = not (bit_and argument flag == 0)

-- these if it is so, else none
abbrev pub when : {A : Type 0} → Bool → List A → List A
when true items = items
when false items = []

-- what a number gives, if there is one
abbrev pub for_number : {A : Type 0} → Option ℕ → (ℕ → List A) → List A
for_number None gives = []
for_number (Some n) gives = gives n
