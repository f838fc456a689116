-- Reading a value from the first bytes of a list. A reader of the code gives what a function on lists gives, and these
-- functions are put together from a few parts, each with one law: what is spelled is read again, and nothing else is read.
use Rattle.std.specs.Prelude.{◌≡◌, ℕ, zero, suc, List, [], ◌∷◌, ◌++◌, length, take, drop, Option, Some, None, Result, Ok, Err, Bool, nat_lt, ◌==◌, if◌then◌else◌, ⊤}
use Rattle.std.specs.List.{flat_map}
use Rattle.std.specs.Int.{Width, w32, byte_len, from_le_bytes, to_le_bytes}
use Rattle.row_codec.specs.declared.fault.RowRead.{RowRead}
use Rattle.row_codec.specs.declared.fault.RowRead.TheVariants as faults

-- a value that was read and the bytes after it, or none if no prefix of the bytes spells one
abbrev pub Parsed : Type 0 → Type 0
Parsed A = Option (A × List ℕ)

infixl 10 ◌>>=◌
abbrev pub ◌>>=◌ : {A B : Type 0} → Option A → (A → Option B) → Option B
None >>= f = None
(Some x) >>= f = f x

-- what a function that allocates nothing returned, seen by view, is what reading gives
abbrev pub Gives : {X Y E : Type 0} → (X → Y) → Result X E → Option Y → Type 0
Gives view (Ok x) read = read ≡ Some (view x)
Gives view (Err e) read = read ≡ None

-- the fault of a reading: Malformed only if nothing was read; NoMemory says nothing of the bytes
abbrev pub IsFaultOf : {Y : Type 0} → RowRead → Option Y → Type 0
IsFaultOf faults.Malformed read = read ≡ None
IsFaultOf faults.NoMemory read = ⊤

-- what a function that allocates returned, seen by view, is what reading gives, or an allocation failed
abbrev pub GivesIfMemory : {X Y : Type 0} → (X → Y) → Result X RowRead → Option Y → Type 0
GivesIfMemory view (Ok x) read = read ≡ Some (view x)
GivesIfMemory view (Err e) read = IsFaultOf e read

-- a value and then another one
abbrev pub both_at : {A B : Type 0} → (List ℕ → Parsed A) → (List ℕ → Parsed B) → List ℕ → Parsed (A × B)
both_at first second bytes = first bytes >>= λ a. second a.1 >>= λ b. Some ((a.0, b.0), b.1)

-- a value that stands for another one, or for none, as a flag that is 2
abbrev pub seen_at : {A B : Type 0} → (A → Option B) → (List ℕ → Parsed A) → List ℕ → Parsed B
seen_at view read bytes = read bytes >>= λ a. view a.0 >>= λ b. Some (b, a.1)

-- one byte
abbrev pub byte_at : List ℕ → Parsed ℕ
byte_at [] = None
byte_at (byte ∷ rest) = Some (byte, rest)

-- a number of 4 or 8 bytes, least byte first
unfoldable pub number_at : Width → List ℕ → Parsed ℕ
number_at w bytes = if nat_lt (length bytes) (byte_len w) then None else Some (from_le_bytes w (take (byte_len w) bytes), drop (byte_len w) bytes)

unfoldable pub number : Width → ℕ → List ℕ
number w n = to_le_bytes w n

-- n bytes
abbrev pub piece_at : ℕ → List ℕ → Parsed (List ℕ)
piece_at n bytes = if nat_lt (length bytes) n then None else Some (take n bytes, drop n bytes)

-- a text: its length in 4 bytes, then its bytes
unfoldable pub text_at : List ℕ → Parsed (List ℕ)
text_at bytes = number_at w32 bytes >>= λ n. piece_at n.0 n.1

unfoldable pub text : List ℕ → List ℕ
text bytes = number w32 (length bytes) ++ bytes

-- n values, one after the other
unfoldable pub many_at : {A : Type 0} → (List ℕ → Parsed A) → ℕ → List ℕ → Parsed (List A)
many_at read zero bytes = Some ([], bytes)
many_at read (suc n) bytes = read bytes >>= λ a. many_at read n a.1 >>= λ others. Some (a.0 ∷ others.0, others.1)

-- a list: the number of its values in 4 bytes, then the values
abbrev pub list_at : {A : Type 0} → (List ℕ → Parsed A) → List ℕ → Parsed (List A)
list_at read bytes = number_at w32 bytes >>= λ n. many_at read n.0 n.1

abbrev pub list : {A : Type 0} → (A → List ℕ) → List A → List ℕ
list spelled values = number w32 (length values) ++ flat_map spelled values

-- a flag, and the value if it is 1
abbrev pub option_at : {A : Type 0} → (List ℕ → Parsed A) → List ℕ → Parsed (Option A)
option_at read [] = None
option_at read (zero ∷ rest) = Some (None, rest)
option_at read (suc zero ∷ rest) = read rest >>= λ a. Some (Some a.0, a.1)
option_at read (suc (suc b) ∷ rest) = None

abbrev pub option : {A : Type 0} → (A → List ℕ) → Option A → List ℕ
option spelled None = 0 ∷ []
option spelled (Some a) = 1 ∷ spelled a

abbrev pub FitsOption : {A : Type 0} → (A → Type 0) → Option A → Type 0
FitsOption F None = ⊤
FitsOption F (Some a) = F a

-- the bytes after a given first byte
abbrev pub rest_after : ℕ → List ℕ → Option (List ℕ)
rest_after first bytes = byte_at bytes >>= λ b. if b.0 == first then Some b.1 else None

-- a given byte and then a value
abbrev pub after_at : {A : Type 0} → ℕ → (List ℕ → Parsed A) → List ℕ → Parsed A
after_at first read bytes = rest_after first bytes >>= read
