-- What a line says of its call and of descriptors.
use Rattle.std.specs.Prelude.{◌≡◌, ℕ, ◌/◌, ◌%◌, ◌^◌, ◌==◌, ◌&&◌, ◌||◌, Bool, true, false, List, [], ◌∷◌, Option, None, Some, option_map, nat_eq, nat_le, codes, if◌then◌else◌}
use Rattle.std.specs.List.{list_any}
use Rattle.std.specs.Option.{option_and_then}
use Rattle.std.specs.Str.{bytes_eq}
use Rattle.audit_lex.specs.LineClass.{Class, Used, class_of}
use Rattle.audit_lex.specs.LineFields.{field_in_line}
use Rattle.audit_lex.specs.Header.{behind}
use Rattle.audit_lex.specs.Values.{dec32_of, hex32_of, hex64_of}
use Rattle.audit_lex.specs.declared.fields.Kind.{Kind}
use Rattle.audit_lex.specs.declared.fields.Kind.TheVariants as kind
use Rattle.order_calls.specs.declared.call.Call.{Call}
use Rattle.order_calls.specs.declared.call.Takes.{Takes}
use Rattle.order_calls.specs.declared.call.Takes.TheVariants as takes
use Rattle.order_calls.specs.declared.deed.Deed.{Deed}
use Rattle.order_calls.specs.declared.deed.Deed.TheVariants as deed
use Rattle.order_calls.specs.Deeds.{Event, Said}
use Rattle.order_calls.specs.Known.{Known, Hears, is_file_at}

-- an octal digit
abbrev pub is_octal : ℕ → Bool
is_octal byte = nat_le 48 byte && nat_le byte 55

-- the end of a word
abbrev pub ends_word : List ℕ → Bool
ends_word [] = true
ends_word (byte ∷ rest) = byte == 32

-- the rest of a word is four octal digits: what a mode allows
abbrev pub allows_after : List ℕ → Bool
allows_after (a ∷ b ∷ c ∷ d ∷ rest) = is_octal a && is_octal b && is_octal c && is_octal d && ends_word rest
allows_after _ = false

abbrev pub if_allows : Option (List ℕ) → Bool
if_allows None = false
if_allows (Some text) = allows_after text

-- A text begins with the mode of a regular file. A mode is written as 0 and its octal digits, and the type of a regular file is 10 before
-- the last four of them.
abbrev pub is_file_mode : List ℕ → Bool
is_file_mode text = if_allows (behind (codes "mode=010") text)

-- whether a word of a line is the mode of a regular file
abbrev pub mode_at : Bool → List ℕ → Bool → Bool
mode_at blank rest later = if blank then is_file_mode rest || later else later

abbrev pub has_file_mode : List ℕ → Bool
has_file_mode [] = false
has_file_mode (byte ∷ rest) = mode_at (byte == 32) rest (has_file_mode rest)

-- whether a field of a line has this text
abbrev pub is_text : List ℕ → Option (List ℕ) → Bool
is_text text None = false
is_text text (Some found) = bytes_eq found text

abbrev pub text_in : List ℕ → List ℕ → List ℕ → Bool
text_in line name text = is_text text (field_in_line line name)

-- the number that a field of a line spells, in decimal or in hex digits
abbrev pub number_in : List ℕ → List ℕ → Option ℕ
number_in line name = option_and_then dec32_of (field_in_line line name)

abbrev pub hex_in : List ℕ → List ℕ → Option ℕ
hex_in line name = option_and_then hex32_of (field_in_line line name)

-- the low 32 bits of such a number
abbrev pub low_bits : ℕ → ℕ
low_bits number = number % 2 ^ 32

abbrev pub low_in : List ℕ → List ℕ → Option ℕ
low_in line name = option_map low_bits (option_and_then hex64_of (field_in_line line name))

-- a call of x86-64, and one that has succeeded
abbrev pub is_native : List ℕ → Bool
is_native line = text_in line (codes "arch") (codes "c000003e")

abbrev pub is_done : List ℕ → Bool
is_done line = text_in line (codes "success") (codes "yes")

-- the calls of x86-64 that may wait for what they take from the descriptor of their first argument: read, readv, accept, recvfrom,
-- recvmsg, splice, tee, accept4, recvmmsg, preadv2
abbrev pub waiting : List ℕ
waiting = 0 ∷ 19 ∷ 43 ∷ 45 ∷ 47 ∷ 275 ∷ 276 ∷ 288 ∷ 299 ∷ 327 ∷ []

-- open, creat, openat, openat2
abbrev pub opens : ℕ → Bool
opens number = list_any (nat_eq number) (2 ∷ 85 ∷ 257 ∷ 437 ∷ [])

-- close
abbrev pub closes : ℕ → Bool
closes number = number == 3

-- close_range
abbrev pub closes_range : ℕ → Bool
closes_range number = number == 436

-- the commands of fcntl that copy a descriptor
abbrev pub is_copy : Option ℕ → Bool
is_copy None = false
is_copy (Some command) = list_any (nat_eq command) (0 ∷ 1030 ∷ [])

-- dup, dup2, dup3, and fcntl with such a command
abbrev pub copies : ℕ → Option ℕ → Bool
copies number command = list_any (nat_eq number) (32 ∷ 33 ∷ 292 ∷ []) || (number == 72 && is_copy command)

-- socket, accept, accept4
abbrev pub opens_socket : ℕ → Bool
opens_socket number = list_any (nat_eq number) (41 ∷ 43 ∷ 288 ∷ [])

-- whether flags lack the bit of this weight
abbrev pub lacks : ℕ → ℕ → Bool
lacks weight flags = (flags / weight) % 2 == 0

-- whether a clone of these flags makes a process with descriptors of its own: neither CLONE_FILES nor CLONE_THREAD
abbrev pub is_apart : Option ℕ → Bool
is_apart None = false
is_apart (Some flags) = lacks 1024 flags && lacks 65536 flags

-- fork, vfork, and such a clone
abbrev pub forks : ℕ → Option ℕ → Bool
forks number flags = list_any (nat_eq number) (57 ∷ 58 ∷ []) || (number == 56 && is_apart flags)

-- clone and clone3, whose flags aren't in its record
abbrev pub begins : ℕ → Bool
begins number = list_any (nat_eq number) (56 ∷ 435 ∷ [])

-- the calls that begin a process or a thread: clone, fork, vfork, clone3
abbrev pub bears : ℕ → Bool
bears number = list_any (nat_eq number) (56 ∷ 57 ∷ 58 ∷ 435 ∷ [])

-- execve, execveat
abbrev pub runs : ℕ → Bool
runs number = list_any (nat_eq number) (59 ∷ 322 ∷ [])

-- whether a close_range closes now: the flag 4 says that an exec will
abbrev pub closes_now : Option ℕ → Bool
closes_now None = true
closes_now (Some flags) = lacks 4 flags

-- the descriptors of a range are closed, if both its ends are there
abbrev pub range_from : ℕ → Option ℕ → Option ℕ → Option ℕ → Option Deed
range_from pid (Some first) (Some last) flags = if closes_now flags then Some (deed.ClosesRange pid first last) else None
range_from pid _ _ flags = None

-- a copy of one descriptor to another, if both are there
abbrev pub copies_from : ℕ → Option ℕ → Option ℕ → Option Deed
copies_from pid (Some from) (Some to) = Some (deed.Copies pid from to)
copies_from pid _ _ = None

-- what a call did that has succeeded, by its number, its process and that one's parent, its answer and its arguments
abbrev pub deed_with : ℕ → ℕ → Option ℕ → Option ℕ → Option ℕ → Option ℕ → Option Deed
deed_with number pid parent answer first second =
    if opens number then option_map (deed.Opens pid) answer
    else if closes number then option_map (deed.Closes pid) first
    else if copies number second then copies_from pid first answer
    else if opens_socket number then option_map (deed.Closes pid) answer
    else if forks number first then option_map (deed.Forks pid parent) answer
    else if begins number then option_map deed.Begins answer
    else if runs number then Some (deed.Runs pid) else None

-- what the record of a close_range says, of whose ends the low 32 bits count
abbrev pub range_in : List ℕ → ℕ → Option Deed
range_in line pid = range_from pid (low_in line (codes "a0")) (low_in line (codes "a1")) (hex_in line (codes "a2"))

-- what the record of a call says that has succeeded
abbrev pub deed_done : List ℕ → ℕ → ℕ → Option Deed
deed_done line number pid =
    if closes_range number then range_in line pid
    else deed_with number pid (number_in line (codes "ppid")) (number_in line (codes "exit")) (hex_in line (codes "a0")) (hex_in line (codes "a1"))

-- what the record of a call says, whose process and number are there: the end of a process has no answer
abbrev pub deed_from : List ℕ → Option ℕ → Option ℕ → Option Deed
deed_from line (Some pid) (Some number) =
    if is_native line then
    if number == 231 then Some (deed.Begins pid)
    else if is_done line then deed_done line number pid else None
    else None
deed_from line _ _ = None

abbrev pub deed_in : List ℕ → Option Deed
deed_in line = deed_from line (number_in line (codes "pid")) (number_in line (codes "syscall"))

-- what the record of a path says: the kind of what was opened, if it is the path of that
abbrev pub path_deed : List ℕ → Option (List ℕ) → Option Deed
path_deed line None = None
path_deed line (Some name) =
    if bytes_eq name (codes "NORMAL") || bytes_eq name (codes "CREATE") then Some (deed.Names (has_file_mode line)) else None

abbrev pub deed_of_path : List ℕ → Option Deed
deed_of_path line = path_deed line (field_in_line line (codes "nametype"))

-- what a line of a kind says of descriptors
abbrev pub deed_of_kind : List ℕ → Kind → Option Deed
deed_of_kind line kind.Syscall = deed_in line
deed_of_kind line kind.Path = deed_of_path line
deed_of_kind line kind.Proctitle = Some deed.Ends
deed_of_kind line kind.Eoe = Some deed.Ends
deed_of_kind line _ = None

abbrev pub deed_of_class : List ℕ → Class → Option Deed
deed_of_class line (Used key kind) = deed_of_kind line kind
deed_of_class line _ = None

-- what a line says of descriptors, if it has at most 65,536 bytes
abbrev pub deed_of : List ℕ → Option Deed
deed_of line = deed_of_class line (class_of 65536 line)

-- whether a descriptor of a process of a parent is known to be a regular file
abbrev pub Files : Type 0
Files = ℕ → Option ℕ → ℕ → Bool

-- what a call takes that may wait, from this descriptor: from a regular file it takes what stands there
abbrev pub takes_from : Files → ℕ → Option ℕ → Option ℕ → Takes
takes_from files pid parent None = takes.Awaited
takes_from files pid parent (Some fd) = if files pid parent fd then takes.File else takes.Awaited

-- the number of the child that such a call of x86-64 began, if it has succeeded: its answer
abbrev pub child_in : List ℕ → ℕ → Option ℕ
child_in line number = if bears number && (is_native line && is_done line) then number_in line (codes "exit") else None

-- the call of a call's record, whose process and number are there
abbrev pub call_from : Files → List ℕ → Option ℕ → Option ℕ → Option Call
call_from files line (Some pid) (Some number) =
    if is_native line && list_any (nat_eq number) waiting
    then Some (record {
      pid = pid;
      takes = takes_from files pid (number_in line (codes "ppid")) (hex_in line (codes "a0"));
      child = child_in line number;
    })
    else Some (record { pid = pid; takes = takes.Nothing; child = child_in line number })
call_from files line _ _ = None

abbrev pub call_in : Files → List ℕ → Option Call
call_in files line = call_from files line (number_in line (codes "pid")) (number_in line (codes "syscall"))

abbrev pub call_of_kind : Files → List ℕ → Kind → Option Call
call_of_kind files line kind.Syscall = call_in files line
call_of_kind files line _ = None

abbrev pub call_of_class : Files → List ℕ → Class → Option Call
call_of_class files line (Used key kind) = call_of_kind files line kind
call_of_class files line _ = None

-- the call that a line is the record of, if it has at most 65,536 bytes, if these descriptors are known to be regular files
abbrev pub call_of : Files → List ℕ → Option Call
call_of files line = call_of_class files line (class_of 65536 line)

-- what a line of an event says, before what was said so far
abbrev pub saying : Event → Option Deed → List Said
saying event None = []
saying event (Some said) = (event, said) ∷ []

-- a line of an event said this, or nothing
abbrev pub HearsIt : Known → Known → Event → Option Deed → Type 0
HearsIt old new event None = new ≡ old
HearsIt old new event (Some said) = Hears old new event said

-- a line of a kind was seen: its call is by what was known before it
pub record HearsKind (old new : Known) (line : List ℕ) (kind : Kind) (event : Event) (call : Option Call) : Type 0 where
  pub is : call ≡ call_of_kind (is_file_at old) line kind
  pub hears : HearsIt old new event (deed_of_kind line kind)

-- a line was seen: its call is by what was known before it
pub record HearsLine (old new : Known) (line : List ℕ) (event : Event) (call : Option Call) : Type 0 where
  pub is : call ≡ call_of (is_file_at old) line
  pub hears : HearsIt old new event (deed_of line)
