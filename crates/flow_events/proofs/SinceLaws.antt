-- What is remembered goes on with each act. Every list of acts has the newest first.
use Rattle.std.proofs.Common.{◌≡◌, ◌∙◌, ◌<◌, refl, sym, ap, subst, ℕ, Bool, true, false, List, [], ◌∷◌, ◌++◌, length, take, reverse, get_or, append_assoc, Option, Some, None, arith}
use Rattle.std.specs.Prelude.{◌==◌, ◌||◌, ◌&&◌, ◌+◌, not, if◌then◌else◌, unwrap_or, is_some, nat_eq}
use Rattle.std.specs.Cmp.Lexicographic.{pointwise}
use Rattle.std.specs.List.{list_any}
use Rattle.std.specs.Map.{lookup}
use Rattle.std.specs.Option.{option_map}
use Rattle.flow_base.specs.contracts.types.FileIdPartialEq.TheImpl.{ghosts as files}
use Rattle.std.proofs.lemmas.Bool.Decides.{nat_tests}
use Rattle.std.proofs.lemmas.List.{take_more, reverse-append}
use Rattle.flow_base.specs.declared.types.FileId.{FileId}
use Rattle.acts.specs.declared.act.Act.{Act}
use Rattle.acts.specs.declared.act.Act.TheVariants.{See, Fork, End, Exec, Set, SetBoth, Copy, Close, Mark, Address, Birth, Move}
use Rattle.acts.specs.declared.look_back.lives.Standing.{Standing}
use Rattle.acts.specs.Births.{is_birth_of}
use Rattle.acts.specs.declared.act.Opens.TheVariants.{File as AFile, Socket as ASocket}
use Rattle.acts.specs.Holding.{holds, address_of, addressed, socket_held}
use Rattle.acts.specs.Lives.{live, awaited, linked, awaits, beginnings, has_parent}
use Rattle.acts.specs.Standing.{standing}
use Rattle.proc_table.specs.declared.life.Life.{Life}
use Rattle.proc_table.specs.Table.{Table as Procs, StandsFor as LivesAs, at, standing_of}
use Rattle.fd_table.specs.Table.{Table as Fds, HoldsAs, AddressesAs, address_at}
use Rattle.stored.specs.Batch.{names_pid, names_socket, since_names}
use Rattle.flow_events.proofs.SlotLaws.{puts_next, slots_next, slots_noted}
use Rattle.flow_events.specs.Since.{Memory, AddsHeld, ArePids, AreFiles, AreSockets, AreSlots, ArePuts, DiffersInNamed, DiffersInSlots, DiffersInSockets, HasEach, HasThose, IsSameMemory, StillHas, any_may_put, any_touches, IsSince, NotesPid, NotesFile, NotesSocket, pid_in, has_file, has_socket, pid_named, is_address, changes_address}
use Rattle.flow_events.specs.declared.plan.NewAddress.{NewAddress}
use Rattle.flow_events.specs.Standing.{readdressed}

left_false : (a b : Bool) → (a || b) ≡ false → a ≡ false
left_false true b is = is
left_false false b is = refl

right_false : (a b : Bool) → (a || b) ≡ false → b ≡ false
right_false true b is = let wrong : true ≡ false = is in cc
right_false false b is = is

turned : (a b : ℕ) → (a == b) ≡ false → (b == a) ≡ false
turned a b is = grind (arith, nat_tests)

-- ---- pids

-- a pid that an act doesn't name stands as before
pub standing_same : (act : Act) (before : List Act) (p : ℕ) → names_pid act p ≡ false → standing (act ∷ before) p ≡ standing before p
standing_same (See pid ppid exe) before p is =
    let f : Bool → Standing = λ b. record {
      beginnings = if b && not (live before p) then beginnings before p + 1 else beginnings before p;
      live = if b then true else live before p;
      awaits = if b && not (live before p) then Some ppid else awaited before p;
      linked = if b && not (live before p) then has_parent before pid ppid else linked before p;
    } in
    ap f (turned pid p (left_false (pid == p) (ppid == p) is))
standing_same (Fork pid child) before p is =
    let f : Bool → Standing = λ b. record {
      beginnings = if (b && not (child == pid)) && not (awaits before p pid) then beginnings before p + 1 else beginnings before p;
      live = if b && not (child == pid) then true else live before p;
      awaits = if b && not (child == pid) then None else awaited before p;
      linked = if b && not (child == pid) then true else linked before p;
    } in
    ap f (turned child p (right_false (pid == p) (child == p) is))
standing_same (End pid) before p is =
    let f : Bool → Standing = λ b. record { beginnings = beginnings before p; live = if b then false else live before p; awaits = awaited before p; linked = linked before p } in
    ap f (turned pid p is)
standing_same (Exec pid) before p is = refl
standing_same (Set pid fd what cloexec) before p is = refl
standing_same (SetBoth pid first second cloexec) before p is = refl
standing_same (Copy pid from to cloexec) before p is = refl
standing_same (Close pid fd) before p is = refl
standing_same (Mark pid fd cloexec) before p is = refl
standing_same (Address pid fd bytes) before p is = refl
standing_same (Birth file) before p is = refl
standing_same (Move pid inward how what) before p is = refl

-- and so it is with many acts
pub unnamed_stands : (now before : List Act) (p : ℕ) → pid_named now before p ≡ false → standing (now ++ before) p ≡ standing before p
unnamed_stands [] before p is = refl
unnamed_stands (act ∷ now) before p is =
    standing_same act (now ++ before) p (left_false (names_pid act p) (pid_named now before p) is) ∙ unnamed_stands now before p (right_false (names_pid act p) (pid_named now before p) is)

earlier_unnamed : (done now before : List Act) (p : ℕ) → pid_named (done ++ now) before p ≡ false → pid_named now before p ≡ false
earlier_unnamed [] now before p is = is
earlier_unnamed (act ∷ done) now before p is = earlier_unnamed done now before p (right_false (names_pid act p) (pid_named (done ++ now) before p) is)

-- one pid after the other
both_by : (a b : Bool) (old mid new : Option (Option Life)) (last : Option Life) → mid ≡ (if a then Some (unwrap_or old last) else old) → new ≡ (if b then Some (unwrap_or mid last) else mid)
    → new ≡ (if a || b then Some (unwrap_or old last) else old)
both_by true true old mid new last first second = second ∙ ap (λ (m : Option (Option Life)). Some (unwrap_or m last)) first
both_by true false old mid new last first second = second ∙ first
both_by false true old mid new last first second = second ∙ ap (λ (m : Option (Option Life)). Some (unwrap_or m last)) first
both_by false false old mid new last first second = second ∙ first

pub both_noted : (old mid new : Memory) (procs : Procs) (first second : ℕ) → NotesPid old mid procs (λ p. first == p) → NotesPid mid new procs (λ p. second == p) → NotesPid old new procs (λ p. first == p || second == p)
both_noted old mid new procs first second one two p = both_by (first == p) (second == p) (pid_in old p) (pid_in mid p) (pid_in new p) (at procs p) (one p) (two p)

none_kept : (o : Option (Option Life)) → option_map standing_of o ≡ None → o ≡ None
none_kept None is = refl
none_kept (Some l) is = absurd (some_none (standing_of l) is)
  where
    some_none : (s : Standing) → Some s ≡ None → ⊥
    some_none s e = cc

some_kept : (o : Option (Option Life)) (last : Option Life) (s : Standing) → option_map standing_of o ≡ Some s → standing_of (unwrap_or o last) ≡ s
some_kept None last s is = absurd (none_some s is)
  where
    none_some : (t : Standing) → None ≡ Some t → ⊥
    none_some t e = cc
some_kept (Some l) last s is = cc

named_step : (b c : Bool) (old new : Option (Option Life)) (last : Option Life) (s : Standing) → new ≡ (if b then Some (unwrap_or old last) else old) → option_map standing_of old ≡ (if c then Some s else None) → (c ≡ false → standing_of last ≡ s)
    → option_map standing_of new ≡ (if b || c then Some s else None)
named_step true true old new last s is has stands = ap (option_map standing_of) is ∙ ap Some (some_kept old last s has)
named_step true false old new last s is has stands = ap (option_map standing_of) is ∙ ap (λ (o : Option (Option Life)). Some (standing_of (unwrap_or o last))) (none_kept old has) ∙ ap Some (stands refl)
named_step false true old new last s is has stands = ap (option_map standing_of) is ∙ has
named_step false false old new last s is has stands = ap (option_map standing_of) is ∙ has

-- the pids of one more act are remembered, if the lives are those before some of the acts
pub pids_next : (old new : Memory) (procs : Procs) (before now done : List Act) (act : Act) → LivesAs procs (now ++ before) → ArePids old before (done ++ now) → NotesPid old new procs (names_pid act) → ArePids new before (act ∷ (done ++ now))
pids_next old new procs before now done act lives are notes = record {
  each = λ p. named_step (names_pid act p) (pid_named (done ++ now) before p) (pid_in old p) (pid_in new p) (at procs p) (standing before p) (notes p) (are.each p)
      (λ un. lives.each p ∙ unnamed_stands now before p (earlier_unnamed done now before p un));
}

-- ---- births

pub files_next : (old new : Memory) (before now : List Act) (act : Act) → AreFiles old before now → NotesFile old new (is_birth_of act) → AreFiles new before (act ∷ now)
files_next old new before now act are notes = record { each = λ f. notes f ∙ ap (λ (b : Bool). is_birth_of act f || b) (are.each f) }

-- ---- the loop over acts

next_turned : (acts : List Act) (i : ℕ) (act : Act) (now : List Act) → i < length acts → act ≡ get_or acts i act → reverse (take (i + 1) acts) ++ now ≡ act ∷ (reverse (take i acts) ++ now)
next_turned acts i act now inside is =
    ap (λ (l : List Act). reverse l ++ now) (take_more acts i act inside ∙ ap (λ (a : Act). take i acts ++ a ∷ []) (sym is)) ∙ ap (λ (l : List Act). l ++ now) (reverse-append (take i acts) (act ∷ []))

pub pids_turned : (old new : Memory) (procs : Procs) (acts before now : List Act) (i : ℕ) (act : Act) → i < length acts → act ≡ get_or acts i act → LivesAs procs (now ++ before) → ArePids old before (reverse (take i acts) ++ now)
    → NotesPid old new procs (names_pid act) → ArePids new before (reverse (take (i + 1) acts) ++ now)
pids_turned old new procs acts before now i act inside is lives are notes =
    subst (ArePids new before) (sym (next_turned acts i act now inside is)) (pids_next old new procs before now (reverse (take i acts)) act lives are notes)

pub files_turned : (old new : Memory) (acts before now : List Act) (i : ℕ) (act : Act) → i < length acts → act ≡ get_or acts i act → AreFiles old before (reverse (take i acts) ++ now)
    → NotesFile old new (is_birth_of act) → AreFiles new before (reverse (take (i + 1) acts) ++ now)
files_turned old new acts before now i act inside is are notes = subst (AreFiles new before) (sym (next_turned acts i act now inside is)) (files_next old new before (reverse (take i acts) ++ now) act are notes)

pub differs_again : (old mid new : Memory) → DiffersInNamed old mid → DiffersInNamed mid new → DiffersInNamed old new
differs_again old mid new one two = record {
  known = two.known ∙ one.known;
  sockets = two.sockets ∙ one.sockets;
  slots = two.slots ∙ one.slots;
  puts = two.puts ∙ one.puts;
  socket_spare = two.socket_spare ∙ one.socket_spare;
}

-- ---- addresses

-- a socket that an act doesn't name has the address that it had
pub address_same : (act : Act) (before : List Act) (s : ℕ) → names_socket before act s ≡ false → address_of (act ∷ before) s ≡ address_of before s
address_same (Set pid fd (AFile file) cloexec) before s is = refl
address_same (Set pid fd (ASocket (Some address) listener) cloexec) before s is = ap (λ (b : Bool). if b then Some address else address_of before s) (turned (length before) s is)
address_same (Set pid fd (ASocket None (Some listener)) cloexec) before s is =
    ap (λ (b : Bool). if b then elim (socket_held (holds before pid listener)) [ None ↦ None | Some socket ↦ address_of before socket ] else address_of before s) (turned (length before) s is)
address_same (Set pid fd (ASocket None None) cloexec) before s is = refl
address_same (Address pid fd bytes) before s is = ap (λ (b : Bool). if b then Some bytes else address_of before s) (turned (addressed before pid fd) s is)
address_same (See pid ppid exe) before s is = refl
address_same (Fork pid child) before s is = refl
address_same (End pid) before s is = refl
address_same (Exec pid) before s is = refl
address_same (SetBoth pid first second cloexec) before s is = refl
address_same (Copy pid from to cloexec) before s is = refl
address_same (Close pid fd) before s is = refl
address_same (Mark pid fd cloexec) before s is = refl
address_same (Birth file) before s is = refl
address_same (Move pid inward how what) before s is = refl

unnamed_addresses : (now before : List Act) (s : ℕ) → since_names names_socket now before s ≡ false → address_of (now ++ before) s ≡ address_of before s
unnamed_addresses [] before s is = refl
unnamed_addresses (act ∷ now) before s is =
    address_same act (now ++ before) s (left_false (names_socket (now ++ before) act s) (since_names names_socket now before s) is)
    ∙ unnamed_addresses now before s (right_false (names_socket (now ++ before) act s) (since_names names_socket now before s) is)

or_assoc : (a b c : Bool) → (a || (b || c)) ≡ ((a || b) || c)
or_assoc true b c = refl
or_assoc false b c = refl

or_right : (a b : Bool) → b ≡ true → (a || b) ≡ true
or_right true b is = refl
or_right false b is = is

or_left : (a b : Bool) → a ≡ true → (a || b) ≡ true
or_left true b is = refl
or_left false b is = let wrong : false ≡ true = is in cc

named_joined : (fresh now before : List Act) (s : ℕ) → since_names names_socket (fresh ++ now) before s ≡ (since_names names_socket fresh (now ++ before) s || since_names names_socket now before s)
named_joined [] now before s = refl
named_joined (act ∷ fresh) now before s =
    ap (λ (l : List Act). names_socket l act s || since_names names_socket (fresh ++ now) before s) (append_assoc fresh now before)
    ∙ ap (λ (b : Bool). names_socket (fresh ++ (now ++ before)) act s || b) (named_joined fresh now before s)
    ∙ or_assoc (names_socket (fresh ++ (now ++ before)) act s) (since_names names_socket fresh (now ++ before) s) (since_names names_socket now before s)

same_number : (a b : ℕ) → (a == b) ≡ true → a ≡ b
same_number a b is = grind (arith, nat_tests)

and_left : (a b : Bool) → (a && b) ≡ true → a ≡ true
and_left true b is = refl
and_left false b is = is

and_right : (a b : Bool) → (a && b) ≡ true → b ≡ true
and_right true b is = is
and_right false b is = let wrong : false ≡ true = is in cc

bytes_same : (a b : List ℕ) → pointwise nat_eq a b ≡ true → a ≡ b
bytes_same [] [] is = refl
bytes_same [] (y ∷ ys) is = let wrong : false ≡ true = is in cc
bytes_same (x ∷ xs) [] is = let wrong : false ≡ true = is in cc
bytes_same (x ∷ xs) (y ∷ ys) is =
    ap (λ (z : ℕ). z ∷ xs) (same_number x y (and_left (x == y) (pointwise nat_eq xs ys) is)) ∙ ap (λ (l : List ℕ). y ∷ l) (bytes_same xs ys (and_right (x == y) (pointwise nat_eq xs ys) is))

is_there : (o : Option (List ℕ)) (bytes : List ℕ) → is_address o bytes ≡ true → o ≡ Some bytes
is_there None bytes is = let wrong : false ≡ true = is in cc
is_there (Some a) bytes is = ap Some (bytes_same a bytes is)

self_number : (a : ℕ) → (a == a) ≡ true
self_number a = grind (arith, nat_tests)

is_itself : (bytes : List ℕ) → pointwise nat_eq bytes bytes ≡ true
is_itself [] = refl
is_itself (x ∷ xs) = ap (λ (b : Bool). b && pointwise nat_eq xs xs) (self_number x) ∙ is_itself xs

not_false : (b : Bool) → not b ≡ false → b ≡ true
not_false true is = refl
not_false false is = sym is

not_true : (b : Bool) → not b ≡ true → b ≡ false
not_true true is = let wrong : false ≡ true = is in cc
not_true false is = refl

unchanged_if : (b : Bool) (have : ℕ → Option (List ℕ)) (new : NewAddress) (s : ℕ) → (s == new.socket) ≡ b → (b && not (is_address (have new.socket) new.bytes)) ≡ false → (if b then Some new.bytes else have s) ≡ have s
unchanged_if true have new s here is = sym (is_there (have new.socket) new.bytes (not_false (is_address (have new.socket) new.bytes) is)) ∙ ap have (sym (same_number s new.socket here))
unchanged_if false have new s here is = refl

unchanged_by : (have : ℕ → Option (List ℕ)) (address : Option NewAddress) (s : ℕ) → changes_address have address s ≡ false → readdressed address have s ≡ have s
unchanged_by have None s is = refl
unchanged_by have (Some new) s is = unchanged_if (s == new.socket) have new s refl is

put_if : (b : Bool) (bytes : List ℕ) (o : Option (List ℕ)) → b ≡ true → (if b then Some bytes else o) ≡ Some bytes
put_if true bytes o is = refl
put_if false bytes o is = let wrong : false ≡ true = is in cc

none_changes : {A : Type 0} → false ≡ true → A
none_changes e = absurd cc

changed_there : (have : ℕ → Option (List ℕ)) (address : Option NewAddress) (s : ℕ) → changes_address have address s ≡ true → is_some (readdressed address have s) ≡ true
changed_there have None s is = none_changes is
changed_there have (Some new) s is = ap is_some (put_if (s == new.socket) new.bytes (have s) (and_left (s == new.socket) (not (is_address (have new.socket) new.bytes)) is))

changed_by : (have : ℕ → Option (List ℕ)) (address : Option NewAddress) (s : ℕ) → changes_address have address s ≡ true → readdressed address have s ≡ have s → ⊥
changed_by have None s is same = none_changes is
changed_by have (Some new) s is same =
    let here = and_left (s == new.socket) (not (is_address (have new.socket) new.bytes)) is in
    let has : have new.socket ≡ Some new.bytes = ap have (sym (same_number s new.socket here)) ∙ sym same ∙ put_if (s == new.socket) new.bytes (have s) here in
    let no : is_address (have new.socket) new.bytes ≡ false = not_true (is_address (have new.socket) new.bytes) (and_right (s == new.socket) (not (is_address (have new.socket) new.bytes)) is) in
    none_changes (sym no ∙ ap (λ (o : Option (List ℕ)). is_address o new.bytes) has ∙ is_itself new.bytes)

changes_alike : (f g : ℕ → Option (List ℕ)) (address : Option NewAddress) (s : ℕ) → ((t : ℕ) → f t ≡ g t) → changes_address f address s ≡ changes_address g address s
changes_alike f g None s alike = refl
changes_alike f g (Some new) s alike = ap (λ (o : Option (List ℕ)). s == new.socket && not (is_address o new.bytes)) (alike new.socket)

named_by : (b d had : Bool) (fresh now before : List Act) (s : ℕ) → since_names names_socket fresh (now ++ before) s ≡ d → (b || had) ≡ true → (b ≡ true → d ≡ false → ⊥) → (had ≡ true → since_names names_socket now before s ≡ true)
    → since_names names_socket (fresh ++ now) before s ≡ true
named_by b true had fresh now before s is any new old = named_joined fresh now before s ∙ or_left _ _ is
named_by true false had fresh now before s is any new old = absurd (new refl refl)
named_by false false had fresh now before s is any new old = named_joined fresh now before s ∙ or_right _ _ (old any)

there_by : (b had : Bool) (old new : Option (List ℕ)) → (b || had) ≡ true → (b ≡ true → is_some new ≡ true) → (had ≡ true → is_some old ≡ true) → (b ≡ false → new ≡ old) → is_some new ≡ true
there_by true had old new any is was same = is refl
there_by false had old new any is was same = ap is_some (same refl) ∙ was any

-- the sockets of an event are remembered
pub sockets_next : (old new : Memory) (before now fresh : List Act) (have : ℕ → Option (List ℕ)) (address : Option NewAddress) → ((s : ℕ) → have s ≡ address_of (now ++ before) s)
    → ((s : ℕ) → address_of (fresh ++ (now ++ before)) s ≡ readdressed address (address_of (now ++ before)) s) → NotesSocket old new (changes_address have address) → AreSockets old before now → AreSockets new before (fresh ++ now)
sockets_next old new before now fresh have address alike plan notes are =
    let mid = address_of (now ++ before) in
    let change : (s : ℕ) → changes_address have address s ≡ changes_address mid address s = λ s. changes_alike have mid address s alike in
    let after : (s : ℕ) → address_of ((fresh ++ now) ++ before) s ≡ readdressed address mid s = λ s. ap (λ (l : List Act). address_of l s) (append_assoc fresh now before) ∙ plan s in
    record {
      others = λ s un.
          let none : (changes_address have address s || has_socket old s) ≡ false = sym (notes s) ∙ un in
          after s ∙ unchanged_by mid address s (sym (change s) ∙ left_false _ _ none) ∙ are.others s (right_false (changes_address have address s) _ none);
      named = λ s there.
          named_by (changes_address have address s) (since_names names_socket fresh (now ++ before) s) (has_socket old s) fresh now before s refl (sym (notes s) ∙ there)
          (λ changed un. changed_by mid address s (sym (change s) ∙ changed) (sym (plan s) ∙ unnamed_addresses fresh (now ++ before) s un))
          (are.named s);
      there = λ s there.
          there_by (changes_address have address s) (has_socket old s) (mid s) (address_of ((fresh ++ now) ++ before) s) (sym (notes s) ∙ there)
          (λ changed. ap is_some (after s) ∙ changed_there mid address s (sym (change s) ∙ changed))
          (are.there s)
          (λ same. after s ∙ unchanged_by mid address s (sym (change s) ∙ same));
    }

-- ---- an event

-- what is remembered goes on with the acts of an event
pub event_noted : (old mid new : Memory) (procs : Procs) (fds : Fds) (acts before now fresh : List Act) (address : Option NewAddress) → LivesAs procs (now ++ before) → HoldsAs fds (now ++ before) → AddressesAs fds (now ++ before) → fresh ≡ reverse acts
    → ((s : ℕ) → address_of (fresh ++ (now ++ before)) s ≡ readdressed address (address_of (now ++ before)) s)
    → ((b n : List Act) → LivesAs procs (n ++ b) → ArePids old b n → ArePids mid b (reverse acts ++ n)) → ((b n : List Act) → AreFiles old b n → AreFiles mid b (reverse acts ++ n)) → DiffersInNamed old mid
    → NotesSocket mid new (changes_address (address_at fds) address) → DiffersInSockets mid new → HasThose fds old.slots (any_touches acts) × HasEach old.puts (any_may_put acts) → IsSince old before now → IsSince new before (fresh ++ now)
event_noted old mid new procs fds acts before now fresh address lives held addresses is plan pids files same notes rest touched since =
    let socket : NotesSocket old new (changes_address (address_at fds) address) = λ s. notes s ∙ ap (λ (l : List ℕ). changes_address (address_at fds) address s || list_any (nat_eq s) l) same.sockets in
    let first : ArePids mid before (fresh ++ now) = subst (λ (l : List Act). ArePids mid before (l ++ now)) (sym is) (pids before now lives since.pids_are) in
    let second : AreFiles mid before (fresh ++ now) = subst (λ (l : List Act). AreFiles mid before (l ++ now)) (sym is) (files before now since.files_are) in
    record {
      known_is = ap (λ (m : Memory). m.known) rest ∙ same.known ∙ since.known_is;
      pids_are = record { each = λ p. ap (λ (m : Memory). option_map standing_of (pid_in m p)) rest ∙ first.each p };
      files_are = record { each = λ f. ap (λ (m : Memory). has_file m f) rest ∙ second.each f };
      sockets_are = sockets_next old new before now fresh (address_at fds) address addresses.each plan socket since.sockets_are;
      slots_are = subst (λ (l : List (ℕ × ℕ)). AreSlots l before (fresh ++ now)) (sym (ap (λ (m : Memory). m.slots) rest ∙ same.slots)) (slots_next old.slots fds acts before now fresh held is touched.0 since.slots_are);
      puts_are = subst (λ (l : List (ℕ × ℕ)). ArePuts l before (fresh ++ now)) (sym (ap (λ (m : Memory). m.puts) rest ∙ same.puts)) (puts_next old.puts acts before now fresh is touched.1 since.puts_are);
    }

-- the memory with other room remembers the same
pub since_still : (old new : Memory) (before now : List Act) → IsSameMemory old new → IsSince old before now → IsSince new before now
since_still old new before now same since = record {
  known_is = same.known ∙ since.known_is;
  pids_are = record { each = λ p. ap (λ (l : List (ℕ × Option Life)). option_map standing_of (lookup (nat_eq p) l)) same.pids ∙ since.pids_are.each p };
  files_are = record { each = λ f. ap (λ (l : List FileId). list_any (files.eq f) l) same.files ∙ since.files_are.each f };
  sockets_are = record {
    others = λ s un. since.sockets_are.others s (ap (λ (l : List ℕ). list_any (nat_eq s) l) (sym same.sockets) ∙ un);
    named = λ s there. since.sockets_are.named s (ap (λ (l : List ℕ). list_any (nat_eq s) l) (sym same.sockets) ∙ there);
    there = λ s there. since.sockets_are.there s (ap (λ (l : List ℕ). list_any (nat_eq s) l) (sym same.sockets) ∙ there);
  };
  slots_are = subst (λ (l : List (ℕ × ℕ)). AreSlots l before now) (sym same.slots) since.slots_are;
  puts_are = subst (λ (l : List (ℕ × ℕ)). ArePuts l before now) (sym same.puts) since.puts_are;
}

-- descriptors that hold something are noted, and then there is other room
pub since_reserved : (fds : Fds) (old mid new : Memory) (before now : List Act) → AddsHeld fds old.slots mid.slots → StillHas old.puts mid.puts → DiffersInSlots old mid → IsSameMemory mid new → HoldsAs fds (now ++ before) → IsSince old before now → IsSince new before now
since_reserved fds old mid new before now adds stay rest same held since = since_still mid new before now same (slots_noted fds old mid before now adds stay rest held since)
