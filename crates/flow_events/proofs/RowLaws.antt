-- The rows that say what is remembered are those of a commit. Every list of acts has the newest first.
use Rattle.std.proofs.Common.{◌≡◌, ◌∙◌, refl, sym, ap, subst, inr, ℕ, Bool, true, false, List, [], ◌∷◌, ◌++◌, length, drop, Option, Some, None, is_some, arith}
use Rattle.std.specs.Prelude.{◌==◌, ◌&&◌, ◌||◌, ◌+◌, not, if◌then◌else◌, unwrap_or}
use Rattle.std.specs.Option.{option_map}
use Rattle.std.proofs.lemmas.Bool.Decides.{nat_tests}
use Rattle.std.proofs.lemmas.List.{map-append}
use Rattle.flow_base.specs.declared.types.FileId.{FileId}
use Rattle.acts.specs.declared.act.Act.{Act}
use Rattle.acts.specs.declared.act.Act.TheVariants.{See, Fork, End, Exec, Set, SetBoth, Copy, Close, Mark, Address, Birth, Move}
use Rattle.acts.specs.declared.act.Taken.{Taken}
use Rattle.acts.specs.declared.held.Held.{Held}
use Rattle.acts.specs.declared.look_back.lives.Standing.{Standing}
use Rattle.acts.specs.Admitted.{Admitted}
use Rattle.acts.specs.Births.{born, is_birth_of}
use Rattle.acts.specs.Flows.{acts_of, objects}
use Rattle.acts.specs.Holding.{holds, is_at, address_of}
use Rattle.acts.specs.Lives.{live, beginnings, begins, begins_by_see, is_child}
use Rattle.acts.specs.Standing.{standing}
use Rattle.acts.proofs.Holdings.{only_live}
use Rattle.proc_table.specs.declared.life.Life.{Life}
use Rattle.proc_table.specs.Table.{Table as Procs, StandsFor as LivesAs, at, standing_of}
use Rattle.fd_table.specs.Table.{Table as Fds, HoldsAs, AddressesAs, held_at, address_at}
use Rattle.entity_names.specs.Known.{Known, names_at as known_at}
use Rattle.stored.specs.Batch.{AreTablesOf, Tells, HeldAs, WasHeld, left_held, names_at, names_pid, said}
use Rattle.flow_events.specs.Births.{Table as Births, BornAs, born_at}
use Rattle.flow_events.specs.Since.{Memory, ArePids, AreFiles, AreSockets, AreSlots, ArePuts, IsSince, LivesOn, Remembers, file_named, has_file, has_slot, has_socket, is_since, pid_in, pid_named}
use Rattle.flow_events.specs.Remembering.{StandsSince}
use Rattle.flow_events.specs.Rows.{AreTableRows, Parts, SayRemembered, TellRemembered, batch_of, held_word, is_live, is_written, life_word, slot_word, word_in}
use Rattle.flow_events.specs.declared.rows.TableRows.{TableRows}
use Rattle.flow_events.specs.declared.tables.Tables.{Tables}
use Rattle.flow_events.proofs.SinceLaws.{unnamed_stands}
use Rattle.flow_events.proofs.SlotLaws.{begun_more}

true-false : {A : Type 0} → true ≡ false → A
true-false e = absurd cc

none-some : {V A : Type 0} (v : V) → None ≡ Some v → A
none-some v e = absurd cc

left_false : (a b : Bool) → (a || b) ≡ false → a ≡ false
left_false true b is = is
left_false false b is = refl

right_false : (a b : Bool) → (a || b) ≡ false → b ≡ false
right_false true b is = true-false is
right_false false b is = is

-- ---- what no act names stays

other_held : (b c : Bool) (x y : Option Held) → b ≡ false → (if b && c then x else y) ≡ y
other_held true c x y is = true-false is
other_held false c x y is = refl

not_then : (b : Bool) (x y : Option Held) → b ≡ false → (if b then x else y) ≡ y
not_then true x y is = true-false is
not_then false x y is = refl

turned : (a b : ℕ) → (a == b) ≡ false → (b == a) ≡ false
turned a b is = grind (arith, nat_tests)

and_off : (a b : Bool) → a ≡ false → (a && b) ≡ false
and_off true b is = true-false is
and_off false b is = refl

neither : (a b c : Bool) → a ≡ false → ((a && b) || (a && c)) ≡ false
neither true b c is = true-false is
neither false b c is = refl

-- a pid that an act doesn't name holds what it held
holds_same : (act : Act) (before : List Act) (p n : ℕ) → names_pid act p ≡ false → holds (act ∷ before) p n ≡ holds before p n
holds_same (See pid ppid exe) before p n is = not_then (begins_by_see before pid p) _ (holds before p n) (and_off (p == pid) _ (turned pid p (left_false (pid == p) (ppid == p) is)))
holds_same (Fork pid child) before p n is = not_then (begins before (Fork pid child) p) _ (holds before p n) (and_off (is_child pid child p) _ (and_off (p == child) _ (turned child p (right_false (pid == p) (child == p) is))))
holds_same (End pid) before p n is = not_then (pid == p) _ (holds before p n) is
holds_same (Exec pid) before p n is = not_then (pid == p) _ (holds before p n) is
holds_same (Set pid fd what cloexec) before p n is = other_held (pid == p) (fd == n) _ (holds before p n) is
holds_same (SetBoth pid first second cloexec) before p n is = not_then (is_at pid first p n || is_at pid second p n) _ (holds before p n) (neither (pid == p) (first == n) (second == n) is)
holds_same (Copy pid from to cloexec) before p n is = other_held (pid == p) (to == n) _ (holds before p n) is
holds_same (Close pid fd) before p n is = other_held (pid == p) (fd == n) _ (holds before p n) is
holds_same (Mark pid fd cloexec) before p n is = other_held (pid == p) (fd == n) _ (holds before p n) is
holds_same (Address pid fd bytes) before p n is = other_held (pid == p) (fd == n) _ (holds before p n) is
holds_same (Birth file) before p n is = refl
holds_same (Move pid inward how what) before p n is = refl

unnamed_holds : (now before : List Act) (p n : ℕ) → pid_named now before p ≡ false → holds (now ++ before) p n ≡ holds before p n
unnamed_holds [] before p n is = refl
unnamed_holds (act ∷ now) before p n is =
    holds_same act (now ++ before) p n (left_false (names_pid act p) (pid_named now before p) is) ∙ unnamed_holds now before p n (right_false (names_pid act p) (pid_named now before p) is)

born_same : (b : Bool) (n : ℕ) → b ≡ false → (if b then n + 1 else n) ≡ n
born_same true n is = true-false is
born_same false n is = refl

unnamed_births : (now before : List Act) (f : FileId) → file_named now before f ≡ false → born (now ++ before) f ≡ born before f
unnamed_births [] before f is = refl
unnamed_births (act ∷ now) before f is =
    born_same (is_birth_of act f) (born (now ++ before) f) (left_false (is_birth_of act f) (file_named now before f) is) ∙ unnamed_births now before f (right_false (is_birth_of act f) (file_named now before f) is)

admitted_before : (now before : List Act) → Admitted (now ++ before) → Admitted before
admitted_before [] before admitted = admitted
admitted_before (act ∷ now) before admitted = admitted_before now before admitted.1

-- ---- pids

unnamed_by : (m : Option (Option Life)) (b : Bool) (s : Standing) → m ≡ None → option_map standing_of m ≡ (if b then Some s else None) → b ≡ false
unnamed_by m true s none is = none-some s (ap (option_map standing_of) (sym none) ∙ is)
unnamed_by m false s none is = refl

named_by : (m : Option (Option Life)) (b : Bool) (s : Standing) → is_some m ≡ true → option_map standing_of m ≡ (if b then Some s else None) → b ≡ true
named_by m true s some is = refl
named_by None false s some is = true-false (sym some)
named_by (Some l) false s some is = none-some (standing_of l) (sym is)

stood_by : (last : Option Life) (b : Bool) (s : Standing) → Some (standing_of last) ≡ (if b then Some s else None) → standing_of last ≡ s
stood_by last true s is = cc
stood_by last false s is = none-some (standing_of last) (sym is)

module _ (memory : Memory) (procs : Procs) (before now : List Act) (lives : LivesAs procs (now ++ before)) (pids : ArePids memory before now) where
  named : (p : ℕ) → is_some (pid_in memory p) ≡ true → pid_named now before p ≡ true
  named p some = named_by (pid_in memory p) (pid_named now before p) (standing before p) some (pids.each p)

  unnamed : (p : ℕ) → pid_in memory p ≡ None → pid_named now before p ≡ false
  unnamed p none = unnamed_by (pid_in memory p) (pid_named now before p) (standing before p) none (pids.each p)

  -- a pid that has no life now had none at the mark
  never : (last : Option Life) (p : ℕ) → at procs p ≡ None → standing_of last ≡ standing before p → standing before p ≡ standing_of None
  never None p none is = sym is
  never (Some l) p none is =
      let zero : 0 ≡ beginnings (now ++ before) p = ap (λ (o : Option Life). (standing_of o).beginnings) (sym none) ∙ ap (λ (s : Standing). s.beginnings) (lives.each p) in
      let some : l.life + 1 ≡ beginnings before p = ap (λ (s : Standing). s.beginnings) is in
      let more = begun_more now before p in
      absurd (omega (arith, zero, some, more))

  word_by : (m : Option (Option Life)) (o : Option Life) (l : Life) → (if is_some m then o else None) ≡ Some l → (is_some m ≡ true) × (o ≡ Some l)
  word_by None o l is = none-some l is
  word_by (Some last) o l is = (refl, is)

  life_there : (p : ℕ) (l : Life) → life_word memory procs p ≡ Some l → (pid_named now before p ≡ true) × (standing_of (Some l) ≡ standing (now ++ before) p)
  life_there p l is =
      let both = word_by (pid_in memory p) (at procs p) l is in
      (named p both.0, ap standing_of (sym both.1) ∙ lives.each p)

  tells_by : (m : Option (Option Life)) (o : Option Life) (p : ℕ) → pid_in memory p ≡ m → at procs p ≡ o → Tells standing_of (if is_some m then o else None) (standing before p) (standing (now ++ before) p)
  tells_by None o p is has = unnamed_stands now before p (unnamed p is)
  tells_by (Some last) (Some l) p is has = ap standing_of (sym has) ∙ lives.each p
  tells_by (Some last) None p is has =
      sym (lives.each p) ∙ ap standing_of has
      ∙ sym (never last p has (stood_by last (pid_named now before p) (standing before p) (ap (option_map standing_of) (sym is) ∙ pids.each p)))

  lives_tell : (p : ℕ) → Tells standing_of (life_word memory procs p) (standing before p) (standing (now ++ before) p)
  lives_tell p = tells_by (pid_in memory p) (at procs p) p refl refl

  -- ---- descriptors

  live_word_is : (o : Option Life) → is_live o ≡ true → (l : Life) × ((o ≡ Some l) × (l.live ≡ true))
  live_word_is None is = true-false (sym is)
  live_word_is (Some l) is = (l, (refl, is))

  word_live : (p : ℕ) → is_live (life_word memory procs p) ≡ true → (pid_named now before p ≡ true) × (live (now ++ before) p ≡ true)
  word_live p is =
      let one = live_word_is (life_word memory procs p) is in
      let there = life_there p one.0 one.1.0 in
      (there.0, ap (λ (s : Standing). s.live) (sym there.1) ∙ one.1.1)

  module _ (fds : Fds) (held : HoldsAs fds (now ++ before)) (slots : AreSlots memory.slots before now) (puts : ArePuts memory.puts before now) (admitted : Admitted (now ++ before)) where
    abbrev touched : ℕ → ℕ → Bool
    touched p n = has_slot memory.slots p n

    lost_or_none : (p n : ℕ) (o : Option Held) → holds before p n ≡ o → LivesOn before now p → holds (now ++ before) p n ≡ None → touched p n ≡ false → o ≡ None
    lost_or_none p n None is on none off = refl
    lost_or_none p n (Some h) is on none off = true-false (sym (slots.lost p n on (ap is_some is) none) ∙ off)

    left_by : (p n : ℕ) (l : Life) (b : Bool) → (beginnings before p == l.life + 1) ≡ b → l.live ≡ true → standing_of (Some l) ≡ standing (now ++ before) p → holds (now ++ before) p n ≡ None → touched p n ≡ false → (if b then holds before p n else None) ≡ None
    left_by p n l false is on stands none off = refl
    left_by p n l true is on stands none off =
        let count : beginnings before p ≡ l.life + 1 = grind (arith, nat_tests) in
        lost_or_none p n (holds before p n) refl (record { same = ap (λ (s : Standing). s.beginnings) (sym stands) ∙ sym count; live_is = ap (λ (s : Standing). s.live) (sym stands) ∙ on }) none off

    live_and : (a b : Bool) (x : Option Held) → a ≡ true → (if a && b then x else None) ≡ (if b then x else None)
    live_and true b x is = refl
    live_and false b x is = true-false (sym is)

    dead_and : (a b : Bool) (x : Option Held) → a ≡ false → (if a && b then x else None) ≡ None
    dead_and true b x is = true-false is
    dead_and false b x is = refl

    -- the life at the mark goes on, if it is the life of now
    same_life : (p : ℕ) (m : Option (Option Life)) (l : Life) → pid_in memory p ≡ m → is_since m l ≡ true → (beginnings before p == l.life + 1) ≡ true
    same_life p None l has is = true-false (sym is)
    same_life p (Some None) l has is = true-false (sym is)
    same_life p (Some (Some was)) l has is =
        let stood : standing_of (Some was) ≡ standing before p = stood_by (Some was) (pid_named now before p) (standing before p) (ap (option_map standing_of) (sym has) ∙ pids.each p) in
        let count : was.life + 1 ≡ beginnings before p = ap (λ (s : Standing). s.beginnings) stood in
        let one : (was.life == l.life) ≡ true = and_both was.live (was.life == l.life) is in
        grind (arith, nat_tests)
      where
        and_both : (a b : Bool) → (a && b) ≡ true → b ≡ true
        and_both true b both = both
        and_both false b both = true-false (sym both)

    -- what isn't written is held as it was at the mark
    unwritten_by : (g t u : Bool) → (not g || (t || u)) ≡ false → (g ≡ true) × (u ≡ false)
    unwritten_by true true u is = true-false is
    unwritten_by true false u is = (refl, is)
    unwritten_by false t u is = true-false is

    if_held : (b : Bool) (x y : Option Held) → b ≡ true → (if b then x else y) ≡ x
    if_held true x y is = refl
    if_held false x y is = true-false (sym is)

    unwritten : (p n : ℕ) (l : Life) (h : Held) → l.live ≡ true → standing_of (Some l) ≡ standing (now ++ before) p → is_written memory (Some l) (p, n) ≡ false → held_at fds p n ≡ Some h → holds (now ++ before) p n ≡ left_held before p n (Some l)
    unwritten p n l h on stands off has =
        let both = unwritten_by (is_since (pid_in memory p) l) (touched p n) (has_slot memory.puts p n) off in
        let is : (beginnings before p == l.life + 1) ≡ true = same_life p (pid_in memory p) l refl both.0 in
        let count : beginnings before p ≡ l.life + 1 = grind (arith, nat_tests) in
        let lives_on : LivesOn before now p = record { same = ap (λ (s : Standing). s.beginnings) (sym stands) ∙ sym count; live_is = ap (λ (s : Standing). s.live) (sym stands) ∙ on } in
        let some : holds (now ++ before) p n ≡ Some h = sym (held.each p n) ∙ has in
        some ∙ sym (puts.others p n h lives_on both.1 some) ∙ sym (live_and l.live (beginnings before p == l.life + 1) (holds before p n) on ∙ if_held (beginnings before p == l.life + 1) (holds before p n) None is)

    -- of a pid that is live
    live_tells : (p n : ℕ) (l : Life) (t w : Bool) (o : Option Held) → l.live ≡ true → standing_of (Some l) ≡ standing (now ++ before) p → touched p n ≡ t → is_written memory (Some l) (p, n) ≡ w → held_at fds p n ≡ o
        → HeldAs (slot_word t w o) (left_held before p n (Some l)) (holds (now ++ before) p n)
    live_tells p n l t true (Some h) on stands is written has = sym has ∙ held.each p n
    live_tells p n l t false (Some h) on stands is written has = unwritten p n l h on stands written has
    live_tells p n l true w None on stands is written has = sym has ∙ held.each p n
    live_tells p n l false w None on stands is written has =
        let none : holds (now ++ before) p n ≡ None = sym (held.each p n) ∙ has in
        none ∙ sym (live_and l.live (beginnings before p == l.life + 1) (holds before p n) on ∙ left_by p n l (beginnings before p == l.life + 1) refl on stands none is)

    -- of one that isn't
    dead_tells : (p n : ℕ) (m : Option (Option Life)) (o : Option Life) → pid_in memory p ≡ m → at procs p ≡ o → is_live (if is_some m then o else None) ≡ false → holds (now ++ before) p n ≡ left_held before p n (if is_some m then o else None)
    dead_tells p n None o is has off = unnamed_holds now before p n (unnamed p is)
    dead_tells p n (Some last) None is has off =
        let dead : live (now ++ before) p ≡ false = ap (λ (s : Standing). s.live) (sym (lives.each p) ∙ ap standing_of has) in
        let was : live before p ≡ false = ap (λ (s : Standing). s.live) (never last p has (stood_by last (pid_named now before p) (standing before p) (ap (option_map standing_of) (sym is) ∙ pids.each p))) in
        only_live (now ++ before) p n admitted dead ∙ sym (only_live before p n (admitted_before now before admitted) was)
    dead_tells p n (Some last) (Some l) is has off =
        let dead : live (now ++ before) p ≡ false = ap (λ (s : Standing). s.live) (sym (lives.each p) ∙ ap standing_of has) ∙ off in
        only_live (now ++ before) p n admitted dead ∙ sym (dead_and l.live (beginnings before p == l.life + 1) (holds before p n) off)

    held_by : (p n : ℕ) (w : Option Life) (v : Bool) → life_word memory procs p ≡ w → is_live w ≡ v → HeldAs (if v then word_in memory fds w (p, n) else None) (left_held before p n w) (holds (now ++ before) p n)
    held_by p n w false is off = subst (λ (o : Option Life). holds (now ++ before) p n ≡ left_held before p n o) is (dead_tells p n (pid_in memory p) (at procs p) refl refl (ap is_live is ∙ off))
    held_by p n w true is on =
        let one = live_word_is w on in
        subst (λ (o : Option Life). HeldAs (word_in memory fds o (p, n)) (left_held before p n o) (holds (now ++ before) p n)) (sym one.1.0)
        (live_tells p n one.0 (touched p n) (is_written memory (Some one.0) (p, n)) (held_at fds p n) one.1.1 (life_there p one.0 (is ∙ one.1.0)).1 refl refl refl)

    held_tells : (p n : ℕ) → HeldAs (held_word memory procs fds (p, n)) (left_held before p n (life_word memory procs p)) (holds (now ++ before) p n)
    held_tells p n = held_by p n (life_word memory procs p) (is_live (life_word memory procs p)) refl refl

    said_live : (v : Bool) (x : Option (Option Held)) (h : Option Held) → (if v then x else None) ≡ Some h → (v ≡ true) × (x ≡ Some h)
    said_live true x h is = (refl, is)
    said_live false x h is = none-some h is

    held_there : (p n : ℕ) (h : Option Held) → held_word memory procs fds (p, n) ≡ Some h → (is_live (life_word memory procs p) ≡ true) × (word_in memory fds (life_word memory procs p) (p, n) ≡ Some h)
    held_there p n h is = said_live (is_live (life_word memory procs p)) (word_in memory fds (life_word memory procs p) (p, n)) h is

    was_by : (p n : ℕ) (h : Option Held) (t w : Bool) (o : Option Held) → touched p n ≡ t → held_at fds p n ≡ o → slot_word t w o ≡ Some h → WasHeld now before p n
    was_by p n h t w (Some x) is has word = (0, omega arith, ap is_some (sym (held.each p n) ∙ has))
    was_by p n h true w None is has word = slots.were p n is
    was_by p n h false w None is has word = none-some h word

-- ---- addresses and births

if_true : {V : Type 0} (b : Bool) (o : Option V) (v : V) → (if b then o else None) ≡ Some v → b ≡ true
if_true true o v is = refl
if_true false o v is = none-some v is

address_tells : (memory : Memory) (fds : Fds) (before now : List Act) (s : ℕ) (b : Bool) (o : Option (List ℕ)) → AddressesAs fds (now ++ before) → AreSockets memory before now → has_socket memory s ≡ b → address_at fds s ≡ o
    → Tells (λ x. x) (if b then o else None) (address_of before s) (address_of (now ++ before) s)
address_tells memory fds before now s false o addresses are is has = are.others s is
address_tells memory fds before now s true (Some a) addresses are is has = sym has ∙ addresses.each s
address_tells memory fds before now s true None addresses are is has = true-false (sym (are.there s is) ∙ ap is_some (sym (addresses.each s) ∙ has))

births_tell : (memory : Memory) (counts : Births) (before now : List Act) (f : FileId) (b : Bool) → BornAs counts (now ++ before) → AreFiles memory before now → has_file memory f ≡ b
    → Tells (λ o. unwrap_or o 0) (if b then Some (born_at counts f) else None) (born before f) (born (now ++ before) f)
births_tell memory counts before now f false births are is = unnamed_births now before f (sym (are.each f) ∙ is)
births_tell memory counts before now f true births are is = births.each f

-- ---- all of them

tables_of : (memory : Memory) (procs : Procs) (fds : Fds) (counts : Births) (table : Known) (before now : List Act) (parts : Parts) → LivesAs procs (now ++ before) → HoldsAs fds (now ++ before) → AddressesAs fds (now ++ before) → BornAs counts (now ++ before)
    → IsSince memory before now → Admitted (now ++ before) → SayRemembered memory procs fds counts table parts → (kept extends waiting state : _) → AreTablesOf now before (batch_of parts kept extends waiting state)
tables_of memory procs fds counts table before now parts lives held addresses births since admitted say kept extends waiting state = record {
  lives = λ p. subst (λ (o : Option Life). Tells standing_of o (standing before p) (standing (now ++ before) p)) (sym (say.lives.said_is p)) (lives_tell memory procs before now lives since.pids_are p);
  lives_called = λ p l there. inr (life_there memory procs before now lives since.pids_are p l (say.lives.each p l there)).0;
  held = λ p n.
      subst (λ (o : Option (Option Held)). HeldAs o (left_held before p n (said (λ q. q == p) parts.lives)) (holds (now ++ before) p n)) (sym (say.held.said_is (p, n)))
      (subst (λ (o : Option Life). HeldAs (held_word memory procs fds (p, n)) (left_held before p n o) (holds (now ++ before) p n)) (sym (say.lives.said_is p))
      (held_tells memory procs before now lives since.pids_are fds held since.slots_are since.puts_are admitted p n));
  held_live = λ p n h there. (word_live memory procs before now lives since.pids_are p (held_there memory procs before now lives since.pids_are fds held since.slots_are since.puts_are admitted p n h (say.held.each (p, n) h there)).0).1;
  held_was = λ p n h there. was_by memory procs before now lives since.pids_are fds held since.slots_are since.puts_are admitted p n h (has_slot memory.slots p n) (is_written memory (life_word memory procs p) (p, n)) (held_at fds p n) refl refl
      (held_there memory procs before now lives since.pids_are fds held since.slots_are since.puts_are admitted p n h (say.held.each (p, n) h there)).1;
  held_called = λ p n h there. inr (word_live memory procs before now lives since.pids_are p (held_there memory procs before now lives since.pids_are fds held since.slots_are since.puts_are admitted p n h (say.held.each (p, n) h there)).0).0;
  addresses = λ s. subst (λ (o : Option (List ℕ)). Tells (λ x. x) o (address_of before s) (address_of (now ++ before) s)) (sym (say.addresses.said_is s)) (address_tells memory fds before now s (has_socket memory s) (address_at fds s) addresses since.sockets_are refl refl);
  addresses_called = λ s a there. inr (since.sockets_are.named s (if_true (has_socket memory s) (address_at fds s) a (say.addresses.each s a there)));
  births = λ f. subst (λ (o : Option ℕ). Tells (λ x. unwrap_or x 0) o (born before f) (born (now ++ before) f)) (sym (say.births.said_is f)) (births_tell memory counts before now f (has_file memory f) births since.files_are refl);
  births_called = λ f n there. inr (sym (since.files_are.each f) ∙ if_true (has_file memory f) (Some (born_at counts f)) n (say.births.each f n there));
}

-- if nothing is remembered, nothing is claimed
pub no_rows_since : (text : List ℕ → List ℕ) (tables : Tables) (before now : List Taken) (rows : TableRows) → tables.since ≡ None → StandsSince text tables before now → AreTableRows text tables.entities.most_names before now rows
no_rows_since text tables before now rows is stands = absurd (subst (λ (o : Option Memory). Remembers o (acts_of before) (acts_of now)) is stands.since)

-- whatever acts the tables stand for and remember, the rows are those of a commit
pub rows_since : (text : List ℕ → List ℕ) (tables : Tables) (memory : Memory) (before now : List Taken) (rows : TableRows) → tables.since ≡ Some memory → TellRemembered memory tables.procs tables.fds tables.births tables.entities rows
    → StandsSince text tables before now → Admitted (acts_of (now ++ before)) → AreTableRows text tables.entities.most_names before now rows
rows_since text tables memory before now rows is tell stands admitted =
    let joined : acts_of (now ++ before) ≡ acts_of now ++ acts_of before = map-append (λ (t : Taken). t.act) now before in
    let since : IsSince memory (acts_of before) (acts_of now) = subst (λ (o : Option Memory). Remembers o (acts_of before) (acts_of now)) is stands.since in
    record {
      parts = tell.parts;
      parts_are = tell.parts_are;
      entities = tell.say.entities ∙ ap (λ n. drop n tables.entities.keys) since.known_is ∙ ap (drop (length (objects (acts_of before)))) stands.stands.objects_are;
      names = λ k. tell.say.names k ∙ ap (λ n. drop n (known_at tables.entities k)) (stands.saved k) ∙ ap (drop (length (names_at text tables.entities.most_names before k))) (stands.stands.names_are.each k);
      tables = tables_of memory tables.procs tables.fds tables.births tables.entities (acts_of before) (acts_of now) tell.parts
          (subst (LivesAs tables.procs) joined stands.stands.lives_are) (subst (HoldsAs tables.fds) joined stands.stands.held_are)
          (subst (AddressesAs tables.fds) joined stands.stands.addresses_are) (subst (BornAs tables.births) joined stands.stands.births_are)
          since (subst Admitted joined admitted) tell.say;
      lives_ascend = tell.say.lives.ascend;
      held_ascend = tell.say.held.ascend;
      addresses_ascend = tell.say.addresses.ascend;
      births_ascend = tell.say.births.ascend;
    }
