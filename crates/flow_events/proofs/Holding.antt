-- What the Held rows are collected from.
use Rattle.std.proofs.Common.{◌≡◌, ◌∙◌, refl, sym, ap, ℕ, Bool, true, false, List, [], ◌∷◌, ◌++◌, Option, Some, None, is_some, nat_eq, arith}
use Rattle.std.specs.Prelude.{◌==◌, ◌&&◌, ◌||◌, not, if◌then◌else◌}
use Rattle.std.specs.Option.{option_map}
use Rattle.std.specs.List.{list_any}
use Rattle.std.specs.Map.{keys_of}
use Rattle.std.specs.Ordering.{is_eq, nat_cmp}
use Rattle.std.proofs.lemmas.Bool.Decides.{nat_tests}
use Rattle.acts.specs.declared.held.Held.{Held}
use Rattle.fd_table.specs.declared.entries.FdEntry.{FdEntry}
use Rattle.fd_table.specs.Entries.{entry_of}
use Rattle.fd_table.specs.Table.{Table as Fds, held_at}
use Rattle.proc_table.specs.declared.life.Life.{Life}
use Rattle.store_check.specs.Store.{newer}
use Rattle.flow_events.specs.Rows.{Say, found, goes_on, is_live, is_written, kept_word, live_word, only_if, slot_cmp, slot_word, touched_word}
use Rattle.flow_events.specs.Since.{Memory, has_slot, is_touched}
use Rattle.flow_events.proofs.Sayings.{nat_is, slot_exact, slot_is}

-- what the entries say of a descriptor
abbrev pub entry_word : List FdEntry → ℕ → Option (Option Held)
entry_word entries n = option_map (λ held. Some held) (entry_of entries n)

entry_last : (entries : List FdEntry) (e : FdEntry) (n : ℕ) (o : Option (Option Held)) → newer (newer o (if e.fd == n then Some (Some e.held) else None)) (entry_word entries n) ≡ newer o (entry_word (entries ++ e ∷ []) n)
entry_last [] e n o = by (e.fd == n)
  where
    by : (b : Bool) → newer o (if b then Some (Some e.held) else None) ≡ newer o (option_map (λ held. Some held) (if b then Some e.held else None))
    by true = refl
    by false = refl
entry_last (x ∷ entries) e n o = by (x.fd == n) (entry_last entries e n o)
  where
    by : (b : Bool) → newer (newer o (if e.fd == n then Some (Some e.held) else None)) (entry_word entries n) ≡ newer o (entry_word (entries ++ e ∷ []) n)
        → newer (newer o (if e.fd == n then Some (Some e.held) else None)) (option_map (λ held. Some held) (if b then Some x.held else entry_of entries n)) ≡ newer o (option_map (λ held. Some held) (if b then Some x.held else entry_of (entries ++ e ∷ []) n))
    by true rest = refl
    by false rest = rest

pub swapped : (a b : ℕ) → (a == b) ≡ (b == a)
swapped a b = grind (arith, nat_tests)

-- one entry more is put, if its descriptor passes
pub entry_put : (test : ℕ × ℕ → Bool) (entries all : List FdEntry) (e : FdEntry) (pid : ℕ) (q : ℕ × ℕ) (o new : Option (Option Held)) → all ≡ entries ++ e ∷ []
    → new ≡ newer o (if is_eq (slot_cmp (pid, e.fd) q) then only_if (test (pid, e.fd)) (Some (Some e.held)) else None)
    → newer new (if pid == q.0 then only_if (test q) (entry_word entries q.1) else None) ≡ newer o (if pid == q.0 then only_if (test q) (entry_word all q.1) else None)
entry_put test entries all e pid q o new is puts =
    ap (λ (x : Option (Option Held)). newer x (if pid == q.0 then only_if (test q) (entry_word entries q.1) else None))
    (puts ∙ ap (newer o) (alike (is_eq (slot_cmp (pid, e.fd) q)) refl) ∙ ap (λ (b : Bool). newer o (if b then only_if (test q) (Some (Some e.held)) else None)) at_is)
    ∙ by (pid == q.0) (test q)
    ∙ ap (λ (l : List FdEntry). newer o (if pid == q.0 then only_if (test q) (entry_word l q.1) else None)) (sym is)
  where
    alike : (b : Bool) → is_eq (slot_cmp (pid, e.fd) q) ≡ b → (if b then only_if (test (pid, e.fd)) (Some (Some e.held)) else None) ≡ (if b then only_if (test q) (Some (Some e.held)) else None)
    alike true here = ap (λ (x : ℕ × ℕ). only_if (test x) (Some (Some e.held))) (slot_exact (pid, e.fd) q (sym (slot_is (pid, e.fd) q) ∙ here))
    alike false here = refl

    none : (c : Bool) → newer (newer o (if c then None else None)) None ≡ newer o None
    none true = refl
    none false = refl

    at_is : is_eq (slot_cmp (pid, e.fd) q) ≡ ((pid == q.0) && (e.fd == q.1))
    at_is = slot_is (pid, e.fd) q ∙ ap (λ (b : Bool). b && (q.1 == e.fd)) (swapped q.0 pid) ∙ ap (λ (b : Bool). (pid == q.0) && b) (swapped q.1 e.fd)

    by : (b w : Bool) → newer (newer o (if b && (e.fd == q.1) then only_if w (Some (Some e.held)) else None)) (if b then only_if w (entry_word entries q.1) else None) ≡ newer o (if b then only_if w (entry_word (entries ++ e ∷ []) q.1) else None)
    by true true = entry_last entries e q.1 o
    by true false = none (e.fd == q.1)
    by false w = refl

pub entries_word : (w : Bool) (entries : List FdEntry) (fds : Fds) (pid : ℕ) → ((n : ℕ) → entry_of entries n ≡ held_at fds pid n) → (q : ℕ × ℕ) → (if pid == q.0 then only_if w (entry_word entries q.1) else None) ≡ (if pid == q.0 then only_if w (kept_word fds q) else None)
entries_word w entries fds pid is q = by (pid == q.0) refl
  where
    same : (a b : ℕ) → (a == b) ≡ true → a ≡ b
    same a b e = grind (arith, nat_tests)

    by : (b : Bool) → (pid == q.0) ≡ b → (if b then only_if w (entry_word entries q.1) else None) ≡ (if b then only_if w (kept_word fds q) else None)
    by true here = ap (λ (h : Option Held). only_if w (option_map (λ held. Some held) h)) (is q.1 ∙ ap (λ (p : ℕ). held_at fds p q.1) (same pid q.0 here))
    by false here = refl

-- one pid more is put
pub pid_put : {V : Type 0} (before new o : Option V) (any here : Bool) (word : Option V) → before ≡ newer o (if any then word else None) → new ≡ newer before (if here then word else None) → new ≡ newer o (if any || here then word else None)
pid_put {V} before new o any here word was is = is ∙ ap (λ x. newer x (if here then word else None)) was ∙ by any here word
  where
    by : (a h : Bool) (w : Option V) → newer (newer o (if a then w else None)) (if h then w else None) ≡ newer o (if a || h then w else None)
    by true true None = refl
    by true true (Some x) = refl
    by true false w = refl
    by false h w = refl

live_there : (o : Option Life) → is_live o ≡ true → is_some o ≡ true
live_there None is = let wrong : false ≡ true = is in cc
live_there (Some l) is = refl

-- what is lost and then what is held, if it is written, as what was touched is
pub held_word_is : (touched written any : Bool) (o : Option Life) (held : Option Held) → (touched ≡ true → written ≡ true) → any ≡ is_some o
    → newer (if touched then (if is_live o then Some None else None) else None) (if any then (if is_live o then only_if written (option_map (λ h. Some h) held) else None) else None)
    ≡ (if is_live o then slot_word touched written held else None)
held_word_is touched written any o held must is =
    ap (λ (a : Bool). newer (if touched then (if is_live o then Some None else None) else None) (if a then (if is_live o then only_if written (option_map (λ h. Some h) held) else None) else None)) is
    ∙ by (is_live o) (is_some o) touched written held (live_there o) must
  where
    by : (v a t w : Bool) (h : Option Held) → (v ≡ true → a ≡ true) → (t ≡ true → w ≡ true) → newer (if t then (if v then Some None else None) else None) (if a then (if v then only_if w (option_map (λ x. Some x) h) else None) else None) ≡ (if v then slot_word t w h else None)
    by true true true true None there must = refl
    by true true false true None there must = refl
    by true true t true (Some x) there must = refl
    by true true true false h there must = let wrong : false ≡ true = must refl in absurd cc
    by true true false false None there must = refl
    by true true false false (Some x) there must = refl
    by true false t w h there must = let wrong : false ≡ true = there refl in absurd cc
    by false true true w h there must = refl
    by false true false w h there must = refl
    by false false true w h there must = refl
    by false false false w h there must = refl

-- what was touched while it held something is written
pub touched_written : (memory : Memory) (life : Option Life) (q : ℕ × ℕ) → has_slot memory.slots q.0 q.1 ≡ true → is_written memory life q ≡ true
touched_written memory life q is = by (goes_on memory q.0 life) (has_slot memory.slots q.0 q.1) (has_slot memory.puts q.0 q.1) is
  where
    by : (g t u : Bool) → t ≡ true → (not g || (t || u)) ≡ true
    by true true u touched = refl
    by false t u touched = refl
    by true false u touched = absurd cc

-- what is put of a pid that is live: all that it holds, if its life doesn't go on
pub pid_word : (memory : Memory) (lives : List (ℕ × Life)) (fds : Fds) (pid : ℕ) (life : Option Life) (all : Bool) → found nat_cmp lives pid ≡ life → is_live life ≡ true → all ≡ not (goes_on memory pid life) → (q : ℕ × ℕ)
    → (if pid == q.0 then touched_word all memory fds q else None) ≡ (if pid == q.0 then live_word memory lives fds q else None)
pid_word memory lives fds pid life all has live whole q = by (pid == q.0) refl
  where
    same : (a b : ℕ) → (a == b) ≡ true → a ≡ b
    same a b e = grind (arith, nat_tests)

    by : (b : Bool) → (pid == q.0) ≡ b → (if b then touched_word all memory fds q else None) ≡ (if b then live_word memory lives fds q else None)
    by true here =
        let one : pid ≡ q.0 = same pid q.0 here in
        ap (λ (b : Bool). only_if (b || is_touched memory q) (kept_word fds q)) (whole ∙ ap (λ (p : ℕ). not (goes_on memory p life)) one)
        ∙ sym (ap (λ (o : Option Life). if is_live o then only_if (is_written memory o q) (kept_word fds q) else None) (ap (found nat_cmp lives) (sym one) ∙ has)
        ∙ ap (λ (b : Bool). if b then only_if (is_written memory life q) (kept_word fds q) else None) live)
    by false here = refl

-- no entry is left
pub none_left : (w : Bool) (pid p : ℕ) (o : Option (Option Held)) → newer o (if pid == p then only_if w None else None) ≡ o
none_left w pid p o = by (pid == p) w
  where
    by : (b c : Bool) → newer o (if b then only_if c None else None) ≡ o
    by true true = refl
    by true false = refl
    by false c = refl

-- a key is there that has a value
pub any_found : {V : Type 0} (pairs : List (ℕ × V)) (p : ℕ) → list_any (nat_eq p) (keys_of pairs) ≡ is_some (found nat_cmp pairs p)
any_found [] p = refl
any_found {V} (e ∷ pairs) p = ap (λ (b : Bool). b || list_any (nat_eq p) (keys_of pairs)) (swapped p e.0 ∙ sym (nat_is p e.0)) ∙ by (is_eq (nat_cmp p e.0)) (any_found pairs p)
  where
    by : (b : Bool) → list_any (nat_eq p) (keys_of pairs) ≡ is_some (found nat_cmp pairs p) → (b || list_any (nat_eq p) (keys_of pairs)) ≡ is_some (if b then Some e.1 else found nat_cmp pairs p)
    by true rest = refl
    by false rest = rest

pub say_alike : {K V : Type 0} (Before : K → K → Type 0) (test : K → K → Bool) (word other : K → Option V) (pairs : List (K × V)) → ((k : K) → word k ≡ other k) → Say Before test word pairs → Say Before test other pairs
say_alike Before test word other pairs alike say = record {
  ascend = say.ascend;
  said_is = λ k. say.said_is k ∙ alike k;
  each = λ k v there. sym (alike k) ∙ say.each k v there;
}
