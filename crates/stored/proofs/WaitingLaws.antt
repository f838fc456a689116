-- What waits, read from the rows.
use Rattle.std.proofs.Common.{◌≡◌, ◌∙◌, refl, ap, ℕ, Bool, true, false, List, [], ◌∷◌, ◌++◌, map, Option, Some, None}
use Rattle.std.specs.Prelude.{filter, if◌then◌else◌}
use Rattle.std.specs.Option.{option_to_list}
use Rattle.std.specs.Map.{lookup}
use Rattle.audit_lex.specs.declared.header.EventKey.{EventKey}
use Rattle.audit_record.specs.declared.types.Record.{Record}
use Rattle.record_join.specs.Keys.{is_key}
use Rattle.record_join.specs.Events.{Joining, group_of, waits, is_among}
use Rattle.record_join.specs.StandsFor.{group_at}
use Rattle.stored.specs.Batch.{AreWaiting, lines_of_group}
use Rattle.stored.specs.Reading.{records_of, group_of_lines, AreSpelled, clock_of}
use Rattle.stored.specs.Moment.{Moment, state_at, is_there, time_or_zero, ms_or_zero, serial_or_zero}
use Rattle.record_join.specs.declared.clock.JoinClock.{JoinClock}
use Rattle.stored.specs.Words.{Group}

kept_if : (read : List ℕ → Option Record) (test : Record → Bool) (r : Record) (rs : List Record) (b : Bool) → read r.line ≡ Some r → AreSpelled read (filter test rs) → AreSpelled read (if b then r ∷ filter test rs else filter test rs)
kept_if read test r rs true is rest = (is, rest)
kept_if read test r rs false is rest = rest

kept_spelled : (read : List ℕ → Option Record) (test : Record → Bool) (rs : List Record) → AreSpelled read rs → AreSpelled read (filter test rs)
kept_spelled read test [] are = tt
kept_spelled read test (r ∷ rs) are = kept_if read test r rs (test r) are.0 (kept_spelled read test rs are.1)

read_back : (read : List ℕ → Option Record) (rs : List Record) → AreSpelled read rs → records_of read (map (λ (r : Record). r.line) rs) ≡ rs
read_back read [] are = refl
read_back read (r ∷ rs) are = ap (λ (o : Option Record). option_to_list o ++ records_of read (map (λ (x : Record). x.line) rs)) are.0 ∙ ap (λ (l : List Record). r ∷ l) (read_back read rs are.1)

at_if : (read : List ℕ → Option Record) (s : Joining) (key : EventKey) (b : Bool) → AreSpelled read (group_of key s.waiting)
    → group_of_lines read (lines_of_group (if b then Some (record { closed = is_among key s.closed; records = group_of key s.waiting }) else None)) ≡ (if b then Some (record { closed = is_among key s.closed; records = group_of key s.waiting }) else None)
at_if read s key true are = ap (λ (l : List Record). Some (record { closed = is_among key s.closed; records = l })) (read_back read (group_of key s.waiting) are)
at_if read s key false are = refl

-- the groups of the last batch are those that wait, if each record is the one that its line spells
pub waiting_restored : (read : List ℕ → Option Record) (s : Joining) (groups : List (EventKey × Group)) → AreSpelled read s.waiting → AreWaiting s groups → (key : EventKey) → group_of_lines read (lookup (is_key key) groups) ≡ group_at s key
waiting_restored read s groups are is key =
    ap (group_of_lines read) (is key) ∙ at_if read s key (waits key s.waiting) (kept_spelled read (λ r. is_key key r.key) s.waiting are)

-- ---- the clock

seen_back : (o : Option ℕ) → (if is_there o then Some (time_or_zero o) else None) ≡ o
seen_back None = refl
seen_back (Some ms) = refl

key_back : (o : Option EventKey) → (if is_there o then Some (record { ms = ms_or_zero o; serial = serial_or_zero o }) else None) ≡ o
key_back None = refl
key_back (Some key) = refl

clock_made : (a b : Option ℕ) (c d : Option EventKey) (e : ℕ) → a ≡ b → c ≡ d → ◌≡◌ {A = JoinClock} (record { seen = a; released = c; effective = e }) (record { seen = b; released = d; effective = e })
clock_made a b c d e x y = ap (λ (o : Option ℕ). record { seen = o; released = c; effective = e }) x ∙ ap (λ (o : Option EventKey). record { seen = b; released = o; effective = e }) y

pub clock_restored : (m : Moment) → clock_of (state_at m) ≡ m.join.clock
clock_restored m = clock_made _ m.join.clock.seen _ m.join.clock.released m.join.clock.effective (seen_back m.join.clock.seen) (key_back m.join.clock.released)
