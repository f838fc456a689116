-- One more event is counted.
use Rattle.std.proofs.Common.{◌≡◌, ◌≤◌, ◌<◌, ◌+◌, ◌-◌, ◌^◌, ◌++◌, ◌∙◌, refl, ap, ℕ, Bool, true, false, List, [], ◌∷◌, length, arith, length-append, min}
use Rattle.std.specs.List.{count_by}
use Rattle.std.specs.Prelude.{cond}
use mir.Val.{bool_byte}
use Rattle.std.proofs.lemmas.List.Sums.{count_by-le-length, sum_by-append}
use Rattle.record_join.specs.declared.event.Event.{Event}
use Rattle.ingest.specs.Counting.{counts_in}
use Rattle.ingest.specs.EventActs.{is_unmapped}
use Rattle.ingest.specs.declared.event_counts.EventCounts.{EventCounts}

byte_is : (b : Bool) → bool_byte b ≡ cond b 1 0
byte_is true = refl
byte_is false = refl

-- a count that one event adds to, and that is below its end
counted : (p : Event → Bool) (released : List Event) (event : Event) (b : Bool) (old byte new : ℕ) → length released < 2 ^ 62 → b ≡ p event → old ≡ count_by p released → byte ≡ bool_byte b
    → new ≡ min (old + byte) (2 ^ 64 - 1) → new ≡ count_by p (released ++ event ∷ [])
counted p released event b old byte new few is old_is byte_is_b new_is =
    let most : cond (p event) 1 0 ≤ 1 = most_one (p event) in
    let one : byte ≡ cond (p event) 1 0 = byte_is_b ∙ byte_is b ∙ ap (λ d. cond d 1 0) is in
    omega (arith, few, count_by-le-length p released, sum_by-append (λ e. cond (p e) 1 0) released (event ∷ []), most, one, old_is, new_is)
  where
    most_one : (b : Bool) → cond b 1 0 ≤ 1
    most_one true = omega arith
    most_one false = omega arith

abbrev pub counts_made : ℕ → ℕ → ℕ → EventCounts
counts_made events late unmapped = record { events = events; late = late; unmapped = unmapped }

counts_at : (a b d x y z : ℕ) → a ≡ x → b ≡ y → d ≡ z → counts_made a b d ≡ counts_made x y z
counts_at a b d x y z e f g = cc (e, f, g)

pub counted_more : (old : EventCounts) (released : List Event) (event : Event) (late unmapped : Bool) (late_byte unmapped_byte events lates all : ℕ) → old ≡ counts_in released → length released < 2 ^ 62
    → late ≡ event.late → unmapped ≡ is_unmapped event → late_byte ≡ bool_byte late → unmapped_byte ≡ bool_byte unmapped
    → events ≡ min (old.events + 1) (2 ^ 64 - 1)
    → lates ≡ min (old.late + late_byte) (2 ^ 64 - 1)
    → all ≡ min (old.unmapped + unmapped_byte) (2 ^ 64 - 1)
    → counts_made events lates all ≡ counts_in (released ++ event ∷ [])
counted_more old released event late unmapped late_byte unmapped_byte events lates all is few late_is unmapped_is late_byte_is unmapped_byte_is events_are lates_are all_are =
    counts_at _ _ _ _ _ _
    (omega (arith, events_are, few, ap (λ (c : EventCounts). c.events) is, length-append released (event ∷ [])))
    (counted (λ e. e.late) released event late old.late late_byte lates few late_is (ap (λ (c : EventCounts). c.late) is) late_byte_is lates_are)
    (counted is_unmapped released event unmapped old.unmapped unmapped_byte all few unmapped_is (ap (λ (c : EventCounts). c.unmapped) is) unmapped_byte_is all_are)
