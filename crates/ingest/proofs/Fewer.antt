-- A release takes a record, and tells the time.
use Rattle.std.proofs.Common.{◌≡◌, ◌≤◌, ◌<◌, ◌+◌, ◌++◌, ◌∙◌, sym, refl, ap, subst, ℕ, suc, Bool, true, false, [], ◌∷◌, length, arith, length-append, Option, None, Some}
use Rattle.std.specs.Prelude.{if◌then◌else◌}
use Rattle.flow_base.specs.declared.limits.Limits.{Limits}
use Rattle.audit_lex.specs.declared.header.EventKey.{EventKey}
use Rattle.audit_record.specs.declared.types.Record.{Record}
use Rattle.record_join.specs.Keys.{ends_event}
use Rattle.record_join.specs.declared.clock.JoinClock.{JoinClock}
use Rattle.record_join.specs.Events.{Joining, group_of, is_excess, close, put, enter, saw, waits, ripe_key, without, event_of, event_at, left_at, next_event, next_left}
use Rattle.record_join.specs.declared.event.Event.{Event}
use Rattle.record_join.proofs.Turns.{fewer_left}

inside : {A : Type 0} (a b : A) → Some a ≡ Some b → a ≡ b
inside a b e = cc e

module _ (limits : Limits) (s : Joining) where
  -- what the release of an event leaves
  pub record Released (event : Event) : Type 0 where
    pub fewer : length (next_left limits s).waiting < length s.waiting
    pub no_less : s.clock.effective ≤ event.ms
    pub time : (next_left limits s).clock.effective ≡ event.ms
    pub excess : (next_left limits s).excess ≡ s.excess

  released_if : (event : Event) (o : Option EventKey) → ripe_key limits s ≡ o → Some event ≡ event_at s o → Released event
  released_if event None e is = absurd (cc is)
  released_if event (Some m) e is =
      let left : without s m ≡ next_left limits s = sym (ap (left_at s) e) in
      let event_is : event_of s m ≡ event = sym (inside _ _ is) in
      record {
        fewer = fewer_left limits s m e;
        no_less = subst (λ (e : Event). s.clock.effective ≤ e.ms) event_is (omega arith);
        time = ap (λ (t : Joining). t.clock.effective) (sym left) ∙ ap (λ (e : Event). e.ms) event_is;
        excess = ap (λ (t : Joining). t.excess) (sym left);
      }

  pub released_so : (event : Event) → Some event ≡ next_event limits s → Released event
  released_so event is = released_if event (ripe_key limits s) refl is

-- ---- a record that enters

close_clock : (s : Joining) (key : EventKey) → (close s key).clock ≡ s.clock
close_clock s key = if_clock (waits key s.waiting)
  where
    if_clock : (b : Bool) → (if b then record s { closed = key ∷ s.closed } else s).clock ≡ s.clock
    if_clock true = refl
    if_clock false = refl

put_clock : (limits : Limits) (s : Joining) (r : Record) → (put limits s r).clock ≡ s.clock
put_clock limits s r = if_clock (is_excess limits (group_of r.key s.waiting) r)
  where
    if_clock : (b : Bool) → (if b then record s { excess = suc s.excess } else record s { waiting = s.waiting ++ r ∷ [] }).clock ≡ s.clock
    if_clock true = refl
    if_clock false = refl

-- a record that enters is seen by the clock
pub enter_clock : (limits : Limits) (s : Joining) (r : Record) → (enter limits s r).clock ≡ saw s.clock r.key.ms
enter_clock limits s r = if_clock (ends_event r)
  where
    now : Joining
    now = record s { clock = saw s.clock r.key.ms }

    if_clock : (b : Bool) → (if b then close now r.key else put limits now r).clock ≡ now.clock
    if_clock true = close_clock now r.key
    if_clock false = put_clock limits now r

-- it doesn't raise the effective time
pub enter_time : (limits : Limits) (s : Joining) (r : Record) → (enter limits s r).clock.effective ≡ s.clock.effective
enter_time limits s r = ap (λ (c : JoinClock). c.effective) (enter_clock limits s r)

close_waiting : (s : Joining) (key : EventKey) → length (close s key).waiting ≤ length s.waiting + 1
close_waiting s key = if_waiting (waits key s.waiting)
  where
    if_waiting : (b : Bool) → length (if b then record s { closed = key ∷ s.closed } else s).waiting ≤ length s.waiting + 1
    if_waiting true = omega arith
    if_waiting false = omega arith

put_waiting : (limits : Limits) (s : Joining) (r : Record) → length (put limits s r).waiting ≤ length s.waiting + 1
put_waiting limits s r = if_waiting (is_excess limits (group_of r.key s.waiting) r)
  where
    if_waiting : (b : Bool) → length (if b then record s { excess = suc s.excess } else record s { waiting = s.waiting ++ r ∷ [] }).waiting ≤ length s.waiting + 1
    if_waiting true = omega arith
    if_waiting false = omega (arith, length-append s.waiting (r ∷ []))

-- at most one record more waits then
pub enter_waiting : (limits : Limits) (s : Joining) (r : Record) → length (enter limits s r).waiting ≤ length s.waiting + 1
enter_waiting limits s r = if_waiting (ends_event r)
  where
    now : Joining
    now = record s { clock = saw s.clock r.key.ms }

    if_waiting : (b : Bool) → length (if b then close now r.key else put limits now r).waiting ≤ length now.waiting + 1
    if_waiting true = close_waiting now r.key
    if_waiting false = put_waiting limits now r

abbrev pub size : Joining → ℕ
size s = length s.waiting + s.excess

close_size : (s : Joining) (key : EventKey) → size (close s key) ≤ size s + 1
close_size s key = if_size (waits key s.waiting)
  where
    if_size : (b : Bool) → size (if b then record s { closed = key ∷ s.closed } else s) ≤ size s + 1
    if_size true = omega arith
    if_size false = omega arith

put_size : (limits : Limits) (s : Joining) (r : Record) → size (put limits s r) ≤ size s + 1
put_size limits s r = if_size (is_excess limits (group_of r.key s.waiting) r)
  where
    if_size : (b : Bool) → size (if b then record s { excess = suc s.excess } else record s { waiting = s.waiting ++ r ∷ [] }) ≤ size s + 1
    if_size true = omega arith
    if_size false = omega (arith, length-append s.waiting (r ∷ []))

-- a record that enters waits, or is in excess, or ends its event
pub enter_size : (limits : Limits) (s : Joining) (r : Record) → size (enter limits s r) ≤ size s + 1
enter_size limits s r = if_size (ends_event r)
  where
    now : Joining
    now = record s { clock = saw s.clock r.key.ms }

    if_size : (b : Bool) → size (if b then close now r.key else put limits now r) ≤ size now + 1
    if_size true = close_size now r.key
    if_size false = put_size limits now r
