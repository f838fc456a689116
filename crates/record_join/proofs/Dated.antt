-- The times of events, and which of them are late.
use Rattle.std.proofs.Common.{◌≡◌, ◌≤◌, Bool, true, false, cond, List, [], ◌∷◌, ◌++◌, length, refl, sym, ◌∙◌, ap, subst, Some, None, arith, ℕ, zero, suc}
use Rattle.std.specs.Prelude.{Option, ◌||◌, fold, max, ⊤}
use Rattle.std.specs.List.{list_any}
use Rattle.std.specs.Option.{option_to_list}
use Rattle.std.proofs.lemmas.Bool.Decides.{nat_tests}
use Rattle.record_join.specs.Keys.{is_below, ends_event}
use Rattle.record_join.specs.Events.{Joining, group_of, waits, is_excess, close, put, saw, ripe_key, event_at, left_at, next_event, next_left, is_above, greater_key}
use Rattle.record_join.specs.History.{Step, Came, Settle, start, told, released, left, released_after, left_after, events, IsDated}
use Rattle.audit_lex.specs.declared.header.EventKey.{EventKey}
use Rattle.audit_record.specs.declared.types.Record.{Record}
use Rattle.flow_base.specs.declared.limits.Limits.{Limits}
use Rattle.record_join.specs.declared.event.Event.{Event}
use Rattle.record_join.proofs.Least.{not_below_through, not_both}
use Rattle.record_join.proofs.Groups.{by_test, on_true, on_false}
use Rattle.record_join.proofs.HoldsAll.{LateIs, top_after, events_late}

-- each event's time is the greater of its own and the effective time before it
abbrev TimedIs : ℕ → List Event → Type 0
TimedIs eff [] = ⊤
TimedIs eff (e ∷ es) = (e.ms ≡ max eff e.key.ms) × TimedIs (max eff e.key.ms) es

abbrev time_after : ℕ → List Event → ℕ
time_after eff [] = eff
time_after eff (e ∷ es) = time_after (max eff e.key.ms) es

timed_append : (eff : ℕ) (xs ys : List Event) → TimedIs eff xs → TimedIs (time_after eff xs) ys → TimedIs eff (xs ++ ys)
timed_append eff [] ys a b = b
timed_append eff (x ∷ xs) ys a b = (a.0, timed_append (max eff x.key.ms) xs ys a.1 b)

time_append : (eff : ℕ) (xs ys : List Event) → time_after eff (xs ++ ys) ≡ time_after (time_after eff xs) ys
time_append eff [] ys = refl
time_append eff (x ∷ xs) ys = time_append (max eff x.key.ms) xs ys

close_effective : (s : Joining) (k : EventKey) (b : Bool) → (cond b (record s { closed = k ∷ s.closed }) s).clock.effective ≡ s.clock.effective
close_effective s k true = refl
close_effective s k false = refl

put_effective : (s : Joining) (ws : List Record) (n : ℕ) (b : Bool) → (cond b (record s { excess = n }) (record s { waiting = ws })).clock.effective ≡ s.clock.effective
put_effective s ws n true = refl
put_effective s ws n false = refl

either_effective : (s t : Joining) (b : Bool) (n : ℕ) → s.clock.effective ≡ n → t.clock.effective ≡ n → (cond b s t).clock.effective ≡ n
either_effective s t true n e f = e
either_effective s t false n e f = f

module _ (limits : Limits) where
  next_timed : (s : Joining) (o : Option EventKey) → TimedIs s.clock.effective (option_to_list (event_at s o)) × (time_after s.clock.effective (option_to_list (event_at s o)) ≡ (left_at s o).clock.effective)
  next_timed s None = (tt, refl)
  next_timed s (Some m) = ((refl, tt), refl)

  releases_timed : (n : ℕ) (s : Joining) → TimedIs s.clock.effective (released n limits s) × (time_after s.clock.effective (released n limits s) ≡ (left n limits s).clock.effective)
  releases_timed zero s = (tt, refl)
  releases_timed (suc n) s =
      let a = next_timed s (ripe_key limits s) in
      let b = releases_timed n (next_left limits s) in
      let xs : List Event = option_to_list (next_event limits s) in
      let ys : List Event = released n limits (next_left limits s) in (
        timed_append s.clock.effective xs ys a.0 (subst (λ t. TimedIs t ys) (sym a.1) b.0),
        time_append s.clock.effective xs ys ∙ ap (λ t. time_after t ys) a.1 ∙ b.1,
      )

  told_effective : (s : Joining) (step : Step) → (told limits s step).clock.effective ≡ s.clock.effective
  told_effective s (Came r) =
      let now : Joining = record s { clock = saw s.clock r.key.ms } in
      either_effective (close now r.key) (put limits now r) (ends_event r) s.clock.effective
      (close_effective now r.key (waits r.key s.waiting))
      (put_effective now (s.waiting ++ r ∷ []) (suc s.excess) (is_excess limits (group_of r.key s.waiting) r))
  told_effective s Settle = refl

  events_timed : (s : Joining) (steps : List Step) → TimedIs s.clock.effective (events limits s steps)
  events_timed s [] = tt
  events_timed s (step ∷ steps) =
      let t : Joining = told limits s step in
      let u : Joining = left_after limits t in
      let a = releases_timed (length t.waiting) t in
      let xs : List Event = released_after limits t in
      let ys : List Event = events limits u steps in
      subst (λ n. TimedIs n (xs ++ ys)) (told_effective s step)
      (timed_append t.clock.effective xs ys a.0 (subst (λ n. TimedIs n ys) (sym a.1) (events_timed u steps)))

time_is : (eff : ℕ) (before after : List Event) (e : Event) → TimedIs eff (before ++ e ∷ after) → e.ms ≡ fold (λ t x. max t x.key.ms) eff (before ++ e ∷ [])
time_is eff [] after e t = t.0
time_is eff (b ∷ before) after e t = time_is (max eff b.key.ms) before after e t.1

le_greater : (a b : ℕ) → a ≤ max a b
le_greater a b = grind (arith, nat_tests)

rises : (eff : ℕ) (before after : List Event) (d e : Event) → TimedIs eff (before ++ d ∷ e ∷ after) → d.ms ≤ e.ms
rises eff [] after d e t =
    subst (λ n. d.ms ≤ n) (sym t.1.0) (subst (λ n. n ≤ max (max eff d.key.ms) e.key.ms) (sym t.0) (le_greater (max eff d.key.ms) e.key.ms))
rises eff (b ∷ before) after d e t = rises (max eff b.key.ms) before after d e t.1

or_with : (a b : Bool) → (a ≡ false → b ≡ false) → a ≡ (a || b)
or_with true b f = refl
or_with false b f = sym (f refl)

with_or : (a b : Bool) → (b ≡ false → a ≡ false) → b ≡ (a || b)
with_or true true f = refl
with_or true false f = sym (f refl)
with_or false b f = refl

-- a key is below the greatest where it is below one of them
below_greatest : (top : Option EventKey) (b k : EventKey) → is_above (Some (greater_key top b)) k ≡ (is_above top k || is_below k b)
below_greatest None b k = refl
below_greatest (Some r) b k = by_test (is_below b r)
    (λ lt. ap (is_below k) (on_true (is_below b r) r b lt) ∙ or_with (is_below k r) (is_below k b) (λ n. not_below_through k r b n (not_both b r lt)))
    (λ ge. ap (is_below k) (on_false (is_below b r) r b ge) ∙ with_or (is_below k r) (is_below k b) (λ n. not_below_through k b r n ge))

or_assoc : (a b c : Bool) → ((a || b) || c) ≡ (a || (b || c))
or_assoc true b c = refl
or_assoc false b c = refl

above_after : (top : Option EventKey) (before : List Event) (k : EventKey) → is_above (top_after top before) k ≡ (is_above top k || list_any (λ b. is_below k b.key) before)
above_after top [] k = or_with (is_above top k) false (λ e. refl)
above_after top (b ∷ before) k =
    above_after (Some (greater_key top b.key)) before k
    ∙ ap (λ v. v || list_any (λ b. is_below k b.key) before) (below_greatest top b.key k)
    ∙ or_assoc (is_above top k) (is_below k b.key) (list_any (λ b. is_below k b.key) before)

late_is : (top : Option EventKey) (before after : List Event) (e : Event) → LateIs top (before ++ e ∷ after) → e.late ≡ is_above (top_after top before) e.key
late_is top [] after e l = l.0
late_is top (b ∷ before) after e l = late_is (Some (greater_key top b.key)) before after e l.1

pub dated : (limits : Limits) (steps : List Step) → IsDated (events limits start steps)
dated limits steps = record {
  times = λ before after e is. time_is 0 before after e (subst (λ es. TimedIs 0 es) is (events_timed limits start steps));
  late = λ before after e is.
      late_is None before after e (subst (λ es. LateIs None es) is (events_late limits start steps)) ∙ above_after None before e.key;
  rise = λ before after d e is. rises 0 before after d e (subst (λ es. TimedIs 0 es) is (events_timed limits start steps));
}
