-- Every state of a joiner is sound.
use Rattle.std.proofs.Common.{◌≡◌, Bool, true, false, cond, List, [], ◌∷◌, ◌++◌, length, refl, sym, ◌∙◌, ap, subst, append_assoc, append-nil, Some, None, arith, ℕ, zero, suc}
use Rattle.std.specs.Prelude.{Option, max}
use Rattle.std.proofs.lemmas.Bool.Decides.{nat_tests}
use Rattle.std.proofs.lemmas.List.Elements.{filter-append}
use Rattle.record_join.specs.Keys.{is_key, ends_event}
use Rattle.record_join.specs.Events.{Joining, group_of, waits, is_excess, seen_time, saw, close, put, enter, ripe_key, left_at, next_left}
use Rattle.record_join.specs.History.{Step, Came, Settle, start, told, left, left_after, state}
use Rattle.record_join.specs.PutBack.{HeldInTurn, IsSound}
use Rattle.audit_lex.specs.declared.header.EventKey.{EventKey}
use Rattle.audit_record.specs.declared.types.Record.{Record}
use Rattle.flow_base.specs.declared.limits.Limits.{Limits}
use Rattle.record_join.specs.declared.clock.JoinClock.{JoinClock}
use Rattle.record_join.proofs.Keys.{key_laws, one_key}
use Rattle.record_join.proofs.Lists.{at_apart}
use Rattle.record_join.proofs.Groups.{by_test, on_true, on_false}
use Rattle.record_join.proofs.HoldsAll.{entered}

not_none : {A : Type 0} (x : A) → Some x ≡ None → ⊥
not_none x e = cc

inside : {A : Type 0} (a b : A) → Some a ≡ Some b → a ≡ b
inside a b e = cc

greatest_of : (s m k : ℕ) → max s k ≡ s → max (max s m) k ≡ max s m
greatest_of s m k e = grind (arith, nat_tests, e)

greatest_now : (s m : ℕ) → max (max s m) m ≡ max s m
greatest_now s m = grind (arith, nat_tests)

greatest_one : (m : ℕ) → max m m ≡ m
greatest_one m = grind (arith, nat_tests)

-- a time that was seen stays seen
seen_more : (seen : Option ℕ) (m k : ℕ) → seen_time seen k ≡ seen → seen_time (seen_time seen m) k ≡ seen_time seen m
seen_more None m k e = absurd (not_none k e)
seen_more (Some s) m k e = ap Some (greatest_of s m k (inside (max s k) s e))

seen_now : (seen : Option ℕ) (m : ℕ) → seen_time (seen_time seen m) m ≡ seen_time seen m
seen_now None m = ap Some (greatest_one m)
seen_now (Some s) m = ap Some (greatest_now s m)

either_clock : (s t : Joining) (b : Bool) (c : JoinClock) → s.clock ≡ c → t.clock ≡ c → (cond b s t).clock ≡ c
either_clock s t true c e f = e
either_clock s t false c e f = f

module _ (limits : Limits) where
  held_seen : (seen : Option ℕ) (m : ℕ) (before records : List Record) → HeldInTurn limits seen before records → HeldInTurn limits (seen_time seen m) before records
  held_seen seen m before [] h = tt
  held_seen seen m before (r ∷ records) h = (h.0, h.1, seen_more seen m r.key.ms h.2, held_seen seen m (before ++ r ∷ []) records h.3)

  held_push : (seen : Option ℕ) (before records : List Record) (r : Record) → HeldInTurn limits seen before records
      → ends_event r ≡ false → is_excess limits (before ++ records) r ≡ false → seen_time seen r.key.ms ≡ seen → HeldInTurn limits seen before (records ++ r ∷ [])
  held_push seen before [] r h e f g = (e, ap (λ (rs : List Record). is_excess limits rs r) (sym (append-nil before)) ∙ f, g, tt)
  held_push seen before (x ∷ records) r h e f g =
      (h.0, h.1, h.2, held_push seen (before ++ x ∷ []) records r h.3 e (ap (λ (rs : List Record). is_excess limits rs r) (append_assoc before (x ∷ []) records) ∙ f) g)

  enter_clock : (s : Joining) (r : Record) → (enter limits s r).clock ≡ saw s.clock r.key.ms
  enter_clock s r =
      let now : Joining = record s { clock = saw s.clock r.key.ms } in
      either_clock (close now r.key) (put limits now r) (ends_event r) (saw s.clock r.key.ms)
      (either_clock (record now { closed = r.key ∷ s.closed }) now (waits r.key s.waiting) (saw s.clock r.key.ms) refl refl)
      (either_clock (record now { excess = suc s.excess }) (record now { waiting = s.waiting ++ r ∷ [] }) (is_excess limits (group_of r.key s.waiting) r) (saw s.clock r.key.ms) refl refl)

  -- what a step adds to a group is held
  group_sound : (s : Joining) (r : Record) (k : EventKey) (b x : Bool) → ends_event r ≡ b → is_excess limits (group_of r.key s.waiting) r ≡ x → IsSound limits s
      → HeldInTurn limits (seen_time s.clock.seen r.key.ms) [] (group_of k s.waiting ++ group_of k (cond b [] (cond x [] (r ∷ []))))
  group_sound s r k true x e f sound = subst (λ (rs : List Record). HeldInTurn limits (seen_time s.clock.seen r.key.ms) [] rs) (sym (append-nil (group_of k s.waiting))) (held_seen s.clock.seen r.key.ms [] (group_of k s.waiting) (sound k))
  group_sound s r k false true e f sound = subst (λ (rs : List Record). HeldInTurn limits (seen_time s.clock.seen r.key.ms) [] rs) (sym (append-nil (group_of k s.waiting))) (held_seen s.clock.seen r.key.ms [] (group_of k s.waiting) (sound k))
  group_sound s r k false false e f sound =
      let more = held_seen s.clock.seen r.key.ms [] (group_of k s.waiting) (sound k) in
      by_test (is_key k r.key)
      (λ same. subst (λ (rs : List Record). HeldInTurn limits (seen_time s.clock.seen r.key.ms) [] (group_of k s.waiting ++ rs)) (sym (on_true (is_key k r.key) (r ∷ []) [] same))
      (held_push (seen_time s.clock.seen r.key.ms) [] (group_of k s.waiting) r more e
      (ap (λ (z : EventKey). is_excess limits (group_of z s.waiting) r) (one_key k r.key same) ∙ f) (seen_now s.clock.seen r.key.ms)))
      (λ other. subst (λ (rs : List Record). HeldInTurn limits (seen_time s.clock.seen r.key.ms) [] rs)
      (sym (ap (λ (rs : List Record). group_of k s.waiting ++ rs) (on_false (is_key k r.key) (r ∷ []) [] other) ∙ append-nil (group_of k s.waiting))) more)

  told_sound : (s : Joining) (step : Step) → IsSound limits s → IsSound limits (told limits s step)
  told_sound s (Came r) sound = λ k.
      let b = ends_event r in
      let x = is_excess limits (group_of r.key s.waiting) r in
      let added : group_of k (enter limits s r).waiting ≡ group_of k s.waiting ++ group_of k (cond b [] (cond x [] (r ∷ []))) =
      ap (group_of k) (entered limits s r b x refl refl).1 ∙ filter-append (λ (y : Record). is_key k y.key) s.waiting (cond b [] (cond x [] (r ∷ []))) in
      subst (λ (c : JoinClock). HeldInTurn limits c.seen [] (group_of k (enter limits s r).waiting)) (sym (enter_clock s r))
      (subst (λ (rs : List Record). HeldInTurn limits (seen_time s.clock.seen r.key.ms) [] rs) (sym added) (group_sound s r k b x refl refl sound))
  told_sound s Settle sound = sound

  next_sound : (s : Joining) (o : Option EventKey) → IsSound limits s → IsSound limits (left_at s o)
  next_sound s None sound = sound
  next_sound s (Some m) sound = λ k. by_test (is_key m k)
      (λ same. subst (λ (rs : List Record). HeldInTurn limits s.clock.seen [] rs) (sym (at_apart (λ (r : Record). r.key) is_key key_laws m k s.waiting ∙ on_true _ _ _ same)) tt)
      (λ other. subst (λ (rs : List Record). HeldInTurn limits s.clock.seen [] rs) (sym (at_apart (λ (r : Record). r.key) is_key key_laws m k s.waiting ∙ on_false _ _ _ other)) (sound k))

  left_sound : (n : ℕ) (s : Joining) → IsSound limits s → IsSound limits (left n limits s)
  left_sound zero s sound = sound
  left_sound (suc n) s sound = left_sound n (next_left limits s) (next_sound s (ripe_key limits s) sound)

  state_sound : (s : Joining) (steps : List Step) → IsSound limits s → IsSound limits (state limits s steps)
  state_sound s [] sound = sound
  state_sound s (step ∷ steps) sound =
      let t : Joining = told limits s step in
      state_sound (left_after limits t) steps (left_sound (length t.waiting) t (told_sound s step sound))

  pub always_sound : (steps : List Step) → IsSound limits (state limits start steps)
  always_sound steps = state_sound start steps (λ k. tt)
