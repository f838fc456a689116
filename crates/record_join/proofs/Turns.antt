-- A step's releases end by themselves.
use Rattle.std.proofs.Common.{◌≡◌, ◌<◌, ◌≤◌, List, [], ◌++◌, length, refl, sym, ◌∙◌, ap, subst, Some, None, arith, ℕ, zero, suc}
use Rattle.std.specs.Prelude.{Option}
use Rattle.std.specs.Option.{option_to_list}
use Rattle.record_join.specs.Keys.{is_key}
use Rattle.record_join.specs.Events.{Joining, least_key, only_ripe, ripe_key, without, event_at, left_at, next_event, next_left}
use Rattle.record_join.specs.History.{released, left, released_after, left_after}
use Rattle.audit_lex.specs.declared.header.EventKey.{EventKey}
use Rattle.audit_record.specs.declared.types.Record.{Record}
use Rattle.flow_base.specs.declared.limits.Limits.{Limits}
use Rattle.record_join.specs.declared.event.Event.{Event}
use Rattle.record_join.proofs.HoldsAll.{ripe_waits, shorter, no_length}

module _ (limits : Limits) where
  -- where nothing is ripe, nothing is released
  pub none_released : (n : ℕ) (s : Joining) → ripe_key limits s ≡ None → released n limits s ≡ []
  none_released zero s e = refl
  none_released (suc n) s e =
      ap (λ (o : Option EventKey). option_to_list (event_at s o) ++ released n limits (left_at s o)) e ∙ none_released n s e

  -- and all is left
  pub none_left : (n : ℕ) (s : Joining) → ripe_key limits s ≡ None → left n limits s ≡ s
  none_left zero s e = refl
  none_left (suc n) s e = ap (λ (o : Option EventKey). left n limits (left_at s o)) e ∙ none_left n s e

  nothing_waits : (s : Joining) → length s.waiting ≤ 0 → ripe_key limits s ≡ None
  nothing_waits s e = ap (λ (rs : List Record). only_ripe limits s (least_key rs)) (no_length s.waiting e)

  -- a release leaves fewer records
  pub fewer_left : (s : Joining) (m : EventKey) → ripe_key limits s ≡ Some m → length (next_left limits s).waiting < length s.waiting
  fewer_left s m e =
      let short : length (without s m).waiting < length s.waiting = shorter (λ (r : Record). is_key m r.key) s.waiting (ripe_waits limits s (least_key s.waiting) refl m e) in
      subst (λ (t : Joining). length t.waiting < length s.waiting) (sym (ap (left_at s) e)) short

  fewer : (s : Joining) (m : EventKey) → ripe_key limits s ≡ Some m → (n : ℕ) → length s.waiting ≤ suc n → length (next_left limits s).waiting ≤ n
  fewer s m e n le = omega (arith, fewer_left s m e, le)

  -- turns beyond the number of records add nothing
  pub enough : (n m : ℕ) (s : Joining) → length s.waiting ≤ n → length s.waiting ≤ m → (released n limits s ≡ released m limits s) × (left n limits s ≡ left m limits s)
  enough zero m s a b = (sym (none_released m s (nothing_waits s a)), sym (none_left m s (nothing_waits s a)))
  enough (suc n) zero s a b = (none_released (suc n) s (nothing_waits s b), none_left (suc n) s (nothing_waits s b))
  enough (suc n) (suc m) s a b = step (ripe_key limits s) refl (λ c d. enough n m (next_left limits s) c d)
    where
      step : (o : Option EventKey) → ripe_key limits s ≡ o
          → (length (next_left limits s).waiting ≤ n → length (next_left limits s).waiting ≤ m
          → (released n limits (next_left limits s) ≡ released m limits (next_left limits s)) × (left n limits (next_left limits s) ≡ left m limits (next_left limits s)))
          → (released (suc n) limits s ≡ released (suc m) limits s) × (left (suc n) limits s ≡ left (suc m) limits s)
      step None e rest = (none_released (suc n) s e ∙ sym (none_released (suc m) s e), none_left (suc n) s e ∙ sym (none_left (suc m) s e))
      step (Some k) e rest =
          let both = rest (fewer s k e n a) (fewer s k e m b) in
          (ap (λ (es : List Event). option_to_list (next_event limits s) ++ es) both.0, both.1)

  not_ripe : (n : ℕ) (s : Joining) → length s.waiting ≤ n → ripe_key limits (left n limits s) ≡ None
  not_ripe zero s a = nothing_waits s a
  not_ripe (suc n) s a = step (ripe_key limits s) refl (λ c. not_ripe n (next_left limits s) c)
    where
      step : (o : Option EventKey) → ripe_key limits s ≡ o → (length (next_left limits s).waiting ≤ n → ripe_key limits (left n limits (next_left limits s)) ≡ None)
          → ripe_key limits (left (suc n) limits s) ≡ None
      step None e rest = ap (ripe_key limits) (none_left (suc n) s e) ∙ e
      step (Some k) e rest = rest (fewer s k e n a)

  -- after all releases nothing is ripe
  pub ends : (s : Joining) → ripe_key limits (left_after limits s) ≡ None
  ends s = not_ripe (length s.waiting) s (omega arith)

  next_short : (s : Joining) (o : Option EventKey) → ripe_key limits s ≡ o → length (next_left limits s).waiting ≤ length s.waiting
  next_short s None e = subst (λ (t : Joining). length t.waiting ≤ length s.waiting) (sym (ap (left_at s) e)) (omega arith)
  next_short s (Some m) e = fewer s m e (length s.waiting) (omega arith)

  one_turn : (s : Joining) → (released (suc (length s.waiting)) limits s ≡ released_after limits s) × (left (suc (length s.waiting)) limits s ≡ left_after limits s)
  one_turn s = enough (suc (length s.waiting)) (length s.waiting) s (omega arith) (omega arith)

  -- one release, and then the others
  pub one_release : (s : Joining) → released_after limits s ≡ option_to_list (next_event limits s) ++ released_after limits (next_left limits s)
  one_release s =
      sym (one_turn s).0
      ∙ ap (λ (es : List Event). option_to_list (next_event limits s) ++ es)
      (enough (length s.waiting) (length (next_left limits s).waiting) (next_left limits s) (next_short s (ripe_key limits s) refl) (omega arith)).0

  pub one_left : (s : Joining) → left_after limits s ≡ left_after limits (next_left limits s)
  one_left s =
      sym (one_turn s).1
      ∙ (enough (length s.waiting) (length (next_left limits s).waiting) (next_left limits s) (next_short s (ripe_key limits s) refl) (omega arith)).1
