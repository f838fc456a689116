-- The joiner's clock is the one of the history, and of the events that were followed.
use Rattle.std.proofs.Common.{◌≡◌, ◌++◌, ◌∙◌, sym, refl, ap, subst, ℕ, zero, suc, List, [], ◌∷◌, length, Option, None, Some}
use Rattle.std.specs.Prelude.{fold, max}
use Rattle.std.proofs.lemmas.Grind.{fold-append}
use Rattle.flow_base.specs.declared.limits.Limits.{Limits}
use Rattle.audit_lex.specs.History.{History}
use Rattle.audit_lex.specs.declared.header.EventKey.{EventKey}
use Rattle.audit_record.specs.declared.types.Record.{Record}
use Rattle.record_join.specs.Events.{Joining, enter, greater_key, ripe_key, without, event_of, event_at, left_at, next_event, next_left}
use Rattle.record_join.specs.History.{Step as Told, Came, Settle as Settles, start, told, state, left, left_after}
use Rattle.record_join.specs.declared.clock.JoinClock.{JoinClock}
use Rattle.record_join.specs.declared.event.Event.{Event}
use Rattle.ingest.specs.Clocks.{seen_then, HasReleased, IsClockOf}
use Rattle.ingest.specs.Events.{told_of, state_of}
use Rattle.ingest.specs.Parts.{Joined}
use Rattle.ingest.specs.StandsFor.{JoinedStandsFor}
use Rattle.ingest.proofs.Fewer.{enter_clock}

inside : {A : Type 0} (a b : A) → Some a ≡ Some b → a ≡ b
inside a b e = cc e

module _ (limits : Limits) where
  seen_at : (s : Joining) (o : Option EventKey) → (left_at s o).clock.seen ≡ s.clock.seen
  seen_at s None = refl
  seen_at s (Some k) = refl

  -- releases see no record
  seen_left : (n : ℕ) (s : Joining) → (left n limits s).clock.seen ≡ s.clock.seen
  seen_left zero s = refl
  seen_left (suc n) s = seen_left n (next_left limits s) ∙ seen_at s (ripe_key limits s)

  seen_told : (s : Joining) (step : Told) → (told limits s step).clock.seen ≡ seen_then s.clock.seen step
  seen_told s (Came r) = ap (λ (c : JoinClock). c.seen) (enter_clock limits s r)
  seen_told s Settles = refl

  seen_steps : (s : Joining) (steps : List Told) → (state limits s steps).clock.seen ≡ fold seen_then s.clock.seen steps
  seen_steps s [] = refl
  seen_steps s (step ∷ steps) =
      let t = told limits s step in
      seen_steps (left_after limits t) steps
      ∙ ap (λ (seen : Option ℕ). fold seen_then seen steps) (seen_left (length t.waiting) t ∙ seen_told s step)

  released_if : (s : Joining) (released : List Event) (event : Event) (o : Option EventKey) → Some event ≡ event_at s o → HasReleased s.clock released → HasReleased (left_at s o).clock (released ++ event ∷ [])
  released_if s released event None is w = absurd (cc is)
  released_if s released event (Some m) is w =
      subst (λ (e : Event). HasReleased (without s m).clock (released ++ e ∷ [])) (sym (inside _ _ is))
      (record {
        key =
            ap (λ (top : Option EventKey). Some (greater_key top m)) w.key
            ∙ sym (fold-append (λ (top : Option EventKey) (event : Event). Some (greater_key top event.key)) None released (event_of s m ∷ []));
        time =
            ap (λ t. max t m.ms) w.time
            ∙ sym (fold-append (λ t (event : Event). max t event.key.ms) 0 released (event_of s m ∷ []));
      })

  -- one event more is released
  pub released_then : (s : Joining) (released : List Event) (event : Event) → HasReleased s.clock released → Some event ≡ next_event limits s
      → HasReleased (next_left limits s).clock (released ++ event ∷ [])
  released_then s released event w is = released_if s released event (ripe_key limits s) is w

  pub clock_so : {K : Type 0} (joined : Joined K) (h : History) (rest : Joining) (done : List Event) → JoinedStandsFor limits joined rest done → state_of limits h ≡ left_after limits rest
      → IsClockOf limits joined.join.clock h done
  clock_so joined h rest done stands left = record {
    seen =
        ap (λ (c : JoinClock). c.seen) stands.join.clock
        ∙ sym (seen_left (length rest.waiting) rest)
        ∙ ap (λ (s : Joining). s.clock.seen) (sym left)
        ∙ seen_steps start (told_of limits h);
    released = subst (λ (c : JoinClock). HasReleased c done) (sym stands.join.clock) stands.released_last;
  }

-- a record that enters, and a settle, release nothing
pub released_entered : (limits : Limits) (s : Joining) (item : Record) (released : List Event) → HasReleased s.clock released → HasReleased (enter limits s item).clock released
released_entered limits s item released w = subst (λ (c : JoinClock). HasReleased c released) (sym (enter_clock limits s item)) (record { key = w.key; time = w.time })
