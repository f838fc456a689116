-- After every history nothing is ripe; so what stands owes nothing.
use Rattle.std.proofs.Common.{◌≡◌, ◌++◌, ◌∙◌, sym, refl, ap, subst, List, [], ◌∷◌, length, append-nil, Option, None, Some}
use Rattle.flow_base.specs.declared.limits.Limits.{Limits}
use Rattle.audit_lex.specs.History.{History}
use Rattle.audit_lex.specs.declared.header.EventKey.{EventKey}
use Rattle.record_join.specs.Events.{Joining, ripe_key, event_at, next_event}
use Rattle.record_join.specs.History.{Step as Told, start, told, state, released_after, left_after}
use Rattle.record_join.specs.declared.event.Event.{Event}
use Rattle.ingest.specs.Events.{told_of, state_of, events_of}
use Rattle.ingest.specs.Owing.{MayOwe}
use Rattle.ingest.specs.Parts.{Engine}
use Rattle.ingest.specs.StandsFor.{JoinedStandsFor, StandsFor}
use Rattle.ingest.proofs.Clocking.{clock_so}
use Rattle.ingest.proofs.Limiting.{fit_so}
use Rattle.record_join.proofs.Turns.{none_released, none_left, ends}

no_key : (s : Joining) (o : Option EventKey) → event_at s o ≡ None → o ≡ None
no_key s None e = refl
no_key s (Some key) e = absurd (cc e)

module _ (limits : Limits) where
  -- where no event is next, nothing is ripe
  pub none_ripe : (s : Joining) → next_event limits s ≡ None → ripe_key limits s ≡ None
  none_ripe s e = no_key s (ripe_key limits s) e

  -- and where nothing is ripe, no event is next
  pub none_next : (s : Joining) → ripe_key limits s ≡ None → next_event limits s ≡ None
  none_next s e = ap (event_at s) e

  quiet_after : (s : Joining) (steps : List Told) → ripe_key limits s ≡ None → ripe_key limits (state limits s steps) ≡ None
  quiet_after s [] e = e
  quiet_after s (step ∷ steps) e = quiet_after (left_after limits (told limits s step)) steps (ends limits (told limits s step))

  -- after every history nothing is ripe
  pub quiet : (h : History) → ripe_key limits (state_of limits h) ≡ None
  quiet h = quiet_after start (told_of limits h) refl

  -- where nothing is ripe, nothing is released, and all is left
  pub quiet_released : (s : Joining) → ripe_key limits s ≡ None → released_after limits s ≡ []
  quiet_released s e = none_released limits (length s.waiting) s e

  pub quiet_left : (s : Joining) → ripe_key limits s ≡ None → left_after limits s ≡ s
  quiet_left s e = none_left limits (length s.waiting) s e

  -- what stands owes nothing
  pub stands_owes : {K : Type 0} (engine : Engine K) (h : History) → StandsFor limits engine h → (w : MayOwe limits engine h) × (next_event limits w.rest ≡ None)
  stands_owes engine h stands =
      let still = quiet h in
      let owes : MayOwe limits engine h = record {
        reader = stands.reader;
        rest = state_of limits h;
        done = events_of limits h;
        joined = stands.joined;
        events_are = sym (ap (λ (l : List Event). events_of limits h ++ l) (quiet_released (state_of limits h) still) ∙ append-nil (events_of limits h));
        left_is = sym (quiet_left (state_of limits h) still);
        clock = clock_so limits engine.joined h (state_of limits h) (events_of limits h) stands.joined (sym (quiet_left (state_of limits h) still));
        within = stands.fits.input;
      } in
      (owes, none_next (state_of limits h) still)

  -- what owes nothing stands
  pub owes_stands : {K : Type 0} (engine : Engine K) (h : History) (w : MayOwe limits engine h) → next_event limits w.rest ≡ None → StandsFor limits engine h
  owes_stands engine h w none =
      let still = none_ripe w.rest none in
      let events_are : w.done ≡ events_of limits h = sym (w.events_are ∙ ap (λ (l : List Event). w.done ++ l) (quiet_released w.rest still) ∙ append-nil w.done) in
      let state_is : w.rest ≡ state_of limits h = sym (w.left_is ∙ quiet_left w.rest still) in
      let joined : JoinedStandsFor limits engine.joined (state_of limits h) (events_of limits h) =
      subst (λ (t : Joining). JoinedStandsFor limits engine.joined t (events_of limits h)) state_is
      (subst (λ (l : List Event). JoinedStandsFor limits engine.joined w.rest l) events_are w.joined) in
      record { reader = w.reader; joined = joined; fits = fit_so limits h w.within joined.fits }
