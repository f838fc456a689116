-- Limits that are passed stay passed.
use Rattle.std.proofs.Common.{◌≡◌, ◌≤◌, ◌++◌, ◌∙◌, inl, inr, sym, ap, subst, ℕ, List, [], ◌∷◌, length, arith, append_assoc, Option, None, Some}
use Rattle.std.proofs.lemmas.Grind.{common_steps}
use Rattle.flow_base.specs.declared.limits.Limits.{Limits}
use Rattle.flow_base.specs.declared.limits.Full.{Full}
use Rattle.audit_lex.specs.History.{History, Step}
use Rattle.record_join.specs.declared.event.Event.{Event}
use Rattle.acts.specs.Flows.{objects, flows}
use Rattle.acts.specs.LookBack.{full_by}
use Rattle.ingest.specs.Counting.{bytes_in}
use Rattle.ingest.specs.Events.{taken_in, objects_in, flows_in, events_of, released_at, tells_after, state_of}
use Rattle.record_join.specs.History.{events}
use Rattle.ingest.specs.Stops.{Fits, Stops, StopsAmong, PassesAt, full_of}
use Rattle.ingest.proofs.Growing.{objects_grow, flows_grow, taken_more}
use Rattle.ingest.proofs.Telling.{events_more, events_step}
use Rattle.ingest.proofs.Bytes.{bytes_append}

pub full_parts : (most_objects most_flows objects flows : ℕ) → full_by most_objects most_flows objects flows ≡ None → (objects ≤ most_objects) × (flows ≤ most_flows)
full_parts most_objects most_flows objects flows none = (grind (arith, common_steps, none), grind (arith, common_steps, none))

pub full_none : (most_objects most_flows objects flows : ℕ) → objects ≤ most_objects → flows ≤ most_flows → full_by most_objects most_flows objects flows ≡ None
full_none most_objects most_flows objects flows few short = grind (arith, common_steps)

split_in : {X : Type 0} (done before after : List X) (x : X) → done ++ (before ++ x ∷ after) ≡ ((done ++ before) ++ x ∷ []) ++ after
split_in done before after x = simp append_assoc

none_isnt_some : {X : Type 0} (o : Option X) (x : X) → o ≡ None → o ≡ Some x → ⊥
none_isnt_some o x none some = cc (none, some)

module _ (limits : Limits) where
  -- the first of some events pass no limit where all pass none
  pub fewer_fit : (xs ys : List Event) → full_of limits (xs ++ ys) ≡ None → full_of limits xs ≡ None
  fewer_fit xs ys none =
      let both = full_parts limits.entities limits.flows (length (objects_in limits (xs ++ ys))) (length (flows_in limits (xs ++ ys))) none in
      let more = taken_more limits xs ys in
      let few : length (objects_in limits xs) ≤ length (objects_in limits (xs ++ ys)) = rw more (objects_grow (taken_in limits ys) (taken_in limits xs)) in
      let short : length (flows_in limits xs) ≤ length (flows_in limits (xs ++ ys)) = rw more (flows_grow (taken_in limits ys) (taken_in limits xs)) in
      full_none limits.entities limits.flows (length (objects_in limits xs)) (length (flows_in limits xs)) (omega (arith, few, both.0)) (omega (arith, short, both.1))

  pub events_fit : (h : History) → Fits limits h → full_of limits (events_of limits h) ≡ None
  events_fit h fits = full_none limits.entities limits.flows (length (objects_in limits (events_of limits h))) (length (flows_in limits (events_of limits h))) fits.entities fits.flows

  pub fit_so : (h : History) → bytes_in h ≤ limits.input → full_of limits (events_of limits h) ≡ None → Fits limits h
  fit_so h few none =
      let both = full_parts limits.entities limits.flows (length (objects_in limits (events_of limits h))) (length (flows_in limits (events_of limits h))) none in
      record { input = few; entities = both.0; flows = both.1 }

  pub front_fits : (front back : History) → Fits limits (front ++ back) → Fits limits front
  front_fits front back fits =
      let more = events limits (state_of limits front) (tells_after limits front back) in
      fit_so front (omega (arith, fits.input, bytes_append front back))
      (fewer_fit (events_of limits front) more (ap (full_of limits) (sym (events_more limits front back)) ∙ events_fit (front ++ back) fits))

  -- an event that passes a limit isn't among those that pass none
  never_among : (done more : List Event) (full : Full) → full_of limits (done ++ more) ≡ None → StopsAmong limits done more full → ⊥
  never_among done more full none stops =
      let upto : List Event = (done ++ stops.before) ++ stops.event ∷ [] in
      let whole : done ++ more ≡ upto ++ stops.after = ap (λ l. done ++ l) stops.parts ∙ split_in done stops.before stops.after stops.event in
      none_isnt_some (full_of limits upto) full (fewer_fit upto stops.after (ap (full_of limits) (sym whole) ∙ none)) stops.full_is

  never_passes : (front : History) (step : Step) (full : Full) → Fits limits (front ++ step ∷ []) → PassesAt limits front step full → ⊥
  never_passes front step full fits (inl byte) = absurd (omega (arith, fits.input, byte.0))
  never_passes front step full fits (inr among) =
      never_among (events_of limits front) (released_at limits front step) full
      (ap (full_of limits) (sym (events_step limits front step)) ∙ events_fit (front ++ step ∷ []) fits) among.1

  pub fits_never_stops : (h : History) (full : Full) → Fits limits h → Stops limits h full → ⊥
  fits_never_stops h full fits stops =
      let whole : h ≡ (stops.front ++ stops.step ∷ []) ++ stops.back = stops.parts ∙ sym (append_assoc stops.front (stops.step ∷ []) stops.back) in
      never_passes stops.front stops.step full (front_fits (stops.front ++ stops.step ∷ []) stops.back (subst (Fits limits) whole fits)) stops.passes

  pub stop_stays : (h more : History) (full : Full) → Stops limits h full → Stops limits (h ++ more) full
  stop_stays h more full stops = record {
    front = stops.front;
    step = stops.step;
    back = stops.back ++ more;
    parts = ap (λ l. l ++ more) stops.parts ∙ append_assoc stops.front (stops.step ∷ stops.back) more;
    fits = stops.fits;
    passes = stops.passes;
  }
