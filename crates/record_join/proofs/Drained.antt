-- A loop that releases all that is ripe.
use Rattle.std.proofs.Common.{◌≡◌, List, [], ◌∷◌, ◌++◌, length, refl, sym, ◌∙◌, ap, subst, append_assoc, append-nil, Some, None}
use Rattle.std.specs.Prelude.{Option}
use Rattle.std.specs.Option.{option_to_list}
use Rattle.record_join.specs.Events.{Joining, ripe_key, event_at, next_event, next_left}
use Rattle.record_join.specs.StandsFor.{Joiner, StandsFor}
use Rattle.record_join.specs.History.{Step, start, told, events, state, released_after, left_after}
use Rattle.audit_lex.specs.declared.header.EventKey.{EventKey}
use Rattle.flow_base.specs.declared.limits.Limits.{Limits}
use Rattle.record_join.specs.declared.event.Event.{Event}
use Rattle.record_join.proofs.HoldsAll.{state_append}
use Rattle.record_join.proofs.Turns.{none_released, none_left, one_release, one_left}

-- part of what s releases is found, and the joiner stands for what is left so far
pub record IsUnderWay (limits : Limits) (s : Joining) (join : Joiner) (found before : List Event) : Type 0 where
  pub rest : Joining
  pub stands : StandsFor limits join rest
  pub found_is : found ++ released_after limits rest ≡ before ++ released_after limits s
  pub left_is : left_after limits rest ≡ left_after limits s

pub begins : (limits : Limits) (s : Joining) (join : Joiner) (found : List Event) → StandsFor limits join s → IsUnderWay limits s join found found
begins limits s join found stands = record { rest = s; stands = stands; found_is = refl; left_is = refl }

pub goes_on : (limits : Limits) (s : Joining) (join after : Joiner) (found before : List Event) (event : Event) (w : IsUnderWay limits s join found before)
    → Some event ≡ next_event limits w.rest → StandsFor limits after (next_left limits w.rest) → IsUnderWay limits s after (found ++ event ∷ []) before
goes_on limits s join after found before event w e stands = record {
  rest = next_left limits w.rest;
  stands = stands;
  found_is =
      append_assoc found (event ∷ []) (released_after limits (next_left limits w.rest))
      ∙ ap (λ (o : Option Event). found ++ (option_to_list o ++ released_after limits (next_left limits w.rest))) e
      ∙ ap (λ (es : List Event). found ++ es) (sym (one_release limits w.rest))
      ∙ w.found_is;
  left_is = sym (one_left limits w.rest) ∙ w.left_is;
}

no_event : (s : Joining) (o : Option EventKey) → None ≡ event_at s o → o ≡ None
no_event s None e = refl
no_event s (Some m) e = cc

module _ (limits : Limits) (s : Joining) (join : Joiner) (found before : List Event) (w : IsUnderWay limits s join found before) (e : None ≡ next_event limits w.rest) where
  pub all_found : found ≡ before ++ released_after limits s
  all_found =
      sym (append-nil found)
      ∙ ap (λ (es : List Event). found ++ es) (sym (none_released limits (length w.rest.waiting) w.rest (no_event w.rest (ripe_key limits w.rest) e)))
      ∙ w.found_is

  pub all_left : (after : Joiner) → after ≡ join → StandsFor limits after (left_after limits s)
  all_left after same =
      subst (λ (t : Joining). StandsFor limits after t) (sym (none_left limits (length w.rest.waiting) w.rest (no_event w.rest (ripe_key limits w.rest) e)) ∙ w.left_is)
      (subst (λ (j : Joiner). StandsFor limits j w.rest) (sym same) w.stands)

-- ---- a list of steps, one more at a time

events_more : (limits : Limits) (s : Joining) (steps : List Step) (step : Step)
    → events limits s (steps ++ step ∷ []) ≡ events limits s steps ++ released_after limits (told limits (state limits s steps) step)
events_more limits s [] step = append-nil (released_after limits (told limits s step))
events_more limits s (first ∷ steps) step =
    let t : Joining = told limits s first in
    ap (λ (es : List Event). released_after limits t ++ es) (events_more limits (left_after limits t) steps step)
    ∙ sym (append_assoc (released_after limits t) (events limits (left_after limits t) steps) (released_after limits (told limits (state limits (left_after limits t) steps) step)))

-- what was found is the events of these steps, and the joiner stands for what is left
pub record IsJoined (limits : Limits) (join : Joiner) (found : List Event) (steps : List Step) : Type 0 where
  pub stands : StandsFor limits join (state limits start steps)
  pub found_is : found ≡ events limits start steps

pub joined_more : (limits : Limits) (join after : Joiner) (found more : List Event) (steps : List Step) (step : Step) → IsJoined limits join found steps
    → StandsFor limits after (left_after limits (told limits (state limits start steps) step))
    → more ≡ found ++ released_after limits (told limits (state limits start steps) step)
    → IsJoined limits after more (steps ++ step ∷ [])
joined_more limits join after found more steps step joined stands e = record {
  stands = subst (λ (t : Joining). StandsFor limits after t) (sym (state_append limits start steps (step ∷ []))) stands;
  found_is = e ∙ ap (λ (es : List Event). es ++ released_after limits (told limits (state limits start steps) step)) joined.found_is ∙ sym (events_more limits start steps step);
}
