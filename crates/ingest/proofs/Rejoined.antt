-- After every history the clock is that of the events released, and their acts are in time.
use Rattle.std.proofs.Common.{◌≡◌, ◌++◌, sym, refl, ap, subst, ℕ, zero, suc, List, [], ◌∷◌, length, append_assoc, append-nil, arith, Option, None, Some}
use Rattle.std.specs.Option.{option_to_list}
use Rattle.flow_base.specs.declared.limits.Limits.{Limits}
use Rattle.audit_lex.specs.History.{History}
use Rattle.audit_lex.specs.declared.header.EventKey.{EventKey}
use Rattle.record_join.specs.Events.{Joining, ripe_key, event_of, event_at, left_at, next_event, next_left}
use Rattle.record_join.specs.History.{Step as Told, Came, Settle as Settles, start, told, released, released_after, left, left_after, state, events}
use Rattle.record_join.specs.StandsFor.{Joiner}
use Rattle.record_join.specs.declared.event.Event.{Event}
use Rattle.reach_model.specs.declared.modes.Mode.{Mode}
use Rattle.reach_model.specs.Rows.{Row}
use Rattle.row_codec.specs.declared.state.StateRow.{StateRow}
use Rattle.store_check.specs.Store.{rows_of}
use Rattle.flow_events.specs.declared.tables.Tables.{Tables}
use Rattle.ingest.specs.Clocks.{HasReleased}
use Rattle.ingest.specs.Events.{taken_in, told_of, state_of, events_of}
use Rattle.ingest.specs.Rejoining.{IsLeftOf, WereLeft}
use Rattle.ingest.specs.StateParts.{counts_said}
use Rattle.ingest.specs.StandsFor.{AreInTime}
use Rattle.ingest.proofs.Clocking.{released_then, released_entered}
use Rattle.ingest.proofs.Fewer.{enter_time}
use Rattle.ingest.proofs.Following.{in_time_then}

module _ (limits : Limits) where
  -- the clock and the acts go with these released events
  pub record Goes (s : Joining) (done : List Event) : Type 0 where
    pub in_time : AreInTime (taken_in limits done) s
    pub last : HasReleased s.clock done

  next_if : (s : Joining) (done : List Event) (o : Option EventKey) → ripe_key limits s ≡ o → Goes s done → Goes (left_at s o) (done ++ option_to_list (event_at s o))
  next_if s done None e goes = subst (Goes s) (sym (append-nil done)) goes
  next_if s done (Some m) e goes =
      let next : Some (event_of s m) ≡ next_event limits s = sym (ap (event_at s) e) in
      let after : next_left limits s ≡ left_at s (Some m) = ap (left_at s) e in
      subst (λ (t : Joining). Goes t (done ++ event_of s m ∷ [])) after
      (record { in_time = in_time_then limits s done (event_of s m) goes.in_time next; last = released_then limits s done (event_of s m) goes.last next })

  next_goes : (s : Joining) (done : List Event) → Goes s done → Goes (next_left limits s) (done ++ option_to_list (next_event limits s))
  next_goes s done goes = next_if s done (ripe_key limits s) refl goes

  left_goes : (n : ℕ) (s : Joining) (done : List Event) → Goes s done → Goes (left n limits s) (done ++ released n limits s)
  left_goes zero s done goes = subst (Goes s) (sym (append-nil done)) goes
  left_goes (suc n) s done goes =
      let one = option_to_list (next_event limits s) in
      subst (Goes (left n limits (next_left limits s))) (append_assoc done one (released n limits (next_left limits s)))
      (left_goes n (next_left limits s) (done ++ one) (next_goes s done goes))

  told_goes : (s : Joining) (step : Told) (done : List Event) → Goes s done → Goes (told limits s step) done
  told_goes s (Came r) done goes = record {
    in_time = record { rise = goes.in_time.rise; later = omega (arith, goes.in_time.later, enter_time limits s r) };
    last = released_entered limits s r done goes.last;
  }
  told_goes s Settles done goes = record {
    in_time = record { rise = goes.in_time.rise; later = goes.in_time.later };
    last = goes.last;
  }

  steps_go : (s : Joining) (done : List Event) (steps : List Told) → Goes s done → Goes (state limits s steps) (done ++ events limits s steps)
  steps_go s done [] goes = subst (Goes s) (sym (append-nil done)) goes
  steps_go s done (step ∷ steps) goes =
      let t : Joining = told limits s step in
      subst (Goes (state limits (left_after limits t) steps)) (append_assoc done (released_after limits t) (events limits (left_after limits t) steps))
      (steps_go (left_after limits t) (done ++ released_after limits t) steps (left_goes (length t.waiting) t done (told_goes s step done goes)))

  pub all_go : (h : History) → Goes (state_of limits h) (events_of limits h)
  all_go h = steps_go start [] (told_of limits h) (record { in_time = record { rise = tt; later = omega arith }; last = record { key = refl; time = refl } })

-- what a store says of a history was left of it
pub were_left : (limits : Limits) (mode : Mode) (said : Option (List Row)) (join : Joiner) (tables : Tables) (state : StateRow) (h : History) (part : ℕ) → IsLeftOf limits mode said join tables state h part
    → WereLeft limits mode said join tables state (state_of limits h) (events_of limits h)
were_left limits mode said join tables state h part left_of =
    let goes = all_go limits h in
    record {
      limits_are = left_of.limits_are;
      join_is = left_of.join_is;
      tables_are = left_of.stands;
      rows = rows_of left_of.rows;
      told_are = left_of.told_are;
      keeps = left_of.tables_are.rows_are;
      released_last = goes.last;
      excess = ap (λ (s : StateRow). s.excess) left_of.state_is;
      counts = ap counts_said left_of.state_is;
      in_time = goes.in_time;
      fits = left_of.fits;
    }
