-- Stops within a piece.
use Rattle.std.proofs.Common.{◌≡◌, ◌≤◌, ◌<◌, ◌+◌, ◌-◌, ◌++◌, ◌∙◌, inl, inr, sym, refl, ap, subst, ℕ, List, [], ◌∷◌, length, take, drop, map, get_or, arith, append_assoc, append-nil, length-append}
use Rattle.std.specs.List.{position_or_len}
use Rattle.memchr.specs.Find.{is_byte}
use Rattle.std.proofs.Math.Seq.{take-add, take-append-add, take-append_seam, drop-append_seam}
use Rattle.std.proofs.lemmas.List.{map-append, take_more, length-take-le, length-drop, take-append-drop, take-take}
use Rattle.flow_base.specs.declared.limits.Limits.{Limits}
use Rattle.flow_base.specs.declared.limits.Full.{Full}
use Rattle.flow_base.specs.declared.limits.Limit.TheVariants as limit
use Rattle.audit_lex.specs.History.{History, Step, Byte, with_bytes}
use Rattle.record_join.specs.Events.{Joining}
use Rattle.record_join.specs.declared.event.Event.{Event}
use Rattle.audit_lex.proofs.HistoryLaws.{joined as bytes_joined}
use Rattle.audit_lex.proofs.HistoryLemmas.{with_feed}
use Rattle.ingest.specs.Clocks.{IsClockOf}
use Rattle.ingest.specs.Counting.{bytes_in}
use Rattle.ingest.specs.Events.{state_of, events_of}
use Rattle.ingest.specs.Owing.{MayOwe, OwesBy, OwesFor, HaltsBy, Halts}
use Rattle.ingest.specs.Parts.{Engine}
use Rattle.ingest.specs.StandsFor.{ReaderStandsFor, StandsFor}
use Rattle.ingest.specs.Stops.{Fits, Stops, StopsHere, StopsBy, StopsFor, input_full}
use Rattle.ingest.specs.declared.stop.Stop.{Stop}
use Rattle.flow_base.specs.declared.faults.Refused.{Refused}
use Rattle.flow_base.specs.declared.faults.Refused.TheVariants as why
use Rattle.ingest.proofs.Bytes.{bytes_more, bytes_append}
use Rattle.ingest.proofs.EngineSteps.{at_rest, front_fits_too, none_passes, owes_stops}
use Rattle.ingest.proofs.Limiting.{stop_stays}

-- so many bytes, and then so many of the rest
pub more_taken : (h : History) (done n : ℕ) (piece : List ℕ) → with_bytes (with_bytes h (take done piece)) (take n (drop done piece)) ≡ with_bytes h (take (done + n) piece)
more_taken h done n piece =
    append_assoc h (map Byte (take done piece)) (map Byte (take n (drop done piece)))
    ∙ ap (λ l. h ++ l) (sym (map-append Byte (take done piece) (take n (drop done piece))))
    ∙ ap (λ l. h ++ map Byte l) (sym (take-add done n piece))

-- so many bytes, and then the rest
pub with_rest : (h : History) (done : ℕ) (piece : List ℕ) → with_bytes (with_bytes h (take done piece)) (drop done piece) ≡ with_bytes h piece
with_rest h done piece =
    append_assoc h (map Byte (take done piece)) (map Byte (drop done piece))
    ∙ ap (λ l. h ++ l) (sym (map-append Byte (take done piece) (drop done piece)))
    ∙ ap (λ l. h ++ map Byte l) (take-append-drop done piece)

take_zero : {X : Type 0} (xs : List X) → take 0 xs ≡ []
take_zero [] = refl
take_zero (x ∷ xs) = refl

one_more : (h : History) (piece : List ℕ) (k : ℕ) → k < length piece → with_bytes h (take (k + 1) piece) ≡ with_bytes h (take k piece) ++ Byte (get_or piece k 0) ∷ []
one_more h piece k within =
    ap (λ l. h ++ map Byte l) (take_more piece k 0 within)
    ∙ ap (λ l. h ++ l) (map-append Byte (take k piece) (get_or piece k 0 ∷ []))
    ∙ sym (append_assoc h (map Byte (take k piece)) (Byte (get_or piece k 0) ∷ []))

-- a front, one byte, and the rest
one_then : (h : History) (piece : List ℕ) (k : ℕ) → k < length piece → with_bytes h (take k piece) ++ Byte (get_or piece k 0) ∷ map Byte (drop (k + 1) piece) ≡ with_bytes h piece
one_then h piece k within =
    sym (append_assoc (with_bytes h (take k piece)) (Byte (get_or piece k 0) ∷ []) (map Byte (drop (k + 1) piece)))
    ∙ ap (λ (g : History). g ++ map Byte (drop (k + 1) piece)) (sym (one_more h piece k within))
    ∙ with_rest h (k + 1) piece

module _ (limits : Limits) where
  -- the same events are owed of the same history
  abbrev owes_at : {K : Type 0} (engine : Engine K) (g k : History) → k ≡ g → MayOwe limits engine g → MayOwe limits engine k
  owes_at engine g k is w = record {
    reader = subst (λ (h : History). ReaderStandsFor limits engine.reader h) (sym is) w.reader;
    rest = w.rest;
    done = w.done;
    joined = w.joined;
    events_are = ap (events_of limits) is ∙ w.events_are;
    left_is = ap (state_of limits) is ∙ w.left_is;
    clock = subst (λ (h : History). IsClockOf limits engine.joined.join.clock h w.done) (sym is) w.clock;
    within = subst (λ (h : History). bytes_in h ≤ limits.input) (sym is) w.within;
  }

  -- a stop in the rest of a piece is one in the whole
  later_here : (h : History) (piece : List ℕ) (done d : ℕ) (full : Full) → done ≤ length piece → StopsHere limits (with_bytes h (take done piece)) (drop done piece) d full → StopsHere limits h piece (done + d) full
  later_here h piece done d full within (inl byte) =
      let front = take done piece in
      inl (
        omega (arith, byte.0, length-drop done piece),
        omega (arith, byte.1, bytes_more h front, length-take-le done piece within),
        subst (λ (g : History). Fits limits g) (more_taken h done d piece) byte.2,
        byte.3,
      )
  later_here h piece done d full within (inr event) =
      let less : done + (d - 1) ≡ (done + d) - 1 = omega (arith, event.0) in
      inr (
        omega (arith, event.0),
        subst (λ (g : History). Fits limits g) (more_taken h done (d - 1) piece ∙ ap (λ (k : ℕ). with_bytes h (take k piece)) less) event.1,
        subst (λ (g : History). Stops limits g full) (more_taken h done d piece) event.2,
      )

  later_by : (h : History) (piece : List ℕ) (done d : ℕ) (reason : Refused) → done ≤ length piece → StopsBy limits (with_bytes h (take done piece)) (drop done piece) d reason → StopsBy limits h piece (done + d) reason
  later_by h piece done d why.NoMemory within by = tt
  later_by h piece done d (why.Full full) within by =
      (subst (λ (g : History). Stops limits g full) (with_rest h done piece) by.0, later_here h piece done d full within by.1)

  pub stop_later : (h : History) (piece : List ℕ) (done : ℕ) (stop : Stop) → done ≤ length piece → StopsFor limits (with_bytes h (take done piece)) (drop done piece) stop
      → StopsFor limits h piece (record { done = done + stop.done; why = stop.why })
  stop_later h piece done stop within stops = record {
    within = omega (arith, stops.within, length-drop done piece, within);
    by = later_by h piece done stop.done stop.why within stops.by;
  }

  -- a stop in a front of a piece is one in the whole
  front_here : (h : History) (piece : List ℕ) (room d : ℕ) (full : Full) → room ≤ length piece → d ≤ room → StopsHere limits h (take room piece) d full → StopsHere limits h piece d full
  front_here h piece room d full within short (inl byte) =
      inl (
        omega (arith, byte.0, length-take-le room piece within, within),
        byte.1,
        subst (λ (l : List ℕ). Fits limits (with_bytes h l)) (take-take d room piece short) byte.2,
        byte.3,
      )
  front_here h piece room d full within short (inr event) =
      inr (
        event.0,
        subst (λ (l : List ℕ). Fits limits (with_bytes h l)) (take-take (d - 1) room piece (omega arith)) event.1,
        subst (λ (l : List ℕ). Stops limits (with_bytes h l) full) (take-take d room piece short) event.2,
      )

  front_by : (h : History) (piece : List ℕ) (room d : ℕ) (reason : Refused) → room ≤ length piece → d ≤ room → StopsBy limits h (take room piece) d reason → StopsBy limits h piece d reason
  front_by h piece room d why.NoMemory within short by = tt
  front_by h piece room d (why.Full full) within short by =
      (subst (λ (g : History). Stops limits g full) (with_rest h room piece) (stop_stays limits (with_bytes h (take room piece)) (map Byte (drop room piece)) full by.0), front_here h piece room d full within short by.1)

  pub stop_front : (h : History) (piece : List ℕ) (room : ℕ) (stop : Stop) → room ≤ length piece → StopsFor limits h (take room piece) stop → StopsFor limits h piece stop
  stop_front h piece room stop within stops = record {
    within = omega (arith, stops.within, length-take-le room piece within, within);
    by = front_by h piece room stop.done stop.why within (omega (arith, stops.within, length-take-le room piece within)) stops.by;
  }

  -- the byte past the limit
  pub stop_input : (h : History) (piece : List ℕ) (room : ℕ) → room < length piece → bytes_in h + room ≡ limits.input → Fits limits (with_bytes h (take room piece))
      → StopsFor limits h piece (record { done = room; why = why.Full (input_full limits) })
  stop_input h piece room within full fits =
      let front : History = with_bytes h (take room piece) in
      let step : Step = Byte (get_or piece room 0) in
      record {
        within = omega arith;
        by = (
          subst (λ (g : History). Stops limits g (input_full limits)) (one_then h piece room within) (record {
            front = front;
            step = step;
            back = map Byte (drop (room + 1) piece);
            parts = refl;
            fits = fits;
            passes = inl (omega (arith, full, bytes_append front (step ∷ []), bytes_more h (take room piece), length-take-le room piece (omega arith)), refl);
          }),
          inl (within, full, fits, refl),
        );
      }

  pub stop_full : (h : History) (piece : List ℕ) (room n : ℕ) → room < length piece → bytes_in h + room ≡ limits.input → n ≡ limits.input → Fits limits (with_bytes h (take room piece))
      → StopsFor limits h piece (record { done = room; why = why.Full (record { limit = limit.Input; number = n }) })
  stop_full h piece room n within full is fits =
      subst (λ (k : ℕ). StopsFor limits h piece (record { done = room; why = why.Full (record { limit = limit.Input; number = k }) })) (sym is) (stop_input h piece room within full fits)

  -- ---- a line that ends with these bytes and a line feed

  ended_by : {K : Type 0} (engine : Engine K) (h : History) (part : List ℕ) (cause : Refused) → Fits limits h → bytes_in h + (length part + 1) ≤ limits.input
      → position_or_len (is_byte 10) part ≡ length part → OwesFor limits engine (with_bytes h (part ++ 10 ∷ [])) cause → StopsBy limits h (part ++ 10 ∷ []) (length part + 1) cause
  ended_by engine h part why.NoMemory fits room none owes = tt
  ended_by engine h part (why.Full full) fits room none owes =
      let piece = part ++ 10 ∷ [] in
      let front : History = with_bytes h part in
      let split : with_bytes h piece ≡ front ++ Byte 10 ∷ [] = simp (map-append, append_assoc) in
      let fits_front = front_fits_too limits h part fits room none in
      let owed = owes_at engine (with_bytes h piece) (front ++ Byte 10 ∷ []) (sym split) owes.stands in
      let stops = subst (λ (g : History). Stops limits g full) (sym split) (owes_stops limits engine front (Byte 10) full fits_front owed owes.by) in
      let same : (length part + 1) - 1 ≡ length part = omega arith in (
        stops,
        inr (
          omega arith,
          subst (λ (l : List ℕ). Fits limits (with_bytes h l)) (sym (ap (λ n. take n piece) same ∙ take-append_seam part (10 ∷ []))) fits_front,
          subst (λ (l : List ℕ). Stops limits (with_bytes h l) full) (sym (take-append-add part (10 ∷ []) 1)) stops,
        ),
      )

  pub stop_ended : {K : Type 0} (engine : Engine K) (h : History) (part : List ℕ) (cause : Refused) → Fits limits h → bytes_in h + (length part + 1) ≤ limits.input
      → position_or_len (is_byte 10) part ≡ length part → OwesFor limits engine (with_bytes h (part ++ 10 ∷ [])) cause
      → StopsFor limits h (part ++ 10 ∷ []) (record { done = length part + 1; why = cause })
  stop_ended engine h part cause fits room none owes = record {
    within = omega (arith, length-append part (10 ∷ []));
    by = ended_by engine h part cause fits room none owes;
  }

  -- ---- what the engine stands for after a stop

  halts_by : (h : History) (piece : List ℕ) (done : ℕ) (rest : Joining) (events : List Event) (cause : Refused) → OwesBy limits rest events cause → HaltsBy limits h piece done rest events cause
  halts_by h piece done rest events why.NoMemory by = tt
  halts_by h piece done rest events (why.Full full) by = inr by

  -- events are owed after so many bytes
  pub halts_at : {K : Type 0} (engine : Engine K) (h g : History) (piece : List ℕ) (done : ℕ) (cause : Refused) → done ≤ length piece → with_bytes h (take done piece) ≡ g → OwesFor limits engine g cause
      → Halts limits engine h piece (record { done = done; why = cause })
  halts_at engine h g piece done cause within is owes = record {
    within = within;
    stands = owes_at engine g (with_bytes h (take done piece)) is owes.stands;
    by = halts_by h piece done owes.stands.rest owes.stands.done cause owes.by;
  }

  -- no byte was taken
  pub nothing_taken : (h : History) (piece : List ℕ) → with_bytes h (take 0 piece) ≡ h
  nothing_taken h piece = ap (λ l. h ++ map Byte l) (take_zero piece) ∙ append-nil h

  pub halts_ended : {K : Type 0} (engine : Engine K) (h : History) (part : List ℕ) (cause : Refused) → OwesFor limits engine (with_bytes h (part ++ 10 ∷ [])) cause
      → Halts limits engine h (part ++ 10 ∷ []) (record { done = length part + 1; why = cause })
  halts_ended engine h part cause owes =
      halts_at engine h (with_bytes h (part ++ 10 ∷ [])) (part ++ 10 ∷ []) (length part + 1) cause (omega (arith, length-append part (10 ∷ []))) (ap (with_bytes h) (take-append-add part (10 ∷ []) 1)) owes

  -- want of memory, where nothing has changed
  pub halts_memory : {K : Type 0} (engine : Engine K) (h : History) (piece : List ℕ) → MayOwe limits engine h → Halts limits engine h piece (record { done = 0; why = why.NoMemory })
  halts_memory engine h piece owes = halts_at engine h h piece 0 why.NoMemory (omega arith) (nothing_taken h piece) (record { stands = owes; by = tt })

  later_halts : (h : History) (piece : List ℕ) (done d : ℕ) (rest : Joining) (events : List Event) (cause : Refused) → done ≤ length piece
      → HaltsBy limits (with_bytes h (take done piece)) (drop done piece) d rest events cause → HaltsBy limits h piece (done + d) rest events cause
  later_halts h piece done d rest events why.NoMemory within by = tt
  later_halts h piece done d rest events (why.Full full) within (inr by) = inr by
  later_halts h piece done d rest events (why.Full full) within (inl byte) =
      inl (record {
        more = omega (arith, byte.more, length-drop done piece);
        all = omega (arith, byte.all, bytes_more h (take done piece), length-take-le done piece within);
        fits = subst (λ (g : History). Fits limits g) (more_taken h done d piece) byte.fits;
        full_is = byte.full_is;
      })

  pub halts_later : {K : Type 0} (engine : Engine K) (h : History) (piece : List ℕ) (done : ℕ) (stop : Stop) → done ≤ length piece → Halts limits engine (with_bytes h (take done piece)) (drop done piece) stop
      → Halts limits engine h piece (record { done = done + stop.done; why = stop.why })
  halts_later engine h piece done stop within halts = record {
    within = omega (arith, halts.within, length-drop done piece, within);
    stands = owes_at engine _ (with_bytes h (take (done + stop.done) piece)) (sym (more_taken h done stop.done piece)) halts.stands;
    by = later_halts h piece done stop.done halts.stands.rest halts.stands.done stop.why within halts.by;
  }

  front_halts : (h : History) (piece : List ℕ) (room d : ℕ) (rest : Joining) (events : List Event) (cause : Refused) → room ≤ length piece → d ≤ room
      → HaltsBy limits h (take room piece) d rest events cause → HaltsBy limits h piece d rest events cause
  front_halts h piece room d rest events why.NoMemory within short by = tt
  front_halts h piece room d rest events (why.Full full) within short (inr by) = inr by
  front_halts h piece room d rest events (why.Full full) within short (inl byte) =
      inl (record {
        more = omega (arith, byte.more, length-take-le room piece within, within);
        all = byte.all;
        fits = subst (λ (l : List ℕ). Fits limits (with_bytes h l)) (take-take d room piece short) byte.fits;
        full_is = byte.full_is;
      })

  pub halts_front : {K : Type 0} (engine : Engine K) (h : History) (piece : List ℕ) (room : ℕ) (stop : Stop) → room ≤ length piece → Halts limits engine h (take room piece) stop → Halts limits engine h piece stop
  halts_front engine h piece room stop within halts =
      let short : stop.done ≤ room = omega (arith, halts.within, length-take-le room piece within) in
      record {
        within = omega (arith, short, within);
        stands = owes_at engine _ (with_bytes h (take stop.done piece)) (sym (ap (with_bytes h) (take-take stop.done room piece short))) halts.stands;
        by = front_halts h piece room stop.done halts.stands.rest halts.stands.done stop.why within short halts.by;
      }

  -- the byte past the limit
  pub halts_full : {K : Type 0} (engine : Engine K) (h : History) (piece : List ℕ) (room n : ℕ) → room < length piece → bytes_in h + room ≡ limits.input → n ≡ limits.input → StandsFor limits engine (with_bytes h (take room piece))
      → Halts limits engine h piece (record { done = room; why = why.Full (record { limit = limit.Input; number = n }) })
  halts_full engine h piece room n within full is stands = record {
    within = omega (arith, within);
    stands = at_rest limits engine (with_bytes h (take room piece)) stands;
    by = inl (record { more = within; all = full; fits = stands.fits; full_is = ap (λ (k : ℕ). record { limit = limit.Input; number = k }) is });
  }

  -- an engine that stood for its history owes nothing that passes a limit
  never_by : {K : Type 0} (engine : Engine K) (h : History) (piece : List ℕ) (cause : Refused) → Fits limits h → OwesFor limits engine h cause → StopsBy limits h piece 0 cause
  never_by engine h piece why.NoMemory fits owes = tt
  never_by engine h piece (why.Full full) fits owes = absurd (none_passes limits engine h full fits owes.stands owes.by)

  pub stop_before : {K : Type 0} (engine : Engine K) (h : History) (piece : List ℕ) (cause : Refused) → Fits limits h → OwesFor limits engine h cause → StopsFor limits h piece (record { done = 0; why = cause })
  stop_before engine h piece cause fits owes = record { within = omega arith; by = never_by engine h piece cause fits owes }

  pub halts_before : {K : Type 0} (engine : Engine K) (h : History) (piece : List ℕ) (cause : Refused) → OwesFor limits engine h cause → Halts limits engine h piece (record { done = 0; why = cause })
  halts_before engine h piece cause owes = halts_at engine h h piece 0 cause (omega arith) (nothing_taken h piece) owes

  -- ---- a piece with a line feed

  pub feed_taken : (h : History) (piece : List ℕ) (end : ℕ) → end ≡ position_or_len (is_byte 10) piece → end < length piece → with_bytes (with_bytes h (take end piece)) (10 ∷ []) ≡ with_bytes h (take (end + 1) piece)
  feed_taken h piece end is below = bytes_joined h (take end piece) (10 ∷ []) ∙ ap (with_bytes h) (sym (with_feed piece end is below))

  -- a stop at the first line of a piece is one in the piece
  pub stop_whole : (h : History) (piece : List ℕ) (end : ℕ) (stop : Stop) → end ≡ position_or_len (is_byte 10) piece → end < length piece
      → StopsFor limits h (take end piece ++ 10 ∷ []) stop → StopsFor limits h piece stop
  stop_whole h piece end stop is below stops =
      stop_front h piece (end + 1) stop (omega (arith, below)) (subst (λ (l : List ℕ). StopsFor limits h l stop) (sym (with_feed piece end is below)) stops)

  pub halts_whole : {K : Type 0} (engine : Engine K) (h : History) (piece : List ℕ) (end : ℕ) (stop : Stop) → end ≡ position_or_len (is_byte 10) piece → end < length piece
      → Halts limits engine h (take end piece ++ 10 ∷ []) stop → Halts limits engine h piece stop
  halts_whole engine h piece end stop is below halts =
      halts_front engine h piece (end + 1) stop (omega (arith, below)) (subst (λ (l : List ℕ). Halts limits engine h l stop) (sym (with_feed piece end is below)) halts)

  -- a stop at a line feed whose line is held
  pub stop_feed : (h : History) (piece : List ℕ) (end : ℕ) (stop : Stop) → end ≡ position_or_len (is_byte 10) piece → end < length piece
      → StopsFor limits (with_bytes h (take end piece)) (10 ∷ []) stop → StopsFor limits h piece (record { done = end + stop.done; why = stop.why })
  stop_feed h piece end stop is below stops =
      let part = take end piece in
      let whole = part ++ 10 ∷ [] in
      let long : length part ≡ end = length-take-le end piece (omega (arith, below)) in
      let front : take end whole ≡ part = ap (λ n. take n whole) (sym long) ∙ take-append_seam part (10 ∷ []) in
      let back : drop end whole ≡ 10 ∷ [] = ap (λ n. drop n whole) (sym long) ∙ drop-append_seam part (10 ∷ []) in
      stop_whole h piece end (record { done = end + stop.done; why = stop.why }) is below
      (stop_later h whole end stop (omega (arith, long, length-append part (10 ∷ [])))
      (subst (λ (l : List ℕ). StopsFor limits (with_bytes h l) (drop end whole) stop) (sym front) (subst (λ (l : List ℕ). StopsFor limits (with_bytes h part) l stop) (sym back) stops)))

  pub halts_feed : {K : Type 0} (engine : Engine K) (h : History) (piece : List ℕ) (end : ℕ) (stop : Stop) → end ≡ position_or_len (is_byte 10) piece → end < length piece
      → Halts limits engine (with_bytes h (take end piece)) (10 ∷ []) stop → Halts limits engine h piece (record { done = end + stop.done; why = stop.why })
  halts_feed engine h piece end stop is below halts =
      let part = take end piece in
      let whole = part ++ 10 ∷ [] in
      let long : length part ≡ end = length-take-le end piece (omega (arith, below)) in
      let front : take end whole ≡ part = ap (λ n. take n whole) (sym long) ∙ take-append_seam part (10 ∷ []) in
      let back : drop end whole ≡ 10 ∷ [] = ap (λ n. drop n whole) (sym long) ∙ drop-append_seam part (10 ∷ []) in
      halts_whole engine h piece end (record { done = end + stop.done; why = stop.why }) is below
      (halts_later engine h whole end stop (omega (arith, long, length-append part (10 ∷ [])))
      (subst (λ (l : List ℕ). Halts limits engine (with_bytes h l) (drop end whole) stop) (sym front) (subst (λ (l : List ℕ). Halts limits engine (with_bytes h part) l stop) (sym back) halts)))
