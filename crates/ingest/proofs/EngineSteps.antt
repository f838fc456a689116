-- The engine after a line, after a release and after a settle, and where it stops.
use Rattle.std.proofs.Common.{◌≡◌, ◌≤◌, ◌<◌, ◌+◌, ◌^◌, ◌++◌, ◌∙◌, ◌⊎◌, inl, inr, sym, refl, ap, subst, ℕ, Bool, true, false, List, [], ◌∷◌, length, map, arith, append_assoc, append-nil, length-append, Option, None, Some, if◌then◌else◌}
use Rattle.std.specs.Option.{option_to_list}
use Rattle.std.specs.List.{position_or_len}
use Rattle.memchr.specs.Find.{is_byte}
use Rattle.flow_base.specs.declared.limits.Limits.{Limits}
use Rattle.flow_base.specs.declared.limits.Full.{Full}
use Rattle.audit_lex.specs.History.{History, Step, Byte, Settle, Cuts, lines_of, tail_of, with_bytes, is_long, settled as settled_cuts}
use Rattle.audit_lex.specs.LineClass.{text_class}
use Rattle.audit_lex.proofs.HistoryLemmas.{more_tail, more_line}
use Rattle.audit_lex.proofs.HistoryLaws.{after_settle}
use Rattle.audit_record.specs.declared.types.Record.{Record}
use Rattle.record_join.specs.Events.{Joining, enter, settled, next_left}
use Rattle.record_join.specs.History.{Step as Told, Came, Settle as Settles, events, state, released_after, left_after}
use Rattle.record_join.specs.declared.event.Event.{Event}
use Rattle.ingest.proofs.Quiet.{quiet, quiet_released, quiet_left}
use Rattle.record_join.proofs.Turns.{one_release}
use Rattle.ingest.specs.Counting.{bytes_in}
use Rattle.ingest.specs.Ending.{EndsLast}
use Rattle.ingest.specs.Events.{lines_since, line_tells, lines_tell, tells_at, tells_after, state_of, events_of, released_at}
use Rattle.ingest.specs.LineRecords.{record_by, record_of}
use Rattle.ingest.specs.Owing.{MayOwe, NextPasses, IsOwed, OwesFor, Halts}
use Rattle.ingest.specs.Parts.{Reader, Joined, Engine}
use Rattle.ingest.specs.StandsFor.{ReaderStandsFor, JoinedStandsFor, StandsFor, HasNoTail}
use Rattle.ingest.specs.Stops.{Fits, Stops, StopsAmong, StopsFor, full_of}
use Rattle.ingest.specs.declared.stop.Stop.{Stop}
use Rattle.flow_base.specs.declared.faults.Refused.{Refused}
use Rattle.flow_base.specs.declared.faults.Refused.TheVariants as why
use Rattle.ingest.proofs.Bytes.{bytes_more, bytes_settled}
use Rattle.ingest.proofs.Clocking.{clock_so}
use Rattle.ingest.proofs.Closing.{released_closed, left_when_closed}
use Rattle.ingest.proofs.FewEvents.{few_events, few_records, records_in, records_append, releases_hold}
use Rattle.ingest.proofs.Limiting.{fit_so, fewer_fit, events_fit}
use Rattle.ingest.proofs.Telling.{since_is, since_none, bytes_tell, events_more, events_step, state_more, same_events, same_state}

-- ---- what a line and a settle tell

told_by : (o p : Option Record) (l : List Told) → o ≡ p → l ≡ map Came (option_to_list o) → l ≡ map Came (option_to_list p)
told_by o p l is e = e ∙ ap (λ (q : Option Record). map Came (option_to_list q)) is

no_text : (b : Bool) → record_by (if b then [] else []) (text_class (if b then [] else [])) refl ≡ None
no_text true = refl
no_text false = refl

none_blank : (limit : ℕ) → record_of limit [] ≡ None
none_blank limit = no_text (is_long limit [])

none_some : {A : Type 0} (o : Option A) (x : A) → o ≡ None → o ≡ Some x → ⊥
none_some o x none some = cc (none, some)

-- a list in two ways: the part up to an element ends in the second part of the other way, or in the first
abbrev SplitsAt : {X : Type 0} (xs ys done after : List X) (x : X) → Type 0
SplitsAt {X} xs ys done after x = ((d : List X) × (done ≡ xs ++ d) × (ys ≡ d ++ x ∷ after)) ⊎ ((d : List X) × (xs ≡ (done ++ x ∷ []) ++ d))

heads : {X : Type 0} (a b : X) (xs ys : List X) → a ∷ xs ≡ b ∷ ys → a ≡ b
heads a b xs ys e = cc e

tails : {X : Type 0} (a b : X) (xs ys : List X) → a ∷ xs ≡ b ∷ ys → xs ≡ ys
tails a b xs ys e = cc e

longer_split : {X : Type 0} (a b x : X) (xs ys done after : List X) → a ≡ b → SplitsAt xs ys done after x → SplitsAt (a ∷ xs) ys (b ∷ done) after x
longer_split a b x xs ys done after same (inl (d, done_is, ys_is)) = inl (d, ap (λ h. h ∷ done) (sym same) ∙ ap (λ l. a ∷ l) done_is, ys_is)
longer_split a b x xs ys done after same (inr (d, xs_is)) = inr (d, ap (λ h. h ∷ xs) same ∙ ap (λ l. b ∷ l) xs_is)

split_at : {X : Type 0} (xs ys done after : List X) (x : X) → xs ++ ys ≡ done ++ x ∷ after → SplitsAt xs ys done after x
split_at [] ys done after x e = inl (done, refl, e)
split_at (a ∷ xs) ys [] after x e = inr (xs, ap (λ h. h ∷ xs) (heads a x (xs ++ ys) after e))
split_at (a ∷ xs) ys (b ∷ done) after x e =
    longer_split a b x xs ys done after (heads a b (xs ++ ys) (done ++ x ∷ after) e) (split_at xs ys done after x (tails a b (xs ++ ys) (done ++ x ∷ after) e))

module _ (limits : Limits) where
  -- a line tells its record
  line_told : (h : History) (part : List ℕ) → position_or_len (is_byte 10) part ≡ length part
      → tells_after limits h (map Byte (part ++ 10 ∷ [])) ≡ map Came (option_to_list (record_of limits.line (tail_of h ++ part)))
  line_told h part none =
      let g = with_bytes h (part ++ 10 ∷ []) in
      bytes_tell limits h (part ++ 10 ∷ [])
      ∙ ap (lines_tell limits) (since_is h g ((tail_of h ++ part) ∷ []) (ap (λ (c : Cuts). c.lines) (more_line h part none)))
      ∙ append-nil (line_tells limits (tail_of h ++ part))

  -- bytes without a line feed tell nothing
  part_quiet : (h : History) (part : List ℕ) → position_or_len (is_byte 10) part ≡ length part → tells_after limits h (map Byte part) ≡ []
  part_quiet h part none =
      bytes_tell limits h part ∙ ap (lines_tell limits) (since_none h (with_bytes h part) (ap (λ (c : Cuts). c.lines) (more_tail h part none)))

  -- a settle tells the record of the last line
  last_told : (h : History) (tail : List ℕ) → tail_of h ≡ tail
      → lines_tell limits (lines_since h (h ++ Settle ∷ [])) ≡ map Came (option_to_list (record_of limits.line tail))
  last_told h [] is =
      ap (lines_tell limits) (since_none h (h ++ Settle ∷ []) (ap (λ (c : Cuts). c.lines) (after_settle h ∙ ap (settled_cuts (lines_of h)) is)))
      ∙ ap (λ (o : Option Record). map Came (option_to_list o)) (sym (none_blank limits.line))
  last_told h (b ∷ tail) is =
      ap (lines_tell limits) (since_is h (h ++ Settle ∷ []) ((b ∷ tail) ∷ []) (ap (λ (c : Cuts). c.lines) (after_settle h ∙ ap (settled_cuts (lines_of h)) is)))
      ∙ append-nil (line_tells limits (b ∷ tail))

  settle_told : (h : History) (o : Option Record) → record_of limits.line (tail_of h) ≡ o → tells_at limits h Settle ≡ map Came (option_to_list o) ++ Settles ∷ []
  settle_told h o is = ap (λ (l : List Told). l ++ Settles ∷ []) (told_by _ o _ is (last_told h (tail_of h) refl))

  -- ---- events and what waits, after a record and after a settle

  events_came : (h more : History) (item : Record) → tells_after limits h more ≡ Came item ∷ [] → events_of limits (h ++ more) ≡ events_of limits h ++ released_after limits (enter limits (state_of limits h) item)
  events_came h more item tells =
      events_more limits h more
      ∙ ap (λ (l : List Told). events_of limits h ++ events limits (state_of limits h) l) tells
      ∙ ap (λ (l : List Event). events_of limits h ++ l) (append-nil (released_after limits (enter limits (state_of limits h) item)))

  state_came : (h more : History) (item : Record) → tells_after limits h more ≡ Came item ∷ [] → state_of limits (h ++ more) ≡ left_after limits (enter limits (state_of limits h) item)
  state_came h more item tells = state_more limits h more ∙ ap (state limits (state_of limits h)) tells

  events_settled : (h : History) → tells_at limits h Settle ≡ Settles ∷ [] → events_of limits (h ++ Settle ∷ []) ≡ events_of limits h ++ released_after limits (settled (state_of limits h))
  events_settled h tells =
      events_more limits h (Settle ∷ [])
      ∙ ap (λ (l : List Told). events_of limits h ++ events limits (state_of limits h) l) (append-nil (tells_at limits h Settle) ∙ tells)
      ∙ ap (λ (l : List Event). events_of limits h ++ l) (append-nil (released_after limits (settled (state_of limits h))))

  state_settled : (h : History) → tells_at limits h Settle ≡ Settles ∷ [] → state_of limits (h ++ Settle ∷ []) ≡ left_after limits (settled (state_of limits h))
  state_settled h tells = state_more limits h (Settle ∷ []) ∙ ap (state limits (state_of limits h)) (append-nil (tells_at limits h Settle) ∙ tells)

  -- the record of the last line may wait for the closing with what was ripe
  events_ended : (h : History) (item : Record) → tells_at limits h Settle ≡ Came item ∷ Settles ∷ []
      → events_of limits (h ++ Settle ∷ []) ≡ events_of limits h ++ released_after limits (settled (enter limits (state_of limits h) item))
  events_ended h item tells =
      let rest = enter limits (state_of limits h) item in
      events_more limits h (Settle ∷ [])
      ∙ ap (λ (l : List Told). events_of limits h ++ events limits (state_of limits h) l) (append-nil (tells_at limits h Settle) ∙ tells)
      ∙ ap (λ (l : List Event). events_of limits h ++ (released_after limits rest ++ l)) (append-nil (released_after limits (settled (left_after limits rest))))
      ∙ ap (λ (l : List Event). events_of limits h ++ l) (sym (released_closed limits rest))

  state_ended : (h : History) (item : Record) → tells_at limits h Settle ≡ Came item ∷ Settles ∷ []
      → state_of limits (h ++ Settle ∷ []) ≡ left_after limits (settled (enter limits (state_of limits h) item))
  state_ended h item tells =
      state_more limits h (Settle ∷ []) ∙ ap (state limits (state_of limits h)) (append-nil (tells_at limits h Settle) ∙ tells)
      ∙ sym (left_when_closed limits (enter limits (state_of limits h) item))

  -- ---- nothing is ripe after a history

  pub nothing_released : (h : History) → released_after limits (state_of limits h) ≡ []
  nothing_released h = quiet_released limits (state_of limits h) (quiet limits h)

  pub nothing_left : (h : History) → left_after limits (state_of limits h) ≡ state_of limits h
  nothing_left h = quiet_left limits (state_of limits h) (quiet limits h)

  -- ---- standing and owing

  -- the joined stands for a longer history
  joined_to : {K : Type 0} (joined : Joined K) (s t : Joining) (xs ys : List Event) → t ≡ s → ys ≡ xs → JoinedStandsFor limits joined s xs → JoinedStandsFor limits joined t ys
  joined_to joined s t xs ys e f stands =
      subst (λ (u : Joining). JoinedStandsFor limits joined u ys) (sym e) (subst (λ (l : List Event). JoinedStandsFor limits joined s l) (sym f) stands)

  engine_at : {K : Type 0} (engine : Engine K) (h : History) → ReaderStandsFor limits engine.reader h → JoinedStandsFor limits engine.joined (state_of limits h) (events_of limits h) → bytes_in h ≤ limits.input → StandsFor limits engine h
  engine_at engine h reader joined within = record { reader = reader; joined = joined; fits = fit_so limits h within joined.fits }

  -- where no event came, nothing is owed
  abbrev pub owes_nothing : {K : Type 0} (engine : Engine K) (h g : History) → ReaderStandsFor limits engine.reader g → JoinedStandsFor limits engine.joined (state_of limits h) (events_of limits h)
      → events_of limits g ≡ events_of limits h → state_of limits g ≡ state_of limits h → bytes_in g ≤ limits.input → MayOwe limits engine g
  owes_nothing engine h g reader joined same left within = record {
    reader = reader;
    rest = state_of limits h;
    done = events_of limits h;
    joined = joined;
    events_are = same ∙ sym (ap (λ (l : List Event). events_of limits h ++ l) (nothing_released h) ∙ append-nil (events_of limits h));
    left_is = left ∙ sym (nothing_left h);
    clock = clock_so limits engine.joined g (state_of limits h) (events_of limits h) joined (left ∙ sym (nothing_left h));
    within = within;
  }

  abbrev pub at_rest : {K : Type 0} (engine : Engine K) (h : History) → StandsFor limits engine h → MayOwe limits engine h
  at_rest engine h stands = owes_nothing engine h h stands.reader stands.joined refl refl stands.fits.input

  -- few enough records for the counts
  pub few_excess : (h : History) → Fits limits h → (state_of limits h).excess < 2 ^ 61
  few_excess h fits = omega (arith, few_events limits h, fits.input, limits.input_within)

  few_owed : {K : Type 0} (engine : Engine K) (h : History) (w : MayOwe limits engine h) → length w.done + length w.rest.waiting ≤ 2 ^ 61
  few_owed engine h w =
      let long : length (events_of limits h) ≡ length w.done + length (released_after limits w.rest) = ap length w.events_are ∙ length-append w.done (released_after limits w.rest) in
      let all : records_in (events_of limits h) ≡ records_in w.done + records_in (released_after limits w.rest) = ap records_in w.events_are ∙ records_append w.done (released_after limits w.rest) in
      let left : length (state_of limits h).waiting ≡ length (left_after limits w.rest).waiting = ap (λ (s : Joining). length s.waiting) w.left_is in
      omega (arith, long, all, left, few_events limits h, few_records limits h, releases_hold limits (length w.rest.waiting) w.rest, w.within, limits.input_within)

  -- ---- a line that has ended

  pub line_came : {K : Type 0} (engine : Engine K) (h : History) (part : List ℕ) (item : Record) → position_or_len (is_byte 10) part ≡ length part
      → bytes_in h + (length part + 1) ≤ limits.input → Some item ≡ record_of limits.line (tail_of h ++ part)
      → ReaderStandsFor limits engine.reader (with_bytes h (part ++ 10 ∷ [])) → JoinedStandsFor limits engine.joined (enter limits (state_of limits h) item) (events_of limits h)
      → MayOwe limits engine (with_bytes h (part ++ 10 ∷ []))
  line_came engine h part item none room is reader joined =
      let more = map Byte (part ++ 10 ∷ []) in
      let tells : tells_after limits h more ≡ Came item ∷ [] = told_by _ (Some item) _ (sym is) (line_told h part none) in
      record {
        reader = reader;
        rest = enter limits (state_of limits h) item;
        done = events_of limits h;
        joined = joined;
        events_are = events_came h more item tells;
        left_is = state_came h more item tells;
        clock = clock_so limits engine.joined (h ++ more) (enter limits (state_of limits h) item) (events_of limits h) joined (state_came h more item tells);
        within = omega (arith, bytes_more h (part ++ 10 ∷ []), length-append part (10 ∷ []), room);
      }

  pub line_passed : {K : Type 0} (engine : Engine K) (h : History) (part : List ℕ) → position_or_len (is_byte 10) part ≡ length part
      → bytes_in h + (length part + 1) ≤ limits.input → None ≡ record_of limits.line (tail_of h ++ part)
      → ReaderStandsFor limits engine.reader (with_bytes h (part ++ 10 ∷ [])) → JoinedStandsFor limits engine.joined (state_of limits h) (events_of limits h)
      → MayOwe limits engine (with_bytes h (part ++ 10 ∷ []))
  line_passed engine h part none room is reader joined =
      let more = map Byte (part ++ 10 ∷ []) in
      let tells : tells_after limits h more ≡ [] = told_by _ None _ (sym is) (line_told h part none) in
      owes_nothing engine h (with_bytes h (part ++ 10 ∷ [])) reader joined (same_events limits h more tells) (same_state limits h more tells)
      (omega (arith, bytes_more h (part ++ 10 ∷ []), length-append part (10 ∷ []), room))

  -- bytes that end no line
  pub part_held : {K : Type 0} (engine : Engine K) (h : History) (part : List ℕ) → position_or_len (is_byte 10) part ≡ length part → bytes_in h + length part ≤ limits.input
      → ReaderStandsFor limits engine.reader (with_bytes h part) → JoinedStandsFor limits engine.joined (state_of limits h) (events_of limits h)
      → StandsFor limits engine (with_bytes h part)
  part_held engine h part none room reader joined =
      let quiet = part_quiet h part none in
      engine_at engine (with_bytes h part) reader
      (joined_to engine.joined _ _ _ _ (same_state limits h (map Byte part) quiet) (same_events limits h (map Byte part) quiet) joined)
      (omega (arith, bytes_more h part, room))

  -- ---- the last line

  pub last_came : {K : Type 0} (engine : Engine K) (h : History) (item : Record) → Some item ≡ record_of limits.line (tail_of h) → ReaderStandsFor limits engine.reader (h ++ Settle ∷ [])
      → JoinedStandsFor limits engine.joined (enter limits (state_of limits h) item) (events_of limits h) → EndsLast limits engine h
  last_came engine h item is reader joined =
      let tells = settle_told h (Some item) (sym is) in
      record {
        reader = reader;
        rest = enter limits (state_of limits h) item;
        joined = joined;
        events_are = events_ended h item tells;
        left_is = state_ended h item tells;
      }

  pub last_passed : {K : Type 0} (engine : Engine K) (h : History) → None ≡ record_of limits.line (tail_of h) → ReaderStandsFor limits engine.reader (h ++ Settle ∷ [])
      → JoinedStandsFor limits engine.joined (state_of limits h) (events_of limits h) → EndsLast limits engine h
  last_passed engine h is reader joined =
      let tells = settle_told h None (sym is) in
      record {
        reader = reader;
        rest = state_of limits h;
        joined = joined;
        events_are = events_settled h tells;
        left_is = state_settled h tells;
      }

  -- all is closed, and its events are owed
  pub closed_owes : {K : Type 0} {part : ℕ} (reader : Reader) (before after : Joined K) (h : History) → bytes_in h ≤ limits.input → EndsLast limits (record { reader = reader; joined = before; part = part }) h
      → ((s : Joining) (released : List Event) → JoinedStandsFor limits before s released → JoinedStandsFor limits after (settled s) released)
      → MayOwe limits (record { reader = reader; joined = after; part = part }) (h ++ Settle ∷ [])
  closed_owes reader before after h within last closes = record {
    reader = last.reader;
    rest = settled last.rest;
    done = events_of limits h;
    joined = closes last.rest (events_of limits h) last.joined;
    events_are = last.events_are;
    left_is = last.left_is;
    clock = clock_so limits after (h ++ Settle ∷ []) (settled last.rest) (events_of limits h) (closes last.rest (events_of limits h) last.joined) last.left_is;
    within = omega (arith, bytes_settled h, within);
  }

  -- ---- releases

  pub all_released : {K : Type 0} {part : ℕ} (reader : Reader) (before after : Joined K) (h : History) → MayOwe limits (record { reader = reader; joined = before; part = part }) h
      → ((s : Joining) (released : List Event) → JoinedStandsFor limits before s released → length released + length s.waiting ≤ 2 ^ 61 → JoinedStandsFor limits after (left_after limits s) (released ++ released_after limits s))
      → StandsFor limits (record { reader = reader; joined = after; part = part }) h
  all_released {part} reader before after h w releases =
      engine_at (record { reader = reader; joined = after; part = part }) h w.reader
      (joined_to after _ _ _ _ w.left_is w.events_are (releases w.rest w.done w.joined (few_owed (record { reader = reader; joined = before; part = part }) h w)))
      w.within

  pub still_owes : {K : Type 0} {part : ℕ} (reader : Reader) (before after : Joined K) (h : History) (cause : Refused) → MayOwe limits (record { reader = reader; joined = before; part = part }) h
      → ((s : Joining) (released : List Event) → JoinedStandsFor limits before s released → length released + length s.waiting ≤ 2 ^ 61 → IsOwed limits after s released cause)
      → OwesFor limits (record { reader = reader; joined = after; part = part }) h cause
  still_owes {part} reader before after h cause w releases =
      let owed = releases w.rest w.done w.joined (few_owed (record { reader = reader; joined = before; part = part }) h w) in
      record {
        stands = record {
          reader = w.reader;
          rest = owed.rest;
          done = w.done ++ owed.done;
          joined = owed.stands;
          events_are = w.events_are ∙ ap (λ (l : List Event). w.done ++ l) owed.done_is ∙ sym (append_assoc w.done owed.done (released_after limits owed.rest));
          left_is = w.left_is ∙ owed.left_is;
          clock = clock_so limits after h owed.rest (w.done ++ owed.done) owed.stands (w.left_is ∙ owed.left_is);
          within = w.within;
        };
        by = owed.by;
      }

  -- what was refused at a release was owed before it
  pub owed_some : {K : Type 0} (own old : Engine K) (after : Joined K) (h : History) (cause : Refused) (w : MayOwe limits old h) → own ≡ old
      → ((s : Joining) (released : List Event) → JoinedStandsFor limits own.joined s released → length released + length s.waiting ≤ 2 ^ 61 → IsOwed limits after s released cause)
      → length w.done < length (events_of limits h)
  owed_some {K} own old after h cause w is releases =
      let owed = releases w.rest w.done (subst (λ (e : Engine K). JoinedStandsFor limits e.joined w.rest w.done) (sym is) w.joined) (few_owed old h w) in
      let later = released_after limits (next_left limits owed.rest) in
      let first : released_after limits owed.rest ≡ owed.some.0 ∷ later =
      one_release limits owed.rest ∙ ap (λ (o : Option Event). option_to_list o ++ later) owed.some.1 in
      let all : length (events_of limits h) ≡ length w.done + length (released_after limits w.rest) = ap length w.events_are ∙ length-append w.done (released_after limits w.rest) in
      let rest : length (released_after limits w.rest) ≡ length owed.done + length (released_after limits owed.rest) = ap length owed.done_is ∙ length-append owed.done (released_after limits owed.rest) in
      omega (arith, all, rest, ap length first)

  -- ---- stops

  -- the event that passes a limit, among all events of the history
  passing_is : {K : Type 0} (engine : Engine K) (h : History) (full : Full) (w : MayOwe limits engine h) (passes : NextPasses limits w.rest w.done full)
      → events_of limits h ≡ w.done ++ passes.0 ∷ released_after limits (next_left limits w.rest)
  passing_is engine h full w passes =
      w.events_are
      ∙ ap (λ (l : List Event). w.done ++ l) (one_release limits w.rest)
      ∙ ap (λ (o : Option Event). w.done ++ (option_to_list o ++ released_after limits (next_left limits w.rest))) passes.1

  -- no event of a history that passes no limit passes one
  pub none_passes : {K : Type 0} (engine : Engine K) (h : History) (full : Full) → Fits limits h → (w : MayOwe limits engine h) → NextPasses limits w.rest w.done full → ⊥
  none_passes engine h full fits w passes =
      let after = released_after limits (next_left limits w.rest) in
      let whole : events_of limits h ≡ (w.done ++ passes.0 ∷ []) ++ after = passing_is engine h full w passes ∙ sym (append_assoc w.done (passes.0 ∷ []) after) in
      none_some (full_of limits (w.done ++ passes.0 ∷ [])) full (fewer_fit limits (w.done ++ passes.0 ∷ []) after (ap (full_of limits) (sym whole) ∙ events_fit limits h fits)) passes.2

  among_where : (xs ys done after : List Event) (event : Event) (full : Full) → full_of limits xs ≡ None → full_of limits done ≡ None → full_of limits (done ++ event ∷ []) ≡ Some full
      → SplitsAt xs ys done after event → StopsAmong limits xs ys full
  among_where xs ys done after event full none fits passes (inl (d, done_is, ys_is)) = record {
    before = d;
    event = event;
    after = after;
    parts = ys_is;
    fits = ap (full_of limits) (sym done_is) ∙ fits;
    full_is = ap (λ (l : List Event). full_of limits (l ++ event ∷ [])) (sym done_is) ∙ passes;
  }
  among_where xs ys done after event full none fits passes (inr (d, xs_is)) =
      absurd (none_some (full_of limits (done ++ event ∷ [])) full (fewer_fit limits (done ++ event ∷ []) d (ap (full_of limits) (sym xs_is) ∙ none)) passes)

  -- the step that owes an event that would pass a limit stops there
  pub owes_stops : {K : Type 0} (engine : Engine K) (front : History) (step : Step) (full : Full) → Fits limits front → (w : MayOwe limits engine (front ++ step ∷ [])) → NextPasses limits w.rest w.done full
      → Stops limits (front ++ step ∷ []) full
  owes_stops engine front step full fits w passes =
      let after = released_after limits (next_left limits w.rest) in
      record {
        front = front;
        step = step;
        back = [];
        parts = refl;
        fits = fits;
        passes = inr (
          w.within,
          among_where (events_of limits front) (released_at limits front step) w.done after passes.0 full (events_fit limits front fits) w.joined.fits passes.2
              (split_at (events_of limits front) (released_at limits front step) w.done after passes.0
              (sym (events_step limits front step) ∙ passing_is engine (front ++ step ∷ []) full w passes)),
        );
      }

  -- bytes that end no line pass no limit but that of bytes
  pub front_fits_too : (h : History) (part : List ℕ) → Fits limits h → bytes_in h + (length part + 1) ≤ limits.input → position_or_len (is_byte 10) part ≡ length part → Fits limits (with_bytes h part)
  front_fits_too h part fits room none =
      fit_so limits (with_bytes h part) (omega (arith, bytes_more h part, room)) (ap (full_of limits) (same_events limits h (map Byte part) (part_quiet h part none)) ∙ events_fit limits h fits)

-- a cause that is a limit
module _ (limits : Limits) where
  pub settle_full : {K : Type 0} (engine : Engine K) (h : History) (full : Full) → Fits limits h → OwesFor limits engine (h ++ Settle ∷ []) (why.Full full) → Stops limits (h ++ Settle ∷ []) full
  settle_full engine h full fits owes = owes_stops limits engine h Settle full fits owes.stands owes.by

  pub never_full : {K : Type 0} (engine : Engine K) (h : History) (cause : Refused) (full : Full) → cause ≡ why.Full full → Fits limits h → OwesFor limits engine h cause → ⊥
  never_full engine h cause full is fits owes =
      let own = subst (λ (c : Refused). OwesFor limits engine h c) is owes in
      none_passes limits engine h full fits own.stands own.by

abbrev pub engine_of : {K : Type 0} → Reader → Joined K → ℕ → Engine K
engine_of reader joined part = record { reader = reader; joined = joined; part = part }

-- what ending a line that isn't used does to the reader
abbrev pub EndsOther : Reader → Reader → List ℕ → Type 0
EndsOther old new part = (limits : Limits) (h : History) → ReaderStandsFor limits old h → record_of limits.line (tail_of h ++ part) ≡ None → ReaderStandsFor limits new (with_bytes h (part ++ 10 ∷ []))

abbrev pub SettlesOther : Reader → Reader → Type 0
SettlesOther old new = (limits : Limits) (h : History) → ReaderStandsFor limits old h → record_of limits.line (tail_of h) ≡ None → ReaderStandsFor limits new (h ++ Settle ∷ [])

-- a piece is taken, or it stops
abbrev pub Takes : {K : Type 0} → Engine K → Engine K → List ℕ → Type 0
Takes old new piece = (limits : Limits) (h : History) → StandsFor limits old h → StandsFor limits new (with_bytes h piece)

abbrev pub StopsIn : {K : Type 0} → Engine K → List ℕ → Stop → Type 0
StopsIn old piece stop = (limits : Limits) (h : History) → StandsFor limits old h → StopsFor limits h piece stop

abbrev pub HaltsIn : {K : Type 0} → Engine K → Engine K → List ℕ → Stop → Type 0
HaltsIn old new piece stop = (limits : Limits) (h : History) → StandsFor limits old h → Halts limits new h piece stop

-- all that is ripe is released, or some of it is owed
abbrev pub Releases : {K : Type 0} → Joined K → Joined K → Type 0
Releases old new = (limits : Limits) (s : Joining) (released : List Event) → JoinedStandsFor limits old s released → length released + length s.waiting ≤ 2 ^ 61
    → JoinedStandsFor limits new (left_after limits s) (released ++ released_after limits s)

abbrev pub OwesSome : {K : Type 0} → Joined K → Joined K → Refused → Type 0
OwesSome old new cause = (limits : Limits) (s : Joining) (released : List Event) → JoinedStandsFor limits old s released → length released + length s.waiting ≤ 2 ^ 61
    → IsOwed limits new s released cause

-- ---- the engine's own fields

pub engine_own : {K : Type 0} (limits : Limits) (old seen : Engine K) (h : History) → old ≡ seen → StandsFor limits seen h → StandsFor limits old h
engine_own {K} limits old seen h is stands = subst (λ (e : Engine K). StandsFor limits e h) (sym is) stands

pub owes_own : {K : Type 0} (limits : Limits) (old seen : Engine K) (h : History) → old ≡ seen → MayOwe limits seen h → MayOwe limits old h
owes_own {K} limits old seen h is owes = subst (λ (e : Engine K). MayOwe limits e h) (sym is) owes

pub room_so : (limits : Limits) (reader : Reader) (h : History) (n : ℕ) → ReaderStandsFor limits reader h → reader.bytes + n ≤ reader.limits.input → bytes_in h + n ≤ limits.input
room_so limits reader h n stands room =
    let most : reader.limits.input ≡ limits.input = ap (λ (l : Limits). l.input) stands.limits_are in
    omega (arith, stands.bytes, room, most)

pub ends_own : {K : Type 0} (limits : Limits) (old seen : Engine K) (h : History) → old ≡ seen → EndsLast limits seen h → EndsLast limits old h
ends_own {K} limits old seen h is ends = subst (λ (e : Engine K). EndsLast limits e h) (sym is) ends

-- no byte of the line had come, whoever sees the engine
pub tail_own : {K : Type 0} (old seen : Engine K) → old ≡ seen → (HasNoTail old.reader → ⊥) → HasNoTail seen.reader → ⊥
tail_own {K} old seen is begun none = begun (subst (λ (e : Engine K). HasNoTail e.reader) (sym is) none)
