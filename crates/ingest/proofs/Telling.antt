-- What joining is told as a history goes on, and the events of it.
use Rattle.std.proofs.Common.{◌≡◌, ◌++◌, ◌∙◌, sym, refl, ap, ℕ, List, [], ◌∷◌, length, drop, map, append_assoc, append-nil}
use Rattle.std.proofs.Math.Seq.{drop-append_seam}
use Rattle.std.proofs.lemmas.Grind.{flat_map-append}
use Rattle.flow_base.specs.declared.limits.Limits.{Limits}
use Rattle.audit_lex.specs.History.{History, Step, Byte, lines_of, with_bytes}
use Rattle.audit_lex.proofs.HistoryLaws.{stay}
use Rattle.record_join.specs.Events.{Joining}
use Rattle.record_join.specs.History.{Step as Told, start, told, events, state, released_after, left_after}
use Rattle.record_join.specs.declared.event.Event.{Event}
use Rattle.ingest.specs.Events.{lines_since, line_tells, lines_tell, tells_at, tells_after, told_of, state_of, events_of, released_at}

pub since_is : (before after : History) (later : List (List ℕ)) → lines_of after ≡ lines_of before ++ later → lines_since before after ≡ later
since_is before after later is = ap (drop (length (lines_of before))) is ∙ drop-append_seam (lines_of before) later

-- no more lines
pub since_none : (before after : History) → lines_of after ≡ lines_of before → lines_since before after ≡ []
since_none before after is = since_is before after [] (is ∙ sym (append-nil (lines_of before)))

-- the lines since, in two parts
pub since_parts : (h first second : History) → lines_since h ((h ++ first) ++ second) ≡ lines_since h (h ++ first) ++ lines_since (h ++ first) ((h ++ first) ++ second)
since_parts h first second =
    let one = stay h first in
    let two = stay (h ++ first) second in
    since_is h ((h ++ first) ++ second) (one.0 ++ two.0)
    (two.1 ∙ ap (λ l. l ++ two.0) one.1 ∙ append_assoc (lines_of h) one.0 two.0)
    ∙ ap (λ l. l ++ two.0) (sym (since_is h (h ++ first) one.0 one.1))
    ∙ ap (λ l. lines_since h (h ++ first) ++ l) (sym (since_is (h ++ first) ((h ++ first) ++ second) two.0 two.1))

module _ (limits : Limits) where
  pub tell_append : (xs ys : List (List ℕ)) → lines_tell limits (xs ++ ys) ≡ lines_tell limits xs ++ lines_tell limits ys
  tell_append xs ys = flat_map-append (line_tells limits) xs ys

  pub tells_append : (before xs ys : History) → tells_after limits before (xs ++ ys) ≡ tells_after limits before xs ++ tells_after limits (before ++ xs) ys
  tells_append before [] ys = ap (λ (h : History). tells_after limits h ys) (sym (append-nil before))
  tells_append before (step ∷ xs) ys =
      let here = before ++ step ∷ [] in
      ap (λ (l : List Told). tells_at limits before step ++ l)
      (tells_append here xs ys ∙ ap (λ (h : History). tells_after limits here xs ++ tells_after limits h ys) (append_assoc before (step ∷ []) xs))
      ∙ sym (append_assoc (tells_at limits before step) (tells_after limits here xs) (tells_after limits (before ++ step ∷ xs) ys))

  pub told_more : (h more : History) → told_of limits (h ++ more) ≡ told_of limits h ++ tells_after limits h more
  told_more h more = tells_append [] h more

  -- bytes tell the lines that they end
  pub bytes_tell : (h : History) (bytes : List ℕ) → tells_after limits h (map Byte bytes) ≡ lines_tell limits (lines_since h (with_bytes h bytes))
  bytes_tell h [] = ap (lines_tell limits) (sym (since_none h (h ++ []) (ap lines_of (append-nil h))))
  bytes_tell h (b ∷ bytes) =
      let here : History = h ++ Byte b ∷ [] in
      let joined : (here ++ map Byte bytes) ≡ h ++ Byte b ∷ map Byte bytes = append_assoc h (Byte b ∷ []) (map Byte bytes) in
      ap (λ (l : List Told). l ++ tells_after limits here (map Byte bytes)) (append-nil (lines_tell limits (lines_since h here)))
      ∙ ap (λ (l : List Told). lines_tell limits (lines_since h here) ++ l) (bytes_tell here bytes)
      ∙ sym (tell_append (lines_since h here) (lines_since here (here ++ map Byte bytes)))
      ∙ ap (lines_tell limits) (sym (since_parts h (Byte b ∷ []) (map Byte bytes)))
      ∙ ap (λ (g : History). lines_tell limits (lines_since h g)) joined

  pub state_append : (s : Joining) (xs ys : List Told) → state limits s (xs ++ ys) ≡ state limits (state limits s xs) ys
  state_append s [] ys = refl
  state_append s (x ∷ xs) ys = state_append (left_after limits (told limits s x)) xs ys

  pub events_append : (s : Joining) (xs ys : List Told) → events limits s (xs ++ ys) ≡ events limits s xs ++ events limits (state limits s xs) ys
  events_append s [] ys = refl
  events_append s (x ∷ xs) ys =
      let t = told limits s x in
      ap (λ (l : List Event). released_after limits t ++ l) (events_append (left_after limits t) xs ys)
      ∙ sym (append_assoc (released_after limits t) (events limits (left_after limits t) xs) (events limits (state limits (left_after limits t) xs) ys))

  pub events_more : (h more : History) → events_of limits (h ++ more) ≡ events_of limits h ++ events limits (state_of limits h) (tells_after limits h more)
  events_more h more = ap (events limits start) (told_more h more) ∙ events_append start (told_of limits h) (tells_after limits h more)

  pub state_more : (h more : History) → state_of limits (h ++ more) ≡ state limits (state_of limits h) (tells_after limits h more)
  state_more h more = ap (state limits start) (told_more h more) ∙ state_append start (told_of limits h) (tells_after limits h more)

  -- one more step
  pub events_step : (h : History) (step : Step) → events_of limits (h ++ step ∷ []) ≡ events_of limits h ++ released_at limits h step
  events_step h step =
      events_more h (step ∷ []) ∙ ap (λ (l : List Told). events_of limits h ++ events limits (state_of limits h) l) (append-nil (tells_at limits h step))

  -- where nothing is told, all stays
  pub same_events : (h more : History) → tells_after limits h more ≡ [] → events_of limits (h ++ more) ≡ events_of limits h
  same_events h more none = events_more h more ∙ ap (λ (l : List Told). events_of limits h ++ events limits (state_of limits h) l) none ∙ append-nil (events_of limits h)

  pub same_state : (h more : History) → tells_after limits h more ≡ [] → state_of limits (h ++ more) ≡ state_of limits h
  same_state h more none = state_more h more ∙ ap (state limits (state_of limits h)) none
