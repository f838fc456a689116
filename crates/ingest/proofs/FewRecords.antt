-- Two bytes for each record, and six acts at most.
use Rattle.std.proofs.Common.{◌≡◌, ◌≤◌, ◌+◌, ◌*◌, ◌==◌, ◌++◌, ◌∙◌, sym, refl, ap, ℕ, Bool, true, false, List, [], ◌∷◌, length, map, arith, append_assoc, length-append, Option, None, Some, if◌then◌else◌}
use Rattle.std.specs.List.{fold, flat_map}
use Rattle.std.specs.Prelude.{sum_by}
use Rattle.std.specs.Option.{option_to_list}
use Rattle.std.proofs.lemmas.List.{length-map, length-reverse}
use Rattle.std.proofs.lemmas.List.Sums.{sum_by-append, sum_by-cons}
use Rattle.flow_base.specs.declared.limits.Limits.{Limits}
use Rattle.audit_lex.specs.History.{History, Byte, Settle, Cuts, settled, one_more, nothing_cut, lines_of}
use Rattle.audit_record.specs.declared.types.Record.{Record}
use Rattle.record_join.specs.History.{Came, start, events}
use Rattle.record_join.specs.declared.event.Event.{Event}
use Rattle.ingest.specs.Counting.{bytes_in}
use Rattle.ingest.specs.EventActs.{acts_of_event}
use Rattle.ingest.specs.LineRecords.{record_of}
use Rattle.ingest.specs.Events.{lines_since, line_tells, lines_tell, settle_tells, tells_at, tells_after, told_of, taken_at, taken_by, taken_in, events_of}
use Rattle.ingest.proofs.Bytes.{one_byte}
use Rattle.ingest.proofs.FewActs.{ActsAreFew}
use Rattle.ingest.proofs.FewEvents.{cames, cames_append, settle_cames, records_in, events_size, records_size}
use Rattle.ingest.proofs.KeyTimes.{record_text}
use Rattle.ingest.proofs.Telling.{since_parts}

-- the bytes of these lines
abbrev texts : List (List ℕ) → ℕ
texts lines = sum_by length lines

texts_append : (xs ys : List (List ℕ)) → texts (xs ++ ys) ≡ texts xs + texts ys
texts_append xs ys = sum_by-append length xs ys

-- those of the tail too
abbrev whole : Cuts → ℕ
whole cuts = texts cuts.lines + length cuts.tail

byte_adds : (lines : List (List ℕ)) (tail : List ℕ) (b : ℕ) (feed : Bool) → whole (if feed then record { lines = lines ++ tail ∷ []; tail = [] } else record { lines = lines; tail = tail ++ b ∷ [] }) ≤ texts lines + length tail + 1
byte_adds lines tail b true = omega (arith, texts_append lines (tail ∷ []), sum_by-cons length tail [])
byte_adds lines tail b false = omega (arith, length-append tail (b ∷ []))

settle_adds : (lines : List (List ℕ)) (tail : List ℕ) → whole (settled lines tail) ≤ texts lines + length tail
settle_adds lines [] = omega arith
settle_adds lines (b ∷ tail) = omega (arith, texts_append lines ((b ∷ tail) ∷ []), sum_by-cons length (b ∷ tail) [])

all_add : (cuts : Cuts) (h : History) → whole (fold one_more cuts h) ≤ whole cuts + bytes_in h
all_add cuts [] = omega arith
all_add cuts (Byte b ∷ h) = omega (arith, byte_adds cuts.lines cuts.tail b (b == 10), all_add (one_more cuts (Byte b)) h, sum_by-cons one_byte (Byte b) h)
all_add cuts (Settle ∷ h) = omega (arith, settle_adds cuts.lines cuts.tail, all_add (one_more cuts Settle) h, sum_by-cons one_byte Settle h)

-- the lines have no more bytes than the history
few_texts : (h : History) → texts (lines_of h) ≤ bytes_in h
few_texts h = omega (arith, all_add nothing_cut h)

module _ (limits : Limits) where
  line_pays : (line : List ℕ) (o : Option Record) → record_of limits.line line ≡ o → 2 * cames (map Came (option_to_list o)) ≤ length line
  line_pays line None e = omega arith
  line_pays line (Some r) e = let two = record_text limits.line line r e in omega (arith, two)

  lines_pay : (lines : List (List ℕ)) → 2 * cames (lines_tell limits lines) ≤ texts lines
  lines_pay [] = omega arith
  lines_pay (line ∷ lines) =
      omega (arith, cames_append (line_tells limits line) (lines_tell limits lines), line_pays line (record_of limits.line line) refl, lines_pay lines, sum_by-cons length line lines)

  tells_pay : (before more : History) → 2 * cames (tells_after limits before more) ≤ texts (lines_since before (before ++ more))
  tells_pay before [] = omega arith
  tells_pay before (step ∷ more) =
      let here : History = before ++ step ∷ [] in
      let joined : here ++ more ≡ before ++ step ∷ more = append_assoc before (step ∷ []) more in
      let lines : texts (lines_since before (before ++ step ∷ more)) ≡ texts (lines_since before here) + texts (lines_since here (here ++ more)) =
      ap (λ (g : History). texts (lines_since before g)) (sym joined)
      ∙ ap texts (since_parts before (step ∷ []) more)
      ∙ texts_append (lines_since before here) (lines_since here (here ++ more)) in
      omega (
        arith,
        cames_append (tells_at limits before step) (tells_after limits here more),
        cames_append (lines_tell limits (lines_since before here)) (settle_tells step),
        lines_pay (lines_since before here),
        settle_cames limits step,
        tells_pay here more,
        lines,
      )

  -- two bytes for each record that came
  pub records_pay : (h : History) → 2 * cames (told_of limits h) ≤ bytes_in h
  records_pay h = omega (arith, tells_pay [] h, few_texts h)

  taken_few : ActsAreFew → (event : Event) → length (taken_by limits event) ≤ 4 + 2 * length event.records
  taken_few few event = omega (arith, few limits.path event.records, length-map (acts_of_event limits event) (taken_at event.ms event.key.serial))

  all_few : ActsAreFew → (events : List Event) → length (flat_map (taken_by limits) events) ≤ 4 * length events + 2 * records_in events
  all_few few [] = omega arith
  all_few few (event ∷ events) =
      omega (arith, length-append (taken_by limits event) (flat_map (taken_by limits) events), taken_few few event, all_few few events)

  -- three acts at most for each byte
  pub few_taken : ActsAreFew → (h : History) → length (taken_in limits (events_of limits h)) ≤ 3 * bytes_in h
  few_taken few h =
      let events = events_of limits h in
      omega (
        arith,
        length-reverse (flat_map (taken_by limits) events),
        all_few few events,
        events_size limits start (told_of limits h),
        records_size limits start (told_of limits h),
        records_pay h,
      )
