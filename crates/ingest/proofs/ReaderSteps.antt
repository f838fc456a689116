-- The reader after some bytes, after a line feed, and after a settle.
use Rattle.std.proofs.Common.{◌≡◌, ◌≤◌, ◌<◌, ◌+◌, ◌^◌, ◌++◌, ◌∙◌, sym, refl, ap, subst, ℕ, Bool, true, false, List, [], ◌∷◌, length, arith, length-append, Option}
use Rattle.std.specs.List.{position_or_len}
use Rattle.std.proofs.lemmas.Grind.{common_steps}
use Rattle.memchr.specs.Find.{is_byte}
use Rattle.flow_base.specs.declared.limits.Limits.{Limits}
use Rattle.audit_lex.specs.History.{History, Settle, Cuts, settled, lines_of, tail_of, with_bytes, is_long, short_text}
use Rattle.audit_lex.specs.LineCut.{Cutter, StandsFor as CutStandsFor}
use Rattle.audit_lex.specs.declared.tally.Tally.{Tally}
use Rattle.audit_lex.proofs.HistoryLaws.{after_settle}
use Rattle.audit_lex.proofs.HistoryLemmas.{more_line}
use Rattle.audit_record.specs.declared.types.Record.{Record}
use Rattle.ingest.specs.Bounds.{EndsLine, KeepsLines}
use Rattle.ingest.specs.Counting.{bytes_in, tally_of_lines, total}
use Rattle.ingest.specs.LineRecords.{record_of}
use Rattle.ingest.specs.Parts.{Reader}
use Rattle.ingest.specs.StandsFor.{IsHeld, IsWithin, ReaderStandsFor, HasNoTail}
use Rattle.ingest.proofs.Bytes.{bytes_more, bytes_settled}
use Rattle.ingest.proofs.HeldTails.{HasMore}
use Rattle.store_check.specs.Conditions.{begun}

pub reader_at : (limits : Limits) (reader seen : Reader) (h : History) → seen ≡ reader → ReaderStandsFor limits reader h → ReaderStandsFor limits seen h
reader_at limits reader seen h is stands = subst (λ (r : Reader). ReaderStandsFor limits r h) (sym is) stands

pub fits_so : (inside seen : Reader) (room : ℕ) → inside ≡ seen → seen.bytes + room ≤ seen.limits.input → inside.bytes + room ≤ inside.limits.input
fits_so inside seen room is fits = subst (λ (r : Reader). r.bytes + room ≤ r.limits.input) (sym is) fits

-- ---- a tail

-- nothing is held where nothing has come
held_none : (cut : Cutter) (h : History) → CutStandsFor cut h → tail_of h ≡ [] → (cut.tail ≡ []) × (cut.long ≡ false)
held_none cut h stands none =
    let long : is_long cut.limit (tail_of h) ≡ false = rw none (grind (arith, common_steps)) in
    (stands.rest ∙ ap (short_text cut.limit) none ∙ grind (arith, common_steps), stands.over ∙ long)

pub begun_so : (inside seen : Reader) (h : History) → inside ≡ seen → (HasNoTail seen → ⊥) → CutStandsFor inside.cut h → tail_of h ≡ [] → ⊥
begun_so inside seen h is begun stands none =
    let both = held_none inside.cut h stands none in
    begun (subst (λ (r : Reader). HasNoTail r) is (record { tail = both.0; long = both.1 }))

-- no bytes are short enough
pub short_none : (limit : ℕ) → length (short_text limit []) ≡ 0
short_none limit = grind (arith, common_steps)

-- ---- one more line

-- the second history has one line more than the first, and no tail
pub record Ends (h g : History) (text : List ℕ) : Type 0 where
  pub lines : lines_of g ≡ lines_of h ++ text ∷ []
  pub tail : tail_of g ≡ []

ends_by_feed : (h : History) (part : List ℕ) → position_or_len (is_byte 10) part ≡ length part → Ends h (with_bytes h (part ++ 10 ∷ [])) (tail_of h ++ part)
ends_by_feed h part none =
    let cuts = more_line h part none in
    record { lines = ap (λ (c : Cuts). c.lines) cuts; tail = ap (λ (c : Cuts). c.tail) cuts }

settled_line : (lines : List (List ℕ)) (tail : List ℕ) → (tail ≡ [] → ⊥) → settled lines tail ≡ record { lines = lines ++ tail ∷ []; tail = [] }
settled_line lines [] some = absurd (some refl)
settled_line lines (b ∷ tail) some = refl

ends_by_settle : (h : History) → (tail_of h ≡ [] → ⊥) → Ends h (h ++ Settle ∷ []) (tail_of h)
ends_by_settle h some =
    let cuts = after_settle h ∙ settled_line (lines_of h) (tail_of h) some in
    record { lines = ap (λ (c : Cuts). c.lines) cuts; tail = ap (λ (c : Cuts). c.tail) cuts }

bytes_ended : (h : History) (part : List ℕ) → bytes_in (with_bytes h (part ++ 10 ∷ [])) ≡ bytes_in h + (length part + 1)
bytes_ended h part = bytes_more h (part ++ 10 ∷ []) ∙ ap (λ n. bytes_in h + n) (simp length-append refl)

-- the cutter after a line
abbrev pub next_cut : ℕ → ℕ → Cutter
next_cut limit lines = record { limit = limit; lines = lines + 1; tail = []; long = false }

cut_after : (cut : Cutter) (limit : ℕ) (h g : History) (text : List ℕ) → Ends h g text → CutStandsFor cut h → CutStandsFor (next_cut limit cut.lines) g
cut_after cut limit h g text ends stands = record {
  count = omega (arith, stands.count, simp length-append at (ap length ends.lines));
  rest = rw ends.tail (grind (arith, common_steps));
  over = rw ends.tail (grind (arith, common_steps));
}

-- ---- within

next_held : (limit lines : ℕ) → IsHeld (next_cut limit lines)
next_held limit lines = record {
  no_feed = λ there. omega (arith, there.1);
  short = omega arith;
  none = λ is. refl;
}

begun_one : (long : Bool) (tail : List ℕ) → begun long tail ≤ 1
begun_one true tail = omega arith
begun_one false [] = omega arith
begun_one false (b ∷ tail) = omega arith

begun_some : (long : Bool) (tail : List ℕ) → 1 ≤ length tail → begun long tail ≡ 1
begun_some true tail some = refl
begun_some false [] some = absurd (omega (arith, some))
begun_some false (b ∷ tail) some = refl

begun_none : (cut : Cutter) → ((cut.tail ≡ []) × (cut.long ≡ false) → ⊥) → begun cut.long cut.tail ≡ 1
begun_none cut begins = one_if cut.long cut.tail begins
  where
    one_if : (long : Bool) (tail : List ℕ) → ((tail ≡ []) × (long ≡ false) → ⊥) → begun long tail ≡ 1
    one_if true tail begins = refl
    one_if false [] begins = absurd (begins (refl, refl))
    one_if false (b ∷ tail) begins = refl

pub few : (limits : Limits) (cut : Cutter) (tally : Tally) (bytes : ℕ) → IsWithin limits cut tally bytes → cut.lines ≤ bytes
few limits cut tally bytes w = omega (arith, w.paid)

pub within_more : (limits : Limits) (cut after : Cutter) (tally : Tally) (bytes n : ℕ) (part : List ℕ) → IsWithin limits cut tally bytes → HasMore cut after part → after.limit ≡ cut.limit
    → n ≡ length part → 1 ≤ length part → bytes + n ≤ limits.input → IsWithin limits after tally (bytes + n)
within_more limits cut after tally bytes n part w more limit all some room = record {
  line = limit ∙ w.line;
  held = more.held;
  paid = omega (arith, w.paid, more.lines, begun_one after.long after.tail, all, some);
  counted = w.counted ∙ sym more.lines;
  listed = w.listed;
  within = room;
  input = w.input;
}

-- the counts have room for a line that ends
pub record HasRoom (cut : Cutter) (tally : Tally) : Type 0 where
  pub lines : cut.lines < 2 ^ 60
  pub counted : total tally < 2 ^ 60

room_for : (limits : Limits) (cut : Cutter) (tally : Tally) (bytes : ℕ) → IsWithin limits cut tally bytes → cut.lines + 1 ≤ limits.input → HasRoom cut tally
room_for limits cut tally bytes w room = record { lines = omega (arith, room, w.input); counted = omega (arith, room, w.input, w.counted) }

within_line : (limits : Limits) (cut after : Cutter) (tally more : Tally) (bytes all : ℕ) → IsWithin limits cut tally bytes → cut.lines + 1 ≤ all → all ≤ limits.input
    → after ≡ next_cut limits.line cut.lines → total more ≡ total tally + 1 → length more.bad ≤ limits.shown
    → IsWithin limits after more all
within_line limits cut after tally more bytes all w paid room is one listed = rw is record {
  line = refl;
  held = next_held limits.line cut.lines;
  paid = omega (arith, paid);
  counted = omega (arith, one, w.counted);
  listed = listed;
  within = room;
  input = w.input;
}

pub room_fed : (limits : Limits) (cut : Cutter) (tally : Tally) (bytes : ℕ) (part : List ℕ) → IsWithin limits cut tally bytes → bytes + (length part + 1) ≤ limits.input → HasRoom cut tally
room_fed limits cut tally bytes part w room = room_for limits cut tally bytes w (omega (arith, w.paid, room))

-- a cutter that ended a line where it stood is the one after that line
pub next_so : (limits : Limits) (cut after : Cutter) → cut.limit ≡ limits.line → after ≡ record cut { lines = cut.lines + 1; tail = []; long = false } → after ≡ next_cut limits.line cut.lines
next_so limits cut after line is = is ∙ ap (λ l. next_cut l cut.lines) line

pub within_fed : (limits : Limits) (cut after : Cutter) (tally more : Tally) (bytes : ℕ) (part : List ℕ) → IsWithin limits cut tally bytes → bytes + (length part + 1) ≤ limits.input
    → after ≡ next_cut limits.line cut.lines → total more ≡ total tally + 1 → length more.bad ≤ limits.shown
    → IsWithin limits after more (bytes + (length part + 1))
within_fed limits cut after tally more bytes part w room is one listed =
    within_line limits cut after tally more bytes (bytes + (length part + 1)) w (omega (arith, w.paid)) room is one listed

pub room_settled : (limits : Limits) (cut : Cutter) (tally : Tally) (bytes : ℕ) → IsWithin limits cut tally bytes → begun cut.long cut.tail ≡ 1 → HasRoom cut tally
room_settled limits cut tally bytes w some = room_for limits cut tally bytes w (omega (arith, w.paid, w.within, some))

pub within_settled : (limits : Limits) (cut after : Cutter) (tally more : Tally) (bytes : ℕ) → IsWithin limits cut tally bytes → begun cut.long cut.tail ≡ 1
    → after ≡ next_cut limits.line cut.lines → total more ≡ total tally + 1 → length more.bad ≤ limits.shown → IsWithin limits after more bytes
within_settled limits cut after tally more bytes w some is one listed =
    within_line limits cut after tally more bytes bytes w (omega (arith, w.paid, some)) w.within is one listed

-- a line has begun
pub begun_own : (inside seen : Reader) → inside ≡ seen → (HasNoTail seen → ⊥) → begun inside.cut.long inside.cut.tail ≡ 1
begun_own inside seen is begins =
    begun_none inside.cut (λ both. begins (subst (λ (r : Reader). HasNoTail r) is (record { tail = both.0; long = both.1 })))

pub two_so : (inside seen : Reader) (more : ℕ) → inside ≡ seen → 2 ≤ length seen.cut.tail + more → 2 ≤ length inside.cut.tail + more
two_so inside seen more is two = subst (λ (r : Reader). 2 ≤ length r.cut.tail + more) (sym is) two

pub two_seen : (inside seen : Reader) (more : ℕ) → inside ≡ seen → 2 ≤ length inside.cut.tail + more → 2 ≤ length seen.cut.tail + more
two_seen inside seen more is two = subst (λ (r : Reader). 2 ≤ length r.cut.tail + more) is two

-- so has one of two bytes
pub two_begin : (seen : Reader) → 2 ≤ length seen.cut.tail → HasNoTail seen → ⊥
two_begin seen two none = omega (arith, two, ap length none.tail)

-- ---- standing

stands_line : (limits : Limits) (reader after : Reader) (h g : History) (text : List ℕ) → ReaderStandsFor limits reader h → Ends h g text
    → after.limits ≡ reader.limits → after.cut ≡ next_cut reader.limits.line reader.cut.lines
    → after.tally ≡ tally_of_lines reader.limits (lines_of h ++ text ∷ []) → after.bytes ≡ bytes_in g
    → ReaderStandsFor limits after g
stands_line limits reader after h g text stands ends own cut tally bytes = record {
  limits_are = own ∙ stands.limits_are;
  cut = rw cut (cut_after reader.cut reader.limits.line h g text ends stands.cut);
  line = ap (λ (c : Cutter). c.limit) cut ∙ ap (λ (l : Limits). l.line) stands.limits_are;
  tally = tally ∙ ap (λ (l : Limits). tally_of_lines l (lines_of h ++ text ∷ [])) stands.limits_are ∙ ap (tally_of_lines limits) (sym ends.lines);
  bytes = bytes;
}

pub stands_fed : (limits : Limits) (reader after : Reader) (h : History) (part : List ℕ) → ReaderStandsFor limits reader h → position_or_len (is_byte 10) part ≡ length part
    → after.limits ≡ reader.limits → after.cut ≡ next_cut reader.limits.line reader.cut.lines
    → after.tally ≡ tally_of_lines reader.limits (lines_of h ++ (tail_of h ++ part) ∷ []) → after.bytes ≡ reader.bytes + (length part + 1)
    → ReaderStandsFor limits after (with_bytes h (part ++ 10 ∷ []))
stands_fed limits reader after h part stands none own cut tally bytes =
    stands_line limits reader after h (with_bytes h (part ++ 10 ∷ [])) (tail_of h ++ part) stands (ends_by_feed h part none) own cut tally
    (bytes ∙ ap (λ n. n + (length part + 1)) stands.bytes ∙ sym (bytes_ended h part))

pub stands_settled : (limits : Limits) (reader after : Reader) (h : History) → ReaderStandsFor limits reader h → (tail_of h ≡ [] → ⊥)
    → after.limits ≡ reader.limits → after.cut ≡ next_cut reader.limits.line reader.cut.lines
    → after.tally ≡ tally_of_lines reader.limits (lines_of h ++ tail_of h ∷ []) → after.bytes ≡ reader.bytes
    → ReaderStandsFor limits after (h ++ Settle ∷ [])
stands_settled limits reader after h stands some own cut tally bytes =
    stands_line limits reader after h (h ++ Settle ∷ []) (tail_of h) stands (ends_by_settle h some) own cut tally
    (bytes ∙ stands.bytes ∙ sym (bytes_settled h))

pub stands_none : (limits : Limits) (reader after : Reader) (h g : History) → ReaderStandsFor limits reader h
    → after.limits ≡ reader.limits → CutStandsFor after.cut g → after.cut.limit ≡ reader.cut.limit
    → after.tally ≡ reader.tally → lines_of g ≡ lines_of h → after.bytes ≡ bytes_in g
    → ReaderStandsFor limits after g
stands_none limits reader after h g stands own cut line tally lines bytes = record {
  limits_are = own ∙ stands.limits_are;
  cut = cut;
  line = line ∙ stands.line;
  tally = tally ∙ stands.tally ∙ ap (tally_of_lines limits) (sym lines);
  bytes = bytes;
}

-- ---- the reader's own counts

pub own_tally : (limits : Limits) (reader : Reader) (h : History) → ReaderStandsFor limits reader h → reader.tally ≡ tally_of_lines reader.limits (lines_of h)
own_tally limits reader h stands = stands.tally ∙ ap (λ (l : Limits). tally_of_lines l (lines_of h)) (sym stands.limits_are)

pub own_reads : (limits : Limits) (reader : Reader) (h : History) → ReaderStandsFor limits reader h → (item : Option Record) (text : List ℕ)
    → record_of limits.line text ≡ item → record_of reader.limits.line text ≡ item
own_reads limits reader h stands item text is = ap (λ (l : Limits). record_of l.line text) stands.limits_are ∙ is

-- the cutter's limit is the reader's own
pub own_line : (limits : Limits) (reader : Reader) (h : History) → ReaderStandsFor limits reader h → reader.cut.limit ≡ reader.limits.line
own_line limits reader h stands = stands.line ∙ ap (λ (l : Limits). l.line) (sym stands.limits_are)

-- ---- how many lines have ended

pub ends_line : (inside old new : Reader) (limit : ℕ) → inside ≡ old → new.cut ≡ next_cut limit inside.cut.lines → inside.cut.lines < 2 ^ 60
    → 2 + inside.bytes ≤ new.bytes + length inside.cut.tail → new.bytes ≤ 2 ^ 60 → EndsLine old new
ends_line inside old new limit is cut room two most =
    let lines : new.cut.lines ≡ inside.cut.lines + 1 = ap (λ (k : Cutter). k.lines) cut in
    let none : length new.cut.tail ≡ 0 = ap (λ (k : Cutter). length k.tail) cut in
    subst (λ (r : Reader). EndsLine r new) is
    (record { one = lines; within = omega (arith, lines, room); pays = record { paid = omega (arith, none, two); within = most } })

pub keeps_line : (inside old new : Reader) (limit : ℕ) → inside ≡ old → new.cut ≡ next_cut limit inside.cut.lines → inside.cut.lines < 2 ^ 60
    → inside.bytes ≤ new.bytes → new.bytes ≤ 2 ^ 60 → KeepsLines old new
keeps_line inside old new limit is cut room no_less most =
    let lines : new.cut.lines ≡ inside.cut.lines + 1 = ap (λ (k : Cutter). k.lines) cut in
    let none : length new.cut.tail ≡ 0 = ap (λ (k : Cutter). length k.tail) cut in
    subst (λ (r : Reader). KeepsLines r new) is
    (record { no_less = omega (arith, lines); within = omega (arith, lines, room); pays = record { paid = omega (arith, none, no_less); within = most } })

pub keeps_own : (inside old : Reader) → inside ≡ old → IsWithin inside.limits inside.cut inside.tally inside.bytes → KeepsLines old old
keeps_own inside old is w =
    subst (λ (r : Reader). KeepsLines r r) is
    (record { no_less = omega arith; within = omega (arith, few _ _ _ _ w, w.within, w.input); pays = record { paid = omega arith; within = omega (arith, w.within, w.input) } })

pub keeps_lines : (inside old new : Reader) (part : List ℕ) → inside ≡ old → IsWithin new.limits new.cut new.tally new.bytes → HasMore inside.cut new.cut part → new.bytes ≡ inside.bytes + length part
    → KeepsLines old new
keeps_lines inside old new part is w more bytes =
    subst (λ (r : Reader). KeepsLines r new) is
    (record {
      no_less = omega (arith, more.lines);
      within = omega (arith, few _ _ _ _ w, w.within, w.input);
      pays = record { paid = omega (arith, more.grown, bytes); within = omega (arith, w.within, w.input) };
    })
