-- What stands after a history may be committed.
use Rattle.std.proofs.Common.{◌≡◌, ◌≤◌, ◌+◌, ◌^◌, ◌++◌, ◌∷◌, [], ◌∙◌, sym, refl, ap, subst, ℕ, suc, Bool, true, false, List, length, arith, length-append, Option, not}
use Rattle.std.specs.Prelude.{◌||◌, ◌&&◌, All}
use Rattle.std.specs.List.{list_any}
use Rattle.std.proofs.lemmas.Bool.{ltb-true}
use Rattle.std.proofs.lemmas.List.Sums.{count_by-le-length}
use Rattle.flow_base.specs.declared.limits.Limits.{Limits}
use Rattle.acts.specs.Flows.{flows}
use Rattle.audit_lex.specs.History.{History, lines_of, tail_of}
use Rattle.audit_lex.specs.Tally.{Classed, tally_of}
use Rattle.audit_record.specs.declared.types.Record.{Record}
use Rattle.record_join.specs.Keys.{is_call}
use Rattle.record_join.specs.Events.{Joining, group_of}
use Rattle.record_join.specs.PutBack.{HeldInTurn, IsSound}
use Rattle.record_join.specs.declared.event.Event.{Event}
use Rattle.store_check.specs.Conditions.{bounds_of, HasCounts, HasTail, HasListed, IsLine}
use Rattle.stored.specs.Going.{AreFew, MayCommit}
use Rattle.stored.specs.Moment.{state_at}
use Rattle.ingest.specs.Counting.{bytes_in, classed_from, tally_in, total}
use Rattle.ingest.specs.EventActs.{is_unmapped}
use Rattle.ingest.specs.Events.{taken_in, state_of, events_of}
use Rattle.ingest.specs.Parts.{Engine}
use Rattle.ingest.specs.StandsFor.{StandsFor}
use Rattle.ingest.specs.Storing.{moment_of}
use Rattle.ingest.proofs.FewActs.{ActsAreFew}
use Rattle.ingest.proofs.FewEvents.{few_events}
use Rattle.ingest.proofs.FewRecords.{few_taken}
use Rattle.ingest.proofs.StoreLines.{held_plain, held_short, long_none, lines_paid, bad_ascend, bad_lines, bad_few}
use Rattle.ingest.proofs.StoreTimes.{flows_by, effective_rises, times_by}

-- ---- groups

not_excess : (a b : Bool) → (not a || b) ≡ false → a ≡ true
not_excess true b e = refl
not_excess false b e = absurd (cc e)

held_few : (limits : Limits) (seen : Option ℕ) (before records : List Record) → HeldInTurn limits seen before records → length before ≤ limits.records → length before + length records ≤ limits.records
held_few limits seen before [] held h = omega (arith, h)
held_few limits seen before (r ∷ records) held h =
    let less = ltb-true (length before) limits.records (not_excess _ (is_call r && list_any is_call before) held.1) in
    let push = length-append before (r ∷ []) in
    let rest = held_few limits seen (before ++ r ∷ []) records held.3 (omega (arith, push, less)) in
    omega (arith, rest, push)

-- no group that waits has too many records
groups_few : (limits : Limits) (s : Joining) → IsSound limits s → AreFew limits.records s
groups_few limits s sound key = let few = held_few limits s.clock.seen [] (group_of key s.waiting) (sound key) (omega arith) in omega (arith, few)

-- ---- the State

-- each line is counted
abbrev pub LinesAreCounted : Type 0
LinesAreCounted = (shown : ℕ) (lines : List Classed) → (tally_of shown lines).used + (tally_of shown lines).other + (tally_of shown lines).blank + (tally_of shown lines).malformed ≡ length lines

all_classed : (limit number : ℕ) (lines : List (List ℕ)) → length (classed_from limit number lines) ≡ length lines
all_classed limit number [] = refl
all_classed limit number (line ∷ lines) = ap suc (all_classed limit (number + 1) lines)

module _ (limits : Limits) (h : History) where
  pub total_is : LinesAreCounted → total (tally_in limits h) ≡ length (lines_of h)
  total_is counted = counted limits.shown (classed_from limits.line 1 (lines_of h)) ∙ all_classed limits.line 1 (lines_of h)

  counts_are : LinesAreCounted → ActsAreFew → (p : ℕ) → p ≤ 2 ^ 60 → bytes_in h ≤ limits.input → length (flows (taken_in limits (events_of limits h))) ≤ limits.flows
      → HasCounts (state_at (moment_of limits h p))
  counts_are counted few p part input flows =
      let events = events_of limits h in
      let times = times_by limits h in
      let size = few_events limits h in
      record {
        classes = refl;
        bytes = omega (arith, total_is counted, lines_paid limits.line h);
        taken = omega (arith, input, limits.input_within);
        part = part;
        excess = omega (arith, size, input, limits.input_within);
        events = omega (arith, size, input, limits.input_within);
        late = omega (arith, size, count_by-le-length (λ (e : Event). e.late) events, input, limits.input_within);
        unmapped = omega (arith, size, count_by-le-length is_unmapped events, input, limits.input_within);
        flows = omega (arith, flows, limits.flows_within);
        greatest = omega (arith, times.seen);
        released = omega (arith, times.released);
        effective = omega (arith, times.effective);
        acts = omega (arith, few_taken limits few h, input, limits.input_within);
      }

  tail_is : (p : ℕ) → HasTail limits.line (state_at (moment_of limits h p))
  tail_is p = record {
    short = held_short limits.line (tail_of h);
    no_feed = held_plain limits.line h;
    none = long_none limits.line (tail_of h);
  }

  listed_are : LinesAreCounted → (p : ℕ) → HasListed limits.shown (state_at (moment_of limits h p))
  listed_are counted p = record {
    few = bad_few limits h;
    ascend = bad_ascend limits h;
    lines = subst (λ n. All (IsLine n) (tally_in limits h).bad) (sym (total_is counted)) (bad_lines limits h);
  }

-- ---- the whole

pub may_commit : {K : Type 0} → LinesAreCounted → ActsAreFew → (limits : Limits) (engine : Engine K) (h more : History) (p0 p : ℕ) → IsSound limits (state_of limits (h ++ more)) → p ≤ 2 ^ 60
    → StandsFor limits engine (h ++ more) → MayCommit (bounds_of limits) (moment_of limits h p0) (moment_of limits (h ++ more) p)
may_commit counted few limits engine h more p0 p sound part stands =
    let all = h ++ more in
    let in_time = stands.joined.in_time in
    record {
      rise = in_time.rise;
      fits = stands.fits.entities;
      few = groups_few limits (state_of limits all) sound;
      ends = record {
        counts = counts_are limits all counted few p part stands.fits.input stands.fits.flows;
        tail = tail_is limits all p;
        listed = listed_are limits all counted p;
        times = λ f there. let by = flows_by (taken_in limits (events_of limits all)) in_time.rise f there in omega (arith, by, in_time.later);
        rises = effective_rises limits h more;
      };
    }
