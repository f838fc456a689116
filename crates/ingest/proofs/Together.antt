-- Tables and kept flows that go together, before and after an event.
use Rattle.std.proofs.Common.{◌≡◌, ◌≤◌, ◌<◌, ◌+◌, ◌^◌, inl, inr, ◌∙◌, sym, refl, ap, subst, ℕ, zero, suc, List, [], ◌∷◌, length, get_or, arith, Option, None, Some}
use Rattle.std.specs.List.{Contains}
use Rattle.std.specs.Option.{IfSome}
use Rattle.flow_base.specs.declared.limits.Limits.{Limits}
use Rattle.flow_base.specs.declared.types.Flow.{Flow}
use Rattle.flow_base.specs.declared.types.Key.{Key}
use Rattle.flow_base.specs.declared.types.Stamp.{Stamp}
use Rattle.reach_model.specs.declared.modes.Mode.{Mode}
use Rattle.reach_model.specs.Flows.{place, time}
use Rattle.reach_model.specs.Rows.{Row, firsts, lasts}
use Rattle.reach_model.proofs.Members.{Contains-map}
use Rattle.reach_rows.specs.Kept.{ComesAfter, GoOn, known_after}
use Rattle.record_join.specs.Events.{Joining, next_event, next_left}
use Rattle.record_join.specs.StandsFor.{Joiner, StandsFor as JoinStandsFor}
use Rattle.record_join.specs.declared.clock.JoinClock.{JoinClock}
use Rattle.record_join.specs.declared.event.Event.{Event}
use Rattle.flow_events.specs.Added.{StandFrom}
use Rattle.flow_events.specs.declared.plan.Plan.{Plan}
use Rattle.flow_events.specs.declared.tables.Tables.{Tables}
use Rattle.flow_events.specs.Entering.{entered}
use Rattle.flow_events.specs.Standing.{AreSafe, CountsTheSame, DiffersInRoom, HasGrown, HasLimits, PlanFlows}
use Rattle.kept_flows.specs.KeptFlows.{KeptFlows, kept_by}
use Rattle.kept_flows.specs.Taking.{AllComeAfter, BringsOnly, IsFlowOf, MayTakeIn}
use Rattle.ingest.specs.StandsFor.{IsInTime}
use Rattle.ingest.specs.Together.{AreBefore, AreKeptOf, GoTogether, GoWithPlan, IsBefore}
use Rattle.ingest.proofs.Fewer.{released_so}

-- ---- the flows of a plan

stand_at : (ms p : ℕ) (fs : List Flow) → StandFrom ms p fs → (j : ℕ) (d : Flow) → j < length fs → (get_or fs j d).at ≡ record { ms = ms; place = p + j }
stand_at ms p [] stand j d h = absurd (omega (arith, h))
stand_at ms p (f ∷ fs) stand zero d h = stand.0 ∙ at_place p (p + 0) (omega arith)
  where
    at_place : (a b : ℕ) → a ≡ b → ◌≡◌ {A = Stamp} (record { ms = ms; place = a }) (record { ms = ms; place = b })
    at_place a b e = ap (λ n. record { ms = ms; place = n }) e
stand_at ms p (f ∷ fs) stand (suc j) d h = stand_at ms (p + 1) fs stand.1 j d (omega (arith, h)) ∙ at_place (p + 1 + j) (p + suc j) (omega arith)
  where
    at_place : (a b : ℕ) → a ≡ b → ◌≡◌ {A = Stamp} (record { ms = ms; place = a }) (record { ms = ms; place = b })
    at_place a b e = ap (λ n. record { ms = ms; place = n }) e

stand_of : (ms p : ℕ) (fs : List Flow) → StandFrom ms p fs → (f : Flow) → Contains fs f → (p ≤ place f) × (place f < p + length fs) × (time f ≡ ms)
stand_of ms p fs stand f there =
    let at : f.at ≡ record { ms = ms; place = p + there.0 } = ap (λ (g : Flow). g.at) (sym there.2) ∙ stand_at ms p fs stand there.0 f there.1 in
    let where_is : place f ≡ p + there.0 = ap (λ (s : Stamp). s.place) at in
    (omega (arith, where_is), omega (arith, where_is, there.1), ap (λ (s : Stamp). s.ms) at)

-- ---- what may be taken in

comes_after : (flows ms : ℕ) (told : Option (List Row)) (R : List Row) (f : Flow) → AreBefore flows ms told → told ≡ Some R → flows ≤ place f → time f ≡ ms → ComesAfter R f
comes_after flows ms told R f before is low same = record {
  firsts = λ r there. let b = before R is r.first (inl (Contains-map (λ (r : Row). r.first) R r there)) in omega (arith, b.place, low);
  lasts = λ r there. let b = before R is r.last (inr (Contains-map (λ (r : Row). r.last) R r there)) in omega (arith, b.place, low);
  first_times = λ r there. let b = before R is r.first (inl (Contains-map (λ (r : Row). r.first) R r there)) in omega (arith, b.time, same);
  last_times = λ r there. let b = before R is r.last (inr (Contains-map (λ (r : Row). r.last) R r there)) in omega (arith, b.time, same);
}

all_after : (flows ms : ℕ) (told : Option (List Row)) (R : List Row) (more : List Flow) → AreBefore flows ms told → told ≡ Some R → StandFrom ms flows more → AllComeAfter R more
all_after flows ms told R more before is stand = record {
  rows = λ f there. let s = stand_of ms flows more stand f there in comes_after flows ms told R f before is s.0 s.2;
  places = λ j k d low h.
      let a = ap (λ (s : Stamp). s.place) (stand_at ms flows more stand j d (omega (arith, low, h))) in
      let b = ap (λ (s : Stamp). s.place) (stand_at ms flows more stand k d h) in
      omega (arith, a, b, low);
  times = λ j k d low h.
      let a = ap (λ (s : Stamp). s.ms) (stand_at ms flows more stand j d (omega (arith, low, h))) in
      let b = ap (λ (s : Stamp). s.ms) (stand_at ms flows more stand k d h) in
      omega (arith, a, b);
}

-- the flows of a plan may be taken in
pub may_take : (ms : ℕ) (tables : Tables) (kept : KeptFlows) (plan : Plan) (flows : List Flow) → flows ≡ plan.work.draft.added.flows → GoTogether ms tables kept → PlanFlows tables ms plan
    → tables.flows + length plan.work.draft.added.flows ≤ 2 ^ 60 → MayTakeIn kept flows
may_take ms tables kept plan flows is together own few = record {
  numbered = subst (GoOn kept.objects) (sym is) (subst (λ n. GoOn n plan.work.draft.added.flows) (sym together.kept_of.known) own.go_on);
  few_flows = omega (arith, together.kept_of.counted, ap length is, few);
  later = λ R told. subst (AllComeAfter R) (sym is) (all_after tables.flows ms kept.told R plan.work.draft.added.flows together.kept_of.before told own.stand);
}

before_more : (flows more ms later : ℕ) (f : Flow) → flows ≤ more → ms ≤ later → IsBefore flows ms f → IsBefore more later f
before_more flows more ms later f a b before = record { place = omega (arith, a, before.place); time = omega (arith, b, before.time) }

brought : (ms : ℕ) (flows : ℕ) (old : Option (List Row)) (more : List Flow) (new : Option (List Row)) → AreBefore flows ms old → StandFrom ms flows more → BringsOnly old more new → AreBefore (flows + length more) ms new
brought ms flows old more new before stand brings S is f of_S =
    let from = brings S is in
    elim (from.2 f of_S) [
      | inl of_R ↦ before_more flows (flows + length more) ms ms f (omega arith) (omega arith) (before from.0 from.1 f of_R)
      | inr there ↦ let s = stand_of ms flows more stand f there in record { place = s.1; time = omega (arith, s.2) }
    ]

-- and then the kept flows go with the tables and the plan
pub goes_with : (ms : ℕ) (tables : Tables) (kept new : KeptFlows) (plan : Plan) (flows : List Flow) → flows ≡ plan.work.draft.added.flows → GoTogether ms tables kept → PlanFlows tables ms plan
    → new.objects ≡ known_after kept.objects flows → new.count ≤ kept.count + length flows → BringsOnly kept.told flows new.told → GoWithPlan ms tables plan new
goes_with ms tables kept new plan flows is together own objects count brings = record {
  known = objects ∙ ap (known_after kept.objects) is ∙ ap (λ n. known_after n plan.work.draft.added.flows) together.kept_of.known ∙ own.known_are;
  counted = omega (arith, count, ap length is, together.kept_of.counted);
  before = brought ms tables.flows kept.told plan.work.draft.added.flows new.told together.kept_of.before own.stand (subst (λ (fs : List Flow). BringsOnly kept.told fs new.told) is brings);
}

-- ---- times and rooms

-- kept flows that come before a time come before a later one
pub kept_later : (objects flows ms later : ℕ) (kept : KeptFlows) → ms ≤ later → AreKeptOf objects flows ms kept → AreKeptOf objects flows later kept
kept_later objects flows ms later kept le of = record {
  known = of.known;
  counted = of.counted;
  before = λ R is f there. before_more flows flows ms later f (omega arith) le (of.before R is f there);
}

kept_same : (objects flows ms n m later : ℕ) (kept : KeptFlows) → n ≡ objects → m ≡ flows → later ≡ ms → AreKeptOf objects flows ms kept → AreKeptOf n m later kept
kept_same objects flows ms n m later kept a b c of =
    subst (λ x. AreKeptOf x m later kept) (sym a) (subst (λ x. AreKeptOf objects x later kept) (sym b) (subst (λ x. AreKeptOf objects flows x kept) (sym c) of))

pub together_as : (ms : ℕ) (tables : Tables) (kept all : KeptFlows) → all ≡ kept → GoTogether ms tables kept → GoTogether ms tables all
together_as ms tables kept all is w = subst (GoTogether ms tables) (sym is) w

-- the next event may be followed
pub together_at : (limits : Limits) (join : Joiner) (tables : Tables) (kept : KeptFlows) (event : Event) (w : IsInTime limits join tables kept) → Some event ≡ next_event limits w.s → GoTogether event.ms tables kept
together_at limits join tables kept event w next = record {
  safe = w.together.safe;
  kept_of = kept_later (length tables.entities.keys) tables.flows join.clock.effective event.ms kept
      (omega (arith, ap (λ (c : JoinClock). c.effective) w.join_is.clock, (released_so limits w.s event next).no_less)) w.together.kept_of;
}

-- tables that differ in room, and the same kept flows
pub in_time_refused : (limits : Limits) (join : Joiner) (tables after : Tables) (kept all : KeptFlows) → IsInTime limits join tables kept → DiffersInRoom tables after → AreSafe after → HasLimits limits after → all ≡ kept
    → IsInTime limits join after all
in_time_refused limits join tables after kept all w room safe bounds same = record {
  s = w.s;
  join_is = w.join_is;
  bounds = bounds;
  together = record {
    safe = safe;
    kept_of = subst (AreKeptOf (length after.entities.keys) after.flows join.clock.effective) (sym same)
        (kept_same (length tables.entities.keys) tables.flows join.clock.effective (length after.entities.keys) after.flows join.clock.effective kept (ap length room.keys) room.flows refl w.together.kept_of);
  };
}

-- tables that have followed the next event, and the kept flows with its flows
pub in_time_followed : (limits : Limits) (join after : Joiner) (tables prepared more : Tables) (kept all : KeptFlows) (event : Event) (plan : Plan) (w : IsInTime limits join tables kept) → Some event ≡ next_event limits w.s
    → JoinStandsFor limits after (next_left limits w.s) → DiffersInRoom tables prepared → HasGrown prepared more plan → AreSafe more → HasLimits limits more → GoWithPlan event.ms tables plan all
    → IsInTime limits after more all
in_time_followed limits join after tables prepared more kept all event plan w next stands room grown safe bounds goes =
    let so = released_so limits w.s event next in
    let keys : more.entities.keys ≡ entered tables.entities.keys plan.work.draft.added.keys = grown.keys ∙ ap (λ (ks : List Key). entered ks plan.work.draft.added.keys) room.keys in
    record {
      s = next_left limits w.s;
      join_is = stands;
      bounds = bounds;
      together = record {
        safe = safe;
        kept_of = kept_same (length (entered tables.entities.keys plan.work.draft.added.keys)) (tables.flows + length plan.work.draft.added.flows) event.ms (length more.entities.keys) more.flows after.clock.effective all
            (ap length keys) (grown.flows ∙ ap (λ n. n + length plan.work.draft.added.flows) room.flows) (ap (λ (c : JoinClock). c.effective) stands.clock ∙ so.time) goes;
      };
    }

-- the clock's effective time is as before
pub in_time_clock : (limits : Limits) (join after : Joiner) (tables : Tables) (kept : KeptFlows) (s : Joining) → IsInTime limits join tables kept → JoinStandsFor limits after s → after.clock.effective ≡ join.clock.effective
    → IsInTime limits after tables kept
in_time_clock limits join after tables kept s w stands same = record {
  s = s;
  join_is = stands;
  bounds = w.bounds;
  together = record {
    safe = w.together.safe;
    kept_of = kept_same (length tables.entities.keys) tables.flows join.clock.effective (length tables.entities.keys) tables.flows after.clock.effective kept refl refl same w.together.kept_of;
  };
}

-- no flows are kept yet, whether or not that is told
pub none_kept : (objects flows ms : ℕ) (kept : KeptFlows) (mode : Mode) (told : Option (List Row)) (count known : ℕ) → kept ≡ kept_by mode told count known
    → IfSome told (λ R. R ≡ []) → count ≡ 0 → known ≡ 0 → objects ≡ 0 → AreKeptOf objects flows ms kept
none_kept objects flows ms kept mode told count known is none no_rows no_objects empty = subst (AreKeptOf objects flows ms) (sym is) (record {
  known = no_objects ∙ sym empty;
  counted = omega (arith, no_rows);
  before = λ R told_are f there. absurd (nothing R (inner told R none told_are) f there);
})
  where
    inner : (o : Option (List Row)) (R : List Row) → IfSome o (λ S. S ≡ []) → o ≡ Some R → R ≡ []
    inner None R empty so = absurd (cc so)
    inner (Some S) R empty so = let same : S ≡ R = cc so in sym same ∙ empty

    none_in : (f : Flow) → Contains [] f → ⊥
    none_in f there = absurd (omega (arith, there.1))

    nothing : (R : List Row) → R ≡ [] → (f : Flow) → IsFlowOf R f → ⊥
    nothing R e f (inl there) = none_in f (subst (λ (S : List Row). Contains (firsts S) f) e there)
    nothing R e f (inr there) = none_in f (subst (λ (S : List Row). Contains (lasts S) f) e there)

-- tables with the same counts, as a mark leaves them
pub in_time_marked : (limits : Limits) (join : Joiner) (tables after : Tables) (kept : KeptFlows) → IsInTime limits join tables kept → CountsTheSame tables after → AreSafe after → HasLimits limits after → IsInTime limits join after kept
in_time_marked limits join tables after kept w counts safe bounds = record {
  s = w.s;
  join_is = w.join_is;
  bounds = bounds;
  together = record {
    safe = safe;
    kept_of = kept_same (length tables.entities.keys) tables.flows join.clock.effective (length after.entities.keys) after.flows join.clock.effective kept (ap length counts.keys) counts.flows refl w.together.kept_of;
  };
}
