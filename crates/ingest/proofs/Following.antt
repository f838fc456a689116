-- One more event is followed.
use Rattle.std.proofs.Common.{◌≡◌, ◌≤◌, ◌<◌, ◌+◌, ◌-◌, ◌*◌, ◌^◌, ◌++◌, ◌∙◌, sym, refl, ap, subst, ℕ, suc, true, List, [], ◌∷◌, length, map, arith, append-nil, Option, None, Some}
use Rattle.std.specs.Prelude.{is_some, reverse, OnSome, Result, Err}
use Rattle.std.specs.List.{flat_map}
use Rattle.std.proofs.lemmas.List.{map-append}
use Rattle.name_text.specs.Addresses.{text_of}
use Rattle.flow_base.specs.declared.limits.Limits.{Limits}
use Rattle.flow_base.specs.declared.limits.Full.{Full}
use Rattle.reach_model.specs.Flows.{IsLawful}
use Rattle.reach_model.specs.Numbers.{IsNumbered, IsLawfulWith, known}
use Rattle.record_join.specs.Events.{Joining, ripe_key, next_event, next_left}
use Rattle.record_join.specs.StandsFor.{Joiner, StandsFor as JoinStandsFor}
use Rattle.record_join.specs.declared.event.Event.{Event}
use Rattle.record_join.specs.declared.event.EventView.{EventView}
use Rattle.acts.specs.declared.act.Act.{Act}
use Rattle.acts.specs.declared.act.Taken.{Taken}
use Rattle.acts.specs.Admitted.{Admitted}
use Rattle.acts.specs.Flows.{acts_of, objects, flows, latest, TimesNeverFall}
use Rattle.acts.specs.LookBack.{full_at}
use Rattle.call_acts.specs.Acts.{event_acts, acts_of_events}
use Rattle.flow_events.specs.declared.plan.Plan.{Plan}
use Rattle.flow_events.specs.declared.tables.Tables.{Tables}
use Rattle.flow_events.specs.Drafts.{turned}
use Rattle.flow_events.specs.Following.{MayFollow, MayComeAfter}
use Rattle.flow_events.specs.Remembering.{StandsMarked}
use Rattle.flow_events.specs.Standing.{StandsFor as TablesStandFor, IsPlanOf, HasLimits}
use Rattle.kept_flows.specs.KeptFlows.{KeptFlows, ComeNext, StandsFor as KeptStandsFor}
use Rattle.ingest.specs.Counting.{counts_in}
use Rattle.ingest.specs.EventActs.{acts_of_event}
use Rattle.ingest.specs.Events.{taken_at, taken_by, taken_in, flows_in}
use Rattle.ingest.specs.Following.{HasTaken, MayComeAt, turned_by}
use Rattle.ingest.specs.Parts.{Joined}
use Rattle.ingest.specs.StandsFor.{IsInTime, AreInTime, JoinedStandsFor}
use Rattle.ingest.specs.Stops.{full_of}
use Rattle.ingest.proofs.Clocking.{released_then}
use Rattle.ingest.proofs.Fewer.{released_so}
use Rattle.ingest.proofs.Growing.{taken_more, map_turned}
use Rattle.ingest.proofs.Limiting.{full_parts}
use Rattle.ingest.proofs.Releasing.{ripe_event}

pub same_err : {T E : Type 0} (a b : E) → ◌≡◌ {A = Result T E} (Err a) (Err b) → a ≡ b
same_err a b e = cc e

-- ---- acts of events

pub acts_of_append : (xs ys : List Taken) → acts_of (xs ++ ys) ≡ acts_of xs ++ acts_of ys
acts_of_append xs ys = map-append (λ (t : Taken). t.act) xs ys

acts_at : (ms serial : ℕ) (acts : List Act) → acts_of (map (taken_at ms serial) acts) ≡ acts
acts_at ms serial [] = refl
acts_at ms serial (act ∷ acts) = ap (λ (l : List Act). act ∷ l) (acts_at ms serial acts)

-- the acts of one event, turned
pub acts_turned : (ms serial : ℕ) (acts : List Act) → acts_of (turned ms serial acts) ≡ reverse acts
acts_turned ms serial acts = sym (map_turned (λ (t : Taken). t.act) (map (taken_at ms serial) acts)) ∙ ap reverse (acts_at ms serial acts)

module _ (limits : Limits) where
  acts_by : (events : List Event) → acts_of (flat_map (taken_by limits) events) ≡ acts_of_events limits.path events
  acts_by [] = refl
  acts_by (event ∷ events) =
      acts_of_append (taken_by limits event) (flat_map (taken_by limits) events)
      ∙ ap (λ (l : List Act). l ++ acts_of (flat_map (taken_by limits) events)) (acts_at event.ms event.key.serial (acts_of_event limits event))
      ∙ ap (λ (l : List Act). acts_of_event limits event ++ l) (acts_by events)

  pub acts_in : (events : List Event) → acts_of (taken_in limits events) ≡ reverse (acts_of_events limits.path events)
  acts_in events = sym (map_turned (λ (t : Taken). t.act) (flat_map (taken_by limits) events)) ∙ ap reverse (acts_by events)

  -- the acts of one more event
  pub taken_then : (released : List Event) (event : Event) → taken_in limits (released ++ event ∷ []) ≡ turned_by limits event ++ taken_in limits released
  taken_then released event = taken_more limits released (event ∷ []) ∙ ap (λ l. reverse l ++ taken_in limits released) (append-nil (taken_by limits event))

-- the acts of events are admitted
abbrev pub EventsAdmitted : Type 0
EventsAdmitted = (limit : ℕ) (events : List Event) (before : List Act) → Admitted before → Admitted (reverse (acts_of_events limit events) ++ before)

pub admitted_in : EventsAdmitted → (limits : Limits) (events : List Event) → Admitted (acts_of (taken_in limits events))
admitted_in admitted limits events =
    subst Admitted (append-nil (reverse (acts_of_events limits.path events)) ∙ sym (acts_in limits events)) (admitted limits.path events [] tt)

-- ---- times

rise_at : (ms serial : ℕ) (acts : List Act) (taken : List Taken) → TimesNeverFall taken → latest taken ≤ ms
    → TimesNeverFall (map (taken_at ms serial) acts ++ taken) × (latest (map (taken_at ms serial) acts ++ taken) ≤ ms)
rise_at ms serial [] taken rise later = (rise, later)
rise_at ms serial (act ∷ acts) taken rise later =
    let before = rise_at ms serial acts taken rise later in
    ((before.1, before.0), omega arith)

pub rise_then : (limits : Limits) (event : Event) (taken : List Taken) → TimesNeverFall taken → latest taken ≤ event.ms
    → TimesNeverFall (turned_by limits event ++ taken) × (latest (turned_by limits event ++ taken) ≤ event.ms)
rise_then limits event taken rise later =
    subst (λ (l : List Taken). TimesNeverFall (l ++ taken) × (latest (l ++ taken) ≤ event.ms))
    (sym (map_turned (taken_at event.ms event.key.serial) (acts_of_event limits event)))
    (rise_at event.ms event.key.serial (reverse (acts_of_event limits event)) taken rise later)

-- ---- what is asked before an event

pub may_follow : (tables : Tables) (taken : List Taken) (acts records : ℕ) → HasTaken tables taken → tables.acts + (2 * records + 4 + 2) < 2 ^ 63 - 1 → acts ≤ 4 + 2 * records → MayFollow tables taken acts
may_follow tables taken acts records has few acts_few = record {
  stands = has.tables_are;
  admitted = has.admitted;
  few = omega (arith, has.tables_are.acts_are, few, acts_few);
}

pub ripe_so : {K : Type 0} (limits : Limits) (joined seen : Joined K) (s : Joining) → seen ≡ joined → ((l : Limits) (s : Joining) → JoinStandsFor l joined.join s → is_some (ripe_key l s) ≡ true) → JoinStandsFor limits seen.join s
    → is_some (ripe_key limits s) ≡ true
ripe_so {K} limits joined seen s is ripe stands = ripe limits s (subst (λ (j : Joined K). JoinStandsFor limits j.join s) is stands)

pub same_some : {A : Type 0} (a b : A) → Some a ≡ Some b → a ≡ b
same_some a b e = cc e

pub none_some : {A : Type 0} (a : A) → None ≡ Some a → ⊥
none_some a e = cc e

pub never_none : (limits : Limits) (s : Joining) → is_some (ripe_key limits s) ≡ true → None ≡ next_event limits s → ⊥
never_none limits s ripe none = let e = ripe_event limits s ripe in none_some e.0 (none ∙ e.1)

pub on_some : {A : Type 0} (r : Option A) (P : Type 0) (a : A) → r ≡ Some a → OnSome r P → P
on_some {A} r P a is on = subst (λ (o : Option A). OnSome o P) is on

pub has_taken : {K : Type 0} → EventsAdmitted → (limits : Limits) (joined : Joined K) (s : Joining) (released : List Event) → JoinedStandsFor limits joined s released → HasTaken joined.tables (taken_in limits released)
has_taken admitted limits joined s released stands = record { tables_are = stands.tables; marked = stands.marked; admitted = admitted_in admitted limits released }

pub may_come : {K : Type 0} → EventsAdmitted → (limits : Limits) (joined : Joined K) (s : Joining) (released : List Event) (event : Event) → JoinedStandsFor limits joined s released → Some event ≡ next_event limits s
    → MayComeAt event.ms joined.tables joined.kept (taken_in limits released)
may_come admitted limits joined s released event stands next = record {
  has = has_taken admitted limits joined s released stands;
  kept_are = stands.kept_are;
  rise = stands.in_time.rise;
  no_later = omega (arith, stands.in_time.later, (released_so limits s event next).no_less);
}

-- the flows of acts whose times never fall are lawful, and know their objects
abbrev pub FlowsAreLawful : Type 0
FlowsAreLawful = (taken : List Taken) → TimesNeverFall taken → IsLawfulWith (length (objects (acts_of taken))) (flows taken)

-- the flows of a plan come next after those before it
pub come_next : FlowsAreLawful → (limits : Limits) (event : Event) (plan : Plan) (taken : List Taken) → TimesNeverFall taken → latest taken ≤ event.ms
    → IsPlanOf text_of plan taken (turned_by limits event) → full_at limits.entities limits.flows (turned_by limits event ++ taken) ≡ None
    → ComeNext (flows taken) plan.work.draft.added.flows
come_next lawful limits event plan taken rise later plan_is fits =
    let now = turned_by limits event ++ taken in
    let all = lawful now (rise_then limits event taken rise later).0 in
    let few = full_parts limits.entities limits.flows (length (objects (acts_of now))) (length (flows now)) fits in
    let count : known (flows taken ++ plan.work.draft.added.flows) ≡ length (objects (acts_of now)) = ap known (sym plan_is.flows_are) ∙ all.objects in
    record {
      lawful = subst IsLawful plan_is.flows_are all.lawful;
      numbered = subst IsNumbered plan_is.flows_are all.numbered;
      few_objects = omega (arith, count, few.0, limits.entities_within);
      few_flows = omega (arith, ap length plan_is.flows_are, few.1, limits.flows_within);
    }

-- tables without a mark remember nothing, and nothing is asked of it
pub never_marked : (tables : Tables) (taken : List Taken) → tables.marked ≡ None → StandsMarked text_of tables taken
never_marked tables taken none = record {
  within = λ m is. absurd (none_some m (sym none ∙ is));
  since = λ before now split is. absurd (none_some (length before) (sym none ∙ is));
}

-- ---- after an event

-- tables that were marked, and rows that keep the same
pub stands_marked : {K : Type 0} (limits : Limits) (joined after : Joined K) (s : Joining) (released : List Event) → JoinedStandsFor limits joined s released
    → after.limits ≡ joined.limits → after.join ≡ joined.join → after.excess ≡ joined.excess → after.counts ≡ joined.counts → after.kept ≡ joined.kept
    → TablesStandFor text_of after.tables (taken_in limits released) → StandsMarked text_of after.tables (taken_in limits released) → JoinedStandsFor limits after s released
stands_marked limits joined after s released stands own join excess counts kept tables marked = record {
  limits_are = own ∙ stands.limits_are;
  join = subst (λ (j : Joiner). JoinStandsFor limits j s) (sym join) stands.join;
  released_last = stands.released_last;
  excess = excess ∙ stands.excess;
  counts = counts ∙ stands.counts;
  tables = tables;
  marked = marked;
  kept_are = subst (λ (k : KeptFlows). KeptStandsFor k (flows_in limits released)) (sym kept) stands.kept_are;
  in_time = stands.in_time;
  fits = stands.fits;
}

-- tables and kept flows that say the same as before
pub stands_still : {K : Type 0} (limits : Limits) (joined after : Joined K) (s : Joining) (released : List Event) → JoinedStandsFor limits joined s released
    → after.limits ≡ joined.limits → after.join ≡ joined.join → after.excess ≡ joined.excess → after.counts ≡ joined.counts → HasTaken after.tables (taken_in limits released) → after.kept ≡ joined.kept
    → JoinedStandsFor limits after s released
stands_still limits joined after s released stands own join excess counts has kept =
    stands_marked limits joined after s released stands own join excess counts kept has.tables_are has.marked

-- the limits that the acts of one more event pass
pub full_then : (limits own : Limits) (released : List Event) (event : Event) (answer : Option Full) → own ≡ limits
    → full_at own.entities own.flows (turned_by own event ++ taken_in limits released) ≡ answer → full_of limits (released ++ event ∷ []) ≡ answer
full_then limits own released event answer is full =
    ap (full_at limits.entities limits.flows) (taken_then limits released event)
    ∙ ap (λ (l : Limits). full_at l.entities l.flows (turned_by l event ++ taken_in limits released)) (sym is)
    ∙ full

-- the acts of one more event are in time
pub in_time_then : (limits : Limits) (s : Joining) (released : List Event) (event : Event) → AreInTime (taken_in limits released) s → Some event ≡ next_event limits s
    → AreInTime (taken_in limits (released ++ event ∷ [])) (next_left limits s)
in_time_then limits s released event before next =
    let so = released_so limits s event next in
    let then = rise_then limits event (taken_in limits released) before.rise (omega (arith, before.later, so.no_less)) in
    subst (λ (l : List Taken). AreInTime l (next_left limits s)) (sym (taken_then limits released event))
    (record { rise = then.0; later = omega (arith, then.1, so.time) })

pub stands_next : {K : Type 0} (limits : Limits) (joined after : Joined K) (s : Joining) (released : List Event) (event : Event) → JoinedStandsFor limits joined s released → Some event ≡ next_event limits s
    → after.limits ≡ joined.limits → JoinStandsFor limits after.join (next_left limits s) → after.excess ≡ joined.excess
    → after.counts ≡ counts_in (released ++ event ∷ [])
    → TablesStandFor text_of after.tables (turned_by joined.limits event ++ taken_in limits released)
    → StandsMarked text_of after.tables (turned_by joined.limits event ++ taken_in limits released)
    → KeptStandsFor after.kept (flows (turned_by joined.limits event ++ taken_in limits released))
    → full_at joined.limits.entities joined.limits.flows (turned_by joined.limits event ++ taken_in limits released) ≡ None
    → JoinedStandsFor limits after (next_left limits s) (released ++ event ∷ [])
stands_next limits joined after s released event stands next own join excess counts tables marked kept_are fits =
    let acts : turned_by joined.limits event ++ taken_in limits released ≡ taken_in limits (released ++ event ∷ []) =
    ap (λ (l : Limits). turned_by l event ++ taken_in limits released) stands.limits_are ∙ sym (taken_then limits released event) in
    record {
      limits_are = own ∙ stands.limits_are;
      join = join;
      released_last = released_then limits s released event stands.released_last next;
      excess = excess ∙ stands.excess ∙ sym (released_so limits s event next).excess;
      counts = counts;
      tables = subst (λ (l : List Taken). TablesStandFor text_of after.tables l) acts tables;
      marked = subst (λ (l : List Taken). StandsMarked text_of after.tables l) acts marked;
      kept_are = subst (λ (l : List Taken). KeptStandsFor after.kept (flows l)) acts kept_are;
      in_time = in_time_then limits s released event stands.in_time next;
      fits = full_then limits joined.limits released event None stands.limits_are fits;
    }

pub same_event : {K : Type 0} (limits : Limits) (after : Joined K) (t : Joining) (released : List Event) (seen event : Event) → seen ≡ event → JoinedStandsFor limits after t (released ++ seen ∷ []) → JoinedStandsFor limits after t (released ++ event ∷ [])
same_event limits after t released seen event is stands = subst (λ (e : Event). JoinedStandsFor limits after t (released ++ e ∷ [])) is stands

pub length_seen : {K : Type 0} (joined seen : Joined K) (n : ℕ) → seen ≡ joined → length seen.join.groups ≡ suc n → length joined.join.groups ≡ suc n
length_seen {K} joined seen n is e = subst (λ (j : Joined K). length j.join.groups ≡ suc n) is e

-- the tables may follow an event with few acts
pub may_come_after : (tables : Tables) (taken : List Taken) (event : EventView) → HasLimits tables.limits tables → HasTaken tables taken → tables.acts + (2 * length event.records.now + 4 + 2) < 2 ^ 63 - 1
    → length (event_acts tables.limits.path event.records.now) ≤ 4 + 2 * length event.records.now → MayComeAfter tables event tables.limits taken
may_come_after tables taken event limited has few acts_few = record {
  limited = limited;
  follows = may_follow tables taken (length (event_acts tables.limits.path event.records.now)) (length event.records.now) has few acts_few;
}

-- ---- limits that are those of the tables

pub in_time_by : (limits own : Limits) (join : Joiner) (tables : Tables) (kept : KeptFlows) → own ≡ limits → IsInTime limits join tables kept → IsInTime own join tables kept
in_time_by limits own join tables kept is w = subst (λ (l : Limits). IsInTime l join tables kept) (sym is) w
