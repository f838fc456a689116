-- Room changes nothing that the tables stand for.
use Rattle.std.proofs.Common.{◌≡◌, ◌≤◌, ◌+◌, ◌∙◌, ◌++◌, ◌∷◌, [], None, Some, arith, length-append, length, ap, sym, subst, refl, append_assoc, ℕ, List, take, drop, Option, ◌-◌}
use Rattle.std.specs.Prelude.{unwrap_or, nat_eq}
use Rattle.std.proofs.lemmas.Bool.Decides.{nat_tests}
use Rattle.std.proofs.lemmas.List.{map-append, take-append-drop, length-drop}
use Rattle.std.specs.Option.{option_map}
use Rattle.std.specs.Map.{lookup}
use Rattle.flow_base.specs.contracts.types.FileIdPartialEq.TheImpl.{ghosts}
use Rattle.acts.specs.declared.act.Taken.{Taken}
use Rattle.acts.specs.Keys.{all_given, names_of}
use Rattle.acts.specs.Flows.{acts_of, objects, flows}
use Rattle.acts.specs.LookBack.{full_at, full_by}
use Rattle.proc_table.specs.Table.{standing_of}
use Rattle.flow_base.specs.declared.limits.Limits.{Limits}
use Rattle.flow_events.specs.declared.plan.Plan.{Plan}
use Rattle.flow_events.specs.declared.tables.Tables.{Tables}
use Rattle.flow_base.specs.declared.types.Key.{Key}
use Rattle.proc_table.specs.Table.{StandsFor as LivesAs}
use Rattle.fd_table.specs.Table.{HoldsAs, AddressesAs}
use Rattle.entity_names.specs.Known.{Known, NamesAs, saved_at, names_at as known_at}
use Rattle.stored.specs.Batch.{names_at}
use Rattle.flow_events.specs.Births.{BornAs}
use Rattle.flow_events.specs.Entering.{SavedAlike, entered}
use Rattle.flow_events.specs.Remembering.{AreSavedNames, BeginsAnew, GoesOnSince, StandsMarked, StandsSince, StaysMarked, StaysSince}
use Rattle.flow_events.specs.Standing.{StandsFor, DiffersInRoom, HasLimits, IsPlanOf}

pub stands_still : (text : List ℕ → List ℕ) (old new : Tables) (taken : List Taken) → DiffersInRoom old new → StandsFor text old taken → StandsFor text new taken
stands_still text old new taken same stands = record {
  lives_are = record { each = λ p. ap (λ all. standing_of (lookup (nat_eq p) all)) same.lives ∙ stands.lives_are.each p };
  held_are = record { each = λ p n. same.held p n ∙ stands.held_are.each p n };
  addresses_are = record { each = λ s. ap (λ all. lookup (nat_eq s) all) same.addresses ∙ stands.addresses_are.each s };
  births_are = record { each = λ id. ap (λ all. unwrap_or (lookup (ghosts.eq id) all) 0) same.births ∙ stands.births_are.each id };
  objects_are = same.keys ∙ stands.objects_are;
  names_are = record { each = λ key. same.names key ∙ stands.names_are.each key ∙ ap (λ most. take most (names_of key (all_given text (acts_of taken)))) (sym same.most_names) };
  flows_are = same.flows ∙ stands.flows_are;
  acts_are = same.acts ∙ stands.acts_are;
  limit_is = ap (λ (l : Limits). l.entities) same.limits ∙ stands.limit_is ∙ sym same.limit;
  objects_fit = rw (same.keys, same.limit) stands.objects_fit;
}

pub saved_still : (text : List ℕ → List ℕ) (old new : Known) (before : List Taken) → new.most_names ≡ old.most_names → SavedAlike old new → AreSavedNames text old before → AreSavedNames text new before
saved_still text old new before most alike saved key = alike key ∙ saved key ∙ ap (λ n. length (names_at text n before key)) (sym most)

-- a mark saves all names
pub all_saved : (text : List ℕ → List ℕ) (old new : Known) (taken : List Taken) → new.most_names ≡ old.most_names → NamesAs old (all_given text (acts_of taken)) → ((key : Key) → known_at new key ≡ known_at old key)
    → ((key : Key) → saved_at new key ≡ length (known_at new key)) → AreSavedNames text new taken
all_saved text old new taken most names same saved key =
    saved key ∙ ap length (same key ∙ names.each key) ∙ ap (λ n. length (names_at text n taken key)) (sym most)

-- the objects at the mark are those of the acts
pub known_marked : (old new : Known) (count : ℕ) (taken : List Taken) → new ≡ record old { names = new.names } → count ≡ length new.keys → old.keys ≡ objects (acts_of taken) → count ≡ length (objects (acts_of taken))
known_marked old new count taken rest is keys = is ∙ ap length (ap (λ (e : Known). e.keys) rest ∙ keys)

-- with other marks of names and other memory the tables stand for the same
pub stands_marked : (text : List ℕ → List ℕ) (old new : Tables) (taken : List Taken) → new.procs ≡ old.procs → new.fds ≡ old.fds → new.births ≡ old.births → new.entities ≡ record old.entities { names = new.entities.names } → ((key : Key) → known_at new.entities key ≡ known_at old.entities key)
    → new.flows ≡ old.flows → new.acts ≡ old.acts → new.limits ≡ old.limits → StandsFor text old taken → StandsFor text new taken
stands_marked text old new taken procs fds births rest names flows acts limits stands = record {
  lives_are = subst (λ t. LivesAs t (acts_of taken)) (sym procs) stands.lives_are;
  held_are = subst (λ t. HoldsAs t (acts_of taken)) (sym fds) stands.held_are;
  addresses_are = subst (λ t. AddressesAs t (acts_of taken)) (sym fds) stands.addresses_are;
  births_are = subst (λ t. BornAs t (acts_of taken)) (sym births) stands.births_are;
  objects_are = ap (λ (e : Known). e.keys) rest ∙ stands.objects_are;
  names_are = record { each = λ key. names key ∙ stands.names_are.each key ∙ ap (λ most. take most (names_of key (all_given text (acts_of taken)))) (sym (ap (λ (e : Known). e.most_names) rest)) };
  flows_are = flows ∙ stands.flows_are;
  acts_are = acts ∙ stands.acts_are;
  limit_is = ap (λ (l : Limits). l.entities) limits ∙ stands.limit_is ∙ sym (ap (λ (e : Known). e.limit) rest);
  objects_fit = subst (λ (e : Known). length e.keys ≤ e.limit) (sym rest) stands.objects_fit;
}

held_joined : (text : List ℕ → List ℕ) (tables : Tables) (now before : List Taken) → StandsFor text tables (now ++ before) → HoldsAs tables.fds (acts_of now ++ acts_of before)
held_joined text tables now before stands = subst (HoldsAs tables.fds) (map-append (λ (t : Taken). t.act) now before) stands.held_are

pub since_stays : (old new : Tables) → DiffersInRoom old new → StaysSince old new
since_stays old new same text before now stands = record { stands = stands_still text old new (now ++ before) same stands.stands; since = same.since (acts_of before) (acts_of now) (held_joined text new now before (stands_still text old new (now ++ before) same stands.stands)) stands.since; saved = saved_still text old.entities new.entities before same.most_names same.saved stands.saved }

pub marks_stay : (old new : Tables) → DiffersInRoom old new → StaysMarked old new
marks_stay old new same text taken marks = record {
  within = λ m is. marks.within m (sym same.marked ∙ is);
  since = λ before now split is. since_stays old new same text before now (marks.since before now split (sym same.marked ∙ is));
}

-- a split of which the second part is no longer than the second part of another one
split_later : (fresh taken now before : List Taken) → fresh ++ taken ≡ now ++ before → length before ≤ length taken → (n : List Taken) × (taken ≡ n ++ before) × (now ≡ fresh ++ n)
split_later [] taken now before is short = (now, is, refl)
split_later (x ∷ fresh) taken [] before is short = absurd (let l = ap length is in let m = length-append fresh taken in omega (arith, l, m, short))
split_later (x ∷ fresh) taken (y ∷ now) before is short =
    let head : y ≡ x = cc in
    let rest : fresh ++ taken ≡ now ++ before = cc in
    let found = split_later fresh taken now before rest short in
    (found.0, found.1, ap (λ (t : Taken). t ∷ now) head ∙ ap (λ (l : List Taken). x ∷ l) found.2)

-- the mark stays while a plan is followed
pub marks_go_on : (text : List ℕ → List ℕ) (old new : Tables) (plan : Plan) (taken fresh : List Taken) → GoesOnSince old new plan → new.marked ≡ old.marked → StandsMarked text old taken → IsPlanOf text plan taken fresh → StandsMarked text new (fresh ++ taken)
marks_go_on text old new plan taken fresh goes same marks is = record {
  within = λ m marked. let low = marks.within m (sym same ∙ marked) in let l = length-append fresh taken in omega (arith, low, l);
  since = λ before now split marked.
      let found = split_later fresh taken now before split (marks.within (length before) (sym same ∙ marked)) in
      subst (λ (l : List Taken). StandsSince text new before l) (sym found.2)
      (goes text before found.0 fresh (marks.since before found.0 found.1 (sym same ∙ marked)) (subst (λ (l : List Taken). IsPlanOf text plan l fresh) found.1 is));
}

-- a split whose second part is as long as the whole
split_whole : (taken now before : List Taken) → taken ≡ now ++ before → length before ≡ length taken → now ≡ []
split_whole taken [] before is long = refl
split_whole taken (x ∷ now) before is long = absurd (let l = ap length is in let m = length-append now before in omega (arith, l, m, long))

-- a mark that was made now
pub marked_now : (text : List ℕ → List ℕ) (tables : Tables) (taken : List Taken) → tables.marked ≡ Some (length taken) → StandsSince text tables taken [] → StandsMarked text tables taken
marked_now text tables taken marked stands = record {
  within = λ m is. let same : m ≡ length taken = cc in omega (arith, same);
  since = λ before now split is.
      let long : length before ≡ length taken = cc in
      let none : now ≡ [] = split_whole taken now before split long in
      let whole : taken ≡ before = split ∙ ap (λ (l : List Taken). l ++ before) none in
      subst (λ (l : List Taken). StandsSince text tables before l) (sym none) (subst (λ (l : List Taken). StandsSince text tables l []) whole stands);
}

-- the acts after a mark, and those before it
split_at : (taken : List Taken) (m : ℕ) → m ≤ length taken → (now : List Taken) × (before : List Taken) × (taken ≡ now ++ before) × (length before ≡ m)
split_at taken m low =
    let n : ℕ = length taken - m in
    (take n taken, drop n taken, sym (take-append-drop n taken), (let l = length-drop n taken in omega (arith, l, low)))

-- a mark that was made anew, if there was one
pub marked_again : (text : List ℕ → List ℕ) (old new : Tables) (taken : List Taken) → BeginsAnew old new → new.marked ≡ option_map (λ _. old.acts) old.marked → old.acts ≡ length taken → StandsMarked text old taken → StandsMarked text new taken
marked_again text old new taken anew is acts marks = by_mark old.marked refl
  where
    by_mark : (mark : Option ℕ) → old.marked ≡ mark → StandsMarked text new taken
    by_mark None none = record {
      within = λ m some. absurd (let e = is ∙ ap (option_map (λ _. old.acts)) none in let f : None ≡ Some m = sym e ∙ some in cc);
      since = λ before now split some. absurd (let e = is ∙ ap (option_map (λ _. old.acts)) none in let f : None ≡ Some (length before) = sym e ∙ some in cc);
    }
    by_mark (Some m) some =
        let parts = split_at taken m (marks.within m some) in
        let since = marks.since parts.1 parts.0 parts.2 (some ∙ ap (λ n. Some n) (sym parts.3)) in
        marked_now text new taken (is ∙ ap (option_map (λ _. old.acts)) some ∙ ap (λ n. Some n) acts) (subst (λ (l : List Taken). StandsSince text new l []) (sym parts.2) (anew text parts.1 parts.0 since))

pub stands_joined : (text : List ℕ → List ℕ) (tables : Tables) (fresh now before : List Taken) → StandsFor text tables (fresh ++ (now ++ before)) → StandsFor text tables ((fresh ++ now) ++ before)
stands_joined text tables fresh now before stands = subst (StandsFor text tables) (sym (append_assoc fresh now before)) stands

none_by : (e f o n : ℕ) → o ≤ e → n ≤ f → full_by e f o n ≡ None
none_by e f o n objects flows = grind (arith, nat_tests, objects, flows)

-- no limit is passed by what a plan does that fits
pub plan_fits : (text : List ℕ → List ℕ) (tables : Tables) (plan : Plan) (limits : Limits) (before now : List Taken) → HasLimits limits tables → StandsFor text tables before → IsPlanOf text plan before now
    → length (entered tables.entities.keys plan.work.draft.added.keys) ≤ tables.entities.limit → tables.flows + length plan.work.draft.added.flows ≤ tables.limits.flows → full_at limits.entities limits.flows (now ++ before) ≡ None
plan_fits text tables plan limits before now has stands is keys flows_fit =
    none_by limits.entities limits.flows (length (objects (acts_of (now ++ before)))) (length (flows (now ++ before)))
    (rw (is.objects_are, sym stands.objects_are, sym (ap (λ (l : Limits). l.entities) has.limits_are), stands.limit_is) keys)
    (let e : length (flows (now ++ before)) ≡ tables.flows + length plan.work.draft.added.flows = ap length is.flows_are ∙ length-append (flows before) plan.work.draft.added.flows ∙ ap (λ n. n + length plan.work.draft.added.flows) (sym stands.flows_are) in
    subst (λ (n : ℕ). n ≤ limits.flows) (sym e) (subst (λ (l : Limits). tables.flows + length plan.work.draft.added.flows ≤ l.flows) has.limits_are flows_fit))
