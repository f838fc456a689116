-- The plan of an event that is worked out.
use Rattle.std.proofs.Common.{◌≡◌, ◌≤◌, ◌+◌, ◌++◌, ◌∙◌, ap, sym, subst, refl, ℕ, List, [], ◌∷◌, length, map, reverse, length-append, append_assoc, arith}
use Rattle.std.proofs.lemmas.List.{map-append, reverse-append}
use Rattle.std.proofs.lemmas.Grind.{common_steps}
use Rattle.name_text.specs.Addresses.{text_of}
use Rattle.flow_base.specs.declared.types.Key.{Key}
use Rattle.acts.specs.declared.act.Act.{Act}
use Rattle.acts.specs.declared.act.Taken.{Taken}
use Rattle.acts.specs.Holding.{holds, address_of}
use Rattle.acts.specs.Keys.{all_given, names_of}
use Rattle.acts.specs.Flows.{acts_of, objects, flows}
use Rattle.flow_events.specs.declared.draft.Ground.{Ground}
use Rattle.flow_events.specs.declared.given.Given.{Given}
use Rattle.flow_events.specs.declared.plan.Plan.{Plan}
use Rattle.flow_events.specs.declared.work.Worked.{Worked}
use Rattle.flow_events.specs.Added.{AreNew}
use Rattle.flow_events.specs.Changes.{changed}
use Rattle.flow_events.specs.Drafts.{turned}
use Rattle.flow_events.specs.Entering.{entered, pair_of, pairs_of}
use Rattle.flow_events.specs.Standing.{IsPlanOf, readdressed}
use Rattle.flow_events.specs.Working.{IsWorked}
use Rattle.flow_events.proofs.Drafting.{joined}
use Rattle.flow_events.proofs.Following.{first_last}

-- the acts of an event without their times and serials
pub turned_acts : (ms serial : ℕ) (acts : List Act) → acts_of (turned ms serial acts) ≡ reverse acts
turned_acts ms serial [] = refl
turned_acts ms serial (act ∷ acts) =
    ap acts_of (first_last ms serial act acts)
    ∙ map-append (λ t. t.act) (turned ms serial acts) (record { act = act; ms = ms; serial = serial } ∷ [])
    ∙ ap (λ all. all ++ act ∷ []) (turned_acts ms serial acts)
    ∙ sym (reverse-append (act ∷ []) acts)

pub turned_length : (ms serial : ℕ) (acts : List Act) → length (turned ms serial acts) ≡ length acts
turned_length ms serial acts = grind (arith, common_steps)

alone : {X : Type 0} → (xs : List X) → xs ++ [] ≡ xs
alone [] = refl
alone (x ∷ xs) = ap (λ r. x ∷ r) (alone xs)

pairs_append : (xs ys : List Given) → pairs_of (xs ++ ys) ≡ pairs_of ys ++ pairs_of xs
pairs_append [] ys = sym (alone (pairs_of ys))
pairs_append (x ∷ xs) ys = ap (λ all. all ++ pair_of x ∷ []) (pairs_append xs ys) ∙ append_assoc (pairs_of ys) (pairs_of xs) (pair_of x ∷ [])

-- the names with the newest first are the names with the oldest first
pairs_turned : (given : List Given) → pairs_of (reverse given) ≡ map pair_of given
pairs_turned [] = refl
pairs_turned (one ∷ given) =
    ap pairs_of (reverse-append (one ∷ []) given)
    ∙ pairs_append (reverse given) (one ∷ [])
    ∙ ap (λ all. pair_of one ∷ all) (pairs_turned given)

-- what is worked out is what the plan does
pub planned : (ground : Ground) (worked : Worked) (plan : Plan) (before : List Taken) (acts : List Act)
    → IsWorked ground worked before (turned ground.ms ground.serial acts) → AreNew ground.entities.now.keys worked.draft.added.keys
    → ground.entities.now.keys ≡ objects (acts_of before)
    → plan.acts ≡ acts → plan.work.see ≡ worked.see → plan.work.last ≡ worked.last → plan.work.address ≡ worked.address
    → plan.work.draft.given ≡ reverse worked.draft.given → plan.work.draft.added.keys ≡ reverse worked.draft.added.keys → plan.work.draft.added.flows ≡ worked.draft.added.flows
    → IsPlanOf text_of plan before (turned ground.ms ground.serial acts)
planned ground worked plan before acts works new known acts_is see_is last_is address_is given_is keys_is flows_is =
    let now = turned ground.ms ground.serial acts in
    let join = joined now before in
    record {
      acts_are = join ∙ ap (λ all. all ++ acts_of before) (turned_acts ground.ms ground.serial acts ∙ ap reverse (sym acts_is));
      held_are = λ p n. ap (λ all. holds all p n) join ∙ works.held_are p n ∙ (λ i. changed (sym last_is i) (changed (sym see_is i) (holds (acts_of before))) p n);
      addresses_are = λ s. ap (λ all. address_of all s) join ∙ works.addresses_are s ∙ ap (λ new_one. readdressed new_one (address_of (acts_of before)) s) (sym address_is);
      names_are = λ k. ap (λ all. names_of k (all_given text_of all)) join ∙ works.drafted.names_are k
          ∙ ap (λ pairs. names_of k (all_given text_of (acts_of before) ++ pairs)) (sym (pairs_turned worked.draft.given) ∙ ap pairs_of (sym given_is));
      objects_are = ap objects join ∙ works.drafted.objects_are ∙ sym new.enter
          ∙ (λ i. entered (known i) (sym keys_is i));
      flows_are = works.drafted.flows_are ∙ ap (λ added. flows before ++ added) (sym flows_is);
      count_is = length-append now before ∙ ap (λ n. n + length before) (turned_length ground.ms ground.serial acts ∙ ap length (sym acts_is))
          ∙ (let e : length plan.acts + length before ≡ length before + length plan.acts = omega arith in e);
    }

-- the objects stay within what they were within
pub planned_fits : (known keys entering : List Key) (most : ℕ) → AreNew known keys → entering ≡ reverse keys → length (known ++ keys) ≤ most → length (entered known entering) ≤ most
planned_fits known keys entering most new is fits = subst (λ all. length all ≤ most) (sym new.enter ∙ ap (entered known) (sym is)) fits
