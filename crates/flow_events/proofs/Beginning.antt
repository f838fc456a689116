-- An event once its process was seen.
use Rattle.std.proofs.Common.{◌≡◌, ◌++◌, ◌∙◌, ap, subst, sym, refl, ℕ, Option, List, [], ◌∷◌, length, map}
use Rattle.name_text.specs.Addresses.{text_of}
use Rattle.acts.specs.declared.act.Act.TheVariants.{See}
use Rattle.acts.specs.declared.act.Taken.{Taken}
use Rattle.acts.specs.Lives.{life_of}
use Rattle.acts.specs.Holding.{holds}
use Rattle.acts.specs.Keys.{all_given, names_of}
use Rattle.acts.specs.Flows.{acts_of, flows}
use Rattle.flow_events.specs.declared.acting.Acting.{Acting}
use Rattle.flow_events.specs.declared.draft.Draft.{Draft}
use Rattle.flow_events.specs.declared.draft.Ground.{Ground}
use Rattle.flow_events.specs.Births.{BornAs}
use Rattle.flow_events.specs.Added.{AreNew}
use Rattle.flow_events.specs.Entering.{pair_of}
use Rattle.flow_events.specs.Drafts.{Drafted, UnderWay}
use Rattle.flow_events.specs.Working.{Grounded, see_at}
use Rattle.flow_events.proofs.CalmActs.{seen_acting}

alone : {X : Type 0} → (xs : List X) → xs ++ [] ≡ xs
alone [] = refl
alone (x ∷ xs) = ap (λ r. x ∷ r) (alone xs)

-- nothing is drafted yet
pub drafted_nothing : (ground : Ground) (draft : Draft) (before : List Taken) → Grounded ground before → BornAs draft.births [] → draft.given ≡ [] → draft.added ≡ record { keys = []; flows = [] }
    → Drafted ground.births.now ground.entities.now draft before []
drafted_nothing ground draft before stands births given added = record {
  before_are = stands.births_are;
  now_are = births;
  known_are = stands.names_are;
  names_are = λ k. ap (names_of k) (sym (alone (all_given text_of (acts_of before))) ∙ ap (λ all. all_given text_of (acts_of before) ++ map pair_of all) (sym given));
  objects_are = sym stands.objects_are ∙ sym (alone ground.entities.now.keys) ∙ ap (λ all. ground.entities.now.keys ++ all.keys) (sym added);
  flows_are = sym (alone (flows before)) ∙ ap (λ all. flows before ++ all.flows) (sym added);
}

-- no key is new yet
pub none_new : (ground : Ground) (draft : Draft) → draft.added ≡ record { keys = []; flows = [] } → AreNew ground.entities.now.keys draft.added.keys
none_new ground draft added = subst (λ all. AreNew ground.entities.now.keys all.keys) (sym added) (record { enter = sym (alone ground.entities.now.keys) })

pub none_fit : (ground : Ground) (draft : Draft) → draft.added ≡ record { keys = []; flows = [] } → length (ground.entities.now.keys ++ draft.added.keys) ≡ length ground.entities.now.keys
none_fit ground draft added = ap (λ all. length (ground.entities.now.keys ++ all.keys)) added ∙ ap length (alone ground.entities.now.keys)

-- with its see the event is under way
pub way_begun : (ground : Ground) (acting : Acting) (draft : Draft) (before : List Taken) (pid ppid : ℕ) (exe : Option (List ℕ)) → Grounded ground before → acting.pid ≡ pid
    → life_of (See pid ppid exe ∷ acts_of before) pid ≡ acting.life
    → ((n : ℕ) → holds (See pid ppid exe ∷ acts_of before) pid n ≡ holds (acts_of before) acting.holder n)
    → Drafted ground.births.now ground.entities.now draft before (see_at ground.ms ground.serial acting.pid ppid exe ∷ [])
    → UnderWay ground acting draft before (see_at ground.ms ground.serial pid ppid exe ∷ [])
way_begun ground acting draft before pid ppid exe stands same life holder drafted =
    subst (λ p. UnderWay ground acting draft before (see_at ground.ms ground.serial p ppid exe ∷ [])) same (record {
      drafted = drafted;
      acting_is = seen_acting ground.procs.now ground.fds.now acting (acts_of before) ppid exe stands.lives_are stands.held_are stands.addresses_are
          (subst (λ p. life_of (See p ppid exe ∷ acts_of before) p ≡ acting.life) (sym same) life)
          (subst (λ p. (n : ℕ) → holds (See p ppid exe ∷ acts_of before) p n ≡ holds (acts_of before) acting.holder n) (sym same) holder);
      base = stands.flows_are;
    })
