-- What keeps tables safe.
use Rattle.std.proofs.Common.{◌≡◌, ◌≤◌, ◌<◌, ◌+◌, ◌-◌, ◌^◌, ◌∙◌, length, ap, sym, subst, refl, ℕ, List, arith}
use Rattle.std.proofs.lemmas.List.{length-map}
use Rattle.flow_base.specs.declared.limits.Limits.{Limits}
use Rattle.acts.specs.declared.act.Taken.{Taken}
use Rattle.acts.specs.Flows.{acts_of}
use Rattle.entity_names.specs.Known.{Known}
use Rattle.flow_events.specs.declared.plan.Plan.{Plan}
use Rattle.flow_events.specs.declared.tables.Tables.{Tables}
use Rattle.flow_events.specs.Entering.{entered}
use Rattle.acts.specs.declared.act.Act.{Act}
use Rattle.acts.specs.Lives.{beginnings}
use Rattle.proc_table.specs.Table.{Table as Procs, StandsFor as LivesAs}
use Rattle.flow_events.specs.Lives.{LivesBelow}
use Rattle.flow_events.proofs.Numbers.{lives_below}
use Rattle.flow_events.specs.Standing.{AreSafe, DiffersInRoom, HasGrown}

-- room keeps tables safe
pub safe_still : (old new : Tables) → DiffersInRoom old new → AreSafe old → AreSafe new
safe_still old new same safe = record {
  flows_few = rw same.flows safe.flows_few;
  limit_is = ap (λ (l : Limits). l.entities) same.limits ∙ safe.limit_is ∙ sym same.limit;
  objects_fit = rw (same.keys, same.limit) safe.objects_fit;
}

-- tables that are as before differ in nothing
pub nothing_differs : (tables : Tables) → DiffersInRoom tables tables
nothing_differs tables = record {
  lives = refl;
  births = refl;
  held = λ p n. refl;
  addresses = refl;
  keys = refl;
  limit = refl;
  most_names = refl;
  names = λ key. refl;
  saved = λ key. refl;
  flows = refl;
  acts = refl;
  limits = refl;
  marked = refl;
  since = λ before now held remembers. remembers;
}

-- marks of names keep tables safe
pub safe_marked : (old new : Tables) → new.entities ≡ record old.entities { names = new.entities.names } → new.flows ≡ old.flows → new.acts ≡ old.acts → new.limits ≡ old.limits → AreSafe old → AreSafe new
safe_marked old new rest flows acts limits safe = record {
  flows_few = rw flows safe.flows_few;
  limit_is = ap (λ (l : Limits). l.entities) limits ∙ safe.limit_is ∙ sym (ap (λ (e : Known). e.limit) rest);
  objects_fit = subst (λ (e : Known). length e.keys ≤ e.limit) (sym rest) safe.objects_fit;
}

-- a plan keeps tables safe where its flows can be counted and its objects fit
pub safe_grown : (old new : Tables) (plan : Plan) → HasGrown old new plan → new.entities.limit ≡ old.entities.limit → old.flows + length plan.work.draft.added.flows ≤ 2 ^ 60
    → length (entered old.entities.keys plan.work.draft.added.keys) ≤ old.entities.limit → AreSafe old → AreSafe new
safe_grown old new plan grown limit few fits safe = record {
  flows_few = rw grown.flows few;
  limit_is = ap (λ (l : Limits). l.entities) grown.limits ∙ safe.limit_is ∙ sym limit;
  objects_fit = (let a = ap length grown.keys in omega (arith, a, limit, fits));
}

-- after acts that can be counted with those of a plan there are numbers for these
pub acts_fit : (taken : List Taken) (acts more : ℕ) → acts ≡ length taken → acts + more < 2 ^ 64 - 1 → length (acts_of taken) + more < 2 ^ 64 - 1
acts_fit taken acts more is few = let e : length (acts_of taken) ≡ length taken = length-map taken (λ t. t.act) in omega (arith, is, few, e)

-- after acts that are few there are numbers for lives
pub few_lives : (procs : Procs) (taken : List Taken) (more : ℕ) → ((acts : List Act) (p : ℕ) → beginnings acts p ≤ length acts) → LivesAs procs (acts_of taken) → length taken + (more + 2) < 2 ^ 63 - 1 → LivesBelow procs (2 ^ 64 - 1)
few_lives procs taken more most stands few =
    let e : length (acts_of taken) ≡ length taken = length-map taken (λ t. t.act) in
    lives_below procs (acts_of taken) (2 ^ 64 - 1) most stands (omega (arith, few, e))
