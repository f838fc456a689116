-- An event that is under way, with one more act.
use Rattle.std.proofs.Common.{◌≡◌, ◌<◌, ◌≤◌, ◌+◌, ◌++◌, ◌∙◌, ap, sym, subst, ℕ, List, [], ◌∷◌, length, map, take, reverse, get_or, arith}
use Rattle.std.proofs.lemmas.List.{map-append, reverse-append, take_more, take_all}
use Rattle.std.proofs.lemmas.List.Elements.{All-get_or}
use Rattle.std.proofs.lemmas.Grind.{common_steps}
use Rattle.std.specs.Prelude.{All}
use Rattle.acts.specs.declared.act.Act.{Act}
use Rattle.acts.specs.declared.act.Taken.{Taken}
use Rattle.flow_events.specs.declared.acting.Acting.{Acting}
use Rattle.flow_events.specs.declared.draft.Draft.{Draft}
use Rattle.flow_events.specs.declared.draft.Ground.{Ground}
use Rattle.call_acts.specs.Events.{IsCalm, IsCalmOf}
use Rattle.flow_events.specs.Drafts.{Drafted, MayGoOn, UnderWay, turned}
use Rattle.flow_events.proofs.CalmActs.{calm_acting}

abbrev pub taken_at : ℕ → ℕ → Act → Taken
taken_at ms serial act = record { act = act; ms = ms; serial = serial }

-- the next act stands first
pub turned_more : (ms serial i : ℕ) (acts : List Act) (act : Act) → i < length acts → act ≡ get_or acts i act → turned ms serial (take (i + 1) acts) ≡ taken_at ms serial act ∷ turned ms serial (take i acts)
turned_more ms serial i acts act inside is =
    ap (turned ms serial) (take_more acts i act inside ∙ ap (λ a. take i acts ++ a ∷ []) (sym is))
    ∙ ap reverse (map-append (taken_at ms serial) (take i acts) (act ∷ []))
    ∙ reverse-append (map (taken_at ms serial) (take i acts)) (taken_at ms serial act ∷ [])

pub calm_at : (pid i : ℕ) (acts : List Act) (act : Act) → All (IsCalmOf pid) acts → i < length acts → act ≡ get_or acts i act → IsCalmOf pid act
calm_at pid i acts act calm inside is = subst (λ a. IsCalmOf pid a) (sym is) (All-get_or (IsCalmOf pid) acts i act inside calm)

-- a calm act keeps the event under way
pub one_more : (ground : Ground) (acting : Acting) (old new : Draft) (before now : List Taken) (i : ℕ) (acts : List Act) (act : Act)
    → i < length acts → act ≡ get_or acts i act → IsCalm act
    → UnderWay ground acting old before (turned ground.ms ground.serial (take i acts) ++ now)
    → Drafted ground.births.now ground.entities.now new before (taken_at ground.ms ground.serial act ∷ (turned ground.ms ground.serial (take i acts) ++ now))
    → UnderWay ground acting new before (turned ground.ms ground.serial (take (i + 1) acts) ++ now)
one_more ground acting old new before now i acts act inside is calm way drafted =
    subst (λ all. UnderWay ground acting new before (all ++ now)) (sym (turned_more ground.ms ground.serial i acts act inside is)) (record {
      drafted = drafted;
      acting_is = calm_acting ground.procs.now ground.fds.now acting act _ calm way.acting_is;
      base = way.base;
    })

-- once all acts are done
pub all_done : (ground : Ground) (acting : Acting) (draft : Draft) (before now : List Taken) (i : ℕ) (acts : List Act) → length acts ≤ i
    → UnderWay ground acting draft before (turned ground.ms ground.serial (take i acts) ++ now) → UnderWay ground acting draft before (turned ground.ms ground.serial acts ++ now)
all_done ground acting draft before now i acts past way = subst (λ all. UnderWay ground acting draft before (turned ground.ms ground.serial all ++ now)) (take_all i acts past) way

short : (ms serial i : ℕ) (acts : List Act) (now : List Taken) → length (turned ms serial (take i acts) ++ now) ≤ length now + length acts
short ms serial i acts now = grind (arith, common_steps)

-- after some of the acts there are numbers for one more
pub still_few : (ground : Ground) (acting : Acting) (draft start : Draft) (before now : List Taken) (i : ℕ) (acts : List Act) → MayGoOn ground acting start before now (length acts)
    → UnderWay ground acting draft before (turned ground.ms ground.serial (take i acts) ++ now) → MayGoOn ground acting draft before (turned ground.ms ground.serial (take i acts) ++ now) 0
still_few ground acting draft start before now i acts may way = record {
  way = way;
  lives_few = may.lives_few;
  before_few = may.before_few;
  now_few = (let a = may.now_few in let b = short ground.ms ground.serial i acts now in omega (arith, a, b));
}
