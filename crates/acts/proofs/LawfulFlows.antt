-- The flows of acts are lawful.
use Rattle.std.proofs.Common.{◌≡◌, ◌≢◌, ◌<◌, ◌≤◌, ◌&&◌, ◌||◌, ◌==◌, ◌++◌, ◌∙◌, ◌⊎◌, inl, inr, ap, not, zero, suc, max, ℕ, List, [], ◌∷◌, length, Bool, true, false, refl, sym, subst, Option, Some, None, arith, append-nil, if◌then◌else◌}
use Rattle.std.proofs.lemmas.Grind.{common_steps}
use Rattle.std.specs.List.{Contains}
use Rattle.std.proofs.lemmas.List.Elements.{Contains-append_cases}
use Rattle.flow_base.specs.declared.types.Key.{Key}
use Rattle.flow_base.specs.declared.types.Key.TheVariants.{Process}
use Rattle.flow_base.specs.declared.types.How.{How}
use Rattle.flow_base.specs.declared.types.Flow.{Flow}
use Rattle.flow_base.specs.contracts.types.KeyPartialEq.TheImpl.{ghosts}
use Rattle.reach_model.specs.Flows.{time}
use Rattle.reach_model.specs.Numbers.{IsLawfulWith, MayFollow, beyond}
use Rattle.acts.specs.declared.act.Act.{Act}
use Rattle.acts.specs.declared.act.Act.TheVariants.{See, Fork, End, Exec, Set, SetBoth, Copy, Close, Mark, Address, Birth, Move}
use Rattle.acts.specs.declared.act.Taken.{Taken}
use Rattle.acts.specs.declared.link.Link.{Link}
use Rattle.acts.specs.Keys.{put_new}
use Rattle.acts.specs.Flows.{number_in, with_ends, flow_at, flow_if, between, link_of, objects, flows, acts_of, latest, TimesNeverFall}
use Rattle.acts.proofs.Entering.{AreOne, WasThere, IsNext, entered, there_now, numbers_differ}
use Rattle.acts.proofs.KeyNumbers.{number_kept}
use Rattle.acts.proofs.Things.{is_process, things_are_none}

-- a further flow that may follow leaves the list lawful
abbrev pub Grows : Type 0
Grows = (count : ℕ) (F : List Flow) (f : Flow) → IsLawfulWith count F → MayFollow F f → IsLawfulWith (max count (beyond f)) (F ++ f ∷ [])

-- the numbers of two ends among s objects, which are t then
pub record Ends (s t a b : ℕ) : Type 0 where
  pub first : a ≤ s
  pub second : b ≤ max s (suc a)
  pub all : max s (max (suc a) (suc b)) ≡ t
  pub first_below : a < t
  pub second_below : b < t

ends_of : (s m t a b : ℕ) → ((m ≡ s) × (a < s)) ⊎ ((m ≡ suc s) × (a ≡ s)) → ((t ≡ m) × (b < m)) ⊎ ((t ≡ suc m) × (b ≡ m)) → Ends s t a b
ends_of s m t a b (inl one) (inl two) = record { first = omega arith; second = omega arith; all = omega arith; first_below = omega arith; second_below = omega arith }
ends_of s m t a b (inl one) (inr two) = record { first = omega arith; second = omega arith; all = omega arith; first_below = omega arith; second_below = omega arith }
ends_of s m t a b (inr one) (inl two) = record { first = omega arith; second = omega arith; all = omega arith; first_below = omega arith; second_below = omega arith }
ends_of s m t a b (inr one) (inr two) = record { first = omega arith; second = omega arith; all = omega arith; first_below = omega arith; second_below = omega arith }

lengths : (seen now : List Key) (n : ℕ) → WasThere seen now n ⊎ IsNext seen now n → ((length now ≡ length seen) × (n < length seen)) ⊎ ((length now ≡ suc (length seen)) × (n ≡ length seen))
lengths seen now n (inl was) = inl (ap length was.same, was.within)
lengths seen now n (inr next) = inr (next.longer, next.last)

-- the ends of a link, by the numbers that they get
ends_entered : AreOne → (seen : List Key) (from to : Key)
    → Ends (length seen) (length (put_new ghosts.eq (put_new ghosts.eq seen from) to)) (number_in (put_new ghosts.eq (put_new ghosts.eq seen from) to) from) (number_in (put_new ghosts.eq (put_new ghosts.eq seen from) to) to)
ends_entered one seen from to =
    let mid = put_new ghosts.eq seen from in
    let kept : number_in (put_new ghosts.eq mid to) from ≡ number_in mid from = number_kept mid from to (there_now one seen from) in
    rw kept (ends_of (length seen) (length mid) (length (put_new ghosts.eq mid to)) (number_in mid from) (number_in (put_new ghosts.eq mid to) to)
    (lengths seen mid (number_in mid from) (entered one seen from))
    (lengths mid (put_new ghosts.eq mid to) (number_in (put_new ghosts.eq mid to) to) (entered one mid to)))

-- one more flow between two different keys
one_more_flow : AreOne → Grows → (seen : List Key) (F : List Flow) (link : Link) (taken : Taken) → link.from ≢ link.to
    → IsLawfulWith (length seen) F → ((g : Flow) → Contains F g → time g ≤ taken.ms)
    → IsLawfulWith (length (with_ends seen (Some link))) (F ++ flow_at (with_ends seen (Some link)) taken (length F) link ∷ [])
one_more_flow one grows seen F link taken apart lawful earlier =
    let now = with_ends seen (Some link) in
    let ends = ends_entered one seen link.from link.to in
    let f = flow_at now taken (length F) link in
    let may : MayFollow F f = record {
      next_place = refl;
      no_earlier = earlier;
      ends_differ = numbers_differ one now link.from link.to apart ends.first_below ends.second_below;
      source_known_or_next = rw lawful.objects ends.first;
      target_known_or_next = rw lawful.objects ends.second;
    } in
    subst (λ n. IsLawfulWith n (F ++ f ∷ [])) ends.all (grows (length seen) F f lawful may)

-- the two ends of a link are two keys
abbrev IsApart : Option Link → Type 0
IsApart None = Unit {0}
IsApart (Some link) = link.from ≢ link.to

apart_if : (b : Bool) (link : Link) → (b ≡ true → link.from ≢ link.to) → IsApart (if b then Some link else None)
apart_if true link apart = apart refl
apart_if false link apart = tt

between_apart : (inward : Bool) (thing process : Key) (how : How) → thing ≢ process → IsApart (Some (between inward thing process how))
between_apart true thing process how apart = apart
between_apart false thing process how apart = λ e. apart (sym e)

two_pids : (p q a b : ℕ) → (p == q) ≡ false → Process p a ≢ Process q b
two_pids p q a b apart = λ e. let same : p ≡ q = cc in absurd (grind (arith, common_steps, same, apart))

thing_apart : (thing : Key) (p life : ℕ) → is_process thing ≡ false → thing ≢ Process p life
thing_apart thing p life other_kind = λ e. let wrong : true ≡ false = ap is_process (sym e) ∙ other_kind in cc

-- the two ends of a link differ
apart_by : (before : List Act) (act : Act) → IsApart (link_of before act)
apart_by before (See pid ppid exe) = apart_if _ _ (λ linked. two_pids ppid pid _ _ (see_apart _ _ _ linked))
  where
    see_apart : (a b same : Bool) → (a && (b && not same)) ≡ true → same ≡ false
    see_apart true true false both = refl
    see_apart true true true both = sym both
    see_apart true false same both = absurd (let wrong : false ≡ true = both in cc)
    see_apart false b same both = absurd (let wrong : false ≡ true = both in cc)
apart_by before (Fork pid child) = apart_if _ _ (λ linked. two_pids pid child _ _ (sym_eq pid child (fork_apart _ _ _ _ linked)))
  where
    fork_apart : (here same awaits was : Bool) → ((((here && not same) && awaits) || ((here && not same) && was))) ≡ true → same ≡ false
    fork_apart here false awaits was linked = refl
    fork_apart true true awaits was linked = sym linked
    fork_apart false true awaits was linked = absurd (let wrong : false ≡ true = linked in cc)

    sym_eq : (a b : ℕ) → (b == a) ≡ false → (a == b) ≡ false
    sym_eq a b apart = grind (arith, common_steps, apart)
apart_by before (Move pid inward how what) = between_apart inward _ _ how (thing_apart _ pid _ (things_are_none before pid what))
apart_by before (End pid) = tt
apart_by before (Exec pid) = tt
apart_by before (Set pid fd what cloexec) = tt
apart_by before (SetBoth pid first second cloexec) = tt
apart_by before (Copy pid from to cloexec) = tt
apart_by before (Close pid fd) = tt
apart_by before (Mark pid fd cloexec) = tt
apart_by before (Address pid fd bytes) = tt
apart_by before (Birth file) = tt

alone : (f g : Flow) → Contains (f ∷ []) g → f ≡ g
alone f g (zero, within, is) = is
alone f g (suc k, within, is) = absurd (omega arith)

-- the flows are lawful between these objects, and none is later than a time
pub record IsGood (keys : List Key) (F : List Flow) (ms : ℕ) : Type 0 where
  pub lawful : IsLawfulWith (length keys) F
  pub no_later : (g : Flow) → Contains F g → time g ≤ ms

step : AreOne → Grows → (seen : List Key) (F : List Flow) (ms : ℕ) (link : Option Link) (taken : Taken) → IsApart link → IsGood seen F ms → ms ≤ taken.ms
    → IsGood (with_ends seen link) (F ++ flow_if (with_ends seen link) taken (length F) link) taken.ms
step one grows seen F ms None taken apart good later =
    record { lawful = rw (append-nil F) good.lawful; no_later = rw (append-nil F) (λ g there. let h : time g ≤ ms = good.no_later g there in omega arith) }
step one grows seen F ms (Some link) taken apart good later =
    let f = flow_at (with_ends seen (Some link)) taken (length F) link in
    let earlier = λ (g : Flow) (there : Contains F g). let h : time g ≤ ms = good.no_later g there in let k : time g ≤ taken.ms = omega arith in k in
    record {
      lawful = one_more_flow one grows seen F link taken apart good.lawful earlier;
      no_later = λ g there. elim (Contains-append_cases F (f ∷ []) g there) [
        | inl before ↦ earlier g before
        | inr last ↦ let h : time f ≡ time g = ap time (alone f g last) in omega arith
      ];
    }

all_good : AreOne → Grows → IsLawfulWith 0 [] → (taken : List Taken) → TimesNeverFall taken → IsGood (objects (acts_of taken)) (flows taken) (latest taken)
all_good one grows none [] rising = record { lawful = none; no_later = λ g there. absurd (omega (arith, there.1)) }
all_good one grows none (taken ∷ before) rising =
    step one grows (objects (acts_of before)) (flows before) (latest before) (link_of (acts_of before) taken.act) taken (apart_by (acts_of before) taken.act)
    (all_good one grows none before rising.1) rising.0

-- the flows of acts whose times never fall are lawful
pub acts_are_lawful : AreOne → Grows → IsLawfulWith 0 [] → (taken : List Taken) → TimesNeverFall taken → IsLawfulWith (length (objects (acts_of taken))) (flows taken)
acts_are_lawful one grows none taken rising = (all_good one grows none taken rising).lawful
