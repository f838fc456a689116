-- The acts after the see.
use Rattle.std.proofs.Common.{◌≡◌, ◌≤◌, ◌+◌, ◌-◌, ◌++◌, ◌∙◌, ap, sym, refl, ℕ, Option, List, [], ◌∷◌, length, map, take, drop, get_or, append_assoc, arith}
use Rattle.std.proofs.lemmas.List.{map-append, reverse-append, take_all}
use Rattle.std.proofs.lemmas.List.Elements.{All-head, All-tail}
use Rattle.std.proofs.lemmas.Grind.{common_steps}
use Rattle.std.specs.Prelude.{All}
use Rattle.acts.specs.declared.act.Act.{Act}
use Rattle.acts.specs.declared.act.Act.TheVariants.{See, Fork, End, Exec, Set, SetBoth, Copy, Close, Mark, Address, Birth, Move}
use Rattle.acts.specs.declared.act.Taken.{Taken}
use Rattle.acts.specs.Holding.{holds}
use Rattle.acts.specs.Flows.{acts_of}
use Rattle.call_acts.specs.Events.{IsCalm, IsCalmOf}
use Rattle.flow_events.specs.Drafts.{turned}
use Rattle.flow_events.specs.Working.{see_at}

calm_hold : (act : Act) → IsCalm act → (A : List Act) (p n : ℕ) → holds (act ∷ A) p n ≡ holds A p n
calm_hold (Birth file) calm A p n = refl
calm_hold (Move pid inward how what) calm A p n = refl
calm_hold (See pid ppid exe) calm A p n = absurd calm
calm_hold (Fork pid child) calm A p n = absurd calm
calm_hold (End pid) calm A p n = absurd calm
calm_hold (Exec pid) calm A p n = absurd calm
calm_hold (Set pid fd what cloexec) calm A p n = absurd calm
calm_hold (SetBoth pid first second cloexec) calm A p n = absurd calm
calm_hold (Copy pid from to cloexec) calm A p n = absurd calm
calm_hold (Close pid fd) calm A p n = absurd calm
calm_hold (Mark pid fd cloexec) calm A p n = absurd calm
calm_hold (Address pid fd bytes) calm A p n = absurd calm

abbrev at : ℕ → ℕ → Act → Taken
at ms serial act = record { act = act; ms = ms; serial = serial }

pub first_last : (ms serial : ℕ) (act : Act) (acts : List Act) → turned ms serial (act ∷ acts) ≡ turned ms serial acts ++ at ms serial act ∷ []
first_last ms serial act acts = reverse-append (at ms serial act ∷ []) (map (at ms serial) acts)

-- the see and then the rest are all
pub first_turned : (ms serial : ℕ) (acts : List Act) (pid ppid : ℕ) (exe : Option (List ℕ)) (other : Act) → 1 ≤ length acts → get_or acts 0 other ≡ See pid ppid exe
    → turned ms serial (take (length acts - 1) (drop 1 acts)) ++ see_at ms serial pid ppid exe ∷ [] ≡ turned ms serial acts
first_turned ms serial [] pid ppid exe other some is = absurd (omega (arith, some))
first_turned ms serial (act ∷ rest) pid ppid exe other some is =
    ap (λ all. turned ms serial all ++ see_at ms serial pid ppid exe ∷ []) (take_all (length (act ∷ rest) - 1) rest (let e : length rest ≤ length (act ∷ rest) - 1 = omega arith in e))
    ∙ ap (λ one. turned ms serial rest ++ at ms serial one ∷ []) (sym is)
    ∙ sym (first_last ms serial act rest)

-- calm acts change nothing that is held
pub calm_holds : (pid ms serial : ℕ) (acts : List Act) → All (IsCalmOf pid) acts → (A : List Act) (p n : ℕ) → holds (acts_of (turned ms serial acts) ++ A) p n ≡ holds A p n
calm_holds pid ms serial [] calm A p n = refl
calm_holds pid ms serial (act ∷ acts) calm A p n =
    ap (λ all. holds (acts_of all ++ A) p n) (first_last ms serial act acts)
    ∙ ap (λ all. holds (all ++ A) p n) (map-append (λ t. t.act) (turned ms serial acts) (at ms serial act ∷ []))
    ∙ ap (λ all. holds all p n) (append_assoc (acts_of (turned ms serial acts)) (act ∷ []) A)
    ∙ calm_holds pid ms serial acts (All-tail (IsCalmOf pid) act acts calm) (act ∷ A) p n
    ∙ (let first = All-head (IsCalmOf pid) act acts calm in calm_hold act first.calm A p n)

-- the acts before the last one are the front, the see and those before the event
pub numbered : (ms serial : ℕ) (front : List Act) (first : Taken) (before : List Taken) (acts : ℕ) → acts ≡ length before
    → acts + 1 + length front ≡ length (acts_of (turned ms serial front ++ first ∷ []) ++ acts_of before)
numbered ms serial front first before acts same = grind (arith, common_steps, same)

-- the front and the see
pub front_length : (ms serial : ℕ) (front : List Act) (first : Taken) → length (turned ms serial front ++ first ∷ []) ≡ length front + 1
front_length ms serial front first = grind (arith, common_steps)

-- the front stands before the see and the acts before the event
pub split : (ms serial : ℕ) (front : List Act) (first : Taken) (before : List Taken)
    → acts_of (turned ms serial front ++ first ∷ []) ++ acts_of before ≡ acts_of (turned ms serial front) ++ (first.act ∷ acts_of before)
split ms serial front first before =
    ap (λ all. all ++ acts_of before) (map-append (λ t. t.act) (turned ms serial front) (first ∷ []))
    ∙ append_assoc (acts_of (turned ms serial front)) (first.act ∷ []) (acts_of before)
