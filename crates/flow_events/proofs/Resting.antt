-- The acts after the see, as the front and the last one.
use Rattle.std.proofs.Common.{◌≡◌, ◌≤◌, ◌<◌, ◌+◌, ◌-◌, ◌++◌, ◌∙◌, ap, sym, refl, ℕ, List, [], ◌∷◌, length, map, take, drop, reverse, get_or, Result, Ok, Err, arith}
use Rattle.std.specs.Prelude.{OnOk}
use Rattle.std.proofs.lemmas.List.{map-append, reverse-append, take_more, take_all}
use Rattle.std.proofs.lemmas.Grind.{common_steps}
use Rattle.acts.specs.declared.act.Act.{Act}
use Rattle.acts.specs.declared.act.Taken.{Taken}
use Rattle.flow_events.specs.Drafts.{turned}

pub on_ok : {T E P Q : Type 0} (r : Result T E) → (P → Q) → OnOk r P → OnOk r Q
on_ok (Ok x) f h = f h
on_ok (Err e) f h = h

pub none_left : (rest : List Act) → length rest < 1 → rest ≡ []
none_left [] none = refl
none_left (act ∷ rest) none = absurd (omega (arith, none))

-- the front and the last one are all
pub whole : (rest : List Act) (last : Act) → 1 ≤ length rest → last ≡ get_or rest (length rest - 1) last → rest ≡ take (length rest - 1) rest ++ last ∷ []
whole rest last some is =
    sym (take_all (length rest - 1 + 1) rest (let e : length rest ≤ length rest - 1 + 1 = omega arith in e))
    ∙ take_more rest (length rest - 1) last (let e : length rest - 1 < length rest = omega (arith, some) in e)
    ∙ ap (λ a. take (length rest - 1) rest ++ a ∷ []) (sym is)

pub front_shorter : (rest : List Act) → length (take (length rest - 1) rest) ≤ length rest
front_shorter rest = grind (arith, common_steps)

-- the last one stands first
pub turned_whole : (ms serial : ℕ) (rest front : List Act) (last : Act) → rest ≡ front ++ last ∷ [] → turned ms serial rest ≡ record { act = last; ms = ms; serial = serial } ∷ turned ms serial front
turned_whole ms serial rest front last is =
    let at : Act → Taken = (λ act. record { act = act; ms = ms; serial = serial }) in
    ap (turned ms serial) is
    ∙ ap reverse (map-append at front (last ∷ []))
    ∙ reverse-append (map at front) (at last ∷ [])

-- what follows the first one
pub rest_shorter : (acts : List Act) → length (take (length acts - 1) (drop 1 acts)) ≤ length acts
rest_shorter acts = grind (arith, common_steps)
