-- How many acts are births.
use Rattle.std.proofs.Common.{◌≡◌, ◌<◌, ◌≤◌, ◌+◌, ◌++◌, ◌∙◌, ap, sym, subst, ℕ, List, [], ◌∷◌, length, take, get_or}
use Rattle.std.proofs.lemmas.List.{take_all}
use Rattle.std.proofs.lemmas.List.Sums.{sum_by_more, sum_by_more_le, sum_by_push, sum_by-take-le}
use Rattle.acts.specs.declared.act.Act.{Act}
use Rattle.flow_events.specs.Births.{births_of, births_in}

-- one more act
pub births_more : (i : ℕ) (acts : List Act) (act : Act) → i < length acts → act ≡ get_or acts i act → births_in (take (i + 1) acts) ≡ births_in (take i acts) + births_of act
births_more i acts act inside is = sum_by_more births_of acts i act inside ∙ ap (λ a. births_in (take i acts) + births_of a) (sym is)

-- the births so far and the next act are within all
pub births_left : (i : ℕ) (acts : List Act) (act : Act) → i < length acts → act ≡ get_or acts i act → births_in (take i acts) + births_of act ≤ births_in acts
births_left i acts act inside is = subst (λ a. births_in (take i acts) + births_of a ≤ births_in acts) (sym is) (sum_by_more_le births_of acts i act inside)

pub births_within : (i : ℕ) (acts : List Act) → births_in (take i acts) ≤ births_in acts
births_within i acts = sum_by-take-le births_of acts i

-- at the end all are counted
pub births_done : (i : ℕ) (acts : List Act) → length acts ≤ i → births_in (take i acts) ≡ births_in acts
births_done i acts end = ap births_in (take_all i acts end)

-- the births of the front and of the last one
pub births_whole : (rest front : List Act) (last : Act) → rest ≡ front ++ last ∷ [] → births_in rest ≡ births_in front + births_of last
births_whole rest front last is = ap births_in is ∙ sum_by_push births_of front last
