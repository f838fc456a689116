-- Room for names and keys that are entered one after the other.
use Rattle.std.proofs.Common.{◌≡◌, ◌≤◌, ◌<◌, ◌+◌, ◌++◌, ◌∙◌, ◌⊎◌, ◌||◌, ap, refl, ℕ, Bool, true, false, List, [], ◌∷◌, length, map, min, if◌then◌else◌, arith, append_assoc, subst, sym, reverse, take, get_or}
use Rattle.acts.specs.declared.act.Act.{Act}
use Rattle.std.specs.List.{list_any}
use Rattle.std.proofs.lemmas.Grind.{common_steps}
use Rattle.std.proofs.lemmas.List.{reverse-append, take_more}
use Rattle.flow_base.specs.declared.types.Key.{Key}
use Rattle.flow_base.specs.contracts.types.KeyPartialEq.TheImpl.{ghosts}
use Rattle.acts.specs.Keys.{put_new}
use Rattle.entity_names.specs.Known.{Known, HasPlace, names_at, capacity_at}
use Rattle.flow_events.specs.declared.given.Given.{Given}
use Rattle.flow_events.specs.Entering.{Covers, entered}

place_by : (most n r c : ℕ) → min most (n + (r + 1)) ≤ c → (n < c) ⊎ (most ≤ n)
place_by most n r c room = grind (arith, common_steps, room)

last_is_there : (any : Bool) → (any || (true || false)) ≡ true
last_is_there true = refl
last_is_there false = refl

earlier_is_there : (any last : Bool) → any ≡ true → (any || last) ≡ true
earlier_is_there any last is = ap (λ b. b || last) is

keys_of : List Given → List Key
keys_of given = map (λ g. g.key) given

module _ (same : (k : Key) → ghosts.eq k k ≡ true) where
  among : (given : List Given) (one : Given) → list_any (ghosts.eq one.key) (map (λ g. g.key) (given ++ one ∷ [])) ≡ true
  among [] one = ap (λ b. b || false) (same one.key)
  among (g ∷ given) one = later (ghosts.eq one.key g.key) _ (among given one)
    where
      later : (b any : Bool) → any ≡ true → (b || any) ≡ true
      later true any is = refl
      later false any is = is

  still : (given : List Given) (one : Given) (key : Key) → list_any (ghosts.eq key) (map (λ g. g.key) given) ≡ true → list_any (ghosts.eq key) (map (λ g. g.key) (given ++ one ∷ [])) ≡ true
  still [] one key there = let wrong : false ≡ true = there in cc
  still (g ∷ given) one key there = by (ghosts.eq key g.key) _ _ there (still given one key)
    where
      by : (b some all : Bool) → (b || some) ≡ true → (some ≡ true → all ≡ true) → (b || all) ≡ true
      by true some all is more = refl
      by false some all is more = more is

  -- the name that stands last has a place
  pub last_has_place : (table : Known) (given : List Given) (one : Given) → Covers table (given ++ one ∷ []) → HasPlace table one.key
  last_has_place table given one room =
      place_by table.most_names (length (names_at table one.key)) (length given) (capacity_at table one.key)
      (let h = room.each one.key (among given one) in grind (arith, common_steps, h))

  less : (most n m r c d : ℕ) → min most (n + (r + 1)) ≤ c → m ≤ n + 1 → c ≤ d → min most (m + r) ≤ d
  less most n m r c d room more capacity = omega (arith, room, more, capacity)

  -- once it has it, there is room for the others
  pub rest_is_covered : (table after : Known) (given : List Given) (one : Given) → Covers table (given ++ one ∷ []) → after.most_names ≡ table.most_names
      → ((k : Key) → length (names_at after k) ≤ length (names_at table k) + 1) → ((k : Key) → capacity_at table k ≤ capacity_at after k) → Covers after given
  rest_is_covered table after given one room most more capacity = record {
    each = λ k there.
        let h : min table.most_names (length (names_at table k) + (length given + 1)) ≤ capacity_at table k =
        (let r = room.each k (still given one k there) in grind (arith, common_steps, r)) in
        rw most (less table.most_names (length (names_at table k)) (length (names_at after k)) (length given) (capacity_at table k) (capacity_at after k) h (more k) (capacity k));
  }

longer_by : (b : Bool) (seen : List Key) (key : Key) → length seen ≤ length (if b then seen else seen ++ key ∷ [])
longer_by true seen key = omega arith
longer_by false seen key = grind (arith, common_steps)

-- no object goes
pub entered_more : (seen keys : List Key) → length seen ≤ length (entered seen keys)
entered_more seen [] = omega arith
entered_more seen (key ∷ before) = let h = entered_more seen before in let g = longer_by (list_any (ghosts.eq key) (entered seen before)) (entered seen before) key in omega (arith, h, g)

-- the keys that stand behind are entered first
pub entered_first : (seen keys done : List Key) → entered seen (keys ++ done) ≡ entered (entered seen done) keys
entered_first seen [] done = refl
entered_first seen (key ∷ keys) done = ap (λ now. put_new ghosts.eq now key) (entered_first seen keys done)

past_by : (b : Bool) (seen : List Key) (key : Key) (limit : ℕ) → b ≡ false → length seen ≡ limit → length (if b then seen else seen ++ key ∷ []) ≤ limit → ⊥
past_by true seen key limit new here fits = let wrong : true ≡ false = new in cc
past_by false seen key limit new here fits = grind (arith, common_steps, here, fits)

-- a new key does not fit where the limit is reached
pub past_limit : (seen : List Key) (key : Key) (limit : ℕ) → list_any (ghosts.eq key) seen ≡ false → length seen ≡ limit → length (put_new ghosts.eq seen key) ≤ limit → ⊥
past_limit seen key limit new here fits = past_by (list_any (ghosts.eq key) seen) seen key limit new here fits

-- the next key fits where all fit
pub next_fits : (seen now all left keys done : List Key) (key : Key) (most limit : ℕ) → now ≡ entered seen done → all ≡ left ++ done → left ≡ keys ++ key ∷ [] → limit ≡ most
    → length (entered seen all) ≤ most → length (put_new ghosts.eq now key) ≤ limit
next_fits seen now all left keys done key most limit is_now is_all is_left same fits =
    let order : all ≡ keys ++ key ∷ done = is_all ∙ ap (λ l. l ++ done) is_left ∙ append_assoc keys (key ∷ []) done in
    let whole : entered seen all ≡ entered (put_new ghosts.eq (entered seen done) key) keys = ap (entered seen) order ∙ entered_first seen keys (key ∷ done) in
    let bound : length (entered (put_new ghosts.eq (entered seen done) key) keys) ≤ most = subst (λ l. length l ≤ most) whole fits in
    let more = entered_more (put_new ghosts.eq (entered seen done) key) keys in
    rw is_now (rw same (omega (arith, bound, more)))

-- so many acts come before the next one
pub turned_short : (i : ℕ) (acts before : List Act) → length (reverse (take i acts) ++ before) ≤ length before + length acts
turned_short i acts before = grind (arith, common_steps)

-- with the next act it stands before those so far
pub turned_next : (i : ℕ) (acts before : List Act) (act : Act) → i < length acts → act ≡ get_or acts i act → act ∷ (reverse (take i acts) ++ before) ≡ reverse (take (i + 1) acts) ++ before
turned_next i acts before act inside is =
    ap (λ all. all ++ before) (sym (reverse-append (take i acts) (act ∷ [])))
    ∙ ap (λ all. reverse all ++ before) (sym (take_more acts i act inside ∙ ap (λ a. take i acts ++ a ∷ []) (sym is)))
