-- Tables that are filled row by row say what the rows say, and so what the acts say.
use Rattle.std.proofs.Common.{◌≡◌, ◌∙◌, refl, sym, ap, subst, ℕ, zero, suc, Bool, true, false, List, [], ◌∷◌, ◌++◌, map, take, length, Option, Some, None, arith, ◌⊎◌, inl, inr}
use Rattle.std.specs.Prelude.{◌==◌, ◌||◌, fold, filter, if◌then◌else◌, unwrap_or, nat_eq, nat_le}
use Rattle.std.specs.List.{list_any}
use Rattle.std.specs.Cmp.Lexicographic.{pointwise}
use Rattle.std.proofs.lemmas.Bool.Decides.{nat_tests}
use Rattle.std.proofs.lemmas.Grind.{fold-append, flat_map-append}
use Rattle.std.proofs.lemmas.List.{append-nil, take-take}
use Rattle.flow_base.specs.declared.types.FileId.{FileId}
use Rattle.flow_base.specs.declared.types.Key.{Key}
use Rattle.flow_base.specs.contracts.types.KeyPartialEq.TheImpl.{ghosts}
use Rattle.flow_base.specs.contracts.types.FileIdPartialEq.TheImpl.{ghosts as files}
use Rattle.acts.specs.declared.act.Act.{Act}
use Rattle.acts.specs.declared.held.Held.{Held as AHeld}
use Rattle.acts.specs.Holding.{holds, is_at}
use Rattle.acts.specs.Holding as acts
use Rattle.acts.specs.Keys.{names_of, with_name, MOST_NAMES}
use Rattle.acts.specs.Standing.{standing}
use Rattle.proc_table.specs.declared.life.Life.{Life as ALife}
use Rattle.proc_table.specs.Table.{Table as Procs, StandsFor as LivesAs, at, standing_of}
use Rattle.fd_table.specs.Table.{Table as Fds, HoldsAs, AddressesAs, held_at, address_at}
use Rattle.entity_names.specs.Known.{Known, NamesAs}
use Rattle.row_codec.specs.declared.rows.StoreRow.{StoreRow}
use Rattle.row_codec.specs.declared.rows.StoreRow.TheVariants.{Name, Life, Held, Address, Born}
use Rattle.store_check.specs.Store.{last_found, newer, life_in, life_of}
use Rattle.stored.specs.Words.{Holding, holding_with, nothing_held, goes_on, held_of, address_in, address_of, born_in, born_of, pairs_in, name_in, texts_of}
use Rattle.stored.specs.Filling.{HasLives, HasHeld, HasAddresses}
use Rattle.stored.proofs.HeldLaws.{held_life}

found_push : {A : Type 0} (here : StoreRow → Option A) (rows : List StoreRow) (row : StoreRow) → last_found here (rows ++ row ∷ []) ≡ newer (last_found here rows) (here row)
found_push {A} here rows row = fold-append (λ (found : Option A) (r : StoreRow). newer found (here r)) None rows (row ∷ [])

turned : (a b : ℕ) → (a == b) ≡ (b == a)
turned a b = grind (arith, nat_tests)

chosen : {A : Type 0} (b : Bool) (a : A) (o : Option A) → (if b then Some a else o) ≡ newer o (if b then Some a else None)
chosen true a o = refl
chosen false a o = refl

-- ---- lives

-- a put makes a table have one more Life row
pub lives_put : (old new : Procs) (rows : List StoreRow) (q : ℕ) (l : ALife) → ((p : ℕ) → at new p ≡ (if p == q then Some l else at old p)) → HasLives old rows → HasLives new (rows ++ Life q l ∷ [])
lives_put old new rows q l is has = record {
  each = λ p. is p ∙ ap (λ (b : Bool). if b then Some l else at old p) (turned p q) ∙ ap (λ (o : Option ALife). if q == p then Some l else o) (has.each p) ∙ chosen (q == p) l (life_of p rows) ∙ sym (found_push (life_in p) rows (Life q l));
}

-- and another row leaves it
pub lives_pass : (table : Procs) (rows : List StoreRow) (row : StoreRow) → ((p : ℕ) → life_in p row ≡ None) → HasLives table rows → HasLives table (rows ++ row ∷ [])
lives_pass table rows row none has = record { each = λ p. has.each p ∙ sym (found_push (life_in p) rows row ∙ ap (newer (life_of p rows)) (none p)) }

pub lives_restored : (table : Procs) (rows : List StoreRow) (acts : List Act) → HasLives table rows → ((p : ℕ) → standing_of (life_of p rows) ≡ standing acts p) → LivesAs table acts
lives_restored table rows acts has is = record { each = λ p. ap standing_of (has.each p) ∙ is p }

-- ---- descriptors

held_push : (p n : ℕ) (rows : List StoreRow) (row : StoreRow) → held_of p n (rows ++ row ∷ []) ≡ (holding_with p n (fold (holding_with p n) nothing_held rows) row).held
held_push p n rows row = ap (λ (h : Holding). h.held) (fold-append (holding_with p n) nothing_held rows (row ∷ []))

held_if : (b : Bool) (h : Holding) (v : Option AHeld) → (if b then v else h.held) ≡ (if b then record { life = h.life; held = v } else h).held
held_if true h v = refl
held_if false h v = refl

-- a descriptor that is set or closed makes the table have one more Held row
pub held_set : (old new : Fds) (rows : List StoreRow) (q m : ℕ) (v : Option AHeld) → ((p n : ℕ) → held_at new p n ≡ (if is_at q m p n then v else held_at old p n)) → HasHeld old rows → HasHeld new (rows ++ Held q m v ∷ [])
held_set old new rows q m v is has = record {
  each = λ p n. is p n ∙ ap (λ (o : Option AHeld). if is_at q m p n then v else o) (has.each p n) ∙ held_if (is_at q m p n) (fold (holding_with p n) nothing_held rows) v ∙ sym (held_push p n rows (Held q m v));
}

life_if : (b : Bool) (h : Holding) (l : ALife) → (if b then (if goes_on h.life l then h.held else None) else h.held) ≡ (if b then record { life = Some l; held = if goes_on h.life l then h.held else None } else h).held
life_if true h l = refl
life_if false h l = refl

life_push : (p n : ℕ) (rows : List StoreRow) (q : ℕ) (l : ALife) → held_of p n (rows ++ Life q l ∷ []) ≡ (if q == p then (if goes_on (life_of p rows) l then held_of p n rows else None) else held_of p n rows)
life_push p n rows q l =
    held_push p n rows (Life q l) ∙ sym (life_if (q == p) (fold (holding_with p n) nothing_held rows) l)
    ∙ ap (λ (o : Option ALife). if q == p then (if goes_on o l then held_of p n rows else None) else held_of p n rows) (held_life p n rows)

same_pid : (q p : ℕ) → (q == p) ≡ true → q ≡ p
same_pid q p is = grind (arith, nat_tests)

clear_case : (b : Bool) (q p : ℕ) (l : ALife) (rows : List StoreRow) (held : Option AHeld) → (q == p) ≡ b → goes_on (life_of q rows) l ≡ false → (if b then None else held) ≡ (if b then (if goes_on (life_of p rows) l then held else None) else held)
clear_case true q p l rows held is stop = sym (ap (λ (x : Bool). if x then held else None) (subst (λ (x : ℕ). goes_on (life_of x rows) l ≡ false) (same_pid q p is) stop))
clear_case false q p l rows held is stop = refl

stay_case : (b : Bool) (q p : ℕ) (l : ALife) (rows : List StoreRow) (held : Option AHeld) → (q == p) ≡ b → goes_on (life_of q rows) l ≡ true → held ≡ (if b then (if goes_on (life_of p rows) l then held else None) else held)
stay_case true q p l rows held is keep = sym (ap (λ (x : Bool). if x then held else None) (subst (λ (x : ℕ). goes_on (life_of x rows) l ≡ true) (same_pid q p is) keep))
stay_case false q p l rows held is keep = refl

-- a Life row that doesn't go on with the life before it, which the table of lives has: the pid is cleared
pub held_cleared : (procs : Procs) (old new : Fds) (rows : List StoreRow) (q : ℕ) (l : ALife) → HasLives procs rows → goes_on (at procs q) l ≡ false → ((p n : ℕ) → held_at new p n ≡ (if q == p then None else held_at old p n)) → HasHeld old rows → HasHeld new (rows ++ Life q l ∷ [])
held_cleared procs old new rows q l lives stop is has =
    let stops : goes_on (life_of q rows) l ≡ false = ap (λ (o : Option ALife). goes_on o l) (sym (lives.each q)) ∙ stop in
    record {
      each = λ p n. is p n ∙ ap (λ (o : Option AHeld). if q == p then None else o) (has.each p n) ∙ clear_case (q == p) q p l rows (held_of p n rows) refl stops ∙ sym (life_push p n rows q l);
    }

-- and one that does leaves it
pub held_stays : (procs : Procs) (table : Fds) (rows : List StoreRow) (q : ℕ) (l : ALife) → HasLives procs rows → goes_on (at procs q) l ≡ true → HasHeld table rows → HasHeld table (rows ++ Life q l ∷ [])
held_stays procs table rows q l lives keep has =
    let goes : goes_on (life_of q rows) l ≡ true = ap (λ (o : Option ALife). goes_on o l) (sym (lives.each q)) ∙ keep in
    record { each = λ p n. has.each p n ∙ stay_case (q == p) q p l rows (held_of p n rows) refl goes ∙ sym (life_push p n rows q l) }

-- and so does a row of another kind
pub held_pass : (table : Fds) (rows : List StoreRow) (row : StoreRow) → ((p n : ℕ) (h : Holding) → holding_with p n h row ≡ h) → HasHeld table rows → HasHeld table (rows ++ row ∷ [])
held_pass table rows row same has = record { each = λ p n. has.each p n ∙ sym (held_push p n rows row ∙ ap (λ (h : Holding). h.held) (same p n (fold (holding_with p n) nothing_held rows))) }

pub held_restored : (table : Fds) (rows : List StoreRow) (acts : List Act) → HasHeld table rows → ((p n : ℕ) → held_of p n rows ≡ holds acts p n) → HoldsAs table acts
held_restored table rows acts has is = record { each = λ p n. has.each p n ∙ is p n }

-- ---- addresses and births

pub addresses_put : (old new : Fds) (rows : List StoreRow) (a : ℕ) (bytes : List ℕ) → ((s : ℕ) → address_at new s ≡ (if s == a then Some bytes else address_at old s)) → HasAddresses old rows → HasAddresses new (rows ++ Address a bytes ∷ [])
addresses_put old new rows a bytes is has = record {
  each = λ s. is s ∙ ap (λ (b : Bool). if b then Some bytes else address_at old s) (turned s a) ∙ ap (λ (o : Option (List ℕ)). if a == s then Some bytes else o) (has.each s) ∙ chosen (a == s) bytes (address_of s rows) ∙ sym (found_push (address_in s) rows (Address a bytes));
}

pub addresses_pass : (table : Fds) (rows : List StoreRow) (row : StoreRow) → ((s : ℕ) → address_in s row ≡ None) → HasAddresses table rows → HasAddresses table (rows ++ row ∷ [])
addresses_pass table rows row none has = record { each = λ s. has.each s ∙ sym (found_push (address_in s) rows row ∙ ap (newer (address_of s rows)) (none s)) }

pub addresses_restored : (table : Fds) (rows : List StoreRow) (taken : List Act) → HasAddresses table rows → ((s : ℕ) → address_of s rows ≡ acts.address_of taken s) → AddressesAs table taken
addresses_restored table rows taken has is = record { each = λ s. has.each s ∙ is s }

-- ---- births: a table of counts by file number, none is 0

-- the count of a file number is set, as its last Born row says
pub births_put : (old new : FileId → ℕ) (rows : List StoreRow) (g : FileId) (n : ℕ) → ((f : FileId) → new f ≡ (if files.eq f g then n else old f)) → ((f : FileId) → old f ≡ unwrap_or (born_of f rows) 0)
    → (f : FileId) → new f ≡ unwrap_or (born_of f (rows ++ Born g n ∷ [])) 0
births_put old new rows g n is has f =
    is f ∙ ap (λ (x : ℕ). if files.eq f g then n else x) (has f) ∙ counted (files.eq f g) n (born_of f rows)
    ∙ ap (λ (o : Option ℕ). unwrap_or o 0) (sym (found_push (born_in f) rows (Born g n)))
  where
    counted : (b : Bool) (m : ℕ) (o : Option ℕ) → (if b then m else unwrap_or o 0) ≡ unwrap_or (newer o (if b then Some m else None)) 0
    counted true m o = refl
    counted false m o = refl

pub births_pass : (counts : FileId → ℕ) (rows : List StoreRow) (row : StoreRow) → ((f : FileId) → born_in f row ≡ None) → ((f : FileId) → counts f ≡ unwrap_or (born_of f rows) 0) → (f : FileId) → counts f ≡ unwrap_or (born_of f (rows ++ row ∷ [])) 0
births_pass counts rows row none has f = has f ∙ ap (λ (o : Option ℕ). unwrap_or o 0) (sym (found_push (born_in f) rows row ∙ ap (newer (born_of f rows)) (none f)))

-- ---- names

texts_if : (k : Key) (p : Key × List ℕ) (pairs : List (Key × List ℕ)) (b : Bool) → map (λ (q : Key × List ℕ). q.1) (filter (λ q. ghosts.eq q.0 k) pairs) ≡ texts_of k pairs
    → map (λ (q : Key × List ℕ). q.1) (if b then p ∷ filter (λ q. ghosts.eq q.0 k) pairs else filter (λ q. ghosts.eq q.0 k) pairs) ≡ (if b then p.1 ∷ [] else []) ++ texts_of k pairs
texts_if k p pairs true rest = ap (λ (l : List (List ℕ)). p.1 ∷ l) rest
texts_if k p pairs false rest = rest

texts_same : (k : Key) (pairs : List (Key × List ℕ)) → map (λ p. p.1) (filter (λ p. ghosts.eq p.0 k) pairs) ≡ texts_of k pairs
texts_same k [] = refl
texts_same k (p ∷ pairs) = texts_if k p pairs (ghosts.eq p.0 k) (texts_same k pairs)

-- texts that are each new when they come, and not too many, in each prefix of the list
abbrev AreNames : List (List ℕ) → Type 0
AreNames ns = (n : ℕ) → fold with_name [] (take n ns) ≡ take n ns

take_push : {A : Type 0} (n : ℕ) (xs : List A) (y : A) → (take n (xs ++ y ∷ []) ≡ take n xs) ⊎ (take n (xs ++ y ∷ []) ≡ xs ++ y ∷ [])
take_push zero xs y = inl refl
take_push (suc zero) [] y = inr refl
take_push (suc (suc n)) [] y = inr refl
take_push {A} (suc n) (x ∷ xs) y = elim (take_push n xs y) [ inl e ↦ inl (ap (λ (l : List A). x ∷ l) e) | inr e ↦ inr (ap (λ (l : List A). x ∷ l) e) ]

take_whole : {A : Type 0} (xs : List A) → take (length xs) xs ≡ xs
take_whole [] = refl
take_whole {A} (x ∷ xs) = ap (λ (l : List A). x ∷ l) (take_whole xs)

names_whole : (ns : List (List ℕ)) → AreNames ns → fold with_name [] ns ≡ ns
names_whole ns are = ap (fold with_name []) (sym (take_whole ns)) ∙ are (length ns) ∙ take_whole ns

name_pushed : (ns : List (List ℕ)) (t : List ℕ) → AreNames ns → (b : Bool) → (list_any (pointwise nat_eq t) ns || nat_le MOST_NAMES (length ns)) ≡ b → AreNames (if b then ns else ns ++ t ∷ [])
name_pushed ns t are true is = are
name_pushed ns t are false is =
    let all : fold with_name [] (ns ++ t ∷ []) ≡ ns ++ t ∷ [] =
    fold-append with_name [] ns (t ∷ []) ∙ ap (λ (l : List (List ℕ)). with_name l t) (names_whole ns are) ∙ ap (λ (b : Bool). if b then ns else ns ++ t ∷ []) is in
    λ n. elim (take_push n ns t) [
      | inl e ↦ ap (fold with_name []) e ∙ are n ∙ sym e
      | inr e ↦ ap (fold with_name []) e ∙ all ∙ sym e
    ]

names_made : (ns texts : List (List ℕ)) → AreNames ns → AreNames (fold with_name ns texts)
names_made ns [] are = are
names_made ns (t ∷ texts) are = names_made (with_name ns t) texts (name_pushed ns t are (list_any (pointwise nat_eq t) ns || nat_le MOST_NAMES (length ns)) refl)

no_names : AreNames []
no_names zero = refl
no_names (suc n) = refl

-- a table that was given the names of the rows, in their order, has the names that were given by the acts
pub names_restored : (table : Known) (rows : List StoreRow) (given : List (Key × List ℕ)) → NamesAs table (pairs_in rows) → ((k : Key) → texts_of k (pairs_in rows) ≡ take table.most_names (names_of k given)) → NamesAs table given
names_restored table rows given has is = record {
  each = λ k.
      let texts = map (λ (p : Key × List ℕ). p.1) (filter (λ (p : Key × List ℕ). ghosts.eq p.0 k) given) in
      let again : names_of k (pairs_in rows) ≡ take table.most_names (names_of k given) =
      ap (fold with_name []) (texts_same k (pairs_in rows) ∙ is k) ∙ names_made [] texts no_names table.most_names in
      has.each k ∙ ap (take table.most_names) again ∙ take-take table.most_names table.most_names (names_of k given) (omega arith);
}

-- a name that is added makes the table have one more Name row
pub names_put : (table : Known) (rows : List StoreRow) (k : Key) (t : List ℕ) → NamesAs table (pairs_in rows ++ (k, t) ∷ []) → NamesAs table (pairs_in (rows ++ Name k t ∷ []))
names_put table rows k t has = subst (NamesAs table) (sym (flat_map-append name_in rows (Name k t ∷ []))) has

pub names_pass : (table : Known) (rows : List StoreRow) (row : StoreRow) → name_in row ≡ [] → NamesAs table (pairs_in rows) → NamesAs table (pairs_in (rows ++ row ∷ []))
names_pass table rows row none has = subst (NamesAs table) (sym (flat_map-append name_in rows (row ∷ []) ∙ ap (λ (l : List (Key × List ℕ)). pairs_in rows ++ (l ++ [])) none ∙ append-nil (pairs_in rows))) has
