-- What is filled has one more row, and stands for the acts of a moment once it has all.
use Rattle.std.proofs.Common.{◌≡◌, ◌∙◌, ◌≤◌, ◌+◌, ◌<◌, refl, sym, ap, subst, ℕ, Bool, true, false, List, [], ◌∷◌, ◌++◌, take, length, Option, Some, None, arith, drop, length-append, get_or}
use Rattle.std.specs.Prelude.{◌==◌, ◌&&◌, not, fold, if◌then◌else◌, nat_eq}
use Rattle.std.specs.Map.{lookup}
use Rattle.std.specs.List.{list_any}
use Rattle.std.proofs.lemmas.Grind.{common_steps, fold-append, flat_map-append}
use Rattle.std.proofs.lemmas.List.{append-nil, take_more, take-append-drop}
use Rattle.flow_base.specs.declared.limits.Limits.{Limits}
use Rattle.flow_base.specs.declared.types.FileId.{FileId}
use Rattle.flow_base.specs.declared.types.Key.{Key}
use Rattle.flow_base.specs.contracts.types.KeyPartialEq.TheImpl.{ghosts}
use Rattle.flow_base.specs.contracts.types.FileIdPartialEq.TheImpl.{ghosts as files}
use Rattle.acts.specs.declared.act.Act.{Act}
use Rattle.acts.specs.declared.held.Held.{Held as AHeld}
use Rattle.acts.specs.declared.link.Link.{Link}
use Rattle.acts.specs.declared.look_back.lives.Standing.{Standing}
use Rattle.acts.specs.Flows.{acts_of, objects, with_ends, link_of}
use Rattle.acts.specs.Holding.{is_at}
use Rattle.acts.specs.Keys.{put_new, all_given, names_of}
use Rattle.proc_table.specs.declared.life.Life.{Life as ALife}
use Rattle.proc_table.specs.Table.{at, standing_of, StandsFor as LivesAs}
use Rattle.fd_table.specs.Table.{HoldsAs, AddressesAs, held_at, address_at}
use Rattle.entity_names.specs.Known.{Known, NamesAs, names_at}
use Rattle.row_codec.specs.declared.rows.KeptRow.{KeptRow}
use Rattle.row_codec.specs.declared.rows.ExtendRow.{ExtendRow}
use Rattle.row_codec.specs.declared.state.StateRow.{StateRow}
use Rattle.row_codec.specs.declared.rows.StoreRow.{StoreRow}
use Rattle.row_codec.specs.declared.rows.StoreRow.TheVariants.{Entity, Kept, Extend, Name, Life, Held, Address, Born, Waiting, State}
use Rattle.store_check.specs.Store.{last_found, newer, key_in, keys}
use Rattle.stored.specs.Moment.{Moment}
use Rattle.stored.specs.Words.{born_in, goes_on, name_in, pairs_in, state_in, state_of}
use Rattle.stored.specs.Filling.{HasLives, HasHeld, HasAddresses}
use Rattle.stored.proofs.Restores as restores
use Rattle.flow_events.specs.declared.tables.Tables.{Tables}
use Rattle.flow_events.specs.Standing.{StandsFor}
use Rattle.flow_events.specs.declared.filled.Filled.{Filled}
use Rattle.flow_events.specs.Births.{born_at, BornAs}
use Rattle.flow_events.specs.Filling.{HasRows, HasBirths, IsWithin, SayTables, Takes, flows_in, acts_in, listed}

-- ---- what a row leaves

found_push : {A : Type 0} (here : StoreRow → Option A) (rows : List StoreRow) (row : StoreRow) → last_found here (rows ++ row ∷ []) ≡ newer (last_found here rows) (here row)
found_push {A} here rows row = fold-append (λ (found : Option A) (r : StoreRow). newer found (here r)) None rows (row ∷ [])

keys_pass : (have : List Key) (rows : List StoreRow) (row : StoreRow) → key_in row ≡ [] → have ≡ listed (keys rows) → have ≡ listed (keys (rows ++ row ∷ []))
keys_pass have rows row none is = is ∙ ap listed (sym (flat_map-append key_in rows (row ∷ []) ∙ ap (λ (l : List Key). keys rows ++ (l ++ [])) none ∙ append-nil (keys rows)))

state_pass : (rows : List StoreRow) (row : StoreRow) → state_in row ≡ None → state_of rows ≡ state_of (rows ++ row ∷ [])
state_pass rows row none = sym (found_push state_in rows row ∙ ap (newer (state_of rows)) none)

flows_pass : (n : ℕ) (rows : List StoreRow) (row : StoreRow) → state_in row ≡ None → n ≡ flows_in (state_of rows) → n ≡ flows_in (state_of (rows ++ row ∷ []))
flows_pass n rows row none is = is ∙ ap flows_in (state_pass rows row none)

acts_pass : (n : ℕ) (rows : List StoreRow) (row : StoreRow) → state_in row ≡ None → n ≡ acts_in (state_of rows) → n ≡ acts_in (state_of (rows ++ row ∷ []))
acts_pass n rows row none is = is ∙ ap acts_in (state_pass rows row none)

-- ---- no row

never_begun : (life : Option ALife) → (standing_of life).beginnings ≡ 0 → life ≡ None
never_begun None none = refl
never_begun (Some life) none = absurd (let e : life.life + 1 ≡ 0 = none in omega (arith, e))

-- tables of no acts have what no rows say
pub nothing_filled : (filled : Filled) → LivesAs filled.procs [] → HoldsAs filled.fds [] → AddressesAs filled.fds [] → BornAs filled.births [] → NamesAs filled.entities [] → filled.entities.keys ≡ [] → filled.flows ≡ 0 → filled.acts ≡ 0 → HasRows filled []
nothing_filled filled lives held addresses births names keys flows acts = record {
  lives = record { each = λ p. never_begun (at filled.procs p) (ap (λ (s : Standing). s.beginnings) (lives.each p)) };
  held = record { each = held.each };
  addresses = record { each = addresses.each };
  births = record { each = births.each };
  names = names;
  keys_are = keys;
  flows = flows;
  acts = acts;
}

-- ---- one more row

pub key_filled : (old new : Filled) (key : Key) → new.procs ≡ old.procs → new.fds ≡ old.fds → new.births ≡ old.births → new.flows ≡ old.flows → new.acts ≡ old.acts
    → new.entities.keys ≡ put_new ghosts.eq old.entities.keys key → new.entities.most_names ≡ old.entities.most_names → ((k : Key) → names_at new.entities k ≡ names_at old.entities k) → Takes old new (Entity key)
key_filled old new key procs fds births flows acts is most names rows has = record {
  lives = subst (λ t. HasLives t (rows ++ Entity key ∷ [])) (sym procs) (restores.lives_pass old.procs rows (Entity key) (λ p. refl) has.lives);
  held = subst (λ t. HasHeld t (rows ++ Entity key ∷ [])) (sym fds) (restores.held_pass old.fds rows (Entity key) (λ p n h. refl) has.held);
  addresses = subst (λ t. HasAddresses t (rows ++ Entity key ∷ [])) (sym fds) (restores.addresses_pass old.fds rows (Entity key) (λ s. refl) has.addresses);
  births = subst (λ t. HasBirths t (rows ++ Entity key ∷ [])) (sym births) (record { each = restores.births_pass (born_at old.births) rows (Entity key) (λ f. refl) has.births.each });
  names = restores.names_pass new.entities rows (Entity key) refl (record { each = λ k. names k ∙ has.names.each k ∙ ap (λ m. take m (names_of k (pairs_in rows))) (sym most) });
  keys_are = is ∙ ap (λ l. put_new ghosts.eq l key) has.keys_are ∙ sym (ap listed (flat_map-append key_in rows (Entity key ∷ [])) ∙ fold-append (put_new ghosts.eq) [] (keys rows) (key ∷ []));
  flows = flows_pass new.flows rows (Entity key) refl (flows ∙ has.flows);
  acts = acts_pass new.acts rows (Entity key) refl (acts ∙ has.acts);
}

pub name_filled : (old new : Filled) (key : Key) (text : List ℕ) → new.procs ≡ old.procs → new.fds ≡ old.fds → new.births ≡ old.births → new.flows ≡ old.flows → new.acts ≡ old.acts
    → new.entities.keys ≡ old.entities.keys → ((given : List (Key × List ℕ)) → NamesAs old.entities given → NamesAs new.entities (given ++ (key, text) ∷ [])) → Takes old new (Name key text)
name_filled old new key text procs fds births flows acts same next rows has = record {
  lives = subst (λ t. HasLives t (rows ++ Name key text ∷ [])) (sym procs) (restores.lives_pass old.procs rows (Name key text) (λ p. refl) has.lives);
  held = subst (λ t. HasHeld t (rows ++ Name key text ∷ [])) (sym fds) (restores.held_pass old.fds rows (Name key text) (λ p n h. refl) has.held);
  addresses = subst (λ t. HasAddresses t (rows ++ Name key text ∷ [])) (sym fds) (restores.addresses_pass old.fds rows (Name key text) (λ s. refl) has.addresses);
  births = subst (λ t. HasBirths t (rows ++ Name key text ∷ [])) (sym births) (record { each = restores.births_pass (born_at old.births) rows (Name key text) (λ f. refl) has.births.each });
  names = restores.names_put new.entities rows key text (next (pairs_in rows) has.names);
  keys_are = keys_pass new.entities.keys rows (Name key text) refl (same ∙ has.keys_are);
  flows = flows_pass new.flows rows (Name key text) refl (flows ∙ has.flows);
  acts = acts_pass new.acts rows (Name key text) refl (acts ∙ has.acts);
}

life_held : (old new : Filled) (pid : ℕ) (life : ALife) (rows : List StoreRow) (b : Bool) → goes_on (at old.procs pid) life ≡ b → HasRows old rows
    → ((p n : ℕ) → held_at new.fds p n ≡ (if not b && pid == p then None else held_at old.fds p n)) → HasHeld new.fds (rows ++ Life pid life ∷ [])
life_held old new pid life rows true goes has held = restores.held_stays old.procs new.fds rows pid life has.lives goes (record { each = λ p n. held p n ∙ has.held.each p n })
life_held old new pid life rows false goes has held = restores.held_cleared old.procs old.fds new.fds rows pid life has.lives goes held has.held

pub life_filled : (old new : Filled) (pid : ℕ) (life : ALife) → new.entities ≡ old.entities → new.births ≡ old.births → new.flows ≡ old.flows → new.acts ≡ old.acts
    → ((p : ℕ) → at new.procs p ≡ (if p == pid then Some life else at old.procs p))
    → ((p n : ℕ) → held_at new.fds p n ≡ (if not (goes_on (at old.procs pid) life) && pid == p then None else held_at old.fds p n))
    → new.fds.addresses ≡ old.fds.addresses → Takes old new (Life pid life)
life_filled old new pid life entities births flows acts put held addresses rows has = record {
  lives = restores.lives_put old.procs new.procs rows pid life put has.lives;
  held = life_held old new pid life rows (goes_on (at old.procs pid) life) refl has held;
  addresses = restores.addresses_pass new.fds rows (Life pid life) (λ s. refl) (record { each = λ s. ap (λ all. lookup (nat_eq s) all) addresses ∙ has.addresses.each s });
  births = subst (λ t. HasBirths t (rows ++ Life pid life ∷ [])) (sym births) (record { each = restores.births_pass (born_at old.births) rows (Life pid life) (λ f. refl) has.births.each });
  names = subst (λ t. NamesAs t (pairs_in (rows ++ Life pid life ∷ []))) (sym entities) (restores.names_pass old.entities rows (Life pid life) refl has.names);
  keys_are = keys_pass new.entities.keys rows (Life pid life) refl (ap (λ (e : Known). e.keys) entities ∙ has.keys_are);
  flows = flows_pass new.flows rows (Life pid life) refl (flows ∙ has.flows);
  acts = acts_pass new.acts rows (Life pid life) refl (acts ∙ has.acts);
}

pub held_filled : (old new : Filled) (pid fd : ℕ) (held : Option AHeld) → new.procs ≡ old.procs → new.entities ≡ old.entities → new.births ≡ old.births → new.flows ≡ old.flows → new.acts ≡ old.acts
    → ((p n : ℕ) → held_at new.fds p n ≡ (if is_at pid fd p n then held else held_at old.fds p n)) → new.fds.addresses ≡ old.fds.addresses → Takes old new (Held pid fd held)
held_filled old new pid fd held procs entities births flows acts set addresses rows has = record {
  lives = subst (λ t. HasLives t (rows ++ Held pid fd held ∷ [])) (sym procs) (restores.lives_pass old.procs rows (Held pid fd held) (λ p. refl) has.lives);
  held = restores.held_set old.fds new.fds rows pid fd held set has.held;
  addresses = restores.addresses_pass new.fds rows (Held pid fd held) (λ s. refl) (record { each = λ s. ap (λ all. lookup (nat_eq s) all) addresses ∙ has.addresses.each s });
  births = subst (λ t. HasBirths t (rows ++ Held pid fd held ∷ [])) (sym births) (record { each = restores.births_pass (born_at old.births) rows (Held pid fd held) (λ f. refl) has.births.each });
  names = subst (λ t. NamesAs t (pairs_in (rows ++ Held pid fd held ∷ []))) (sym entities) (restores.names_pass old.entities rows (Held pid fd held) refl has.names);
  keys_are = keys_pass new.entities.keys rows (Held pid fd held) refl (ap (λ (e : Known). e.keys) entities ∙ has.keys_are);
  flows = flows_pass new.flows rows (Held pid fd held) refl (flows ∙ has.flows);
  acts = acts_pass new.acts rows (Held pid fd held) refl (acts ∙ has.acts);
}

pub address_filled : (old new : Filled) (act : ℕ) (bytes : List ℕ) → new.procs ≡ old.procs → new.entities ≡ old.entities → new.births ≡ old.births → new.flows ≡ old.flows → new.acts ≡ old.acts
    → ((p n : ℕ) → held_at new.fds p n ≡ held_at old.fds p n) → ((s : ℕ) → address_at new.fds s ≡ (if s == act then Some bytes else address_at old.fds s)) → Takes old new (Address act bytes)
address_filled old new act bytes procs entities births flows acts same put rows has = record {
  lives = subst (λ t. HasLives t (rows ++ Address act bytes ∷ [])) (sym procs) (restores.lives_pass old.procs rows (Address act bytes) (λ p. refl) has.lives);
  held = restores.held_pass new.fds rows (Address act bytes) (λ p n h. refl) (record { each = λ p n. same p n ∙ has.held.each p n });
  addresses = restores.addresses_put old.fds new.fds rows act bytes put has.addresses;
  births = subst (λ t. HasBirths t (rows ++ Address act bytes ∷ [])) (sym births) (record { each = restores.births_pass (born_at old.births) rows (Address act bytes) (λ f. refl) has.births.each });
  names = subst (λ t. NamesAs t (pairs_in (rows ++ Address act bytes ∷ []))) (sym entities) (restores.names_pass old.entities rows (Address act bytes) refl has.names);
  keys_are = keys_pass new.entities.keys rows (Address act bytes) refl (ap (λ (e : Known). e.keys) entities ∙ has.keys_are);
  flows = flows_pass new.flows rows (Address act bytes) refl (flows ∙ has.flows);
  acts = acts_pass new.acts rows (Address act bytes) refl (acts ∙ has.acts);
}

pub births_filled : (old new : Filled) (file : FileId) (count : ℕ) → new.procs ≡ old.procs → new.fds ≡ old.fds → new.entities ≡ old.entities → new.flows ≡ old.flows → new.acts ≡ old.acts
    → ((f : FileId) → born_at new.births f ≡ (if files.eq f file then count else born_at old.births f)) → Takes old new (Born file count)
births_filled old new file count procs fds entities flows acts put rows has = record {
  lives = subst (λ t. HasLives t (rows ++ Born file count ∷ [])) (sym procs) (restores.lives_pass old.procs rows (Born file count) (λ p. refl) has.lives);
  held = subst (λ t. HasHeld t (rows ++ Born file count ∷ [])) (sym fds) (restores.held_pass old.fds rows (Born file count) (λ p n h. refl) has.held);
  addresses = subst (λ t. HasAddresses t (rows ++ Born file count ∷ [])) (sym fds) (restores.addresses_pass old.fds rows (Born file count) (λ s. refl) has.addresses);
  births = record { each = restores.births_put (born_at old.births) (born_at new.births) rows file count put has.births.each };
  names = subst (λ t. NamesAs t (pairs_in (rows ++ Born file count ∷ []))) (sym entities) (restores.names_pass old.entities rows (Born file count) refl has.names);
  keys_are = keys_pass new.entities.keys rows (Born file count) refl (ap (λ (e : Known). e.keys) entities ∙ has.keys_are);
  flows = flows_pass new.flows rows (Born file count) refl (flows ∙ has.flows);
  acts = acts_pass new.acts rows (Born file count) refl (acts ∙ has.acts);
}

pub counts_filled : (old new : Filled) (state : StateRow) → new ≡ record old { flows = state.flows; acts = state.acts } → Takes old new (State state)
counts_filled old new state is rows has = subst (λ (f : Filled). HasRows f (rows ++ State state ∷ [])) (sym is) (record {
  lives = restores.lives_pass old.procs rows (State state) (λ p. refl) has.lives;
  held = restores.held_pass old.fds rows (State state) (λ p n h. refl) has.held;
  addresses = restores.addresses_pass old.fds rows (State state) (λ s. refl) has.addresses;
  births = record { each = restores.births_pass (born_at old.births) rows (State state) (λ f. refl) has.births.each };
  names = restores.names_pass old.entities rows (State state) refl has.names;
  keys_are = keys_pass old.entities.keys rows (State state) refl has.keys_are;
  flows = sym (ap flows_in (found_push state_in rows (State state)));
  acts = sym (ap acts_in (found_push state_in rows (State state)));
})

pub passed : (filled : Filled) (row : StoreRow) → ((rows : List StoreRow) → HasLives filled.procs rows → HasLives filled.procs (rows ++ row ∷ [])) → ((rows : List StoreRow) → HasHeld filled.fds rows → HasHeld filled.fds (rows ++ row ∷ []))
    → ((rows : List StoreRow) → HasAddresses filled.fds rows → HasAddresses filled.fds (rows ++ row ∷ [])) → ((f : FileId) → born_in f row ≡ None) → name_in row ≡ [] → key_in row ≡ [] → state_in row ≡ None → Takes filled filled row
passed filled row lives held addresses births names key state rows has = record {
  lives = lives rows has.lives;
  held = held rows has.held;
  addresses = addresses rows has.addresses;
  births = record { each = restores.births_pass (born_at filled.births) rows row births has.births.each };
  names = restores.names_pass filled.entities rows row names has.names;
  keys_are = keys_pass filled.entities.keys rows row key has.keys_are;
  flows = flows_pass filled.flows rows row state has.flows;
  acts = acts_pass filled.acts rows row state has.acts;
}

-- a row that the tables don't need
pub kept_passed : (filled : Filled) (row : KeptRow) → Takes filled filled (Kept row)
kept_passed filled row = passed filled (Kept row) (λ rows. restores.lives_pass filled.procs rows (Kept row) (λ p. refl)) (λ rows. restores.held_pass filled.fds rows (Kept row) (λ p n h. refl))
    (λ rows. restores.addresses_pass filled.fds rows (Kept row) (λ s. refl)) (λ f. refl) refl refl refl

pub extend_passed : (filled : Filled) (row : ExtendRow) → Takes filled filled (Extend row)
extend_passed filled row = passed filled (Extend row) (λ rows. restores.lives_pass filled.procs rows (Extend row) (λ p. refl)) (λ rows. restores.held_pass filled.fds rows (Extend row) (λ p n h. refl))
    (λ rows. restores.addresses_pass filled.fds rows (Extend row) (λ s. refl)) (λ f. refl) refl refl refl

pub waiting_passed : (filled : Filled) (ms serial : ℕ) (closed : Bool) (lines : List (List ℕ)) → Takes filled filled (Waiting ms serial closed lines)
waiting_passed filled ms serial closed lines =
    let row = Waiting ms serial closed lines in
    passed filled row (λ rows. restores.lives_pass filled.procs rows row (λ p. refl)) (λ rows. restores.held_pass filled.fds rows row (λ p n h. refl))
    (λ rows. restores.addresses_pass filled.fds rows row (λ s. refl)) (λ f. refl) refl refl refl

-- ---- all rows

put_longer : (seen : List Key) (key : Key) (b : Bool) → length (if b then seen else seen ++ key ∷ []) ≤ length seen + 1
put_longer seen key true = omega arith
put_longer seen key false = grind (arith, common_steps)

no_longer : (seen all : List Key) → length (fold (put_new ghosts.eq) seen all) ≤ length seen + length all
no_longer seen [] = omega arith
no_longer seen (key ∷ all) =
    let rest = no_longer (put_new ghosts.eq seen key) all in
    let one = put_longer seen key (list_any (ghosts.eq key) seen) in
    omega (arith, rest, one)

keys_more : (rows more : List StoreRow) → keys (rows ++ more) ≡ keys rows ++ keys more
keys_more rows more = flat_map-append key_in rows more

one_key : (rows : List StoreRow) (row : StoreRow) → listed (keys (rows ++ row ∷ [])) ≡ fold (put_new ghosts.eq) (listed (keys rows)) (key_in row)
one_key rows row = ap listed (keys_more rows (row ∷ []) ∙ ap (λ (l : List Key). keys rows ++ l) (append-nil (key_in row))) ∙ fold-append (put_new ghosts.eq) [] (keys rows) (key_in row)

-- the keys of the next row fit, if all keys do
pub next_fits : (rows : List StoreRow) (i : ℕ) (row : StoreRow) (have : List Key) (limit : ℕ) → i < length rows → row ≡ get_or rows i row → have ≡ listed (keys (take i rows)) → length (keys rows) ≤ limit
    → length (fold (put_new ghosts.eq) have (key_in row)) ≤ limit
next_fits rows i row have limit inside is has fits =
    let next : take (i + 1) rows ≡ take i rows ++ row ∷ [] = take_more rows i row inside ∙ ap (λ r. take i rows ++ r ∷ []) (sym is) in
    let all : fold (put_new ghosts.eq) have (key_in row) ≡ listed (keys (take (i + 1) rows)) =
    ap (λ l. fold (put_new ghosts.eq) l (key_in row)) has ∙ sym (one_key (take i rows) row) ∙ ap (λ l. listed (keys l)) (sym next) in
    let short = no_longer [] (keys (take (i + 1) rows)) in
    let whole : keys rows ≡ keys (take (i + 1) rows) ++ keys (drop (i + 1) rows) = ap keys (sym (take-append-drop (i + 1) rows)) ∙ keys_more (take (i + 1) rows) (drop (i + 1) rows) in
    let parts : length (keys rows) ≡ length (keys (take (i + 1) rows)) + length (keys (drop (i + 1) rows)) = ap length whole ∙ length-append (keys (take (i + 1) rows)) (keys (drop (i + 1) rows)) in
    let same = ap length all in
    omega (arith, short, parts, same, fits)

-- the next row is taken
pub row_taken : (old new : Filled) (rows : List StoreRow) (i : ℕ) (row : StoreRow) → i < length rows → row ≡ get_or rows i row → HasRows old (take i rows) → Takes old new row → HasRows new (take (i + 1) rows)
row_taken old new rows i row inside is has takes =
    let next : take (i + 1) rows ≡ take i rows ++ row ∷ [] = take_more rows i row inside ∙ ap (λ r. take i rows ++ r ∷ []) (sym is) in
    subst (HasRows new) (sym next) (takes (take i rows) has)

-- ---- the objects of acts are each new when they come

put_listed : (seen : List Key) (key : Key) (b : Bool) → list_any (ghosts.eq key) seen ≡ b → listed seen ≡ seen → listed (if b then seen else seen ++ key ∷ []) ≡ (if b then seen else seen ++ key ∷ [])
put_listed seen key true there is = is
put_listed seen key false new is =
    fold-append (put_new ghosts.eq) [] seen (key ∷ []) ∙ ap (λ (l : List Key). put_new ghosts.eq l key) is ∙ ap (λ (b : Bool). if b then seen else seen ++ key ∷ []) new

ends_listed : (seen : List Key) (link : Option Link) → listed seen ≡ seen → listed (with_ends seen link) ≡ with_ends seen link
ends_listed seen None is = is
ends_listed seen (Some link) is =
    let first = put_new ghosts.eq seen link.from in
    put_listed first link.to (list_any (ghosts.eq link.to) first) refl (put_listed seen link.from (list_any (ghosts.eq link.from) seen) refl is)

objects_listed : (acts : List Act) → listed (objects acts) ≡ objects acts
objects_listed [] = refl
objects_listed (act ∷ before) = ends_listed (objects before) (link_of before act) (objects_listed before)

-- ---- the tables of a moment

pub tables_stand : (text : List ℕ → List ℕ) (limits : Limits) (tables : Tables) (filled : Filled) (rows : List StoreRow) (m : Moment)
    → tables.procs ≡ filled.procs → tables.fds ≡ filled.fds → tables.births ≡ filled.births → tables.entities ≡ filled.entities → tables.flows ≡ filled.flows → tables.acts ≡ filled.acts → tables.limits ≡ limits
    → HasRows filled rows → IsWithin limits filled → length (keys rows) ≤ limits.entities → SayTables text limits.names rows m → StandsFor text tables m.taken
tables_stand text limits tables filled rows m procs fds births entities flows acts same has within fits say =
    let known : filled.entities.keys ≡ keys rows = has.keys_are ∙ ap listed say.objects_are ∙ objects_listed (acts_of m.taken) ∙ sym say.objects_are in
    record {
      lives_are = subst (λ t. LivesAs t (acts_of m.taken)) (sym procs) (restores.lives_restored filled.procs rows (acts_of m.taken) has.lives say.lives_are);
      held_are = subst (λ t. HoldsAs t (acts_of m.taken)) (sym fds) (restores.held_restored filled.fds rows (acts_of m.taken) has.held say.held_are);
      addresses_are = subst (λ t. AddressesAs t (acts_of m.taken)) (sym fds) (restores.addresses_restored filled.fds rows (acts_of m.taken) has.addresses say.addresses_are);
      births_are = subst (λ t. BornAs t (acts_of m.taken)) (sym births) (record { each = λ f. has.births.each f ∙ say.births_are f });
      objects_are = ap (λ (e : Known). e.keys) entities ∙ known ∙ say.objects_are;
      names_are = subst (λ t. NamesAs t (all_given text (acts_of m.taken))) (sym entities)
          (restores.names_restored filled.entities rows (all_given text (acts_of m.taken)) has.names (λ k. say.names_are k ∙ ap (λ n. take n (names_of k (all_given text (acts_of m.taken)))) (sym within.names)));
      flows_are = flows ∙ has.flows ∙ say.flows_are;
      acts_are = acts ∙ has.acts ∙ say.acts_are;
      limit_is = ap (λ (l : Limits). l.entities) same ∙ sym within.objects ∙ ap (λ (e : Known). e.limit) (sym entities);
      objects_fit =
          let fit : length filled.entities.keys ≤ filled.entities.limit = (let a = ap length known in let b = within.objects in omega (arith, fits, a, b)) in
          subst (λ (e : Known). length e.keys ≤ e.limit) (sym entities) fit;
    }
