-- What the rows of a store say, asked of all of them from the first on.
use Rattle.std.specs.Prelude.{◌≡◌, ℕ, zero, suc, ◌+◌, Bool, true, false, ◌==◌, List, [], ◌∷◌, ◌++◌, Option, Some, None, IfSome, max, fold, if◌then◌else◌}
use Rattle.std.specs.List.{flat_map, Contains}
use Rattle.flow_base.specs.declared.types.Flow.{Flow}
use Rattle.flow_base.specs.declared.types.Key.{Key}
use Rattle.reach_rows.specs.declared.rows.Mark.{Mark}
use Rattle.reach_model.specs.Rows.{Row, row_of}
use Rattle.flow_base.specs.declared.types.Key.TheVariants.{Made}
use Rattle.proc_table.specs.declared.life.Life.{Life as ALife}
use Rattle.acts.specs.declared.held.Held.{Held as AHeld}
use Rattle.acts.specs.declared.held.Object.{Object}
use Rattle.acts.specs.declared.held.Object.TheVariants.{File, Pipe, Sock}
use Rattle.row_codec.specs.declared.rows.KeptRow.{KeptRow}
use Rattle.row_codec.specs.declared.rows.ExtendRow.{ExtendRow}
use Rattle.row_codec.specs.declared.rows.StoreRow.{StoreRow}
use Rattle.row_codec.specs.declared.rows.StoreRow.TheVariants.{Entity, Kept, Extend, Name, Life, Held, Address, Born, Waiting, State}

-- ---- the objects

-- the key of an Entity row
abbrev pub key_in : StoreRow → List Key
key_in (Entity k) = k ∷ []
key_in (Kept r) = []
key_in (Extend e) = []
key_in (Name k t) = []
key_in (Life p l) = []
key_in (Held p f h) = []
key_in (Address a b) = []
key_in (Born f b) = []
key_in (Waiting m s c l) = []
key_in (State s) = []

-- the keys of the Entity rows
abbrev pub keys : List StoreRow → List Key
keys rows = flat_map key_in rows

-- ---- the rows that are kept

-- the flow of a Kept row
abbrev pub flow_of : KeptRow → Flow
flow_of r = record { from = r.from; to = r.to; how = r.mark.how; at = r.mark.at; serial = r.mark.serial }

-- a row whose last flow has this mark
abbrev pub extended : Mark → Row → Row
extended m r = record { first = r.first; last = record { from = r.last.from; to = r.last.to; how = m.how; at = m.at; serial = m.serial } }

-- the rows, with the row at an index changed
abbrev pub changed_at : ℕ → (Row → Row) → List Row → List Row
changed_at i f [] = []
changed_at zero f (r ∷ R) = f r ∷ R
changed_at (suc i) f (r ∷ R) = r ∷ changed_at i f R

-- the kept rows with what one more row of the store says
abbrev pub grown : List Row → StoreRow → List Row
grown R (Entity k) = R
grown R (Kept r) = R ++ row_of (flow_of r) ∷ []
grown R (Extend e) = changed_at e.row (extended e.mark) R
grown R (Name k t) = R
grown R (Life p l) = R
grown R (Held p f h) = R
grown R (Address a b) = R
grown R (Born f b) = R
grown R (Waiting m s c l) = R
grown R (State s) = R

-- the kept rows: the flow of each Kept row, and the last flow by its last Extend row
abbrev pub rows_of : List StoreRow → List Row
rows_of rows = fold grown [] rows

-- ---- links

-- the index in a list that has one flow more at its start
abbrev pub one_later : Option ℕ → Bool → Option ℕ
one_later (Some i) first = Some (i + 1)
one_later None true = Some 0
one_later None false = None

-- the index of the last flow that passes a test
abbrev pub last_index : (Flow → Bool) → List Flow → Option ℕ
last_index p [] = None
last_index p (f ∷ F) = one_later (last_index p F) (p f)

-- ---- what the last row says that says something

-- a newer value in place of an old one, if there is a newer one
abbrev pub newer : {A : Type 0} → Option A → Option A → Option A
newer old None = old
newer old (Some a) = Some a

-- what the last row says for which `here` finds something
abbrev pub last_found : {A : Type 0} → (StoreRow → Option A) → List StoreRow → Option A
last_found here rows = fold (λ found row. newer found (here row)) None rows

-- the life in a Life row of a pid
abbrev pub life_in : ℕ → StoreRow → Option ALife
life_in p (Life q l) = if q == p then Some l else None
life_in p row = None

-- the last life of a pid
abbrev pub life_of : ℕ → List StoreRow → Option ALife
life_of p rows = last_found (life_in p) rows

-- ---- numbers in rows

-- the place of a row's mark
abbrev pub place_in : StoreRow → Option ℕ
place_in (Kept r) = Some r.mark.at.place
place_in (Extend e) = Some e.mark.at.place
place_in row = None

-- the time of a row's mark
abbrev pub time_in : StoreRow → Option ℕ
time_in (Kept r) = Some r.mark.at.ms
time_in (Extend e) = Some e.mark.at.ms
time_in row = None

-- the act that made an object
abbrev pub act_in_key : Key → Option ℕ
act_in_key (Made act) = Some act
act_in_key k = None

-- the act that made a pipe or a socket
abbrev pub act_in_object : Object → Option ℕ
act_in_object (File k) = None
act_in_object (Pipe act) = Some act
act_in_object (Sock act) = Some act

-- the act that made what a descriptor holds
abbrev pub act_in_held : Option AHeld → Option ℕ
act_in_held None = None
act_in_held (Some h) = act_in_object h.object

-- the act that a row names
abbrev pub act_in : StoreRow → Option ℕ
act_in (Entity k) = act_in_key k
act_in (Name k t) = act_in_key k
act_in (Held p f h) = act_in_held h
act_in (Address act b) = Some act
act_in row = None

-- the number of a life or of a birth
abbrev pub number_in : StoreRow → Option ℕ
number_in (Life p l) = Some l.life
number_in (Born f born) = Some born
number_in row = None

-- the greater of two numbers that may be missing
abbrev pub greater : Option ℕ → Option ℕ → Option ℕ
greater old None = old
greater None (Some n) = Some n
greater (Some m) (Some n) = Some (max m n)

-- the greatest of these numbers, if there is one
abbrev pub greatest : (StoreRow → Option ℕ) → List StoreRow → Option ℕ
greatest measure rows = fold (λ found row. greater found (measure row)) None rows

-- P holds of each of these numbers
abbrev pub EachIn : (StoreRow → Option ℕ) → (ℕ → Type 0) → List StoreRow → Type 0
EachIn measure P rows = (row : StoreRow) → Contains rows row → IfSome (measure row) P
