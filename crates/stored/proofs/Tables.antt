-- The tables after a commit.
use Rattle.std.proofs.lemmas.Bool.Decides.{nat_tests}
use Rattle.std.proofs.Common.{◌≡◌, ◌∙◌, refl, sym, ap, ℕ, ◌+◌, Bool, true, false, List, ◌++◌, Option, Some, None, arith}
use Rattle.std.specs.Prelude.{◌==◌, ◌&&◌, unwrap_or, if◌then◌else◌}
use Rattle.flow_base.specs.declared.types.FileId.{FileId}
use Rattle.acts.specs.declared.act.Act.{Act}
use Rattle.acts.specs.declared.held.Held.{Held as AHeld}
use Rattle.acts.specs.declared.look_back.lives.Standing.{Standing}
use Rattle.acts.specs.Births.{born}
use Rattle.acts.specs.Holding.{holds, is_at}
use Rattle.acts.specs.Holding as acts
use Rattle.acts.specs.Lives.{beginnings}
use Rattle.acts.specs.Standing.{standing}
use Rattle.proc_table.specs.declared.life.Life.{Life as ALife}
use Rattle.proc_table.specs.Table.{standing_of}
use Rattle.row_codec.specs.declared.rows.StoreRow.{StoreRow}
use Rattle.store_check.specs.Store.{last_found, newer, life_in, life_of}
use Rattle.stored.specs.Words.{held_of, address_in, address_of, born_in, born_of}
use Rattle.stored.specs.Batch.{Batch, Ascend, AreTablesOf, Tells, HeldAs, stays, left_held, laid, said}
use Rattle.stored.proofs.Folds.{found_append}
use Rattle.stored.proofs.Lives.{tells_now}
use Rattle.stored.proofs.Laid.{life_laid, address_laid, born_laid}
use Rattle.stored.proofs.HeldLaws.{remains, told, held_laid}

-- what a word says with the rows of one more batch
found_laid : {V W : Type 0} (here : StoreRow → Option V) (read : Option V → W) (rows : List StoreRow) (b : Batch) (row : Option V) (before now : W)
    → last_found here (laid b) ≡ row → read (last_found here rows) ≡ before → Tells read row before now
    → read (last_found here (rows ++ laid b)) ≡ now
found_laid {V} here read rows b row before now is old tells =
    ap read (found_append here rows (laid b) ∙ ap (newer (last_found here rows)) is)
    ∙ tells_now read (last_found here rows) row before now old tells

pub lives_next : (since before : List Act) (rows : List StoreRow) (b : Batch) → ((p : ℕ) → standing_of (life_of p rows) ≡ standing before p) → AreTablesOf since before b
    → (p : ℕ) → standing_of (life_of p (rows ++ laid b)) ≡ standing (since ++ before) p
lives_next since before rows b is t p = found_laid (life_in p) standing_of rows b (said (λ q. q == p) b.lives) (standing before p) (standing (since ++ before) p) (life_laid p b) (is p) (t.lives p)

pub addresses_next : (since before : List Act) (rows : List StoreRow) (b : Batch) → ((s : ℕ) → address_of s rows ≡ acts.address_of before s) → AreTablesOf since before b
    → (s : ℕ) → address_of s (rows ++ laid b) ≡ acts.address_of (since ++ before) s
addresses_next since before rows b is t s = found_laid (address_in s) (λ o. o) rows b (said (λ a. a == s) b.addresses) (acts.address_of before s) (acts.address_of (since ++ before) s) (address_laid s b) (is s) (t.addresses s)

pub births_next : (since before : List Act) (rows : List StoreRow) (b : Batch) → ((f : FileId) → unwrap_or (born_of f rows) 0 ≡ born before f) → AreTablesOf since before b
    → (f : FileId) → unwrap_or (born_of f (rows ++ laid b)) 0 ≡ born (since ++ before) f
births_next since before rows b is t f = found_laid (born_in f) (λ o. unwrap_or o 0) rows b _ (born before f) (born (since ++ before) f) (born_laid f b) (is f) (t.births f)

-- ---- descriptors

and_false : (b : Bool) → (b && false) ≡ false
and_false true = refl
and_false false = refl

one_more : (a b : ℕ) → (a == b) ≡ (a + 1 == b + 1)
one_more a b = grind (arith, nat_tests)

not_zero : (a : ℕ) → (0 == a + 1) ≡ false
not_zero a = grind (arith, nat_tests)

-- whether descriptors stay, by the life of the rows and by the acts
stays_same : (o : Option ALife) (before : List Act) (p : ℕ) (l : Option ALife) → standing_of o ≡ standing before p → remains o l ≡ stays before p l
stays_same o before p None is = refl
stays_same None before p (Some l) is =
    let zero_is : 0 ≡ beginnings before p = ap (λ (s : Standing). s.beginnings) is in
    sym (and_false l.live) ∙ ap (λ (b : Bool). l.live && b) (sym (not_zero l.life) ∙ ap (λ (n : ℕ). n == l.life + 1) zero_is)
stays_same (Some q) before p (Some l) is =
    let more : q.life + 1 ≡ beginnings before p = ap (λ (s : Standing). s.beginnings) is in
    ap (λ (b : Bool). l.live && b) (one_more q.life l.life ∙ ap (λ (n : ℕ). n == l.life + 1) more)

held_told : (row : Option (Option AHeld)) (left now : Option AHeld) → HeldAs row left now → told row left ≡ now
held_told None left now is = sym is
held_told (Some v) left now is = is

pub held_next : (since before : List Act) (rows : List StoreRow) (b : Batch) → ((p : ℕ) → standing_of (life_of p rows) ≡ standing before p) → ((p n : ℕ) → held_of p n rows ≡ holds before p n) → Ascend b → AreTablesOf since before b
    → (p n : ℕ) → held_of p n (rows ++ laid b) ≡ holds (since ++ before) p n
held_next since before rows b lives is up t p n =
    let l = said (λ q. q == p) b.lives in
    let row = said (λ q. is_at q.0 q.1 p n) b.held in
    held_laid p n rows b up.lives
    ∙ ap (λ (x : Bool). told row (if x then held_of p n rows else None)) (stays_same (life_of p rows) before p l (lives p))
    ∙ ap (λ (x : Option AHeld). told row (if stays before p l then x else None)) (is p n)
    ∙ held_told row (left_held before p n l) (holds (since ++ before) p n) (t.held p n)
