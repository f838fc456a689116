-- The batch of a commit continues the store, if rows of five kinds may stand.
use Rattle.std.proofs.Common.{◌≡◌, ◌∙◌, refl, sym, ap, subst, ℕ, suc, true, false, List, [], ◌∷◌, ◌++◌, map, Option, Some, None, arith, append_assoc}
use Rattle.std.specs.Prelude.{◌==◌}
use Rattle.std.specs.List.{AllByRecursion, Contains}
use Rattle.std.proofs.lemmas.List.{append-nil}
use Rattle.acts.specs.declared.act.Act.{Act}
use Rattle.acts.specs.declared.look_back.lives.Standing.{Standing}
use Rattle.acts.specs.Flows.{acts_of}
use Rattle.acts.specs.Lives.{live}
use Rattle.acts.specs.Standing.{standing}
use Rattle.proc_table.specs.declared.life.Life.{Life as ALife}
use Rattle.proc_table.specs.Table.{standing_of}
use Rattle.reach_model.specs.declared.modes.Mode.{Mode}
use Rattle.row_codec.specs.declared.rows.StoreRow.{StoreRow}
use Rattle.row_codec.specs.declared.rows.StoreRow.TheVariants.{Entity, Kept, Extend, State}
use Rattle.store_check.specs.Conditions.{Bounds, MayStand, EachAfter, IsLive}
use Rattle.store_check.specs.Store.{newer, life_in, life_of}
use Rattle.store_check.specs.Conditions.{Continues}
use Rattle.stored.specs.Moment.{Moment}
use Rattle.stored.specs.Batch.{Batch, IsCommitOf, AreTablesOf, name_row, life_row, held_row, address_row, born_row, waiting_row, front, back, said}
use Rattle.stored.specs.Going.{MayGo, to_kept, to_extends, to_waiting}
use Rattle.stored.proofs.Folds.{found_append, quiet_right, found_said}
use Rattle.stored.proofs.Laid.{to_lives}
use Rattle.stored.proofs.Lives.{tells_now}
use Rattle.stored.proofs.Order.{batch_ordered, batch_ended}

module _ (P : List StoreRow → StoreRow → Type 0) where
  pub each_join : (before xs ys : List StoreRow) → EachAfter P before xs → EachAfter P (before ++ xs) ys → EachAfter P before (xs ++ ys)
  each_join before [] ys a b = subst (λ (l : List StoreRow). EachAfter P l ys) (append-nil before) b
  each_join before (x ∷ xs) ys a b = (a.0, each_join (before ++ x ∷ []) xs ys a.1 (subst (λ (l : List StoreRow). EachAfter P l ys) (sym (append_assoc before (x ∷ []) xs)) b))

  each_free : {B : Type 0} (make : B → StoreRow) → ((before : List StoreRow) (b : B) → P before (make b)) → (before : List StoreRow) (bs : List B) → EachAfter P before (map make bs)
  each_free make may before [] = tt
  each_free make may before (b ∷ bs) = (may before b, each_free make may (before ++ make b ∷ []) bs)

  -- rows of one kind, behind rows of which Q holds
  pub each_kept : {B : Type 0} (make : B → StoreRow) (Q : List StoreRow → Type 0) (R : B → Type 0) → ((before : List StoreRow) (b : B) → Q before → R b → P before (make b)) → ((before : List StoreRow) (b : B) → Q before → Q (before ++ make b ∷ []))
      → (before : List StoreRow) (bs : List B) → Q before → AllByRecursion R bs → EachAfter P before (map make bs)
  each_kept make Q R may goes before [] q all = tt
  each_kept make Q R may goes before (b ∷ bs) q all = (may before b q all.0, each_kept make Q R may goes (before ++ make b ∷ []) bs (goes before b q) all.1)

pub contains_all : {A : Type 0} (P : A → Type 0) (xs : List A) → ((x : A) → Contains xs x → P x) → AllByRecursion P xs
contains_all P [] all = tt
contains_all P (x ∷ xs) all = (all x (0, omega arith, refl), contains_all P xs (λ y c. all y (suc c.0, (let lt = c.1 in omega (arith, lt)), c.2)))

-- ---- Held rows

-- the last lives are those of some acts
abbrev AreLives : List Act → List StoreRow → Type 0
AreLives acts rows = (p : ℕ) → standing_of (life_of p rows) ≡ standing acts p

is_live : (o : Option ALife) (acts : List Act) (p : ℕ) → standing_of o ≡ standing acts p → live acts p ≡ true → IsLive o
is_live None acts p is alive = let e : false ≡ live acts p = ap (λ (s : Standing). s.live) is in absurd (let f : false ≡ true = e ∙ alive in cc)
is_live (Some l) acts p is alive = ap (λ (s : Standing). s.live) is ∙ alive

lives_at_front : (p : ℕ) (before : List StoreRow) (b : Batch) → life_of p (before ++ front b) ≡ newer (life_of p before) (said (λ q. q == p) b.lives)
lives_at_front p before b =
    found_append (life_in p) before (front b)
    ∙ ap (newer (life_of p before)) (to_lives (life_in p) b (record { entities = λ e. refl; kept = λ e. refl; extends = λ e. refl; names = λ e. refl }) ∙ found_said (life_in p) life_row (λ q. q == p) (λ e. refl) b.lives)

held_stand : (bounds : Bounds) (mode : Mode) (before : List StoreRow) (b : Batch) (since old : List Act) → ((p : ℕ) → standing_of (life_of p before) ≡ standing old p) → AreTablesOf since old b → EachAfter (MayStand bounds mode) (before ++ front b) (map held_row b.held)
held_stand bounds mode before b since old is t =
    each_kept (MayStand bounds mode) held_row (AreLives (since ++ old)) (λ e. live (since ++ old) e.0.0 ≡ true)
    (λ rows e q alive. is_live (life_of e.0.0 rows) (since ++ old) e.0.0 (q e.0.0) alive)
    (λ rows e q p. ap standing_of (quiet_right (life_in p) rows (held_row e ∷ []) refl) ∙ q p)
    (before ++ front b) b.held
    (λ p. ap standing_of (lives_at_front p before b) ∙ tells_now standing_of (life_of p before) (said (λ q. q == p) b.lives) (standing old p) (standing (since ++ old) p) (is p) (t.lives p))
    (contains_all (λ e. live (since ++ old) e.0.0 ≡ true) b.held (λ e c. t.held_live e.0.0 e.0.1 e.1 c))

-- ---- all parts

pub five : (a b c d e f : List StoreRow) → ((((a ++ b) ++ c) ++ d) ++ e) ++ f ≡ a ++ (b ++ (c ++ (d ++ (e ++ f))))
five a b c d e f =
    append_assoc (((a ++ b) ++ c) ++ d) e f ∙ append_assoc ((a ++ b) ++ c) d (e ++ f) ∙ append_assoc (a ++ b) c (d ++ (e ++ f)) ∙ append_assoc a b (c ++ (d ++ (e ++ f)))

pub batch_continues : (bounds : Bounds) (mode : Mode) (text : List ℕ → List ℕ) (most : ℕ) (before batch : List StoreRow) (m0 m : Moment) → ((p : ℕ) → standing_of (life_of p before) ≡ standing (acts_of m0.taken) p) → (c : IsCommitOf text most mode m0 m batch) → MayGo bounds mode before c.batch → Continues bounds mode before batch
batch_continues bounds mode text most before batch m0 m is c may =
    let b = c.batch in
    let P = MayStand bounds mode in
    let at_front : EachAfter P before (front b) =
    each_join P before (map Entity b.entities) _ may.entities (
    each_join P (to_kept before b) (map Kept b.kept) _ may.kept (
    each_join P (to_extends before b) (map Extend b.extends) _ may.extends (
    each_join P (to_extends before b ++ map Extend b.extends) (map name_row b.names) _ (each_free P name_row (λ x e. tt) _ b.names) (each_free P life_row (λ x e. tt) _ b.lives)))) in
    let at_back : EachAfter P (before ++ front b) (back b) =
    each_join P (before ++ front b) (map held_row b.held) _ (held_stand bounds mode before b (acts_of c.since) (acts_of m0.taken) is c.tables) (
    each_join P ((before ++ front b) ++ map held_row b.held) (map address_row b.addresses) _ (each_free P address_row (λ x e. tt) _ b.addresses) (
    each_join P (((before ++ front b) ++ map held_row b.held) ++ map address_row b.addresses) (map born_row b.births) _ (each_free P born_row (λ x e. tt) _ b.births) (
    each_join P (to_waiting before b) (map waiting_row b.waiting) (State b.state ∷ []) may.waiting (may.state, tt)))) in
    subst (Continues bounds mode before) (sym c.laid_are) (record {
      ordered = batch_ordered b c.ascend;
      ended = batch_ended b;
      stand = each_join P before (front b) (back b) at_front at_back;
    })
