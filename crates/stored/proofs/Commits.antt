-- A batch that is the commit of a later moment stores that moment.
use Rattle.std.proofs.Common.{◌≡◌, ◌∙◌, refl, sym, ap, subst, ℕ, List, [], ◌∷◌, ◌++◌, Some, append_assoc}
use Rattle.std.specs.Map.{lookup}
use Rattle.std.proofs.lemmas.Grind.{flat_map-append}
use Rattle.std.proofs.lemmas.List.{append-nil}
use Rattle.audit_lex.specs.declared.header.EventKey.{EventKey}
use Rattle.record_join.specs.Keys.{is_key}
use Rattle.acts.specs.declared.act.Act.{Act}
use Rattle.acts.specs.Births.{born}
use Rattle.acts.specs.Holding.{holds}
use Rattle.acts.specs.Holding as acts
use Rattle.acts.specs.Standing.{standing}
use Rattle.acts.specs.declared.act.Taken.{Taken}
use Rattle.acts.specs.Flows.{acts_of, flows}
use Rattle.reach_model.specs.declared.modes.Mode.{Mode}
use Rattle.reach_model.specs.Flows.{IsLawful}
use Rattle.row_codec.specs.declared.rows.StoreRow.{StoreRow}
use Rattle.store_check.specs.Conditions.{Bounds}
use Rattle.store_check.specs.Conditions.{Continues}
use Rattle.stored.specs.Words.{all_of, Group}
use Rattle.stored.specs.Moment.{Moment}
use Rattle.stored.specs.Batch.{IsCommitOf, laid}
use Rattle.stored.specs.Stored.{Stored, AreTables, AllContinue, ClosesAt, EndsAt, last_of}
use Rattle.stored.proofs.Lists.{IsFront, flows_front, acts_joined}
use Rattle.stored.proofs.Laid.{groups_laid, state_laid}
use Rattle.stored.proofs.Names.{objects_next, names_next}
use Rattle.stored.proofs.Tables.{lives_next, held_next, addresses_next, births_next}
use Rattle.stored.proofs.KeptLaws.{rows_next}

pub tables_next : (text : List ℕ → List ℕ) (most : ℕ) (mode : Mode) (rows batch : List StoreRow) (m0 m : Moment) → IsLawful (flows m.taken) → AreTables text most mode rows m0 → IsCommitOf text most mode m0 m batch → AreTables text most mode (rows ++ batch) m
tables_next text most mode rows batch m0 m lawful s c =
    let joined : acts_of m.taken ≡ acts_of c.since ++ acts_of m0.taken = acts_joined c.since m0.taken m.taken c.goes_on in
    let all : rows ++ laid c.batch ≡ rows ++ batch = ap (λ (l : List StoreRow). rows ++ l) (sym c.laid_are) in
    let flows_go : IsFront (flows m0.taken) (flows m.taken) = subst (λ (t : List Taken). IsFront (flows m0.taken) (flows t)) (sym c.goes_on) (flows_front c.since m0.taken) in
    subst (λ (l : List StoreRow). AreTables text most mode l m) all (record {
      objects_are = objects_next c.since m0.taken m.taken rows c.batch c.goes_on s.objects_are c.entities;
      rows_are = rows_next mode (flows m0.taken) (flows m.taken) rows c.batch lawful flows_go s.rows_are c.rows_are;
      names_are = names_next text most c.since m0.taken m.taken rows c.batch c.goes_on s.names_are c.names;
      lives_are = λ p. lives_next (acts_of c.since) (acts_of m0.taken) rows c.batch s.lives_are c.tables p ∙ ap (λ (a : List Act). standing a p) (sym joined);
      held_are = λ p n. held_next (acts_of c.since) (acts_of m0.taken) rows c.batch s.lives_are s.held_are c.ascend c.tables p n ∙ ap (λ (a : List Act). holds a p n) (sym joined);
      addresses_are = λ x. addresses_next (acts_of c.since) (acts_of m0.taken) rows c.batch s.addresses_are c.tables x ∙ ap (λ (a : List Act). acts.address_of a x) (sym joined);
      births_are = λ f. births_next (acts_of c.since) (acts_of m0.taken) rows c.batch s.births_are c.tables f ∙ ap (λ (a : List Act). born a f) (sym joined);
    })

-- ---- the list of batches

last_pushed : {A : Type 0} (xs : List A) (x : A) → last_of (xs ++ x ∷ []) ≡ Some x
last_pushed [] x = refl
last_pushed (y ∷ []) x = refl
last_pushed (y ∷ z ∷ xs) x = last_pushed (z ∷ xs) x

continue_push : (bounds : Bounds) (mode : Mode) (before : List StoreRow) (batches : List (List StoreRow)) (batch : List StoreRow) → AllContinue bounds mode before batches → Continues bounds mode (before ++ all_of batches) batch → AllContinue bounds mode before (batches ++ batch ∷ [])
continue_push bounds mode before [] batch all next = (subst (λ (l : List StoreRow). Continues bounds mode l batch) (append-nil before) next, tt)
continue_push bounds mode before (b ∷ batches) batch all next =
    (all.0, continue_push bounds mode (before ++ b) batches batch all.1 (subst (λ (l : List StoreRow). Continues bounds mode l batch) (sym (append_assoc before b (all_of batches))) next))

all_pushed : (batches : List (List StoreRow)) (batch : List StoreRow) → all_of (batches ++ batch ∷ []) ≡ all_of batches ++ batch
all_pushed batches batch = flat_map-append (λ (b : List StoreRow). b) batches (batch ∷ []) ∙ ap (λ (l : List StoreRow). all_of batches ++ l) (append-nil batch)

closes : (text : List ℕ → List ℕ) (most : ℕ) (mode : Mode) (m0 m : Moment) (batch : List StoreRow) → IsCommitOf text most mode m0 m batch → ClosesAt m batch
closes text most mode m0 m batch c = subst (ClosesAt m) (sym c.laid_are) (record {
  waiting = λ key. ap (λ (g : List (EventKey × Group)). lookup (is_key key) g) (groups_laid c.batch) ∙ c.waiting key;
  state = state_laid c.batch ∙ ap Some c.state;
})

pub stored_next : (text : List ℕ → List ℕ) (most : ℕ) (bounds : Bounds) (mode : Mode) (batches : List (List StoreRow)) (batch : List StoreRow) (m0 m : Moment) → IsLawful (flows m.taken) → Stored text most bounds mode batches m0 → IsCommitOf text most mode m0 m batch
    → Continues bounds mode (all_of batches) batch → Stored text most bounds mode (batches ++ batch ∷ []) m
stored_next text most bounds mode batches batch m0 m lawful s c next = record {
  continue = continue_push bounds mode [] batches batch s.continue next;
  tables = subst (λ (l : List StoreRow). AreTables text most mode l m) (sym (all_pushed batches batch)) (tables_next text most mode (all_of batches) batch m0 m lawful s.tables c);
  ends = subst (EndsAt m) (sym (last_pushed batches batch)) (closes text most mode m0 m batch c);
}
