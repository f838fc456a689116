-- The rows around those of flows in the batch of a commit.
use Rattle.std.proofs.Common.{◌≡◌, ◌∙◌, List, [], ◌∷◌, ◌++◌, length, map, drop, sym, ap, subst}
use Rattle.std.proofs.lemmas.List.{append_assoc}
use Rattle.acts.specs.declared.act.Taken.{Taken}
use Rattle.acts.specs.Flows.{acts_of, objects}
use Rattle.flow_events.specs.declared.tables.Tables.{Tables}
use Rattle.record_join.specs.StandsFor.{Joiner, WhereStands}
use Rattle.reduced_store.specs.Committing.{other_rows}
use Rattle.row_codec.specs.declared.rows.StoreRow.{StoreRow}
use Rattle.row_codec.specs.declared.rows.StoreRow.TheVariants.{State}
use Rattle.row_codec.specs.declared.state.StateRow.{StateRow}
use Rattle.stored.specs.Batch.{names_at, waiting_row}
use Rattle.stored.specs.Words.{texts_of}
use Rattle.ingest.specs.Committing.{ArePut}
use Rattle.ingest.specs.WaitingRows.{PutsWaiting}
use Rattle.flow_events.specs.declared.rows.TableRows.{TableRows}
use Rattle.flow_events.specs.Rows.{AreRowsSince, batch_of}

pub rows_put : (tables : Tables) (join : Joiner) (state : StateRow) (rows : TableRows) (waited all : List StoreRow) → AreRowsSince tables rows
    → WhereStands join (λ limits s. PutsWaiting s rows.others waited) → all ≡ waited ++ State state ∷ [] → ArePut tables.entities.most_names tables join state rows.entities all
rows_put tables join state rows waited all since waits pushed = λ text m0 m lead.
    let t = since text m0.taken lead.now lead.tables_are lead.admitted in
    let w = waits lead.limits m.join lead.join_is in
    let b = batch_of t.parts [] [] [] state in
    record {
      batch = b;
      groups = w.0;
      parts = record {
        since = lead.now;
        goes_on = lead.goes_on;
        entities = subst (λ (T : List Taken). t.parts.entities ≡ drop (length (objects (acts_of m0.taken))) (objects (acts_of T))) (sym lead.goes_on) t.entities;
        names = λ k. subst (λ (T : List Taken). texts_of k t.parts.names ≡ drop (length (names_at text tables.entities.most_names m0.taken k)) (names_at text tables.entities.most_names T k)) (sym lead.goes_on) (t.names k);
        tables = t.tables [] [] [] state;
        lives = t.lives_ascend;
        held = t.held_ascend;
        addresses = t.addresses_ascend;
        births = t.births_ascend;
      };
      waiting = record { waiting = w.1; ascend = w.2 };
      entities_are = t.parts_are.entities;
      others_are =
          pushed ∙ ap (λ (xs : List StoreRow). xs ++ State state ∷ []) (w.3 ∙ ap (λ (xs : List StoreRow). xs ++ map waiting_row w.0) t.parts_are.others)
          ∙ append_assoc (other_rows b) (map waiting_row w.0) (State state ∷ [])
          ∙ ap (λ (s : StateRow). other_rows b ++ (map waiting_row w.0 ++ State s ∷ [])) lead.state_is;
    }
