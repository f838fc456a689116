use Rattle.std.proofs.Common.{◌≡◌, ◌∙◌, ◌++◌, true, List, ap, sym, subst}
use Rattle.row_codec.specs.declared.rows.StoreRow.{StoreRow}
use Rattle.store_check.specs.Conditions.{bounds_of}
use Rattle.reduced_store.specs.Held.{Held}
use Rattle.reduced_store.proofs.PlaceLemmas.{judged}
use Rattle.reduced_store.specs.Reading.{IsOfMode, table_rows}
use Rattle.reduced_store.proofs.ReadLemmas.{mode_found, places_apart}
use Rattle.reduced_store.proofs.reading.Reading.finish.Goals as goal

pub returns : goal.returns
returns c = λ listed payloads h.
    let bounds = bounds_of c.args.limits.now in (
      record {
        batches = h.batches;
        mode = subst (IsOfMode bounds h.batches payloads) (sym c.mode_of-mode.ensures) (mode_found bounds h.batches payloads c.args.self.checked h.checked);
        rows = ap (λ (r : Held). r.rows) c.judge.ensures ∙ h.rows;
        sound = h.sound;
        lawful = places_apart bounds h.batches payloads c.args.self.checked c.judge.new.self.lawful _ (ap (λ (r : Held). r.lawful) c.judge.ensures) h.checked c.in_ok-has_places_apart.ensures;
        others = c.in_ok-move_after.ensures ∙ ap (λ (r : List StoreRow). r ++ c.args.self.closing) h.tables ∙ ap (λ (r : List StoreRow). table_rows h.batches ++ r) h.closing;
      },
      judged listed payloads c.args.self.rows c.judge.new.self _ c.judge.ensures h.placed,
    )
