use Rattle.std.proofs.Common.{◌≡◌, ◌<◌, ◌∙◌, ◌++◌, map, List, length, ap, subst, sym}
use Rattle.std.specs.List.{All, flat_map}
use Rattle.reach_rows.specs.declared.rows.Row.{Row as KeptRow}
use Rattle.row_codec.specs.declared.rows.ExtendRow.{ExtendRow}
use Rattle.row_codec.specs.declared.rows.StoreRow.{StoreRow}
use Rattle.row_codec.specs.Payload.{header, IsPayload}
use Rattle.row_codec.specs.Rows.{Fits, row}
use Rattle.saved_rows.specs.Joining.{batch_rows, with_extends}
use Rattle.reach_rows.specs.Kept.{row_of_kept}
use Rattle.reduced_store.specs.OnDisk.{OnDisk}
use Rattle.reduced_store.specs.Placing.{extends_now}
use Rattle.reduced_store.proofs.SpellingLemmas.{batch_fit, spelled_parts, spelled_pieces}
use Rattle.reduced_store.proofs.store.Store.spell.Goals as goal

pub returns-clause-payload : goal.returns-clause-payload
returns-clause-payload g c =
    let mode = c.args.mode in
    let front = c.args.front.now in
    let back = c.args.back.now in
    let a = c.self.inside in
    let recent = c.recent-recent.result.now in
    let es = c.as_slice.result.now in
    let recent_is = c.recent-recent.ensures.rows ∙ ap (λ (s : OnDisk _). s.rows.placed.recent) (sym c.self.view_is) in
    let es_is = c.as_slice.ensures ∙ c.in_ok-extends.ensures.each in
    let since = ap (λ (r : List KeptRow). batch_rows r es) recent_is ∙ ap (λ (e : List ExtendRow). batch_rows a.rows.placed.recent e) es_is ∙ ap (λ (s : OnDisk _). s.since) c.self.view_is in
    subst (λ (S : List StoreRow). IsPayload mode (front ++ (S ++ back)) c.write_rows.new.to) since
    (spelled_pieces mode front back recent es c.write_payload.new.to c.write_kept.new.to c.write_extends.new.to c.write_rows.new.to
    (c.in_ok-write_payload.ensures.bytes ∙ ap (λ xs. xs ++ (header mode ++ flat_map row front)) c.new-payload.ensures) c.in_ok-write_payload.ensures.fit
    c.in_ok-write_kept.ensures.bytes c.in_ok-write_kept.ensures.fit
    c.in_ok-write_extends.ensures.bytes c.in_ok-write_extends.ensures.fit
    c.in_ok-write_rows.ensures.bytes c.in_ok-write_rows.ensures.fit)

pub returns-clause-spelled : goal.returns-clause-spelled
returns-clause-spelled g c =
    let back = c.args.back.now in
    let a = c.self.inside in
    let recent = c.recent-recent.result.now in
    let es = c.as_slice.result.now in
    let recent_is = c.recent-recent.ensures.rows ∙ ap (λ (s : OnDisk _). s.rows.placed.recent) (sym c.self.view_is) in
    let es_is = c.as_slice.ensures ∙ c.in_ok-extends.ensures.each in
    let since = ap (λ (r : List KeptRow). batch_rows r es) recent_is ∙ ap (λ (e : List ExtendRow). batch_rows a.rows.placed.recent e) es_is ∙ ap (λ (s : OnDisk _). s.since) c.self.view_is in
    record {
      front = c.write_payload.new.to;
      back = flat_map row back;
      is = spelled_parts recent es back c.write_payload.new.to c.write_kept.new.to c.write_extends.new.to c.write_rows.new.to c.in_ok-write_kept.ensures.bytes c.in_ok-write_extends.ensures.bytes c.in_ok-write_rows.ensures.bytes
          ∙ ap (λ (S : List StoreRow). c.write_payload.new.to ++ (flat_map row S ++ flat_map row back)) since;
      before = ap length c.as_slice-before.ensures;
      fit = subst (All Fits) since (batch_fit recent es c.in_ok-write_kept.ensures.fit c.in_ok-write_extends.ensures.fit);
      extends = c.in_ok-extends.ensures.each ∙ ap (λ (s : OnDisk _). extends_now s.rows.placed) c.self.view_is;
      now = subst (λ (s : OnDisk _). map row_of_kept (with_extends (s.rows.placed.kept ++ s.rows.placed.recent) c.in_ok-extends.extends) ≡ s.rows.rows) c.self.view_is c.in_ok-extends.ensures.now;
      known = subst (λ (s : OnDisk _). All (λ (e : ExtendRow). e.row < length s.rows.rows) c.in_ok-extends.extends) c.self.view_is c.in_ok-extends.ensures.known;
    }
