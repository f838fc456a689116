use Rattle.std.proofs.Common.{◌≡◌, ◌∙◌, ◌<◌, ◌≤◌, ◌+◌, ◌*◌, ◌^◌, ◌++◌, List, [], length, map, max, sym, ap, subst, arith}
use Rattle.std.specs.List.{All, flat_map}
use Rattle.std.proofs.lemmas.List.{length-map}
use Rattle.reach_model.specs.Rows.{Row}
use Rattle.reach_rows.specs.Kept.{row_of_kept}
use Rattle.reach_rows.specs.declared.rows.Row.{Row as KeptRow}
use Rattle.row_codec.specs.declared.rows.ExtendRow.{ExtendRow}
use Rattle.row_codec.specs.Rows.{row as spelling}
use Rattle.saved_rows.specs.Joining.{Joined, with_extends}
use Rattle.saved_rows.specs.Saved.{Saved}
use Rattle.block_cache.specs.Cached.{Cached}
use Rattle.reduced_store.specs.Filling.{row_of_spelled}
use Rattle.reduced_store.specs.Held.{Held}
use Rattle.reduced_store.specs.Taking.{extends, kepts, single}
use Rattle.reduced_store.proofs.TakeLemmas.{all_of_batch, batch_grown, batch_long, batch_stands, each_there}
use Rattle.reduced_store.proofs.ToldLemmas.{on_added, on_with_room}
use Rattle.reduced_store.proofs.taking.take_batch.Goals as goal

pub settle-requires-clause-rows : goal.settle-requires-clause-rows
settle-requires-clause-rows c =
    let old = c.args.to.now in
    let rows = c.args.rows.now in
    let taken = c.in_ok-around.ensures.taken in
    let es_is = c.as_slice-extends.ensures ∙ taken.extended in
    let all = all_of_batch old.rows old.placed.kept (kepts rows) c.requires.settled.saved in
    let now = ap (λ (h : Held). length h.rows) c.in_ok-reserve_batch.ensures.same.rows ∙ ap length taken.rows in
    subst (λ (n : _). All (λ (e : ExtendRow). e.row < n) c.as_slice-extends.result.now) (sym now)
    (subst (All (λ (e : ExtendRow). e.row < length (old.rows ++ map single (kepts rows)))) (sym es_is)
    (each_there old.rows (old.placed.kept ++ map row_of_spelled (kepts rows)) rows c.requires.next c.requires.ordered all))

pub settle-requires-clause-fits : goal.settle-requires-clause-fits
settle-requires-clause-fits c =
    let rows = c.args.rows.now in
    let taken = c.in_ok-around.ensures.taken in
    let recent = ap (λ (j : Joined). length j.recent) c.in_ok-reserve_batch.ensures.same.placed ∙ ap length (taken.recent ∙ ap (λ (r : List KeptRow). r ++ map row_of_spelled (kepts rows)) c.requires.settled.recent) ∙ length-map (kepts rows) row_of_spelled in
    let es = ap length (c.as_slice-extends.ensures ∙ taken.extended) in
    let entities = ap length (c.as_slice.ensures ∙ taken.entities) in
    omega (arith, recent, es, entities, batch_long rows c.requires.ordered, c.requires.long, c.requires.there)

pub returns-clause-rows : goal.returns-clause-rows
returns-clause-rows c =
    let old = c.args.to.now in
    let rows = c.args.rows.now in
    let taken = c.in_ok-around.ensures.taken in
    let same = c.in_ok-reserve_batch.ensures.same in
    let es_is = c.as_slice-extends.ensures ∙ taken.extended in
    let recent = taken.recent ∙ ap (λ (r : List KeptRow). r ++ map row_of_spelled (kepts rows)) c.requires.settled.recent in
    let all = all_of_batch old.rows old.placed.kept (kepts rows) c.requires.settled.saved in
    c.settle.ensures.settled.saved ∙ ap (map row_of_kept) c.settle.ensures.kept
    ∙ ap (λ (j : Joined). map row_of_kept (with_extends (j.kept ++ j.recent) c.as_slice-extends.result.now)) same.placed
    ∙ ap (λ (K : List KeptRow). map row_of_kept (with_extends (K ++ c.take_rows.new.to.placed.recent) c.as_slice-extends.result.now)) taken.places.kept
    ∙ ap (λ (K : List KeptRow). map row_of_kept (with_extends (old.placed.kept ++ K) c.as_slice-extends.result.now)) recent
    ∙ ap (λ (es : List ExtendRow). map row_of_kept (with_extends (old.placed.kept ++ map row_of_spelled (kepts rows)) es)) es_is
    ∙ batch_grown old.rows (old.placed.kept ++ map row_of_spelled (kepts rows)) rows c.requires.ordered all

pub returns-clause-firm : goal.returns-clause-firm
returns-clause-firm c =
    let taken = c.in_ok-around.ensures.taken in
    let firm = ap (λ (k : Cached). k.firm) c.in_ok-reserve_batch.ensures.same.saved.cache ∙ ap (λ (s : Saved). s.cache.firm) taken.places.saved in
    c.settle.ensures.firm ∙ ap (λ n. max n (c.args.batch.gate + 9 + c.args.batch.length)) firm

pub returns-clause-there : goal.returns-clause-there
returns-clause-there c = λ bytes on there.
    let old = c.args.to.now in
    let rows = c.args.rows.now in
    let taken = c.in_ok-around.ensures.taken in
    let same = c.in_ok-reserve_batch.ensures.same in
    let mid = c.take_rows.new.to in
    let recent = ap (λ (j : Joined). j.recent) same.placed ∙ taken.recent ∙ ap (λ (r : List KeptRow). r ++ map row_of_spelled (kepts rows)) c.requires.settled.recent in
    let entities = ap length (c.as_slice.ensures ∙ taken.entities) in
    c.settle.ensures.there bytes
    (on_with_room bytes mid.placed c.reserve_batch.new.self.placed same.placed same.saved (on_added bytes old.placed mid.placed taken.places on))
    (batch_stands bytes c.args.batch rows c.reserve_batch.new.self.placed.recent c.as_slice-extends.result.now _ c.requires.ordered there c.requires.long recent (c.as_slice-extends.ensures ∙ taken.extended) (omega (arith, entities)))

pub overflow_add-place-2 : goal.overflow_add-place-2
overflow_add-place-2 c =
    let entities = ap length (c.as_slice.ensures ∙ c.in_ok-around.ensures.taken.entities) in
    omega (arith, entities, batch_long c.args.rows.now c.requires.ordered, c.requires.long, c.requires.there)
