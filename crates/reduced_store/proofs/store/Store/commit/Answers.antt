use Rattle.std.proofs.Common.{◌≡◌, ◌<◌, ◌≤◌, ◌+◌, ◌*◌, ◌^◌, ◌∙◌, ◌↔◌, ◌++◌, ◌∷◌, ℕ, List, Some, Ok, Err, inr, true, length, map, sym, ap, subst, refl, arith, length-append}
use Rattle.std.specs.List.{All, flat_map}
use Rattle.std.specs.Result.{IsErrOf}
use Rattle.outside.specs.Disk.{KeepsFront, LeavesOnly, put_at}
use Rattle.batch_log.specs.Batches.{IsBeforeOrAfter, OPEN, after_gate}
use Rattle.batch_log.specs.Log.{EachHas, Log, LogHas, next_gate, passed}
use Rattle.batch_log.specs.declared.log.CommitFault.TheVariants as commit
use Rattle.reach_rows.specs.Kept.{row_of_kept}
use Rattle.reach_rows.specs.declared.rows.Row.{Row as KeptRow}
use Rattle.row_codec.specs.Rows.{row}
use Rattle.row_codec.specs.declared.rows.ExtendRow.{ExtendRow}
use Rattle.row_codec.specs.declared.rows.StoreRow.{StoreRow}
use Rattle.saved_rows.specs.Joining.{AreOn, Joined, batch_rows, with_extends}
use Rattle.reduced_store.specs.Held.{Held}
use Rattle.reduced_store.specs.OnDisk.{IsSpelledBetween, OnDisk, since_now}
use Rattle.reduced_store.specs.Placing.{StandFrom}
use Rattle.reduced_store.proofs.SpellingLemmas.{since_long}
use Rattle.reduced_store.proofs.ToldLemmas.{gate_after, gate_within, on_front, put_stands, still_reserved, told_committed, told_still}
use Rattle.reduced_store.proofs.store.Store.commit.Goals as goal

pub settle-requires-clause-room : goal.settle-requires-clause-room
settle-requires-clause-room g c = c.in-Ok.ensures.room

pub settle-requires-clause-rows : goal.settle-requires-clause-rows
settle-requires-clause-rows g c =
    let sp = subst (λ (s : OnDisk _). IsSpelledBetween s c.args.spelled.now) (sym c.self.view_is) c.requires.spelled in
    let rows = ap (λ (h : Held). length h.rows) c.reserve_batch.ensures.same.rows in
    subst (λ (es : List ExtendRow). All (λ (e : ExtendRow). e.row < length c.reserve_batch.new.self.rows) es) (sym c.as_slice-extends.ensures)
    (subst (λ (n : ℕ). All (λ (e : ExtendRow). e.row < n) c.args.spelled.now.extends) (sym rows) sp.known)

pub overflow_add-place : goal.overflow_add-place
overflow_add-place g c =
    let after = ap next_gate c.in-Ok-commit.ensures.log in
    omega (arith, after, c.next_gate-firm.ensures, c.next_gate-firm.type_inv, c.next_gate-gate.ensures)

pub overflow_add-place-in-Ok-commit : goal.overflow_add-place-in-Ok-commit
overflow_add-place-in-Ok-commit g c =
    let sp = c.requires.spelled in
    let after = ap next_gate c.in-Ok-commit.ensures.log in
    let long = ap length c.as_slice.ensures in
    let parts = ap length sp.is ∙ length-append sp.front (flat_map row c.args.self.now.since ++ sp.back) in
    omega (arith, after, long, parts, sp.before, c.next_gate-firm.ensures, c.next_gate-firm.type_inv, c.next_gate-gate.ensures)

pub settle-requires-clause-fits : goal.settle-requires-clause-fits
settle-requires-clause-fits g c =
    let sp = subst (λ (s : OnDisk _). IsSpelledBetween s c.args.spelled.now) (sym c.self.view_is) c.requires.spelled in
    let after = ap next_gate c.in-Ok-commit.ensures.log in
    let long = ap length c.as_slice.ensures in
    let since = flat_map row (since_now c.self.inside.rows.placed) in
    let parts = ap length sp.is ∙ length-append sp.front (since ++ sp.back) in
    let more = length-append since sp.back in
    let rows = since_long c.self.inside.rows.placed in
    let recent = ap (λ (j : Joined). length j.recent) c.reserve_batch.ensures.same.placed in
    let es = ap length (c.as_slice-extends.ensures ∙ sp.extends) in
    omega (arith, after, long, parts, more, rows, recent, es, sp.before, c.next_gate-firm.ensures, c.next_gate-firm.type_inv, c.next_gate-gate.ensures)

pub returns-in-Ok-commit-clause-rows : goal.returns-in-Ok-commit-clause-rows
returns-in-Ok-commit-clause-rows g c =
    let sp = c.requires.spelled in
    c.settle.ensures.settled.saved ∙ ap (map row_of_kept) c.settle.ensures.kept
    ∙ ap (λ (j : Joined). map row_of_kept (with_extends (j.kept ++ j.recent) c.as_slice-extends.result.now)) c.reserve_batch.ensures.same.placed
    ∙ ap (λ (s : OnDisk _). map row_of_kept (with_extends (s.rows.placed.kept ++ s.rows.placed.recent) c.as_slice-extends.result.now)) c.self.view_is
    ∙ ap (λ (es : List ExtendRow). map row_of_kept (with_extends (c.args.self.now.rows.placed.kept ++ c.args.self.now.rows.placed.recent) es)) c.as_slice-extends.ensures
    ∙ sp.now

pub returns-in-Ok-commit-clause-saved : goal.returns-in-Ok-commit-clause-saved
returns-in-Ok-commit-clause-saved g c = sym c.settle.ensures.settled.saved

pub invariant_of-self-in-Ok-commit : goal.invariant_of-self-in-Ok-commit
invariant_of-self-in-Ok-commit g c =
    let state = g.D.Disk.state in
    let a = c.self.inside in
    let old = (state a.disk).reads in
    let new = (state c.commit.new.disk).reads in
    let reserved = c.reserve_batch.new.self in
    let same = c.reserve_batch.ensures.same in
    let sp = subst (λ (s : OnDisk _). IsSpelledBetween s c.args.spelled.now) (sym c.self.view_is) c.requires.spelled in (
      c.settle.ensures.lawful ∙ ap (λ (h : Held). h.lawful) same.rows ∙ c.self.invariant.0,
      λ tells.
          let told = c.commit.ensures.uses.told_before ((g.met.D.Disk.lawful c.commit.new.disk).told_is.1 tells) in
          let held = still_reserved old a.log a.rows reserved (c.self.invariant.1 ((g.met.D.Disk.lawful a.disk).told_is.0 told)) same in
          let stands = subst (λ (s : OnDisk _). (state s.disk).told → (payloads : List (List ℕ)) × LogHas s.log payloads (state s.disk).reads) (sym c.self.view_is) c.requires.stands told in
          let after = ap next_gate c.in-Ok-commit.ensures.log in
          let payload = c.args.spelled.now.payload in
          let written = c.in-Ok-commit.ensures.written told ∙ ap (λ (p : List ℕ). put_at (next_gate a.log) (OPEN ∷ after_gate p) old) c.as_slice.ensures in
          let stand = put_stands old new payload sp.front sp.back (next_gate a.log) c.args.spelled.now.before c.next_gate-firm.result _ _ (gate_within a.log stands.0 old stands.1) written sp.is sp.before sp.fit
          (ap (λ (n : ℕ). n + 9 + c.args.spelled.now.before) c.next_gate-gate.ensures)
          (c.next_gate-firm.ensures ∙ after ∙ ap (λ (p : List ℕ). next_gate a.log + (9 + length p)) c.as_slice.ensures) in
          let rows_are = ap (λ (j : Joined). batch_rows j.recent c.as_slice-extends.result.now) same.placed ∙ ap (λ (es : List ExtendRow). batch_rows a.rows.placed.recent es) (c.as_slice-extends.ensures ∙ sp.extends) in
          let on = c.settle.ensures.there new (on_front old new (next_gate a.log) reserved.placed held.firm (c.commit.ensures.front told) held.on) (subst (λ (rs : List StoreRow). StandFrom new c.next_gate-firm.result (c.next_gate-gate.result + 9 + c.args.spelled.now.before) rs) (sym rows_are) stand) in
          let rows = c.settle.ensures.settled.saved ∙ ap (map row_of_kept) c.settle.ensures.kept
          ∙ ap (λ (j : Joined). map row_of_kept (with_extends (j.kept ++ j.recent) c.as_slice-extends.result.now)) same.placed
          ∙ ap (λ (es : List ExtendRow). map row_of_kept (with_extends (a.rows.placed.kept ++ a.rows.placed.recent) es)) c.as_slice-extends.ensures
          ∙ sp.now ∙ sym (ap (λ (h : Held). h.rows) same.rows) in
          told_committed old new a.log c.commit.new.self reserved c.settle.new.self c.next_gate-firm.result held rows on c.settle.ensures.settled c.settle.ensures.firm c.next_gate-firm.ensures (omega (arith, after)),
    )

pub invariant_of-self : goal.invariant_of-self
invariant_of-self g c =
    let a = c.self.inside in
    let same = c.reserve_batch.ensures.same in (
      ap (λ (h : Held). h.lawful) same.rows ∙ c.self.invariant.0,
      λ tells. still_reserved (g.D.Disk.state a.disk).reads a.log a.rows c.reserve_batch.new.self (c.self.invariant.1 tells) same,
    )

pub invariant_of-self-in-Err : goal.invariant_of-self-in-Err
invariant_of-self-in-Err g c =
    let state = g.D.Disk.state in
    let a = c.self.inside in
    let old = (state a.disk).reads in
    let new = (state c.commit.new.disk).reads in
    let same = c.reserve_batch.ensures.same in (
      ap (λ (h : Held). h.lawful) same.rows ∙ c.self.invariant.0,
      λ tells.
          let told = c.commit.ensures.uses.told_before ((g.met.D.Disk.lawful c.commit.new.disk).told_is.1 tells) in
          let before = c.self.invariant.1 ((g.met.D.Disk.lawful a.disk).told_is.0 told) in
          let gate = ap next_gate c.in-Err.ensures.log ∙ gate_after a.log (9 + length c.as_slice.result.now) c.in-Err.fault in
          told_still old new a.log c.commit.new.self a.rows c.reserve_batch.new.self before same (on_front old new (next_gate a.log) a.rows.placed before.firm (c.commit.ensures.front told) before.on) gate,
    )

pub returns-in-Ok-commit-clause-any_moment : goal.returns-in-Ok-commit-clause-any_moment
returns-in-Ok-commit-clause-any_moment g c =
    let state = g.D.Disk.state in
    subst (λ (p : List ℕ). (state c.args.self.now.disk).told → (payloads : List (List ℕ)) → EachHas c.args.self.now.log payloads (state c.args.self.now.disk).image → LeavesOnly (state c.args.self.now.disk) (state c.commit.new.disk) (IsBeforeOrAfter c.args.self.now.log.most payloads p)) c.as_slice.ensures
    (subst (λ (s : OnDisk _). (state s.disk).told → (payloads : List (List ℕ)) → EachHas s.log payloads (state s.disk).image → LeavesOnly (state s.disk) (state c.commit.new.disk) (IsBeforeOrAfter s.log.most payloads c.as_slice.result.now)) c.self.view_is
    (λ told payloads each. c.commit.ensures.any_moment told payloads each))

pub returns-in-Err-clause-any_moment : goal.returns-in-Err-clause-any_moment
returns-in-Err-clause-any_moment g c =
    let state = g.D.Disk.state in
    subst (λ (p : List ℕ). (state c.args.self.now.disk).told → (payloads : List (List ℕ)) → EachHas c.args.self.now.log payloads (state c.args.self.now.disk).image → LeavesOnly (state c.args.self.now.disk) (state c.commit.new.disk) (IsBeforeOrAfter c.args.self.now.log.most payloads p)) c.as_slice.ensures
    (subst (λ (s : OnDisk _). (state s.disk).told → (payloads : List (List ℕ)) → EachHas s.log payloads (state s.disk).image → LeavesOnly (state s.disk) (state c.commit.new.disk) (IsBeforeOrAfter s.log.most payloads c.as_slice.result.now)) c.self.view_is
    (λ told payloads each. c.commit.ensures.any_moment told payloads each))

pub returns-in-Ok-commit-clause-full : goal.returns-in-Ok-commit-clause-full
returns-in-Ok-commit-clause-full g c = λ full.
    inr (subst (λ (p : List ℕ). IsErrOf (Ok tt) (commit.Full full) ↔ (passed c.args.self.now.log (length p) ≡ Some full)) c.as_slice.ensures
    (subst (λ (s : OnDisk _). IsErrOf (Ok tt) (commit.Full full) ↔ (passed s.log (length c.as_slice.result.now) ≡ Some full)) c.self.view_is (c.in-Ok-commit.ensures.full full)))

pub returns-in-Err-clause-full : goal.returns-in-Err-clause-full
returns-in-Err-clause-full g c = λ full.
    inr (subst (λ (p : List ℕ). IsErrOf (Err c.in-Err.fault) (commit.Full full) ↔ (passed c.args.self.now.log (length p) ≡ Some full)) c.as_slice.ensures
    (subst (λ (s : OnDisk _). IsErrOf (Err c.in-Err.fault) (commit.Full full) ↔ (passed s.log (length c.as_slice.result.now) ≡ Some full)) c.self.view_is (c.in-Err.ensures.full full)))
