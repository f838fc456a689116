use Rattle.std.proofs.Common.{◌≤◌, ℕ, List, subst, length, arith, sym}
use Rattle.audit_lex.specs.History.{with_bytes}
use Rattle.ingest.specs.StandsFor.{StandsFor}
use Rattle.ingest.specs.Stops.{Stops}
use Rattle.dialogue.specs.Dialogue.{taken_on}
use Rattle.dialogue.proofs.MomentLemmas.{told_read, due_for, stop_later}
use Rattle.dialogue.proofs.LackLemmas.{kept_left, left_all, read_left}
use Rattle.dialogue.proofs.log.take_piece.Goals as goal

pub returns-in-Ok-feed-clause-took : goal.returns-in-Ok-feed-clause-took
returns-in-Ok-feed-clause-took g c = λ limits m h.
    let fed = c.in-Ok-feed.ensures.ok limits m.history h.stands in
    let read = told_read _ _ m.log _ c.in-Ok.count h.told c.in-Ok.ensures.bytes.0 (sym c.in-Ok.ensures.bound.1) in
    record { stands = subst (λ (bytes : List ℕ). StandsFor limits c.feed.new.self (with_bytes m.history bytes)) read.1 fed; told = read.0 }

pub returns-in-Err-feed-clause-due : goal.returns-in-Err-feed-clause-due
returns-in-Err-feed-clause-due g c = λ limits m h.
    let stops = c.in-Err-feed.ensures.stop limits m.history h.stands in
    let read = told_read _ _ m.log _ c.in-Ok.count h.told c.in-Ok.ensures.bytes.0 (sym c.in-Ok.ensures.bound.1) in
    let long : c.in-Ok.count ≤ length c.args.buf.now = omega (arith, c.in-Ok.ensures.bound.0, c.read.auto.buf) in
    rw c.halt_of.ensures (due_for c.in-Err-feed.stop.why limits m.history _ c.in-Err-feed.stop.done (Stops limits (taken_on (length c.args.buf.now) m).history) stops.by
    (λ full over. stop_later c.stops_stay.ensures limits m c.in-Ok.count (length c.args.buf.now) full long (subst (λ (bytes : List ℕ). Stops limits (with_bytes m.history bytes) full) read.1 over)))

pub returns-in-Err-clause-left : goal.returns-in-Err-clause-left
returns-in-Err-clause-left g c = λ bytes told. left_all _ bytes _ (kept_left _ _ bytes told c.in-Err.ensures.bytes)

pub returns-in-Ok-feed-clause-left : goal.returns-in-Ok-feed-clause-left
returns-in-Ok-feed-clause-left g c = λ bytes told.
    let read = told_read _ _ bytes _ c.in-Ok.count told c.in-Ok.ensures.bytes.0 (sym c.in-Ok.ensures.bound.1) in
    read_left c.in-Ok.count c.in-Ok.count bytes _ (omega arith) read.0

pub returns-in-Err-feed-clause-left : goal.returns-in-Err-feed-clause-left
returns-in-Err-feed-clause-left g c = λ bytes told.
    let read = told_read _ _ bytes _ c.in-Ok.count told c.in-Ok.ensures.bytes.0 (sym c.in-Ok.ensures.bound.1) in
    let long : c.in-Ok.count ≤ length c.args.buf.now = omega (arith, c.in-Ok.ensures.bound.0, c.read.auto.buf) in
    read_left c.in-Ok.count (length c.args.buf.now) bytes _ long read.0
