use Rattle.std.proofs.Common.{ap, false, inl, refl, ◌≡◌, subst, None, Some, Err, sym, inr, ◌∙◌}
use Rattle.audit_cli.proofs.JobLemmas.{headline, front_written, nothing_written, full_exact, complete, job_same, same_log, same_questions, ended_within, done_only, read_fault}
use Rattle.dialogue.specs.declared.halt.Halt.TheVariants as halt
use Rattle.dialogue.specs.declared.halt.StoreHalt.TheVariants as over
use Rattle.dialogue.proofs.AddLemmas.{adds_none}
use Rattle.store_runs.proofs.EndLemmas.{not_bad_or_none, not_other, queried_all}
use Rattle.audit_cli.proofs.ShortLemmas.{short_by, short_none}
use Rattle.store_runs.proofs.StoreRuns.{not_bad, not_wrong, queried_none, reduced_all, refusal_of, refuses_by, refuses_for, refuses_nothing, unbegun_run, unbegun_watch, watched_all}
use Rattle.reach_model.specs.declared.modes.Mode.{Mode}
use Rattle.dialogue.specs.StoreHalts.{no_modes, no_place}
use Rattle.store_runs.specs.Statuses.{RefusesStore, store_status}
use Rattle.store_runs.specs.Stores.{FitsDialogue, FitsWhole, IsBadIn, IsWrongIn, StoodAt}
use Rattle.dialogue.specs.Runs.{begun_of}
use Rattle.store_runs.specs.declared.extending.Taking.TheVariants as taking
use Rattle.outside.specs.Looking.{no_look}
use Rattle.store_runs.proofs.RefusalLemmas.{failed_refuses, no_memory}
use Rattle.store_runs.specs.Refusals.{AlwaysRefuses}
use Rattle.store_runs.specs.declared.status.Status.TheVariants as status
use Rattle.audit_cli.proofs.run.audit_run.Goals as goal

pub returns-in-Ok-clause-headline : goal.returns-in-Ok-clause-headline
returns-in-Ok-clause-headline g c = λ done bytes asked row told tells is.
    let same = job_same _ _ _ c.in-Ok.ensures.found row in
    let talked = c.run.ensures.talked bytes asked (same_log _ _ _ _ same told) (same_questions _ _ _ _ same tells) in
    rw (← same) (headline c.args.limits.now c.in-Ok.job bytes asked _ _ _ c.run.result talked (sym c.status_of.ensures ∙ is))

pub returns-in-Ok-clause-prefix : goal.returns-in-Ok-clause-prefix
returns-in-Ok-clause-prefix g c = λ done bytes asked row told tells.
    let same = job_same _ _ _ c.in-Ok.ensures.found row in
    let talked = c.run.ensures.talked bytes asked (same_log _ _ _ _ same told) (same_questions _ _ _ _ same tells) in
    rw (← same) (front_written c.args.limits.now c.in-Ok.job bytes asked _ _ _ c.run.result talked)

pub returns-in-Err-NoMemory-clause-prefix : goal.returns-in-Err-NoMemory-clause-prefix
returns-in-Err-NoMemory-clause-prefix g c = λ done bytes asked row told tells. nothing_written c.args.limits.now done bytes asked _

pub returns-in-Err-BadWords-clause-prefix : goal.returns-in-Err-BadWords-clause-prefix
returns-in-Err-BadWords-clause-prefix g c = λ done bytes asked row told tells. nothing_written c.args.limits.now done bytes asked _

pub returns-in-Ok-clause-full : goal.returns-in-Ok-clause-full
returns-in-Ok-clause-full g c = λ done bytes asked row told tells full is.
    let same = job_same _ _ _ c.in-Ok.ensures.found row in
    let talked = c.run.ensures.talked bytes asked (same_log _ _ _ _ same told) (same_questions _ _ _ _ same tells) in
    rw (← same) (full_exact _ _ c.args.limits.now c.in-Ok.job bytes asked _ _ _ c.run.result full c.run.ensures.causes talked (sym c.status_of.ensures ∙ is))

pub returns-in-Ok-clause-complete : goal.returns-in-Ok-clause-complete
returns-in-Ok-clause-complete g c = λ done bytes asked row told tells no_fault none.
    let same = job_same _ _ _ c.in-Ok.ensures.found row in
    let talked = c.run.ensures.talked bytes asked (same_log _ _ _ _ same told) (same_questions _ _ _ _ same tells) in
    let passes = rw (← same) at none in
    rw c.status_of.ensures (complete c.args.limits.now c.in-Ok.job bytes asked _ _ _ _ _ c.run.result talked c.run.ensures.causes (λ read. no_fault (read_fault _ _ _ read)) (λ write. no_fault (inr (inr write))) passes)

pub returns-in-Ok-clause-exact : goal.returns-in-Ok-clause-exact
returns-in-Ok-clause-exact g c = λ done bytes asked row told tells is full passes.
    let same = job_same _ _ _ c.in-Ok.ensures.found row in
    let begun = same_log _ _ _ _ same told in
    let heard = same_questions _ _ _ _ same tells in
    let talked = c.run.ensures.talked bytes asked begun heard in
    let over = rw (← same) at passes in
    ended_within c.stops_stay.ensures c.what_fits_never_stops.ensures c.args.limits.now c.in-Ok.job bytes asked _ _ _ c.run.result full talked (c.run.ensures.within bytes asked begun heard) (sym c.status_of.ensures ∙ is) over

pub returns-in-Ok-clause-whole : goal.returns-in-Ok-clause-whole
returns-in-Ok-clause-whole g c = λ of bytes row told is.
    let same = job_same _ _ _ c.in-Ok.ensures.found row in
    done_only c.run.result _ (c.run.ensures.whole of bytes same told) (sym c.status_of.ensures ∙ is)

pub returns-in-Ok-clause-no_further : goal.returns-in-Ok-clause-no_further
returns-in-Ok-clause-no_further g c = λ done bytes asked row told tells is.
    let same = job_same _ _ _ c.in-Ok.ensures.found row in
    let left = c.run.ensures.left bytes asked (same_log _ _ _ _ same told) (same_questions _ _ _ _ same tells) in
    rw (← same) (done_only c.run.result _ left (sym c.status_of.ensures ∙ is))

pub returns-in-Err-NoMemory-clause-reduced : goal.returns-in-Err-NoMemory-clause-reduced
returns-in-Err-NoMemory-clause-reduced g c = λ kept name store resume row. (
  Err (over.Run halt.NoMemory),
  refl,
  unbegun_run resume (StoodAt g.D.Disk.state c.args.limits.now kept c.args.disk) c.args.limits.now kept (g.D.Disk.state c.args.disk) (g.D.Disk.state c.args.disk) (g.L.Source.left c.args.log.now)
      (g.O.Sink.written c.args.out.now) (λ h before bytes stood. inl (tt, no_look (g.D.Disk.state c.args.disk))),
)

pub returns-in-Err-NoMemory-clause-watched : goal.returns-in-Err-NoMemory-clause-watched
returns-in-Err-NoMemory-clause-watched g c = λ kept name store row. (
  Err (over.Run halt.NoMemory),
  refl,
  unbegun_watch (StoodAt g.D.Disk.state c.args.limits.now kept c.args.disk) c.args.limits.now kept (g.D.Disk.state c.args.disk) (g.D.Disk.state c.args.disk) (g.L.Source.left c.args.log.now)
      (g.Q.Source.left c.args.questions.now) (g.O.Sink.written c.args.out.now) (λ h before bytes steps stood. inl (tt, no_look (g.D.Disk.state c.args.disk))),
)

pub returns-in-Err-NoMemory-clause-queried : goal.returns-in-Err-NoMemory-clause-queried
returns-in-Err-NoMemory-clause-queried g c = λ store row.
    (Err (over.Run halt.NoMemory), refl, record { queried = λ kept h asked stood told. queried_none c.args.limits.now kept h asked (g.Q.Source.left c.args.questions.now) (g.O.Sink.written c.args.out.now) })

pub returns-in-Ok-Reduce-clause-reduced : goal.returns-in-Ok-Reduce-clause-reduced
returns-in-Ok-Reduce-clause-reduced g c = λ kept name store resume row.
    let found = c.in-Ok-Reduce.ensures.found in
    let is = c.in-Ok-Reduce.field-0-is in
    let same : c.in-Ok-Reduce.mode ≡ kept = cc in
    let again : c.in-Ok-Reduce.resume ≡ resume = cc in
    rw (c.told_of.ensures.status, c.told_of.ensures.disk, ← same) (c.extend.result.outcome, refl, c.extend.ensures.reduced resume (ap taking.Whole again))

pub returns-in-Ok-Reduce-clause-silent : goal.returns-in-Ok-Reduce-clause-silent
returns-in-Ok-Reduce-clause-silent g c = λ kept name store resume row. c.extend.ensures.silent c.in-Ok-Reduce.resume refl

pub returns-in-Ok-Reduce-clause-refused : goal.returns-in-Ok-Reduce-clause-refused
returns-in-Ok-Reduce-clause-refused g c = λ kept name store resume row.
    let found = c.in-Ok-Reduce.ensures.found in
    let is = c.in-Ok-Reduce.field-0-is in
    let same : c.in-Ok-Reduce.mode ≡ kept = cc in
    rw c.told_of.ensures.status
    (subst (λ (m : Mode). RefusesStore (store_status c.extend.result.outcome) (IsBadIn c.args.limits.now (g.D.Disk.state c.args.disk)) (IsWrongIn c.args.limits.now (g.D.Disk.state c.args.disk) (Some m))) same
    (refuses_by _ _ _ _ _ _ _ c.extend.result.outcome (λ place hidden told. absurd (hidden told)) c.extend.ensures.causes))

pub returns-in-Ok-WatchStore-clause-unwatched : goal.returns-in-Ok-WatchStore-clause-unwatched
returns-in-Ok-WatchStore-clause-unwatched g c = λ kept name store row.
    let found = c.in-Ok-WatchStore.ensures.found in
    let is = c.in-Ok-WatchStore.field-0-is in
    let same : c.in-Ok-WatchStore.mode ≡ kept = cc in
    rw c.told_of-in-Ok-WatchStore.ensures.status
    (subst (λ (m : Mode). RefusesStore (store_status c.extend-in-Ok-WatchStore.result.outcome) (IsBadIn c.args.limits.now (g.D.Disk.state c.args.disk)) (IsWrongIn c.args.limits.now (g.D.Disk.state c.args.disk) (Some m))) same
    (refuses_by _ _ _ _ _ _ _ c.extend-in-Ok-WatchStore.result.outcome (λ place hidden told. absurd (hidden told)) c.extend-in-Ok-WatchStore.ensures.causes))

pub returns-in-Ok-Query-clause-unanswered : goal.returns-in-Ok-Query-clause-unanswered
returns-in-Ok-Query-clause-unanswered g c = λ store row. rw c.told_of-in-Ok-Query.ensures.status (refuses_by _ _ _ _ _ _ _ c.query.result.outcome (λ place hidden told. absurd (hidden told)) c.query.ensures.causes)

pub returns-in-Ok-Reduce-clause-reduces : goal.returns-in-Ok-Reduce-clause-reduces
returns-in-Ok-Reduce-clause-reduces g c = λ kept name store resume row h before bytes stood told enough none fits.
    let found = c.in-Ok-Reduce.ensures.found in
    let is = c.in-Ok-Reduce.field-0-is in
    let same : c.in-Ok-Reduce.mode ≡ kept = cc in
    let again : c.in-Ok-Reduce.resume ≡ resume = cc in
    let run = c.extend.ensures.reduced resume (ap taking.Whole again) h before bytes (subst (λ (m : Mode). StoodAt g.D.Disk.state c.args.limits.now m c.args.disk h before) (sym same) stood) told in
    let failed = rw c.told_of.ensures.disk at none in
    rw c.told_of.ensures.status (reduced_all resume c.args.limits.now c.in-Ok-Reduce.mode _ _ _ _ _ c.extend.result.outcome h before bytes _ _ _ _ _ _ _ run c.extend.ensures.causes enough
    (λ read. failed (inl read)) (λ write. failed (inr (inl write))) (λ store. failed (inr (inr store)))
    (λ one other wrong. not_wrong g.D.Disk.state c.args.limits.now c.in-Ok-Reduce.mode c.args.disk h before one other c.what_is_found_was_stored.ensures
    (subst (λ (m : Mode). StoodAt g.D.Disk.state c.args.limits.now m c.args.disk h before) (sym same) stood) wrong)
    (λ place bad. not_bad g.D.Disk.state c.args.limits.now kept c.args.disk h before place c.a_store_of_a_history_is_no_bad_store.ensures c.what_waits_is_sound.ensures.found stood bad)
    (subst (λ (m : Mode). FitsWhole c.args.limits.now m (begun_of resume h before bytes)) (sym same) fits))

pub returns-in-Ok-WatchStore-clause-watches : goal.returns-in-Ok-WatchStore-clause-watches
returns-in-Ok-WatchStore-clause-watches g c = λ kept name store row h before bytes questions stood told tells none fits.
    let found = c.in-Ok-WatchStore.ensures.found in
    let is = c.in-Ok-WatchStore.field-0-is in
    let same : c.in-Ok-WatchStore.mode ≡ kept = cc in
    let run = c.extend-in-Ok-WatchStore.ensures.watched refl h before bytes questions (subst (λ (m : Mode). StoodAt g.D.Disk.state c.args.limits.now m c.args.disk h before) (sym same) stood) told tells in
    let failed = rw c.told_of-in-Ok-WatchStore.ensures.disk at none in
    rw c.told_of-in-Ok-WatchStore.ensures.status (watched_all c.args.limits.now c.in-Ok-WatchStore.mode _ _ _ _ _ c.extend-in-Ok-WatchStore.result.outcome (begun_of false h before bytes) questions _ _ _ _ _ _ _ run
    c.extend-in-Ok-WatchStore.ensures.causes (λ read. failed (inl read)) (λ write. failed (inr (inl write))) (λ store. failed (inr (inr store)))
    (λ one other wrong. not_wrong g.D.Disk.state c.args.limits.now c.in-Ok-WatchStore.mode c.args.disk h before one other c.what_is_found_was_stored.ensures
    (subst (λ (m : Mode). StoodAt g.D.Disk.state c.args.limits.now m c.args.disk h before) (sym same) stood) wrong)
    (λ place bad. not_bad g.D.Disk.state c.args.limits.now kept c.args.disk h before place c.a_store_of_a_history_is_no_bad_store.ensures c.what_waits_is_sound.ensures.found stood bad)
    (subst (λ (m : Mode). FitsDialogue c.args.limits.now m (begun_of false h before bytes) questions) (sym same) fits))

pub returns-in-Err-NoMemory-clause-reduce_lacks : goal.returns-in-Err-NoMemory-clause-reduce_lacks
returns-in-Err-NoMemory-clause-reduce_lacks g c = λ kept name store resume row. (Err (over.Run halt.NoMemory), refl, inl (no_look (g.D.Disk.state c.args.disk), refl))

pub returns-in-Err-NoMemory-clause-watch_lacks : goal.returns-in-Err-NoMemory-clause-watch_lacks
returns-in-Err-NoMemory-clause-watch_lacks g c = λ kept name store row. (Err (over.Run halt.NoMemory), refl, inl (no_look (g.D.Disk.state c.args.disk), refl))

pub returns-in-Ok-Reduce-clause-reduce_lacks : goal.returns-in-Ok-Reduce-clause-reduce_lacks
returns-in-Ok-Reduce-clause-reduce_lacks g c = λ kept name store resume row.
    let found = c.in-Ok-Reduce.ensures.found in
    let is = c.in-Ok-Reduce.field-0-is in
    let same : c.in-Ok-Reduce.mode ≡ kept = cc in
    let again : c.in-Ok-Reduce.resume ≡ resume = cc in
    rw (c.told_of.ensures.status, c.told_of.ensures.disk, ← same, ← again) (c.extend.result.outcome, refl, c.extend.ensures.lacks)

pub returns-in-Ok-WatchStore-clause-watch_lacks : goal.returns-in-Ok-WatchStore-clause-watch_lacks
returns-in-Ok-WatchStore-clause-watch_lacks g c = λ kept name store row.
    let found = c.in-Ok-WatchStore.ensures.found in
    let is = c.in-Ok-WatchStore.field-0-is in
    let same : c.in-Ok-WatchStore.mode ≡ kept = cc in
    rw (c.told_of-in-Ok-WatchStore.ensures.status, c.told_of-in-Ok-WatchStore.ensures.disk, ← same) (c.extend-in-Ok-WatchStore.result.outcome, refl, c.extend-in-Ok-WatchStore.ensures.lacks)

pub returns-in-Ok-Reduce-clause-refusal : goal.returns-in-Ok-Reduce-clause-refusal
returns-in-Ok-Reduce-clause-refusal g c = λ is.
    let refused = c.extend.ensures.refused (refusal_of c.extend.result.outcome (rw c.told_of.ensures.status at is)) in
    rw c.told_of.ensures.disk refused

pub returns-in-Ok-WatchStore-clause-refusal : goal.returns-in-Ok-WatchStore-clause-refusal
returns-in-Ok-WatchStore-clause-refusal g c = λ is.
    let refused = c.extend-in-Ok-WatchStore.ensures.refused (refusal_of c.extend-in-Ok-WatchStore.result.outcome (rw c.told_of-in-Ok-WatchStore.ensures.status at is)) in
    rw c.told_of-in-Ok-WatchStore.ensures.disk refused

pub returns-in-Ok-Query-clause-refusal : goal.returns-in-Ok-Query-clause-refusal
returns-in-Ok-Query-clause-refusal g c = λ is.
    let refused = c.query.ensures.refused (refusal_of c.query.result.outcome (rw c.told_of-in-Ok-Query.ensures.status at is)) in
    rw c.told_of-in-Ok-Query.ensures.disk (refl, refused.0, refused.1, c.query.ensures.looks)

pub returns-in-Ok-clause-refusal : goal.returns-in-Ok-clause-refusal
returns-in-Ok-clause-refusal g c = λ is. absurd (refuses_nothing c.run.result (rw c.status_of.ensures at is))

pub returns-in-Err-NoMemory-clause-always_refused : goal.returns-in-Err-NoMemory-clause-always_refused
returns-in-Err-NoMemory-clause-always_refused g c = λ kept name store resume row. failed_refuses c.args.limits.now (g.D.Disk.state c.args.disk) (Some kept) status.NoMemory no_memory

pub returns-in-Err-NoMemory-clause-always_unwatched : goal.returns-in-Err-NoMemory-clause-always_unwatched
returns-in-Err-NoMemory-clause-always_unwatched g c = λ kept name store row. failed_refuses c.args.limits.now (g.D.Disk.state c.args.disk) (Some kept) status.NoMemory no_memory

pub returns-in-Err-NoMemory-clause-always_unanswered : goal.returns-in-Err-NoMemory-clause-always_unanswered
returns-in-Err-NoMemory-clause-always_unanswered g c = λ store row. failed_refuses c.args.limits.now (g.D.Disk.state c.args.disk) None status.NoMemory no_memory

pub returns-in-Err-NoMemory-clause-no_batch : goal.returns-in-Err-NoMemory-clause-no_batch
returns-in-Err-NoMemory-clause-no_batch g c = λ store row told place none. no_memory (status.BadStore place)

pub returns-in-Ok-Reduce-clause-always_refused : goal.returns-in-Ok-Reduce-clause-always_refused
returns-in-Ok-Reduce-clause-always_refused g c = λ kept name store resume row.
    let found = c.in-Ok-Reduce.ensures.found in
    let is = c.in-Ok-Reduce.field-0-is in
    let same : c.in-Ok-Reduce.mode ≡ kept = cc in
    rw c.told_of.ensures.status (subst (λ (m : Mode). AlwaysRefuses c.args.limits.now (g.D.Disk.state c.args.disk) (Some m) (store_status c.extend.result.outcome)) same c.extend.ensures.always)

pub returns-in-Ok-WatchStore-clause-always_unwatched : goal.returns-in-Ok-WatchStore-clause-always_unwatched
returns-in-Ok-WatchStore-clause-always_unwatched g c = λ kept name store row.
    let found = c.in-Ok-WatchStore.ensures.found in
    let is = c.in-Ok-WatchStore.field-0-is in
    let same : c.in-Ok-WatchStore.mode ≡ kept = cc in
    rw c.told_of-in-Ok-WatchStore.ensures.status
    (subst (λ (m : Mode). AlwaysRefuses c.args.limits.now (g.D.Disk.state c.args.disk) (Some m) (store_status c.extend-in-Ok-WatchStore.result.outcome)) same c.extend-in-Ok-WatchStore.ensures.always)

pub returns-in-Ok-Query-clause-always_unanswered : goal.returns-in-Ok-Query-clause-always_unanswered
returns-in-Ok-Query-clause-always_unanswered g c = λ store row. rw c.told_of-in-Ok-Query.ensures.status c.query.ensures.always

pub returns-in-Ok-Query-clause-no_batch : goal.returns-in-Ok-Query-clause-no_batch
returns-in-Ok-Query-clause-no_batch g c = λ store row. rw c.told_of-in-Ok-Query.ensures.status c.query.ensures.no_batch

pub returns-in-Ok-Reduce-clause-short : goal.returns-in-Ok-Reduce-clause-short
returns-in-Ok-Reduce-clause-short g c =
    let found = c.in-Ok-Reduce.ensures.found in
    let is = c.in-Ok-Reduce.field-0-is in
    rw c.told_of.ensures.status (short_by _ _ _ _ _ _ c.in-Ok-Reduce.resume _ c.extend.result.outcome c.extend.ensures.causes (λ resumes. rw (found, is) resumes))

pub returns-in-Ok-WatchStore-clause-short : goal.returns-in-Ok-WatchStore-clause-short
returns-in-Ok-WatchStore-clause-short g c =
    rw c.told_of-in-Ok-WatchStore.ensures.status (short_by _ _ _ _ _ _ false _ c.extend-in-Ok-WatchStore.result.outcome c.extend-in-Ok-WatchStore.ensures.causes (λ is. absurd (let no = is in cc)))

pub returns-in-Ok-Query-clause-short : goal.returns-in-Ok-Query-clause-short
returns-in-Ok-Query-clause-short g c = rw c.told_of-in-Ok-Query.ensures.status (short_by _ _ _ _ _ _ false _ c.query.result.outcome c.query.ensures.causes (λ is. absurd (let no = is in cc)))

pub returns-in-Ok-clause-short : goal.returns-in-Ok-clause-short
returns-in-Ok-clause-short g c = rw c.status_of.ensures (short_none _ c.run.result)

pub returns-in-Ok-Query-clause-answers : goal.returns-in-Ok-Query-clause-answers
returns-in-Ok-Query-clause-answers g c = λ store row kept h questions stood tells some none keeps.
    let failed = rw c.told_of-in-Ok-Query.ensures.disk at none in
    rw c.told_of-in-Ok-Query.ensures.status (queried_all c.what_fits_never_stops.ensures c.args.limits.now kept h questions _ _ _ c.query.result.outcome _ _ _ _ _ _ _ (c.query.ensures.run.queried kept h questions stood tells)
    c.query.ensures.causes (λ read. failed (inl read)) (λ write. failed (inr (inl write))) (λ store. failed (inr (inr store)))
    (λ one other wrong. not_other c.args.limits.now (g.D.Disk.state c.args.disk) one other stood.1.told wrong)
    (λ place bad. not_bad_or_none g.D.Disk.state c.args.limits.now kept c.args.disk h stood.0 place c.a_store_of_a_history_is_no_bad_store.ensures c.what_waits_is_sound.ensures.found
    c.a_disk_reads_in_one_way.ensures.one_list stood.1 some bad) (λ taken had none. none) keeps)

pub returns-in-Err-NoMemory-clause-heard : goal.returns-in-Err-NoMemory-clause-heard
returns-in-Err-NoMemory-clause-heard g c = λ kept name store row. (Err (over.Run halt.NoMemory), refl, λ h before bytes questions stood told tells. tt)

pub returns-in-Ok-WatchStore-clause-heard : goal.returns-in-Ok-WatchStore-clause-heard
returns-in-Ok-WatchStore-clause-heard g c = λ kept name store row.
    let found = c.in-Ok-WatchStore.ensures.found in
    let is = c.in-Ok-WatchStore.field-0-is in
    let same : c.in-Ok-WatchStore.mode ≡ kept = cc in
    rw (c.told_of-in-Ok-WatchStore.ensures.status, ← same) (c.extend-in-Ok-WatchStore.result.outcome, refl, c.extend-in-Ok-WatchStore.ensures.heard refl)

pub returns-in-Err-NoMemory-clause-reduce_adds : goal.returns-in-Err-NoMemory-clause-reduce_adds
returns-in-Err-NoMemory-clause-reduce_adds g c = λ kept name store resume row h before bytes rest stood told left. adds_none c.args.limits.now (g.D.Disk.state c.args.disk) (g.D.Disk.state c.args.disk) _ refl

pub returns-in-Ok-Reduce-clause-reduce_adds : goal.returns-in-Ok-Reduce-clause-reduce_adds
returns-in-Ok-Reduce-clause-reduce_adds g c = λ kept name store resume row.
    let found = c.in-Ok-Reduce.ensures.found in
    let is = c.in-Ok-Reduce.field-0-is in
    let same : c.in-Ok-Reduce.mode ≡ kept = cc in
    let again : c.in-Ok-Reduce.resume ≡ resume = cc in
    rw (c.told_of.ensures.disk, ← same) (c.extend.ensures.adds resume (ap taking.Whole again))

pub returns-in-Err-NoMemory-clause-watch_adds : goal.returns-in-Err-NoMemory-clause-watch_adds
returns-in-Err-NoMemory-clause-watch_adds g c = λ kept name store asked row tells h before bytes rest stood told left. adds_none c.args.limits.now (g.D.Disk.state c.args.disk) (g.D.Disk.state c.args.disk) _ refl

pub returns-in-Ok-WatchStore-clause-watch_adds : goal.returns-in-Ok-WatchStore-clause-watch_adds
returns-in-Ok-WatchStore-clause-watch_adds g c = λ kept name store asked row tells.
    let found = c.in-Ok-WatchStore.ensures.found in
    let is = c.in-Ok-WatchStore.field-0-is in
    let same : c.in-Ok-WatchStore.mode ≡ kept = cc in
    rw (c.told_of-in-Ok-WatchStore.ensures.disk, ← same) (c.extend-in-Ok-WatchStore.ensures.watch_adds refl asked tells)

pub returns-in-Ok-clause-no_store : goal.returns-in-Ok-clause-no_store
returns-in-Ok-clause-no_store g c = λ done row memory. rw c.status_of.ensures (refuses_for _ _ _ _ _ no_place no_modes c.run.result (λ place none. none) c.run.ensures.causes)
