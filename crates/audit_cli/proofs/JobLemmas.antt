-- From a job's course to the clauses of the top call.
use Rattle.std.proofs.Common.{true, subst, ◌≡◌, ℕ, List, [], refl, sym, ◌∙◌, Option, Some, inl, inr}
use Rattle.std.proofs.lemmas.List.{append-nil}
use Rattle.std.specs.Prelude.{◌⊎◌, Result, Ok, Err, OnOk, IfErr}
use Rattle.std.specs.Io.KnownBytes.{Appends}
use Rattle.reach_model.specs.declared.modes.Mode.{Mode}
use Rattle.reach_model.specs.declared.modes.Mode.TheVariants.{Plain}
use Rattle.flow_base.specs.declared.limits.Limits.{Limits}
use Rattle.flow_base.specs.declared.limits.Full.{Full}
use Rattle.ingest.specs.Parts.{Engine}
use Rattle.dialogue.specs.declared.halt.Halt.{Halt}
use Rattle.dialogue.specs.declared.halt.Halt.TheVariants as halt
use Rattle.store_runs.specs.declared.status.Status.TheVariants as status
use Rattle.audit_cli.specs.declared.words.Job.{Job}
use Rattle.audit_cli.specs.declared.words.Job.TheVariants as job
use Rattle.dialogue.specs.Dialogue.{Moment, begin, asks, lines_in, nothing_beyond, QuestionsStop}
use Rattle.dialogue.specs.Course.{kind_of, EndTalked, HasCauses, Halted}
use Rattle.audit_cli.specs.Headline.{back_questions, Tells, TellsLog, Writes, WritesFront, TrialStops, Finished, Written, StoppedAt, PassesLimit, PassesNone}
use Rattle.audit_cli.specs.Jobs.{LastCourse, LastTalked, JobStopped, JobCourse, JobTalked, KeepsLimit}
use Rattle.store_runs.specs.Statuses.{status_for, StatusCause}
use Rattle.dialogue.proofs.ExactLemmas.{NeverStops, within_stops, questions_within}
use Rattle.dialogue.proofs.MomentLemmas.{Stay}
use Rattle.audit_lex.specs.History.{History}
use Rattle.ingest.specs.Stops.{Fits, Stops}
use Rattle.audit_cli.specs.Trials.{TrialCourse, Tried, all_modes, trial_history}
use Rattle.audit_cli.proofs.TrialLemmas.{no_lines, whole_lines}
use Rattle.dialogue.proofs.TalkLemmas.{appends_none, dialogue_of, nothing_said}

last_halt : (limits : Limits) (of : ℕ) (log asked : List ℕ) (why : Halt) (bytes : List ℕ) (to : Moment) → LastCourse limits (Err why) (begin Plain log) (back_questions of log) bytes to → JobCourse limits (job.Back of) (Err why) log asked bytes to
last_halt limits of log asked (halt.Full full) bytes to x = x
last_halt limits of log asked halt.NoMemory bytes to x = x
last_halt limits of log asked halt.ReadFault bytes to x = x
last_halt limits of log asked halt.WriteFault bytes to x = x
last_halt limits of log asked halt.StoreFault bytes to x = x
last_halt limits of log asked (halt.BadRow place) bytes to x = x
last_halt limits of log asked (halt.Unwritten other) bytes to x = x

watch_halt : (limits : Limits) (mode : Mode) (name log asked : List ℕ) (why : Halt) (bytes : List ℕ) (to : Moment) → Halted limits (QuestionsStop limits asked) (begin mode log) (asks limits (lines_in asked)) bytes why
    → JobCourse limits (job.Watch mode name) (Err why) log asked bytes to
watch_halt limits mode name log asked (halt.Full full) bytes to x = x
watch_halt limits mode name log asked halt.NoMemory bytes to x = x
watch_halt limits mode name log asked halt.ReadFault bytes to x = x
watch_halt limits mode name log asked halt.WriteFault bytes to x = x
watch_halt limits mode name log asked halt.StoreFault bytes to x = x
watch_halt limits mode name log asked (halt.BadRow place) bytes to x = absurd x
watch_halt limits mode name log asked (halt.Unwritten other) bytes to x = x

plainly_talked : {K : Type 0} → (holds : Engine K → Moment → Type 0) → (limits : Limits) (of : ℕ) (log asked : List ℕ) (e : Engine K) (left old new : Option (List ℕ)) (r : Result Unit Halt) → LastTalked (kind_of Plain true holds) limits e left old new r (begin Plain log) (back_questions of log)
    → JobTalked limits (job.Back of) log asked left old new r
plainly_talked holds limits of log asked e left old new (Ok done) x = record { to = x.to; bytes = x.bytes; wrote = x.wrote; course = x.course; ends = record { within = x.at.stands_at.stands.fits; told = x.at.stands_at.told } }
plainly_talked holds limits of log asked e left old new (Err why) x = record { to = x.to; bytes = x.bytes; wrote = x.wrote; course = last_halt limits of log asked why x.bytes x.to x.course; ends = tt }

-- `back`
pub back_talked : {K : Type 0} → (holds : Engine K → Moment → Type 0) → (kept : Mode) (limits : Limits) (of : ℕ) (log asked : List ℕ) (e : Engine K) (left old new : Option (List ℕ)) (r : Result Unit Halt) → kept ≡ Plain → LastTalked (kind_of kept true holds) limits e left old new r (begin kept log) (back_questions of log)
    → JobTalked limits (job.Back of) log asked left old new r
back_talked holds kept limits of log asked e left old new r plain x = plainly_talked holds limits of log asked e left old new r (subst (λ (mode : Mode). LastTalked (kind_of mode true holds) limits e left old new r (begin mode log) (back_questions of log)) plain x)

-- `watch`
pub watch_talked : {K : Type 0} → (holds : Engine K → Moment → Type 0) → (kept : Mode) (limits : Limits) (mode : Mode) (name log asked : List ℕ) (e : Engine K) (left old new : Option (List ℕ)) (r : Result Unit Halt)
    → EndTalked (kind_of kept true holds) limits (QuestionsStop limits asked) e left old new r (begin mode log) (asks limits (lines_in asked)) → JobTalked limits (job.Watch mode name) log asked left old new r
watch_talked holds kept limits mode name log asked e left old new (Ok done) x = record { to = x.to; bytes = x.bytes; wrote = x.wrote; course = record { said = x.course.0; dialogue = x.course.2; bytes_are = x.course.1 }; ends = record { within = x.at.stands_at.stands.fits; told = x.at.stands_at.told } }
watch_talked holds kept limits mode name log asked e left old new (Err why) x = record { to = x.to; bytes = x.bytes; wrote = x.wrote; course = watch_halt limits mode name log asked why x.bytes x.to x.course; ends = tt }

trial_halt : (limits : Limits) (seed events : ℕ) (log asked : List ℕ) (why : Halt) (bytes : List ℕ) (to : Moment) → TrialCourse limits (trial_history seed events) all_modes (Err why) bytes
    → JobCourse limits (job.Trial seed events) (Err why) log asked bytes to
trial_halt limits seed events log asked (halt.Full full) bytes to x = x
trial_halt limits seed events log asked halt.NoMemory bytes to x = x
trial_halt limits seed events log asked halt.ReadFault bytes to x = x
trial_halt limits seed events log asked halt.WriteFault bytes to x = x
trial_halt limits seed events log asked halt.StoreFault bytes to x = x
trial_halt limits seed events log asked (halt.BadRow place) bytes to x = x
trial_halt limits seed events log asked (halt.Unwritten other) bytes to x = x

-- `trial`
pub trial_talked : (limits : Limits) (seed events : ℕ) (log asked : List ℕ) (left old new : Option (List ℕ)) (r : Result Unit Halt) → Tried limits (trial_history seed events) all_modes old new r
    → JobTalked limits (job.Trial seed events) log asked left old new r
trial_talked limits seed events log asked left old new (Ok done) x = record {
  to = record { mode = Plain; takes = true; history = trial_history seed events; log = [] };
  bytes = x.bytes;
  wrote = x.wrote;
  course = record { lines = x.course.0; history = refl };
  ends = record { within = x.course.1; told = tt };
}
trial_talked limits seed events log asked left old new (Err why) x = record { to = begin Plain []; bytes = x.bytes; wrote = x.wrote; course = trial_halt limits seed events log asked why x.bytes _ x.course; ends = tt }

-- a device that isn't there has no faults
pub no_read : (r : Result Unit Halt) (read write : Type 0) → IfErr r (HasCauses ⊥ write ⊥ ⊥ ⊥) → IfErr r (HasCauses read write ⊥ ⊥ ⊥)
no_read (Ok done) read write causes = tt
no_read (Err halt.NoMemory) read write causes = tt
no_read (Err halt.ReadFault) read write causes = absurd causes
no_read (Err halt.WriteFault) read write causes = causes
no_read (Err halt.StoreFault) read write causes = causes
no_read (Err (halt.BadRow place)) read write causes = causes
no_read (Err (halt.Unwritten other)) read write causes = causes
no_read (Err (halt.Full full)) read write causes = tt

-- the log of a job that was read is the log of the job of the words
pub same_log : (a b : Job) (left : Option (List ℕ)) (log : List ℕ) → a ≡ b → TellsLog b left log → TellsLog a left log
same_log a b left log same told = rw same told

-- and so are its questions
pub same_questions : (a b : Job) (left : Option (List ℕ)) (asked : List ℕ) → a ≡ b → Tells b left asked → Tells a left asked
same_questions a b left asked same tells = rw same tells

-- a cause among more causes of a read fault
pub causes_too : (r : Result Unit Halt) (one other write : Type 0) → IfErr r (HasCauses one write ⊥ ⊥ ⊥) → IfErr r (HasCauses (one ⊎ other) write ⊥ ⊥ ⊥)
causes_too (Ok done) one other write causes = tt
causes_too (Err halt.NoMemory) one other write causes = tt
causes_too (Err halt.ReadFault) one other write causes = inl causes
causes_too (Err halt.WriteFault) one other write causes = causes
causes_too (Err halt.StoreFault) one other write causes = causes
causes_too (Err (halt.BadRow place)) one other write causes = causes
causes_too (Err (halt.Unwritten full)) one other write causes = causes
causes_too (Err (halt.Full full)) one other write causes = tt

-- what was written whole is a front
whole_front : (limits : Limits) (done : Job) (log asked bytes : List ℕ) (to : Moment) → Writes limits done log asked bytes to → WritesFront limits done log asked bytes
whole_front limits (job.Back of) log asked bytes to x = inr (record { to = to; more = []; last = record { said = x.said; last = x.last; dialogue = x.dialogue; bytes_are = append-nil bytes ∙ x.bytes_are } })
whole_front limits (job.Trial seed events) log asked bytes to x = whole_lines limits (trial_history seed events) all_modes bytes x.lines
whole_front limits (job.Reduce kept name store resume) log asked bytes to x = absurd x
whole_front limits (job.WatchStore kept name store) log asked bytes to x = absurd x
whole_front limits (job.Query store) log asked bytes to x = absurd x
whole_front limits (job.Watch mode name) log asked bytes to x = record { front = asks limits (lines_in asked); rest = []; said = x.said; to = to; more = []; parts = sym (append-nil _); dialogue = x.dialogue; bytes_are = append-nil bytes ∙ x.bytes_are }

-- the moment before the step that passes a limit
abbrev stop_moment : (limits : Limits) (seed events : ℕ) (full : Full) → Stops limits (trial_history seed events) full → Moment
stop_moment limits seed events full x = record { mode = Plain; takes = true; history = x.front; log = [] }

trial_stops : (limits : Limits) (seed events : ℕ) (full : Full) → (x : Stops limits (trial_history seed events) full) → TrialStops limits seed events [] (stop_moment limits seed events full x) full
trial_stops limits seed events full x = record { nothing = refl; stops = x; moment = refl }

-- a limit that stopped the job would be passed
passed : (limits : Limits) (done : Job) (log asked bytes : List ℕ) (full : Full) → JobStopped limits done log asked bytes full → PassesLimit limits done log asked full
passed limits (job.Back of) log asked bytes full x = (x.said, x.to, x.stops)
passed limits (job.Watch mode name) log asked bytes full x = (x.said, x.to, x.stops)
passed limits (job.Reduce kept name store resume) log asked bytes full x = absurd x
passed limits (job.WatchStore kept name store) log asked bytes full x = absurd x
passed limits (job.Query store) log asked bytes full x = absurd x
passed limits (job.Trial seed events) log asked bytes full x = ([], stop_moment limits seed events full x.1, trial_stops limits seed events full x.1)

-- what was written up to where a limit stopped the job is a front
stopped_front : (limits : Limits) (done : Job) (log asked bytes : List ℕ) (full : Full) → JobStopped limits done log asked bytes full → WritesFront limits done log asked bytes
stopped_front limits (job.Back of) log asked bytes full x = inl x.bytes_are
stopped_front limits (job.Trial seed events) log asked bytes full x = rw (x.0) (no_lines limits (trial_history seed events) all_modes)
stopped_front limits (job.Reduce kept name store resume) log asked bytes full x = absurd x
stopped_front limits (job.WatchStore kept name store) log asked bytes full x = absurd x
stopped_front limits (job.Query store) log asked bytes full x = absurd x
stopped_front limits (job.Watch mode name) log asked bytes full x = record {
  front = x.stops.answered;
  rest = x.stops.later;
  said = x.said;
  to = x.to;
  more = [];
  parts = x.stops.parts;
  dialogue = dialogue_of limits (begin mode log) x.to x.stops.answered x.said x.stops.leads;
  bytes_are = append-nil bytes ∙ x.bytes_are;
}

halt_front : (limits : Limits) (done : Job) (log asked : List ℕ) (why : Halt) (bytes : List ℕ) (to : Moment) → JobCourse limits done (Err why) log asked bytes to → WritesFront limits done log asked bytes
halt_front limits done log asked (halt.Full full) bytes to x = stopped_front limits done log asked bytes full x
halt_front limits done log asked halt.NoMemory bytes to x = x
halt_front limits done log asked halt.ReadFault bytes to x = x
halt_front limits done log asked halt.WriteFault bytes to x = x
halt_front limits done log asked halt.StoreFault bytes to x = x
halt_front limits done log asked (halt.BadRow place) bytes to x = x
halt_front limits done log asked (halt.Unwritten other) bytes to x = x

-- before the job begins
pub nothing_written : (limits : Limits) (done : Job) (log asked : List ℕ) (old : Option (List ℕ)) → Written limits done log asked old old
nothing_written limits (job.Back of) log asked old = record { bytes = []; wrote = appends_none old; front = inl refl }
nothing_written limits (job.Trial seed events) log asked old = record { bytes = []; wrote = appends_none old; front = no_lines limits (trial_history seed events) all_modes }
nothing_written limits (job.Reduce kept name store resume) log asked old = record { bytes = []; wrote = appends_none old; front = refl }
nothing_written limits (job.WatchStore kept name store) log asked old = record { bytes = []; wrote = appends_none old; front = refl }
nothing_written limits (job.Query store) log asked old = record { bytes = []; wrote = appends_none old; front = refl }
nothing_written limits (job.Watch mode name) log asked old = record { bytes = []; wrote = appends_none old; front = nothing_said limits (begin mode log) _ }

pub not_begun : (limits : Limits) (done : Job) (log asked : List ℕ) (left old : Option (List ℕ)) → JobTalked limits done log asked left old old (Err halt.NoMemory)
not_begun limits done log asked left old =
    let x = nothing_written limits done log asked old in
    record { to = begin Plain log; bytes = x.bytes; wrote = x.wrote; course = x.front; ends = tt }

pub causes : (read write store hidden : Type 0) (r : Result Unit Halt) → IfErr r (HasCauses read write ⊥ ⊥ ⊥) → StatusCause read write store hidden (status_for r)
causes read write store hidden (Ok done) h = tt
causes read write store hidden (Err halt.NoMemory) h = tt
causes read write store hidden (Err halt.ReadFault) h = h
causes read write store hidden (Err halt.WriteFault) h = h
causes read write store hidden (Err halt.StoreFault) h = absurd h
causes read write store hidden (Err (halt.BadRow place)) h = absurd h
causes read write store hidden (Err (halt.Unwritten other)) h = tt
causes read write store hidden (Err (halt.Full full)) h = tt

pub no_bad_words : (r : Result Unit Halt) → status_for r ≡ status.BadWords → ⊥
no_bad_words (Ok done) is = cc
no_bad_words (Err halt.NoMemory) is = cc
no_bad_words (Err halt.ReadFault) is = cc
no_bad_words (Err halt.WriteFault) is = cc
no_bad_words (Err halt.StoreFault) is = cc
no_bad_words (Err (halt.BadRow place)) is = cc
no_bad_words (Err (halt.Unwritten other)) is = cc
no_bad_words (Err (halt.Full full)) is = cc

-- only what was done is Done
pub done_only : (r : Result Unit Halt) (P : Type 0) → OnOk r P → status_for r ≡ status.Done → P
done_only (Ok t) P p is = p
done_only (Err halt.NoMemory) P p is = absurd (cc)
done_only (Err halt.ReadFault) P p is = absurd (cc)
done_only (Err halt.WriteFault) P p is = absurd (cc)
done_only (Err halt.StoreFault) P p is = absurd (cc)
done_only (Err (halt.BadRow place)) P p is = absurd (cc)
done_only (Err (halt.Unwritten other)) P p is = absurd (cc)
done_only (Err (halt.Full full)) P p is = absurd (cc)

pub headline : (limits : Limits) (done : Job) (log asked : List ℕ) (left old new : Option (List ℕ)) (r : Result Unit Halt) → JobTalked limits done log asked left old new r → status_for r ≡ status.Done → Finished limits done log asked left old new
headline limits done log asked left old new (Ok t) x is = record { to = x.to; bytes = x.bytes; wrote = x.wrote; writes = x.course; ends = x.ends }
headline limits done log asked left old new (Err halt.NoMemory) x is = absurd (cc)
headline limits done log asked left old new (Err halt.ReadFault) x is = absurd (cc)
headline limits done log asked left old new (Err halt.WriteFault) x is = absurd (cc)
headline limits done log asked left old new (Err halt.StoreFault) x is = absurd (cc)
headline limits done log asked left old new (Err (halt.BadRow place)) x is = absurd (cc)
headline limits done log asked left old new (Err (halt.Unwritten other)) x is = absurd (cc)
headline limits done log asked left old new (Err (halt.Full full)) x is = absurd (cc)

pub front_written : (limits : Limits) (done : Job) (log asked : List ℕ) (left old new : Option (List ℕ)) (r : Result Unit Halt) → JobTalked limits done log asked left old new r → Written limits done log asked old new
front_written limits done log asked left old new (Ok t) x = record { bytes = x.bytes; wrote = x.wrote; front = whole_front limits done log asked x.bytes x.to x.course }
front_written limits done log asked left old new (Err why) x = record { bytes = x.bytes; wrote = x.wrote; front = halt_front limits done log asked why x.bytes x.to x.course }

stopped_at : (limits : Limits) (done : Job) (log asked bytes : List ℕ) (old new : Option (List ℕ)) (full : Full) → Appends old new bytes → JobStopped limits done log asked bytes full → StoppedAt limits done log asked old new full
stopped_at limits (job.Back of) log asked bytes old new full wrote x = record {
  said = x.said;
  to = x.to;
  stops = x.stops;
  fits = x.fits;
  wrote = subst (λ (bs : List ℕ). Appends old new bs) x.bytes_are wrote;
}
stopped_at limits (job.Watch mode name) log asked bytes old new full wrote x = record {
  said = x.said;
  to = x.to;
  stops = x.stops;
  fits = x.fits;
  wrote = subst (λ (bs : List ℕ). Appends old new bs) x.bytes_are wrote;
}
stopped_at limits (job.Reduce kept name store resume) log asked bytes old new full wrote x = absurd x
stopped_at limits (job.WatchStore kept name store) log asked bytes old new full wrote x = absurd x
stopped_at limits (job.Query store) log asked bytes old new full wrote x = absurd x
stopped_at limits (job.Trial seed events) log asked bytes old new full wrote x = record {
  said = [];
  to = stop_moment limits seed events full x.1;
  stops = trial_stops limits seed events full x.1;
  fits = x.1.fits;
  wrote = subst (λ (bs : List ℕ). Appends old new bs) x.0 wrote;
}

pub full_exact : (read write : Type 0) (limits : Limits) (done : Job) (log asked : List ℕ) (left old new : Option (List ℕ)) (r : Result Unit Halt) (full : Full) → IfErr r (HasCauses read write ⊥ ⊥ ⊥) → JobTalked limits done log asked left old new r → status_for r ≡ status.Full full → StoppedAt limits done log asked old new full
full_exact read write limits done log asked left old new (Ok t) full halts x is = absurd (cc)
full_exact read write limits done log asked left old new (Err halt.NoMemory) full halts x is = absurd (cc)
full_exact read write limits done log asked left old new (Err halt.ReadFault) full halts x is = absurd (cc)
full_exact read write limits done log asked left old new (Err halt.WriteFault) full halts x is = absurd (cc)
full_exact read write limits done log asked left old new (Err halt.StoreFault) full halts x is = absurd (cc)
full_exact read write limits done log asked left old new (Err (halt.BadRow place)) full halts x is = absurd halts
full_exact read write limits done log asked left old new (Err (halt.Unwritten other)) full halts x is = absurd halts
full_exact read write limits done log asked left old new (Err (halt.Full other)) full halts x is = let same : other ≡ full = cc in rw (← same) (stopped_at limits done log asked x.bytes old new other x.wrote x.course)

pub complete : (limits : Limits) (done : Job) (log asked : List ℕ) (left old new : Option (List ℕ)) (read write : Type 0) (r : Result Unit Halt)
    → JobTalked limits done log asked left old new r → IfErr r (HasCauses read write ⊥ ⊥ ⊥) → (read → ⊥) → (write → ⊥) → PassesNone limits done log asked → (status_for r ≡ status.Done) ⊎ (status_for r ≡ status.NoMemory)
complete limits done log asked left old new read write (Ok t) x halts no_read no_write none = inl refl
complete limits done log asked left old new read write (Err halt.NoMemory) x halts no_read no_write none = inr refl
complete limits done log asked left old new read write (Err halt.ReadFault) x halts no_read no_write none = absurd (no_read halts)
complete limits done log asked left old new read write (Err halt.WriteFault) x halts no_read no_write none = absurd (no_write halts)
complete limits done log asked left old new read write (Err halt.StoreFault) x halts no_read no_write none = absurd halts
complete limits done log asked left old new read write (Err (halt.BadRow place)) x halts no_read no_write none = absurd halts
complete limits done log asked left old new read write (Err (halt.Unwritten other)) x halts no_read no_write none = absurd halts
complete limits done log asked left old new read write (Err (halt.Full full)) x halts no_read no_write none = absurd (none full (passed limits done log asked x.bytes full x.course))

-- a read fault is one of the faults
pub read_fault : (log questions out : Type 0) → log ⊎ questions → log ⊎ (questions ⊎ out)
read_fault log questions out (inl one) = inl one
read_fault log questions out (inr other) = inr (inl other)

-- the job that was read is the job of the words
pub job_same : (a b : Job) (found : Option Job) → found ≡ Some a → found ≡ Some b → a ≡ b
job_same a b found first second = cc

-- a job has one mode
pub some_same : (a b : Mode) → Some a ≡ Some b → a ≡ b
some_same a b is = cc

-- a job that ended passed no limit
pub ended_within : Stay → NeverStops → (limits : Limits) (done : Job) (log asked : List ℕ) (left old new : Option (List ℕ)) (r : Result Unit Halt) (full : Full) → JobTalked limits done log asked left old new r
    → OnOk r (KeepsLimit limits done log asked) → status_for r ≡ status.Done → PassesLimit limits done log asked full → ⊥
ended_within stay fitting limits (job.Back of) log asked left old new (Ok t) full x keeps is (said, to, passes) =
    within_stops stay fitting limits nothing_beyond (begin Plain log) to x.to _ said _ full x.course.dialogue x.ends.within passes (λ none. none)
ended_within stay fitting limits (job.Trial seed events) log asked left old new (Ok t) full x keeps is (said, to, passes) =
    fitting limits (trial_history seed events) full (subst (λ (h : History). Fits limits h) x.course.history x.ends.within) passes.stops
ended_within stay fitting limits (job.Reduce kept name store resume) log asked left old new (Ok t) full x keeps is (said, to, passes) = passes
ended_within stay fitting limits (job.WatchStore kept name store) log asked left old new (Ok t) full x keeps is (said, to, passes) = passes
ended_within stay fitting limits (job.Query store) log asked left old new (Ok t) full x keeps is (said, to, passes) = passes
ended_within stay fitting limits (job.Watch mode name) log asked left old new (Ok t) full x keeps is (said, to, passes) =
    within_stops stay fitting limits (QuestionsStop limits asked) (begin mode log) to x.to _ said _ full x.course.dialogue x.ends.within passes
    (questions_within limits (begin mode log) to asked passes.answered said full keeps passes.leads)
ended_within stay fitting limits done log asked left old new (Err halt.NoMemory) full x keeps is passes = cc
ended_within stay fitting limits done log asked left old new (Err halt.ReadFault) full x keeps is passes = cc
ended_within stay fitting limits done log asked left old new (Err halt.WriteFault) full x keeps is passes = cc
ended_within stay fitting limits done log asked left old new (Err halt.StoreFault) full x keeps is passes = cc
ended_within stay fitting limits done log asked left old new (Err (halt.BadRow place)) full x keeps is passes = cc
ended_within stay fitting limits done log asked left old new (Err (halt.Unwritten other)) full x keeps is passes = cc
ended_within stay fitting limits done log asked left old new (Err (halt.Full other)) full x keeps is passes = cc
