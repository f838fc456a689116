use Rattle.std.proofs.Common.{ap, refl, ◌<◌, ◌-◌, ◌^◌, sym, arith, Some}
use Rattle.dialogue.specs.Dialogue.{begin}
use Rattle.audit_cli.proofs.JobLemmas.{back_talked, watch_talked}
use Rattle.dialogue.proofs.SaveLemmas.{in_memory}
use Rattle.dialogue.proofs.HearLemmas.{on_ok}
use Rattle.audit_cli.proofs.JobLemmas.{causes_too, not_begun, some_same}
use Rattle.std.proofs.lemmas.Result.{err_from_is_err_and}
use Rattle.audit_cli.proofs.run.run_with.Goals as goal

pub invariant_of-session : goal.invariant_of-session
invariant_of-session g c = record { few = omega arith; room = c.in_ok-piece.ensures }

pub invariant_of-session-in-Watch : goal.invariant_of-session-in-Watch
invariant_of-session-in-Watch g c = record { few = omega arith; room = c.in_ok-piece.ensures }

pub returns-in-Back-clause-talked : goal.returns-in-Back-clause-talked
returns-in-Back-clause-talked g c = λ bytes asked told tells.
    let start = in_memory bytes c.new-engine.result.joined.keep in
    let within = c.args.limits.now.input_within in
    let small : c.args.limits.now.input < 2 ^ 64 - 1 = omega (arith, within) in
    let plain = rw c.in-Back.is at c.requires.mode in
    let heard = rw c.in-Back.is at told in
    rw c.in-Back.is (back_talked _ _ c.args.limits.now c.in-Back.of bytes asked _ _ _ _ c.back.result (some_same _ _ (sym plain))
    (c.back.ensures.talked c.args.limits.now bytes small (record { in_mode = refl; may_take = refl; stands_at = record { stands = c.new-engine.ensures.stands (ap Some c.new.ensures); told = heard }; holds = tt })))

pub returns-in-Watch-clause-talked : goal.returns-in-Watch-clause-talked
returns-in-Watch-clause-talked g c = λ bytes asked told tells.
    let start = in_memory bytes c.new-engine.result.joined.keep in
    let heard = rw c.in-Watch.is at tells in
    let same = some_same _ _ (rw c.in-Watch.is at c.requires.mode) in
    let begun = rw c.in-Watch.is at told in
    rw c.in-Watch.is (watch_talked _ _ c.args.limits.now _ _ bytes asked _ _ _ _ c.watch.result
    (c.watch.ensures.talked start (begin c.in-Watch.mode bytes) asked (record { in_mode = same; may_take = refl; stands_at = record { stands = c.new-engine.ensures.stands (ap Some c.new.ensures); told = begun }; holds = tt }) heard))

pub returns-in-Back-clause-within : goal.returns-in-Back-clause-within
returns-in-Back-clause-within g c = λ bytes asked told tells. rw c.in-Back.is (on_ok c.back.result _ tt)

pub returns-in-Watch-clause-within : goal.returns-in-Watch-clause-within
returns-in-Watch-clause-within g c = λ bytes asked told tells.
    let start = in_memory bytes c.new-engine.result.joined.keep in
    let heard = rw c.in-Watch.is at tells in
    let same = some_same _ _ (rw c.in-Watch.is at c.requires.mode) in
    let begun = rw c.in-Watch.is at told in
    rw c.in-Watch.is (c.watch.ensures.within start (begin c.in-Watch.mode bytes) asked (record { in_mode = same; may_take = refl; stands_at = record { stands = c.new-engine.ensures.stands (ap Some c.new.ensures); told = begun }; holds = tt }) heard)

pub returns-in-Back-clause-whole : goal.returns-in-Back-clause-whole
returns-in-Back-clause-whole g c = λ of bytes is told.
    let start = in_memory bytes c.new-engine.result.joined.keep in
    let within = c.args.limits.now.input_within in
    let small : c.args.limits.now.input < 2 ^ 64 - 1 = omega (arith, within) in
    c.back.ensures.whole c.args.limits.now bytes small (record { in_mode = refl; may_take = refl; stands_at = record { stands = c.new-engine.ensures.stands (ap Some c.new.ensures); told = told }; holds = tt })

pub returns-in-Back-clause-left : goal.returns-in-Back-clause-left
returns-in-Back-clause-left g c = λ bytes asked told tells. rw c.in-Back.is (on_ok c.back.result _ tt)

pub returns-in-Watch-clause-left : goal.returns-in-Watch-clause-left
returns-in-Watch-clause-left g c = λ bytes asked told tells.
    let start = in_memory bytes c.new-engine.result.joined.keep in
    let heard = rw c.in-Watch.is at tells in
    let same = some_same _ _ (rw c.in-Watch.is at c.requires.mode) in
    let begun = rw c.in-Watch.is at told in
    rw c.in-Watch.is (c.watch.ensures.left start (begin c.in-Watch.mode bytes) asked (record { in_mode = same; may_take = refl; stands_at = record { stands = c.new-engine.ensures.stands (ap Some c.new.ensures); told = begun }; holds = tt }) heard)

pub returns-in-Back-clause-causes : goal.returns-in-Back-clause-causes
returns-in-Back-clause-causes g c = causes_too c.back.result _ _ _ c.back.ensures.causes

pub returns-in_err-piece-clause-talked : goal.returns-in_err-piece-clause-talked
returns-in_err-piece-clause-talked g c = λ bytes asked told tells.
    let p = err_from_is_err_and c.from_residual.result c.from_residual.ensures.1 in
    rw (p.1, p.2) (not_begun c.args.limits.now c.args.job.now bytes asked _ _)
