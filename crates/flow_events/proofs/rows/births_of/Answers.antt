use Rattle.std.proofs.Common.{◌≤◌, ◌∙◌, List, length, ap, Some, None, arith}
use Rattle.std.specs.Prelude.{if◌then◌else◌}
use Rattle.std.specs.List.{list_any}
use Rattle.std.proofs.lemmas.List.{take_all}
use Rattle.flow_base.specs.declared.types.FileId.{FileId}
use Rattle.flow_base.specs.contracts.types.FileIdPartialEq.TheImpl.{ghosts as files}
use Rattle.flow_events.specs.Births.{born_at}
use Rattle.flow_events.proofs.Sayings.{files_say}
use Rattle.flow_events.specs.Rows.{births_word}
use Rattle.flow_events.proofs.rows.births_of.Goals as goal

pub returns : goal.returns
returns c =
    let list = c.files-file-items.result.now in
    let past : length list ≤ c.loop-file.file-index = (let t = c.loop-file-test.false in let e = c.loop-file.auto.file-index-end in omega (arith, t, e)) in
    files_say c.loop-file.counts.entries (births_word c.args.since.now c.args.births.now) c.equal_files_are_one.ensures.exact c.loop-file.invariant.sorted
    (λ f. c.loop-file.invariant.found_is f
    ∙ ap (λ (l : List FileId). if list_any (files.eq f) l then Some (born_at c.args.births.now f) else None) (take_all c.loop-file.file-index list past ∙ c.files-file-items.ensures))
