use Rattle.std.proofs.Common.{ℕ, List, ◌+◌, ◌∙◌, ap, take, drop, rules}
use Rattle.outside.proofs.Moments.{uses_in_a_row}
use Rattle.outside.specs.Looking.{looks_in_a_row}
use Rattle.outside.proofs.ReadLemmas.{reads_more}
use Rattle.outside.proofs.through.read_whole.Goals as goal

pub loop-done-preserved : goal.loop-done-preserved
loop-done-preserved g c =
    let so_far = c.loop-done.invariant in
    let state = g.D.Disk.state in
    let old = state c.args.disk.now in
    record {
      within = search rules;
      read = λ told.
          let next = c.in-Ok.ensures.bytes (so_far.looks.tells told) ∙ ap (λ (reads : List ℕ). take c.in-Ok.count (drop (c.args.at + c.loop-done.done) reads)) (so_far.looks.same told) in
          reads_more c.loop-done.done c.in-Ok.count c.args.at c.loop-done.buf c.read_at.new.buf _ old.reads so_far.within c.in-Ok.ensures.bound.0 (so_far.read told) next;
      looks = looks_in_a_row old (state c.loop-done.disk) (state c.read_at.new.self) so_far.looks c.read_at.ensures.looks;
      uses = uses_in_a_row _ _ _ so_far.uses c.read_at.ensures.uses;
    }
