use Rattle.std.proofs.Common.{◌∙◌, ℕ, Option, None, ap, drop}
use Rattle.std.specs.Prelude.{if◌then◌else◌}
use Rattle.std.specs.Ordering.{nat_cmp}
use Rattle.acts.specs.Holding.{is_at}
use Rattle.proc_table.specs.declared.life.Life.{Life}
use Rattle.stored.specs.Batch.{IsSlotBefore}
use Rattle.flow_events.specs.Rows.{found, held_word, is_live, live_in, word_in}
use Rattle.flow_events.proofs.Holding.{say_alike}
use Rattle.flow_events.proofs.rows.collect.Goals as goal

pub returns : goal.returns
returns c =
    let memory = c.args.since.now in
    let fds = c.args.fds.now in
    record {
      entities = c.in_ok-copy_from.ensures ∙ ap (λ (n : ℕ). drop n c.args.entities.now.keys) c.known.ensures;
      names = c.in_ok-new_names.ensures;
      lives = c.in_ok-lives.ensures.say;
      held = say_alike IsSlotBefore (λ p q. is_at q.0 q.1 p.0 p.1) (λ (q : ℕ × ℕ). if live_in c.in_ok-lives.lives.entries q.0 then word_in memory fds (found nat_cmp c.in_ok-lives.lives.entries q.0) q else None)
          (held_word memory c.args.procs.now fds) c.in_ok-held.held.entries
          (λ q. ap (λ (o : Option Life). if is_live o then word_in memory fds o q else None) (c.in_ok-lives.ensures.found q.0))
          c.in_ok-held.ensures;
      addresses = c.in_ok-addresses_of.ensures;
      births = c.in_ok-births_of.ensures;
    }
