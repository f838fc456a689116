use Rattle.std.proofs.Common.{rules, ◌≡◌, ◌∙◌, refl, ap, true, not}
use Rattle.std.specs.Ordering.{nat_cmp}
use Rattle.store_check.specs.Store.{newer}
use Rattle.flow_events.specs.Rows.{found, goes_on, is_live, slot_cmp}
use Rattle.flow_events.proofs.Holding.{pid_word}
use Rattle.flow_events.proofs.rows.put_pid.Goals as goal

pub returns-in_ok-put_entries : goal.returns-in_ok-put_entries
returns-in_ok-put_entries c =
    let life = found nat_cmp c.args.lives.now.entries c.args.pid in
    let live : is_live life ≡ true = search rules in
    let whole : not c.goes_on-all.result ≡ not (goes_on c.args.since.now c.args.pid life) = ap not (c.goes_on-all.ensures ∙ ap (goes_on c.args.since.now c.args.pid) c.get-life.ensures.value) in
    record {
      found_is = λ q.
          c.in_ok-put_entries.ensures.found_is q
          ∙ ap (newer (found slot_cmp c.args.held.now.entries q)) (pid_word c.args.since.now c.args.lives.now.entries c.args.fds.now c.args.pid life (not c.goes_on-all.result) refl live whole q);
      sorted = c.in_ok-put_entries.ensures.sorted;
    }
