use Rattle.std.proofs.Common.{rules, ◌≡◌, ◌==◌, ◌∙◌, sym, ap, [], None}
use Rattle.std.specs.Prelude.{◌||◌, if◌then◌else◌}
use Rattle.store_check.specs.Store.{newer}
use Rattle.flow_events.specs.Rows.{found, only_if, slot_cmp}
use Rattle.flow_events.specs.Since.{is_touched}
use Rattle.flow_events.proofs.Holding.{entry_put, entry_word, entries_word, none_left}
use Rattle.flow_events.proofs.rows.put_entries.Goals as goal

pub loop-entry-init : goal.loop-entry-init
loop-entry-init c = record {
  found_is = λ q. ap (newer (found slot_cmp c.args.held.now.entries q)) (entries_word (c.args.all || is_touched c.args.since.now q) c.in_ok-entries.entries c.args.fds.now c.args.pid c.in_ok-entries.ensures.held q);
  sorted = λ s. s;
}

pub loop-entry-preserved : goal.loop-entry-preserved
loop-entry-preserved c = record {
  found_is = λ q.
      entry_put (λ x. c.args.all || is_touched c.args.since.now x) c.pop.new.self c.loop-entry.entries c.in-Some.entry c.args.pid q (found slot_cmp c.loop-entry.held.entries q) (found slot_cmp c.put_entry.new.held.entries q) c.in-Some.ensures.some (c.in_ok-put_entry.ensures.found_is q)
      ∙ c.loop-entry.invariant.found_is q;
  sorted = λ s. c.in_ok-put_entry.ensures.sorted (c.loop-entry.invariant.sorted s);
}

pub returns : goal.returns
returns c =
    let none : c.loop-entry.entries ≡ [] = search rules in
    record {
      found_is = λ q.
          sym (ap (λ l. newer (found slot_cmp c.loop-entry.held.entries q) (if c.args.pid == q.0 then only_if (c.args.all || is_touched c.args.since.now q) (entry_word l q.1) else None)) none ∙ none_left (c.args.all || is_touched c.args.since.now q) c.args.pid q.0 (found slot_cmp c.loop-entry.held.entries q))
          ∙ c.loop-entry.invariant.found_is q;
      sorted = c.loop-entry.invariant.sorted;
    }
