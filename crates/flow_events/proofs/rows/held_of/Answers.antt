use Rattle.std.proofs.Common.{rules, ◌≡◌, ◌==◌, ◌∙◌, ℕ, Bool, List, sym, ap, map, nat_eq, None}
use Rattle.std.specs.Prelude.{if◌then◌else◌}
use Rattle.std.specs.List.{list_any}
use Rattle.std.specs.Map.{keys_of}
use Rattle.std.specs.Map.Iter.{deref}
use Rattle.std.specs.Ordering.{nat_cmp}
use Rattle.std.proofs.lemmas.Map.Iter.{iter_end}
use Rattle.fd_table.proofs.CarryLemmas.{any_last, any_shown}
use Rattle.fd_table.specs.Table.{held_at}
use Rattle.store_check.specs.Store.{newer}
use Rattle.flow_events.specs.Since.{has_slot}
use Rattle.flow_events.specs.Rows.{found, is_written, live_in, live_word, lost_word, slot_cmp, word_in}
use Rattle.flow_events.proofs.Holding.{any_found, held_word_is, pid_put, swapped, touched_written}
use Rattle.flow_events.proofs.Sayings.{slots_say}
use Rattle.flow_events.proofs.rows.held_of.Goals as goal

pub loop-pid-preserved : goal.loop-pid-preserved
loop-pid-preserved c =
    let lives = c.args.lives.now.entries in
    let fds = c.args.fds.now in
    let memory = c.args.since.now in
    record {
      found_is = λ q.
          pid_put (found slot_cmp c.loop-pid.held.entries q) (found slot_cmp c.put_pid.new.held.entries q) (found slot_cmp c.in_ok-held.held.entries q) (list_any (λ pid. q.0 == pid.now) c.loop-pid.yielded) (q.0 == c.in-Some.pid.now) (live_word memory lives fds q)
          (c.loop-pid.invariant.found_is q)
          (c.in_ok-put_pid.ensures.found_is q ∙ ap (λ (b : Bool). newer (found slot_cmp c.loop-pid.held.entries q) (if b then live_word memory lives fds q else None)) (swapped c.in-Some.pid.now q.0))
          ∙ ap (λ (b : Bool). newer (found slot_cmp c.in_ok-held.held.entries q) (if b then live_word memory lives fds q else None)) (sym (any_last (λ pid. q.0 == pid.now) c.loop-pid.yielded c.in-Some.pid));
      sorted = c.in_ok-put_pid.ensures.sorted c.loop-pid.invariant.sorted;
    }

pub returns : goal.returns
returns c =
    let lives = c.args.lives.now.entries in
    let fds = c.args.fds.now in
    let memory = c.args.since.now in
    let all : map deref c.loop-pid.yielded ≡ keys_of lives = search (rules, iter_end) in
    slots_say c.loop-pid.held.entries (λ (q : ℕ × ℕ). if live_in lives q.0 then word_in memory fds (found nat_cmp lives q.0) q else None) c.loop-pid.invariant.sorted
    (λ q. c.loop-pid.invariant.found_is q
    ∙ ap (λ o. newer o (if list_any (λ pid. q.0 == pid.now) c.loop-pid.yielded then live_word memory lives fds q else None)) (c.in_ok-held.ensures.found q ∙ ap (λ (l : List (ℕ × ℕ)). if has_slot l q.0 q.1 then lost_word lives q else None) c.slots.ensures)
    ∙ held_word_is (has_slot memory.slots q.0 q.1) (is_written memory (found nat_cmp lives q.0) q) (list_any (λ pid. q.0 == pid.now) c.loop-pid.yielded) (found nat_cmp lives q.0) (held_at fds q.0 q.1)
    (touched_written memory (found nat_cmp lives q.0) q)
    (any_shown deref (nat_eq q.0) c.loop-pid.yielded ∙ ap (list_any (nat_eq q.0)) all ∙ any_found lives q.0))
