use Rattle.std.proofs.Common.{rules, ◌≡◌, ◌∙◌, ℕ, Bool, List, map, sym, ap, nat_eq, Option, None}
use Rattle.std.specs.Prelude.{if◌then◌else◌}
use Rattle.std.specs.List.{list_any}
use Rattle.std.specs.Map.{keys_of}
use Rattle.std.specs.Map.Iter.{deref}
use Rattle.std.proofs.lemmas.Map.Iter.{iter_end}
use Rattle.std.proofs.lemmas.Map.Made.{is_some-lookup}
use Rattle.proc_table.specs.declared.life.Life.{Life}
use Rattle.proc_table.specs.Table.{at}
use Rattle.fd_table.proofs.CarryLemmas.{any_shown}
use Rattle.flow_events.proofs.Sayings.{numbers_say}
use Rattle.flow_events.specs.Rows.{life_word}
use Rattle.flow_events.proofs.rows.lives_of.Goals as goal

pub returns-clause-say : goal.returns-clause-say
returns-clause-say c =
    let pids : List (ℕ × Option Life) = c.args.since.now.pids in
    let all : map deref c.loop-pid.yielded ≡ keys_of pids = let e = c.pids.ensures in search (rules, iter_end, e) in
    numbers_say c.loop-pid.lives.entries (life_word c.args.since.now c.args.procs.now) c.loop-pid.invariant.sorted
    (λ p. c.loop-pid.invariant.found_is p
    ∙ ap (λ (b : Bool). if b then at c.args.procs.now p else None) (any_shown deref (nat_eq p) c.loop-pid.yielded ∙ ap (list_any (nat_eq p)) all ∙ sym (is_some-lookup (nat_eq p) pids)))

pub returns-clause-found : goal.returns-clause-found
returns-clause-found c = λ p.
    let pids : List (ℕ × Option Life) = c.args.since.now.pids in
    let all : map deref c.loop-pid.yielded ≡ keys_of pids = let e = c.pids.ensures in search (rules, iter_end, e) in
    c.loop-pid.invariant.found_is p
    ∙ ap (λ (b : Bool). if b then at c.args.procs.now p else None) (any_shown deref (nat_eq p) c.loop-pid.yielded ∙ ap (list_any (nat_eq p)) all ∙ sym (is_some-lookup (nat_eq p) pids))
