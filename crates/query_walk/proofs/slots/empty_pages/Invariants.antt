use Rattle.std.proofs.Common.{◌≡◌, length}
use Rattle.query_walk.proofs.slots.empty_pages.Given as goal

-- a page was made for each number so far
abbrev pub invariant-loop : goal.invariant-loop
invariant-loop l = length l.pages.items ≡ l.counter
