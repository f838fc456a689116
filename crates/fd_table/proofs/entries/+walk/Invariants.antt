use Rattle.std.proofs.Common.{◌≡◌, ◌++◌, ◌+◌, ◌-◌, ◌*◌}
use Rattle.fd_table.specs.Trees.{child}
use Rattle.fd_table.specs.Entries.{below, entries_in}
use Rattle.fd_table.proofs.entries.+walk.Given as goal

abbrev pub decreases-walk : goal.decreases-walk
decreases-walk l = l.height

-- what stands below the digits so far
abbrev pub invariant-loop-digit : goal.invariant-loop-digit
invariant-loop-digit l =
    l.found ≡ l.fn.found ++ below (λ d. entries_in l.course (l.height - 1) (child l.course.nodes.now l.kept d) (child l.course.nodes.now l.marked d) (l.first * 16 + d)) l.digit
