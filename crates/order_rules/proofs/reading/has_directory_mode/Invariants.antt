use Rattle.std.proofs.Common.{◌≡◌, map, false}
use Rattle.std.specs.List.{list_any}
use Rattle.order_rules.specs.Lines.{is_directory_mode}
use Rattle.order_rules.proofs.reading.has_directory_mode.Given as goal

-- no word so far was the mode of a directory
abbrev pub invariant-loop-word : goal.invariant-loop-word
invariant-loop-word l = list_any is_directory_mode (map (λ w. w.now) l.yielded) ≡ false
