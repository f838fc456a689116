use Rattle.std.proofs.Common.{◌≡◌, map, take}
use Rattle.serde_json.specs.View.{members_view}
use Rattle.report_json.specs.Replies.{with_numbers}
use Rattle.report_json.proofs.counts.put_counts.Given as goal

-- the counts so far
abbrev pub invariant-loop-key : goal.invariant-loop-key
invariant-loop-key l =
    members_view l.members.entries ≡ with_numbers (members_view l.initial.members.entries) (map (λ named. (named.0.now, named.1)) (take l.key-index l.counts))
