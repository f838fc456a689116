use Rattle.std.proofs.Common.{◌≡◌, string_bytes, take}
use Rattle.std.specs.List.{join_with_byte}
use Rattle.name_text.specs.Addresses.{groups_of}
use Rattle.name_text.proofs.addresses.groups_text.Given as goal

-- the groups so far were put
abbrev pub invariant-loop-group : goal.invariant-loop-group
invariant-loop-group l = string_bytes l.text ≡ join_with_byte 58 (take l.group (groups_of l.host))
