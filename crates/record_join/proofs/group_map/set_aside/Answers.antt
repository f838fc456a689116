use Rattle.std.proofs.Common.{sym}
use Rattle.record_join.proofs.Splits.{set_aside_is}
use Rattle.record_join.proofs.group_map.set_aside.Goals as goal

pub returns-in-Ok-clause-ok : goal.returns-in-Ok-clause-ok
returns-in-Ok-clause-ok c = set_aside_is _ _ c.in-Some.key c.in-Some.group _ (sym c.in-Some.ensures.value) c.requires.split c.in-Ok.ensures.entries
