use Rattle.std.proofs.Common.{[]}
use Rattle.name_text.specs.Addresses.{text_of}
use Rattle.log_tests.proofs.tables.Course.new.Goals as goal

pub invariant_of-result : goal.invariant_of-result
invariant_of-result c = record { before = []; stands = c.new.ensures.stands text_of; admitted = tt; limited = c.new.ensures.limits; safe = c.new.ensures.safe }
