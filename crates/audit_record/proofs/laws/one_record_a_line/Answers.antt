use Rattle.audit_record.proofs.SpellingLaws.{one_record, used_spells, spelled_is_used}
use Rattle.audit_record.proofs.laws.one_record_a_line.Goals as goal

pub returns-clause-one : goal.returns-clause-one
returns-clause-one c = one_record

pub returns-clause-spells : goal.returns-clause-spells
returns-clause-spells c = used_spells

pub returns-clause-used : goal.returns-clause-used
returns-clause-used c = spelled_is_used
