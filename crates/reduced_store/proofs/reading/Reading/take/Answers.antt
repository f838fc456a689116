use Rattle.store_check.specs.Conditions.{bounds_of}
use Rattle.reduced_store.proofs.ReadLemmas.{malformed_is_none}
use Rattle.reduced_store.proofs.reading.Reading.take.Goals as goal

pub take_payload-requires-clause-spelled : goal.take_payload-requires-clause-spelled
take_payload-requires-clause-spelled c = record { bytes = c.args.bytes.now; is = c.in-Ok.ensures.found; long = c.requires.length }

pub returns-in-Err-Malformed : goal.returns-in-Err-Malformed
returns-in-Err-Malformed c = λ listed payloads h. malformed_is_none (bounds_of c.args.limits.now) payloads c.args.bytes.now (c.in-Err-Malformed.ensures.malformed (let e = c.in-Err-Malformed.is in cc))
