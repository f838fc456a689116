use Rattle.batch_log.proofs.PayloadLaws.{each_is_there}
use Rattle.batch_log.proofs.payload.listed_batches_have_their_payloads.Goals as goal

pub returns : goal.returns
returns c = each_is_there
