use Rattle.std.proofs.Common.{◌≡◌, ◌∙◌, ap, refl, arith, length}
use Rattle.ingest.proofs.ReaderSteps.{short_none}
use Rattle.ingest.proofs.engine.Ingest.new.Goals as goal

pub invariant_of-result : goal.invariant_of-result
invariant_of-result g c =
    let stands = c.new.ensures.stands in
    let tail : length c.new.result.cut.tail ≡ 0 = ap length stands.cut.rest ∙ short_none c.new.result.cut.limit in
    let bytes : c.new.result.bytes ≡ 0 = stands.bytes ∙ refl in
    record {
      records = 0;
      few = c.new-2.ensures.few;
      paid = omega (arith, tail);
      within = omega (arith, bytes);
    }
