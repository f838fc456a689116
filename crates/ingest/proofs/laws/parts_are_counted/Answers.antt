use Rattle.std.proofs.Common.{arith}
use Rattle.ingest.proofs.Bytes.{bytes_more}
use Rattle.ingest.proofs.laws.parts_are_counted.Goals as goal

pub returns-clause-taken : goal.returns-clause-taken
returns-clause-taken g c = λ limits old new h part piece has stands count.
    let more = bytes_more h piece in
    record {
      stands = stands;
      has_part = record {
        counted = omega (arith, has.counted, has.within, count, more, stands.fits.input, limits.input_within);
        within = omega (arith, has.within, more);
      };
    }

pub returns-clause-owed : goal.returns-clause-owed
returns-clause-owed g c = λ limits old new h part piece has owes count.
    let more = bytes_more h piece in
    record {
      owes = owes;
      has_part = record {
        counted = omega (arith, has.counted, has.within, count, more, owes.within, limits.input_within);
        within = omega (arith, has.within, more);
      };
    }

pub returns-clause-rest : goal.returns-clause-rest
returns-clause-rest g c = λ limits engine h part with_part. record {
  owes = (c.what_stands_owes_nothing.ensures limits engine h with_part.stands).0;
  has_part = with_part.has_part;
}
