use Rattle.std.proofs.Common.{[], refl}
use Rattle.store_check.specs.Conditions.{bounds_of}
use Rattle.reduced_store.proofs.FillLemmas.{none_sound}
use Rattle.reduced_store.proofs.PlaceLemmas.{placed_none}
use Rattle.reduced_store.proofs.reading.Reading.new.Goals as goal

pub returns : goal.returns
returns c = λ limits. record {
  batches = [];
  checked = (refl, refl);
  rows = c.in_ok-rows.ensures.rows;
  unjudged = c.in_ok-rows.ensures.unjudged;
  sound = none_sound (bounds_of limits).entities;
  placed = placed_none c.in_ok-rows.rows c.in_ok-rows.ensures.settled c.in_ok-rows.ensures.there c.in_ok-rows.ensures.firm;
  tables = c.new.ensures;
  closing = c.new-2.ensures;
}
