use Rattle.std.proofs.Common.{refl}
use Rattle.record_join.specs.PutBack.{fresh}
use Rattle.record_join.proofs.Stands.{alike, fresh_stands}
use Rattle.record_join.proofs.join.Join.resume.Goals as goal

pub invariant_of-result : goal.invariant_of-result
invariant_of-result c = record {
  limits = c.args.limits.now;
  lists = fresh c.args.clock;
  stands = alike _ _ _ _ _ _ _ c.new.ensures refl refl (fresh_stands c.args.limits.now c.args.clock);
}
