use Rattle.std.proofs.Common.{refl, ap, length, arith, []}
use Rattle.name_text.specs.Addresses.{text_of}
use Rattle.record_join.specs.History.{start}
use Rattle.ingest.proofs.Following.{in_time_by, never_marked}
use Rattle.ingest.proofs.Limiting.{full_none}
use Rattle.ingest.proofs.Together.{none_kept}
use Rattle.ingest.proofs.event_flows.EventFlows.new.Goals as goal

pub invariant_of-result : goal.invariant_of-result
invariant_of-result g c =
    in_time_by _ _ _ _ _ c.new-2.ensures.limits.limits_are (record {
      s = start;
      join_is = c.new.ensures.stands;
      bounds = c.new-2.ensures.limits;
      together = record {
        safe = c.new-2.ensures.safe;
        kept_of = none_kept _ _ _ _ _ _ _ _ c.new-4.ensures.kept c.requires.none c.requires.count c.requires.known
            (ap length (c.new-2.ensures.stands text_of).objects_are);
      };
    })

pub returns-clause-stands : goal.returns-clause-stands
returns-clause-stands g c = λ told. record {
  limits_are = c.new-2.ensures.limits.limits_are;
  join = c.new.ensures.stands;
  released_last = record { key = refl; time = refl };
  excess = refl;
  counts = c.new-5.ensures;
  tables = c.new-2.ensures.stands text_of;
  marked = never_marked _ [] c.new-2.ensures.unmarked;
  kept_are = c.new-4.ensures.none told;
  in_time = record { rise = tt; later = omega arith };
  fits = full_none c.args.limits.now.entities c.args.limits.now.flows 0 0 (omega arith) (omega arith);
}

pub returns-clause-few : goal.returns-clause-few
returns-clause-few g c = record {
  limits = c.args.limits.now;
  s = start;
  join = c.new.ensures.stands;
  few = omega (arith, (c.new-2.ensures.stands text_of).acts_are);
}

pub returns-clause-acts : goal.returns-clause-acts
returns-clause-acts g c = (c.new-2.ensures.stands text_of).acts_are
