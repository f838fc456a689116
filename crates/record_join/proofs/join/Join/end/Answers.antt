use Rattle.std.proofs.Common.{refl, []}
use Rattle.audit_lex.specs.declared.header.EventKey.{EventKey}
use Rattle.audit_record.specs.declared.types.Body.TheVariants.{Eoe}
use Rattle.audit_record.specs.declared.types.Record.{Record}
use Rattle.record_join.specs.Events.{enter}
use Rattle.record_join.proofs.Stands.{at_view, alike, ended_at}
use Rattle.record_join.proofs.join.Join.end.Goals as goal

-- the record of an end of this key
abbrev ended : EventKey → Record
ended key = record { key = key; line = []; body = Eoe }

pub invariant_of-self : goal.invariant_of-self
invariant_of-self c =
    let w = c.self.invariant in
    let item = ended c.args.key in
    record {
      limits = w.limits;
      lists = enter w.limits w.lists item;
      stands = alike _ _ _ _ _ _ _ refl refl c.see.ensures
          (ended_at w.stands c.args.key item (record { key_is = refl; ends = refl }) _ c.close.ensures.keys c.close.ensures.each);
    }

pub returns : goal.returns
returns c = λ item ends limits s stands.
    alike _ _ _ _ _ _ _ refl refl c.see.ensures
    (ended_at (at_view c.self.view_is stands) c.args.key item ends _ c.close.ensures.keys c.close.ensures.each)
