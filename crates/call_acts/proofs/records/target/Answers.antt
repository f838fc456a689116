use Rattle.std.proofs.Common.{◌∙◌, ap}
use Rattle.std.specs.Prelude.{option_map}
use Rattle.std.specs.Option.{option_or}
use Rattle.audit_record.specs.declared.types.NameKind.TheVariants.{Create, Normal, Unknown}
use Rattle.call_acts.proofs.RecordLists.{last_after, now_of_either, target_is}
use Rattle.call_acts.proofs.records.target.Goals as goal

pub loop-record-preserved : goal.loop-record-preserved
loop-record-preserved c =
    let records = c.args.records.now in
    let i = c.loop-record.record-index in
    let so_far = c.loop-record.invariant in (
      last_after Create records i c.record-item.result _ _ _ c.loop-record-test.true c.record-item.is c.path_of.ensures so_far.0
          (ap (option_map (λ p. p.now)) c.or-created.ensures ∙ now_of_either c.path_of.result c.loop-record.created),
      last_after Normal records i c.record-item.result _ _ _ c.loop-record-test.true c.record-item.is c.path_of-in-loop-record.ensures so_far.1
          (ap (option_map (λ p. p.now)) c.or-normal.ensures ∙ now_of_either c.path_of-in-loop-record.result c.loop-record.normal),
      last_after Unknown records i c.record-item.result _ _ _ c.loop-record-test.true c.record-item.is c.path_of-in-loop-record-2.ensures so_far.2
          (ap (option_map (λ p. p.now)) c.or-unknown.ensures ∙ now_of_either c.path_of-in-loop-record-2.result c.loop-record.unknown),
    )

pub returns : goal.returns
returns c =
    let so_far = c.loop-record.invariant in
    ap (option_map (λ p. p.now)) c.or-2.ensures
    ∙ now_of_either c.or.result c.loop-record.unknown
    ∙ ap (λ o. option_or (option_map (λ p. p.now) o) (option_map (λ p. p.now) c.loop-record.unknown)) c.or.ensures
    ∙ ap (λ o. option_or o (option_map (λ p. p.now) c.loop-record.unknown)) (now_of_either c.loop-record.created c.loop-record.normal)
    ∙ target_is c.args.records.now c.loop-record.record-index _ _ _ c.loop-record-test.false so_far.0 so_far.1 so_far.2
