use Rattle.std.proofs.Common.{◌∙◌, ap}
use Rattle.std.specs.Option.{option_to_list}
use Rattle.audit_lex.specs.FieldTable.{slot_rules}
use Rattle.audit_lex.specs.Slots.{held}
use Rattle.audit_lex.specs.Tokens.{token_at, tokens_of}
use Rattle.audit_lex.proofs.SlotLemmas.{front_fills, front_leaves, full_behind, has_value, offered_full, past_front, place_within, slot_within}
use Rattle.audit_lex.proofs.usual_run.take_front.Goals as goal
use Rattle.audit_lex.proofs.usual_run.take_front.Goals.{in-Some, in-None}

pub returns-clause-reads : goal.returns-clause-reads
returns-clause-reads c = λ raw read.
    let kind = c.args.kind in
    let rules = slot_rules kind in
    let front = c.args.front in
    let is = c.requires.front in
    let rest = c.args.run.rest.now in
    let tokens = option_to_list (token_at rest) in
    let next = c.past_spaces-rest in
    let before = held c.args.slots.now.values in
    let size = c.args.slots.now.size in
    let some = c.requires.some in
    let behind = next.ensures.same ∙ ap tokens_of is.rest in
    elim c.match-front.branch [
      | in-Some w ↦
          let place = w.in-Some.place in
          let after = held w.offer.new.self.values in
          let filled = front_fills kind tokens front.value.now front.place place c.args.slots.now.values after size is.offers is.within w.in-Some.is w.offer.ensures in
          let within = slot_within kind c.args.slots.now.values place size (place_within front.place place _ is.within w.in-Some.is) in
          let taken = offered_full before place front.value.now after within (has_value front.place place front.value.now is.value w.in-Some.is) w.offer.ensures in
          let full = full_behind kind tokens before after c.args.run.full place w.full_behind-full.result filled taken w.full_behind-full.ensures read.filled read.table in
          rw w.slots-is (rw w.full-is (record {
            begins = next.ensures.begins;
            table = full.1;
            filled = full.0;
            finding = past_front rules raw rest next.result.now before after some (read.begins some) behind filled read.finding;
          }))
      | in-None w ↦
          let filled = front_leaves rules tokens front.value.now front.place before is.offers w.in-None.is in
          rw w.slots-is (rw w.full-is (record {
            begins = next.ensures.begins;
            table = read.table;
            filled = read.filled;
            finding = past_front rules raw rest next.result.now before before some (read.begins some) behind filled read.finding;
          }))
    ]
