use Rattle.std.proofs.Common.{◌≡◌, ◌≢◌, ◌<◌, ◌∙◌, ap, refl, arith, inr, ℕ, List, [], length, get_or, Option, None}
use Rattle.std.specs.Option.{option_or}
use Rattle.audit_lex.specs.FieldTable.{slot_rules}
use Rattle.audit_lex.specs.Slots.{names_of}
use Rattle.audit_lex.specs.Runs.{IsReadTo}
use Rattle.audit_lex.specs.Tokens.{tokens_of, value_in, field_of}
use Rattle.audit_lex.specs.declared.fields.Kind.{Kind}
use Rattle.audit_lex.specs.declared.usual_run.Run.{Run}
use Rattle.audit_lex.proofs.usual_run.beginning.Goals as goal

-- at the beginning nothing was read
begun : (kind : Kind) (raw : List ℕ) (run : Run) (slots : List (Option (List ℕ))) → ((place : ℕ) → get_or slots place None ≡ None) → run.full ≡ 0
    → (0 < length run.rest.now → get_or run.rest.now 0 0 ≢ 32) → tokens_of run.rest.now ≡ tokens_of raw → IsReadTo kind raw run slots
begun kind raw run slots empty none begins same = record {
  begins = begins;
  table = inr none;
  filled = λ place below. absurd (omega (arith, below, none));
  finding = λ place below.
      let name = get_or (names_of (slot_rules kind)) place [] in
      ap (λ own. option_or own (field_of run.rest.now name)) (empty place) ∙ ap (λ tokens. value_in tokens name) same;
}

pub returns : goal.returns
returns c = λ kind slots empty. begun kind c.args.raw.now _ slots empty refl c.past_spaces.ensures.begins c.past_spaces.ensures.same
