use Rattle.std.proofs.Common.{◌≡◌, ◌∙◌, sym, ap, refl, subst, false, List, [], ℕ, length, if◌then◌else◌}
use Rattle.std.specs.Prelude.{nat_lt}
use Rattle.audit_lex.specs.declared.line_cut.Line.{Line}
use Rattle.report_json.specs.Asks.{IsAsk}
use Rattle.report_json.specs.Reading.{ask_of}
use Rattle.dialogue.proofs.MomentLemmas.{none_found}
use Rattle.dialogue.proofs.turn.question_in.Goals as goal

pub returns-in-Err : goal.returns-in-Err
returns-in-Err c = λ most number text is.
    let long : nat_lt most (length text) ≡ false = sym (ap (λ (line : Line). line.long) is) ∙ c.if-line.false in
    let short : (if nat_lt most (length text) then [] else text) ≡ text = rw long refl in
    let same : c.as_slice.result.now ≡ text = c.as_slice.ensures ∙ ap (λ (line : Line). line.text) is ∙ short in
    rw long (none_found text (ask_of text) refl
    (λ asks found. c.in-Err.ensures.bad asks (subst (λ (xs : List ℕ). IsAsk xs asks) (sym same) ((c.what_is_found_is_asked.ensures text asks).0 found))))
