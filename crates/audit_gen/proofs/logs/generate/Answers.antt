use Rattle.std.proofs.Common.{◌≡◌, ◌++◌, sym, ap, ◌∙◌}
use Rattle.rand_pcg.specs.Lcg.{next}
use Rattle.rand_pcg.specs.Pcg.{multiplier_64, pcg32}
use Rattle.audit_gen.specs.Logs.{event_text, generator_of, word_after}
use Rattle.audit_gen.proofs.EventLemmas.{advance_then_next, advance_zero, generated_more}
use Rattle.audit_gen.proofs.logs.generate.Goals as goal

pub loop-number-init : goal.loop-number-init
loop-number-init c = record {
  drawn = c.generator_of-words.ensures ∙ sym (advance_zero 64 multiplier_64 (generator_of c.args.seed));
  put = c.in_ok-log.ensures.items;
}

pub loop-number-preserved : goal.loop-number-preserved
loop-number-preserved c =
    let number = c.loop-number.number in
    let generator = generator_of c.args.seed in
    let drawn = c.loop-number.invariant.drawn in
    let word : c.next_word.result ≡ word_after number generator =
    ap (λ p. p.0) c.next_word.ensures ∙ ap (λ words. (pcg32 words).0) drawn in
    let text = c.as_bytes.ensures.value ∙ c.in_ok-text.ensures ∙ ap (event_text number) word in
    record {
      drawn =
          ap (λ p. p.1) c.next_word.ensures ∙ ap (next 64 multiplier_64) drawn
          ∙ advance_then_next 64 multiplier_64 number generator;
      put =
          c.in_ok-extend_from_slice.ensures.items ∙ ap (λ text. c.loop-number.log.items ++ text) text
          ∙ ap (λ log. log ++ event_text number (word_after number generator)) c.loop-number.invariant.put
          ∙ sym (generated_more c.args.seed number);
    }
