use Rattle.std.proofs.Common.{rules, ◌≡◌, ◌-◌, ◌≤◌, ◌∙◌, sym, ap, arith, length, take, drop, Some}
use Rattle.std.specs.Option.{option_and_then}
use Rattle.std.proofs.lemmas.List.{take_rest, take-take}
use Rattle.std.proofs.lemmas.Simd.{length-chunk}
use Rattle.audit_lex.specs.Header.{seconds_of, stamp_of, with_seconds}
use Rattle.audit_lex.proofs.StampLemmas.{stamp_by_numbers}
use Rattle.audit_lex.proofs.SameStamps.{same_seconds, same_stamp, seconds_rest, seconds_within, rest_is, after_seconds}
use Rattle.audit_lex.proofs.last_stamp.LastStamp.stamp.Goals as goal

pub returns-then-begins_alike : goal.returns-then-begins_alike
returns-then-begins_alike c =
    let held = c.self.inside in
    let text = c.args.text.now in
    let alike = c.begins_alike.ensures c.if-begins_alike.true in
    ap (λ t. Some (held.key, t)) (take_rest text held.len)
    ∙ sym (same_stamp held.bytes text held.len held.key (omega (arith, c.self.invariant.size, c.self.invariant.within)) c.self.invariant.stamp alike)

pub returns-in_err-key : goal.returns-in_err-key
returns-in_err-key c = let is = stamp_by_numbers c.args.text.now in search rules

pub overflow_sub-len : goal.overflow_sub-len
overflow_sub-len c =
    let text = c.args.text.now in
    let after = c.in_ok-seconds.after.now in
    let rest = c.in_ok-key.rest.now in
    let read : seconds_of text ≡ Some (c.in_ok-seconds.seconds, after) = search rules in
    let made : with_seconds (c.in_ok-seconds.seconds, after) ≡ Some (c.in_ok-key.key, rest) = search rules in
    omega (arith, seconds_within text after c.in_ok-seconds.seconds read, after_seconds c.in_ok-seconds.seconds after rest c.in_ok-key.key made)

pub overflow_sub-self : goal.overflow_sub-self
overflow_sub-self c =
    let text = c.args.text.now in
    let after = c.in_ok-seconds.after.now in
    let read : seconds_of text ≡ Some (c.in_ok-seconds.seconds, after) = search rules in
    seconds_within text after c.in_ok-seconds.seconds read

pub invariant_of-self : goal.invariant_of-self
invariant_of-self c =
    let text = c.args.text.now in
    let seconds = c.in_ok-seconds.seconds in
    let after = c.in_ok-seconds.after.now in
    let key = c.in_ok-key.key in
    let rest = c.in_ok-key.rest.now in
    let read : seconds_of text ≡ Some (seconds, after) = search rules in
    let made : with_seconds (seconds, after) ≡ Some (key, rest) = search rules in
    let is : stamp_of text ≡ Some (key, rest) = stamp_by_numbers text ∙ ap (option_and_then with_seconds) read ∙ made in
    let len = length text - length rest in
    let dot = length text - length after in
    let less : length rest ≤ length after = after_seconds seconds after rest key made in
    let within : length after ≤ length text = seconds_within text after seconds read in
    let at : rest ≡ drop len text = rest_is text rest len key is (omega (arith, less, within)) in
    let at_dot : after ≡ drop dot text = seconds_rest text after dot seconds read (omega (arith, within)) in
    record {
      size = length-chunk 0 32 text (omega arith);
      dot_within = omega (arith, less, within);
      within = omega arith;
      below = search rules;
      seconds_are = same_seconds text (take 32 text) dot seconds (omega arith) (read ∙ ap (λ t. Some (seconds, t)) at_dot) (take-take dot 32 text (omega (arith, less, within)));
      stamp = same_stamp text (take 32 text) len key (omega arith) (is ∙ ap (λ t. Some (key, t)) at) (take-take len 32 text (omega arith));
    }

pub returns : goal.returns
returns c = let is = stamp_by_numbers c.args.text.now in search rules
