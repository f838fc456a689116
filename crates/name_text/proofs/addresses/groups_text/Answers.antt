use Rattle.std.proofs.Common.{◌≡◌, ◌+◌, ◌-◌, ◌*◌, ◌++◌, ap, arith, take, drop, string_bytes, ◌∙◌}
use Rattle.hex.specs.Hex.{encode_lower}
use Rattle.name_text.proofs.GroupLemmas.{first_group, further_group}
use Rattle.name_text.proofs.addresses.groups_text.Goals.{then-group-gt0+in_ok-push, else-group-gt0}
use Rattle.name_text.proofs.addresses.groups_text.Goals as goal

pub loop-group-preserved : goal.loop-group-preserved
loop-group-preserved c =
    let host = c.args.host.now in
    let group = c.loop-group.group in
    let two : 2 * group + 2 - 2 * group ≡ 2 = omega arith in
    let digits = c.deref.ensures ∙ c.in_ok-digits.ensures ∙ ap (λ n. encode_lower (take n (drop (2 * group) host))) two in
    let put = c.in_ok-push_str.ensures.bytes ∙ ap (λ r. string_bytes c.if-group-gt0.text ++ r) digits in
    elim c.if-group-gt0.branch [
      | then-group-gt0+in_ok-push w ↦
          further_group host (string_bytes c.loop-group.text) (string_bytes c.if-group-gt0.text) (string_bytes c.push_str.new.self) group (omega (arith, c.requires, c.loop-group-test.true)) w.if-group-gt0.true
          c.loop-group.invariant (ap string_bytes w.text-is ∙ w.in_ok-push.ensures.bytes ∙ ap (λ r. string_bytes c.loop-group.text ++ r) (w.in_ok-push.ensures.ascii (omega arith))) put
      | else-group-gt0 w ↦
          first_group host (string_bytes c.if-group-gt0.text) (string_bytes c.push_str.new.self) group (omega (arith, c.requires, c.loop-group-test.true)) w.if-group-gt0.false
          (ap string_bytes w.text-is ∙ c.loop-group.invariant) put
    ]
