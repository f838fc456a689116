use Rattle.std.proofs.Common.{◌≤◌, length, ap, arith, ◌∙◌, sym}
use Rattle.name_text.proofs.PartLemmas.{gains_up, popped, pushed, at_root, at_head}
use Rattle.name_text.proofs.paths.put_up.Goals.{in_default-via-in-Some+else-not-is_up, in_default-via-in-None+else-absolute}
use Rattle.name_text.proofs.paths.put_up.Goals as goal

pub returns-in-Some : goal.returns-in-Some
returns-in-Some c = gains_up c.args.absolute _ _ c.args.up.now c.requires
    (popped c.args.absolute c.args.parts.now.items c.deref.result.now c.pop.new.self.items _ c.in-Some.last.now c.args.up.now c.deref.ensures.value c.deref.ensures.len
    c.in-Some.ensures.value (sym c.is_up.ensures ∙ c.if-not-is_up.true) c.pop.ensures.rest)

pub returns-in-None : goal.returns-in-None
returns-in-None c =
    let none : length c.args.parts.now.items ≤ 0 = omega (arith, ap length c.deref.ensures.value, c.in-None.ensures.item.3) in
    gains_up c.args.absolute _ _ c.args.up.now c.requires (at_root c.args.absolute c.args.parts.now.items c.args.up.now none c.if-absolute.true)

pub returns-in_ok-push-in_default : goal.returns-in_ok-push-in_default
returns-in_ok-push-in_default c = gains_up c.args.absolute _ _ c.args.up.now c.requires
    (elim c.in_default.branch [
      | in_default-via-in-Some+else-not-is_up w ↦
          pushed c.args.absolute c.args.parts.now.items c.deref.result.now c.push.new.self.items w.in-Some.last.now c.args.up c.deref.ensures.value w.in-Some.ensures.value
          (sym w.is_up.ensures ∙ w.if-not-is_up.false) c.in_ok-push-in_default.ensures.items
      | in_default-via-in-None+else-absolute w ↦
          (let none : length c.args.parts.now.items ≤ 0 = omega (arith, ap length c.deref.ensures.value, w.in-None.ensures.item.3) in
          at_head c.args.absolute c.args.parts.now.items c.push.new.self.items c.args.up none w.if-absolute.false c.in_ok-push-in_default.ensures.items)
    ])
