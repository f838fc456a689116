use Rattle.std.proofs.Common.{rules, ◌≡◌, ◌≢◌, ◌<◌, ◌++◌, ◌+◌, ◌*◌, ◌-◌, ◌^◌, [], OnOk, ℕ, sym, ap, subst, ◌∙◌, arith}
use Rattle.std.proofs.lemmas.List.{append-nil}
use Rattle.fd_table.specs.Trees.{child}
use Rattle.fd_table.specs.Entries.{below, entries_in}
use Rattle.fd_table.proofs.EntryLemmas.{both_empty, none_closed, of_leaf, of_children, room_shrinks, room_for_digit}
use Rattle.fd_table.proofs.entries.+walk.Goals as goal
use Rattle.fd_table.proofs.entries.+walk.Goals.{then-kept-eq0, else-kept-eq0}

pub returns-then-course : goal.returns-then-course
returns-then-course t c =
    let none : entries_in c.args.course.now c.args.height c.args.kept c.args.marked c.args.first ≡ [] =
    subst (λ m. entries_in c.args.course.now c.args.height c.args.kept m c.args.first ≡ []) (sym c.if-marked-eq0.true) (elim c.if-kept-eq0.branch [
      | then-kept-eq0 w ↦ subst (λ k. entries_in c.args.course.now c.args.height k 0 c.args.first ≡ []) (sym w.if-kept-eq0.true) (both_empty c.args.course.now c.args.height c.args.first)
      | else-kept-eq0 w ↦ none_closed c.args.course.now (sym w.value-is ∙ c.if-course.true) c.args.height c.args.kept c.args.first
    ]) in
    sym (append-nil c.args.found.now) ∙ ap (λ es. c.args.found.now ++ es) (sym none)

pub returns-then-height-eq0 : goal.returns-then-height-eq0
returns-then-height-eq0 t c =
    subst (λ es. OnOk c.push_leaf.result (c.push_leaf.new.found ≡ c.args.found.now ++ es)) (sym (of_leaf c.args.course.now c.args.height c.args.kept c.args.marked c.args.first c.if-height-eq0.true)) c.push_leaf.ensures

module _ (t : ℕ) (c : goal.In-loop-digit t) where
  below_room : c.args.first * 16 + c.loop-digit.digit < 2 ^ 32
  below_room =
      let some : c.args.height ≢ 0 = search (rules, c.if-height-eq0.false) in
      let a = room_for_digit c.args.height c.args.first c.loop-digit.digit some c.requires c.loop-digit-test.true in
      let b = room_shrinks (c.args.height - 1) in
      omega (arith, a, b)

pub overflow_mul-next : goal.overflow_mul-next
overflow_mul-next t c = let h = below_room t c in omega (arith, h)

pub overflow_add-next : goal.overflow_add-next
overflow_add-next t c = let h = below_room t c in omega (arith, h)

pub returns : goal.returns
returns t c =
    let some : c.args.height ≢ 0 = search (rules, c.if-height-eq0.false) in
    let end : c.loop-digit.digit ≡ 16 = let e = c.loop-digit.auto.digit-end in let f = c.loop-digit-test.false in omega (arith, e, f) in
    c.loop-digit.invariant
    ∙ ap (λ n. c.args.found.now ++ below (λ d. entries_in c.args.course.now (c.args.height - 1) (child c.args.course.now.nodes.now c.args.kept d) (child c.args.course.now.nodes.now c.args.marked d) (c.args.first * 16 + d)) n) end
    ∙ ap (λ es. c.args.found.now ++ es) (sym (of_children c.args.course.now c.args.height c.args.kept c.args.marked c.args.first some))
