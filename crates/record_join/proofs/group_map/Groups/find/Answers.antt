use Rattle.std.proofs.Common.{sym, ◌∙◌, ap, subst, List}
use Rattle.std.specs.Map.{lookup}
use Rattle.record_join.specs.Keys.{is_key}
use Rattle.record_join.specs.Split.{Entry, IsSplit, against}
use Rattle.record_join.proofs.Splits.{found_at, found_last, found_lesser, greater_none}
use Rattle.record_join.proofs.group_map.Groups.find.Goals as goal

pub returns-in-Equal : goal.returns-in-Equal
returns-in-Equal c = sym (found_at _ _ _ _ c.args.key.now c.self.view_is c.in-Some.is
    ∙ found_last _ (c.in-Some.last, c.in-Some.group) c.args.key.now (subst (λ o. IsSplit c.self.inside.lesser.entries o) c.in-Some.is c.self.invariant) (sym c.in-Equal.ensures))

pub returns-in-Less : goal.returns-in-Less
returns-in-Less c = c.get.ensures.value ∙ sym (found_at _ _ _ _ c.args.key.now c.self.view_is c.in-Some.is
    ∙ found_lesser _ (c.in-Some.last, c.in-Some.group) c.args.key.now (sym c.in-Less.ensures))

pub returns-in-Greater : goal.returns-in-Greater
returns-in-Greater c = sym (ap (λ (es : List Entry). lookup (is_key c.args.key.now) es) (sym c.self.view_is)
    ∙ greater_none _ _ c.args.key.now c.self.invariant (ap (λ o. against o c.args.key.now) c.in-Some.is ∙ sym c.in-Greater.ensures))
