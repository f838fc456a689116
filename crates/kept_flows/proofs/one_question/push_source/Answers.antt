use Rattle.std.proofs.Common.{◌↔◌, ◌∷◌, ◌++◌, [], ℕ, List, IsTrue, sym, subst, ap, ◌∙◌}
use Rattle.std.proofs.lemmas.Bool.{false≢true}
use Rattle.std.proofs.lemmas.List.{map-append}
use Rattle.std.proofs.lemmas.Result.{on_ok_weaker}
use Rattle.flow_base.specs.declared.types.EntityId.{EntityId}
use Rattle.reach_model.specs.Ids.{numbers}
use Rattle.reach_model.specs.Rows.{Row, firsts}
use Rattle.reach_model.specs.Sources.{IsSource}
use Rattle.kept_flows.specs.Answering.{AreThose}
use Rattle.kept_flows.proofs.Those.{told, if_told, those_more, those_passed}
use Rattle.kept_flows.proofs.one_question.push_source.Goals as goal

-- whatever is chosen before, it is chosen with this number
abbrev goes_on : List Row → ℕ → (old new : List EntityId) → Type 0
goes_on R x old new = (xs : List ℕ) → AreThose (IsSource (firsts R)) xs (numbers old) → AreThose (IsSource (firsts R)) (xs ++ x ∷ []) (numbers new)

pub returns-then-is_source : goal.returns-then-is_source
returns-then-is_source g c =
    let rows = g.W.Rows.rows c.args.rows.now in
    let id = c.args.id in
    let old = c.args.those.now in
    on_ok_weaker c.push.result (λ pushed. if_told (λ R. goes_on R id.0 old c.push.new.self) rows (λ R e xs t.
    let is = (told (λ R. IsTrue c.is_source.result ↔ IsSource (firsts R) id.0) rows c.is_source.ensures R e).0 c.if-is_source.true in
    subst (AreThose (IsSource (firsts R)) (xs ++ id.0 ∷ [])) (sym (ap numbers pushed ∙ map-append (λ (i : EntityId). i.0) old (id ∷ [])))
    (those_more xs id.0 (IsSource (firsts R)) (numbers old) is t))) c.push.ensures.ok

pub returns-else-is_source : goal.returns-else-is_source
returns-else-is_source g c =
    let rows = g.W.Rows.rows c.args.rows.now in
    let id = c.args.id in
    let old = c.args.those.now in
    if_told (λ R. goes_on R id.0 old old) rows (λ R e xs t.
    let is = told (λ R. IsTrue c.is_source.result ↔ IsSource (firsts R) id.0) rows c.is_source.ensures R e in
    those_passed xs id.0 (IsSource (firsts R)) (numbers old) (λ s. false≢true (sym c.if-is_source.false ∙ is.1 s)) t)
