-- How the undoing of a log goes on.
use Rattle.std.proofs.Common.{◌∙◌, sym, refl, ap, subst, ℕ, List, [], ◌∷◌, ◌++◌, Option, map, append_assoc, append-nil}
use Rattle.std.specs.Io.KnownBytes.{Appends}
use Rattle.std.proofs.lemmas.List.{map-append}
use Rattle.order_text.specs.Undo.{undone}
use Rattle.audit_order.specs.Start.{Start}
use Rattle.audit_order.specs.Lines.{text_of}
use Rattle.audit_order.specs.Undone.{Undid}
use Rattle.audit_order.proofs.CourseLemmas.{text_more, appends_both, appends_none}

pub undoes_none : (before : Start) → Undid before before.written [] []
undoes_none before = record { done = []; appends = appends_none before.written; text = refl }

-- one more line is undone
pub undoes_more : (before : Start) (now : Option (List ℕ)) (pending line : List ℕ) (lines : List (List ℕ))
    → Undid before now pending lines → Undid before now (pending ++ (undone line ++ 10 ∷ [])) (lines ++ line ∷ [])
undoes_more before now pending line lines u = record {
  done = u.done;
  appends = u.appends;
  text = sym (append_assoc u.done pending (undone line ++ 10 ∷ [])) ∙ ap (λ (t : List ℕ). t ++ (undone line ++ 10 ∷ [])) u.text
      ∙ sym (text_more (map undone lines) (undone line)) ∙ ap text_of (sym (map-append undone lines (line ∷ [])));
}

-- what waited to be handed on was handed on
pub handed_on : (before : Start) (now later : Option (List ℕ)) (pending : List ℕ) (lines : List (List ℕ)) → Appends now later pending
    → Undid before now pending lines → Undid before later [] lines
handed_on before now later pending lines handed u = record {
  done = u.done ++ pending;
  appends = appends_both before.written now later u.done pending u.appends handed;
  text = append-nil (u.done ++ pending) ∙ u.text;
}

-- all was handed on
pub undid_all : (before : Start) (now : Option (List ℕ)) (lines : List (List ℕ)) → Undid before now [] lines → Appends before.written now (text_of (map undone lines))
undid_all before now lines u = subst (λ (t : List ℕ). Appends before.written now t) (sym (append-nil u.done) ∙ u.text) u.appends
