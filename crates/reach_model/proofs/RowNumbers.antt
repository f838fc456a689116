-- The rows know the same objects, in the same order.
use Rattle.std.proofs.Common.{◌≡◌, ℕ, ◌<◌, ◌++◌, ◌∷◌, [], List, get_or, refl, sym, ap, subst, ◌∙◌, arith, inl, inr}
use Rattle.std.proofs.lemmas.List.{map-append}
use Rattle.std.proofs.Math.Seq.{map-set_same}
use Rattle.flow_base.specs.declared.types.Flow.{Flow}
use Rattle.reach_model.specs.declared.modes.Mode.{Mode}
use Rattle.reach_model.specs.declared.modes.Verdict.TheVariants.{Drop, Add, Extend}
use Rattle.reach_model.specs.Flows.{source, target, IsLawful}
use Rattle.reach_model.specs.Numbers.{known, IsNumbered}
use Rattle.reach_model.specs.Rows.{Row, row_of, firsts, Keeps, none, more}
use Rattle.reach_model.proofs.Lawful.{lawful_front}
use Rattle.reach_model.proofs.Numbering.{known_push, ends_known, numbered_front, numbered_last, numbered_push}
use Rattle.reach_model.proofs.RowFacts.{carries}
use Rattle.reach_model.proofs.FirstFlows.{IsKnown, touched, touches_source, touches_target, known_by}
use Rattle.reach_model.proofs.KeepsFirst.{dropped_known}
use Rattle.reach_model.proofs.Exists.{first_member, first_touches}

below : (F : List Flow) (x : ℕ) → IsKnown F x → x < known F
below F x (f, e) = let i = ends_known F f (first_member F x f e) in
    elim (touched f x (first_touches F x f e)) [ inl s ↦ omega (arith, i.0) | inr t ↦ omega (arith, i.1) ]

stays : (F : List Flow) (f : Flow) → IsKnown F (source f) → IsKnown F (target f) → known (F ++ f ∷ []) ≡ known F
stays F f s t = omega (arith, known_push F f, below F (source f) s, below F (target f) t)

pub known_kept : {mode : Mode} {F : List Flow} {R : List Row} → IsLawful F → Keeps mode F R → known (firsts R) ≡ known F
known_kept l none = refl
known_kept {mode} l (more {F} {R} f Drop k v) = let b = dropped_known mode F R f l k v in known_kept (lawful_front F f l) k ∙ sym (stays F f b.0 b.1)
known_kept l (more {F} {R} f Add k v) = let i = known_kept (lawful_front F f l) k in
    ap known (map-append (λ (r : Row). r.first) R (row_of f ∷ [])) ∙ omega (arith, known_push (firsts R) f, known_push F f)
known_kept {mode} l (more {F} {R} f (Extend i) k v) =
    let on = (carries mode F R f i v).1 (row_of f) in
    let r = get_or R i (row_of f) in
    let s = known_by F r.last (source f) on.there (touches_source r.last (source f) on.pair.0) in
    let t = known_by F r.last (target f) on.there (touches_target r.last (target f) on.pair.1) in
    ap known (map-set_same (λ (r : Row). r.first) R i (record r { last = f }) (row_of f) refl) ∙ known_kept (lawful_front F f l) k ∙ sym (stays F f s t)

pub numbered_kept : {mode : Mode} {F : List Flow} {R : List Row} → IsLawful F → Keeps mode F R → IsNumbered F → IsNumbered (firsts R)
numbered_kept l none n = n
numbered_kept l (more {F} {R} f Drop k v) n = numbered_kept (lawful_front F f l) k (numbered_front F f n)
numbered_kept l (more {F} {R} f Add k v) n =
    let e = known_kept (lawful_front F f l) k in
    let last = numbered_last F f n in
    subst IsNumbered (sym (map-append (λ (r : Row). r.first) R (row_of f ∷ [])))
    (numbered_push (firsts R) f (numbered_kept (lawful_front F f l) k (numbered_front F f n)) (omega (arith, last.0)) (omega (arith, last.1)))
numbered_kept l (more {F} {R} f (Extend i) k v) n =
    subst IsNumbered (sym (map-set_same (λ (r : Row). r.first) R i (record (get_or R i (row_of f)) { last = f }) (row_of f) refl)) (numbered_kept (lawful_front F f l) k (numbered_front F f n))
