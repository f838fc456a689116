-- Allowed questions, and their answers over rows.
use Rattle.std.proofs.Common.{ℕ, ◌≤◌, List, Option, Some, None, ◌↔◌, sym, subst, ◌∙◌}
use Rattle.std.proofs.lemmas.Bool.{eqb-true}
use Rattle.flow_base.specs.declared.types.Flow.{Flow}
use Rattle.flow_base.specs.declared.types.Stamp.{Stamp}
use Rattle.reach_model.specs.declared.modes.Mode.{Mode}
use Rattle.reach_model.specs.declared.modes.Mode.TheVariants.{Plain, Continuous, Full, Source}
use Rattle.reach_model.specs.Flows.{source, IsLawful}
use Rattle.reach_model.specs.Rows.{Row, Keeps, firsts}
use Rattle.reach_model.specs.Sources.{StartsBy, IsStartAllowed}
use Rattle.reach_model.proofs.Faithful.{back_sound, fore_sound}
use Rattle.reach_model.proofs.KeepsFirst.{first_kept}
use Rattle.reach_model.proofs.TheLaws.{answers}
use Rattle.reach_rows.specs.declared.questions.First.{First}
use Rattle.reach_rows.specs.declared.questions.Question.{Question}
use Rattle.reach_rows.specs.declared.questions.Question.TheVariants.{Back, Fore}
use Rattle.reach_rows.specs.Asked.{IsAnswer, IsAnswerable, IsAnsweredFor, counted, subject}
use Rattle.reach_rows.specs.Kept.{IsFirstOf}
use Rattle.reach_rows.specs.Questions.{IsAllowed, IsStartBy}

start_allowed : (F : List Flow) (x : ℕ) (since : Option ℕ) (first : First) → IsFirstOf F x first → IsStartBy first since → IsStartAllowed F x since
start_allowed F x None first is by = tt
start_allowed F x (Some s) first is by = subst (λ o. StartsBy o s) (sym is.is) (subst (λ (t : Stamp). s ≤ t.ms) is.at by)

answerable : (mode : Mode) (F : List Flow) (question : Question) (first : First) → IsFirstOf F (subject question) first → IsAllowed mode question first → IsAnswerable mode F question
answerable Plain F question first is a = tt
answerable Continuous F question first is a = tt
answerable Full F (Back of until) first is a = tt
answerable Full F (Fore of since) first is a = start_allowed F of.0 since first is a
answerable Source F (Back of until) first is a = tt
answerable Source F (Fore of since) first is a = ((is.by, is.is, eqb-true (source is.by) of.0 (sym is.out ∙ a.0)), start_allowed F of.0 since first is a.1)

pub first_told : {mode : Mode} {F : List Flow} {R : List Row} → IsLawful F → Keeps mode F R → (x : ℕ) (first : First) → IsFirstOf (firsts R) x first ↔ IsFirstOf F x first
first_told l k x first =
    let same = first_kept l k x in (
      λ i. record { by = i.by; is = sym same ∙ i.is; at = i.at; out = i.out },
      λ i. record { by = i.by; is = same ∙ i.is; at = i.at; out = i.out },
    )

answered : (mode : Mode) (F : List Flow) (R : List Row) (question : Question) → IsLawful F → Keeps mode F R → IsAnswerable mode F question
    → (x : ℕ) → IsAnsweredFor mode F question x → IsAnswer question (counted question R) x ↔ IsAnswer question F x
answered Plain F R (Back of until) l k a x for = (answers Plain F R l k).back of.0 until x
answered Plain F R (Fore of since) l k a x for = (answers Plain F R l k).fore of.0 since x
answered Continuous F R (Back of until) l k a x for = (answers Continuous F R l k).back of.0 until x
answered Continuous F R (Fore of since) l k a x for = (answers Continuous F R l k).fore of.0 since x
answered Full F R (Back of until) l k a x for = (answers Full F R l k).back of.0 until x
answered Full F R (Fore of since) l k a x for = (answers Full F R l k).fore of.0 since a x
answered Source F R (Back of until) l k a x for = (answers Source F R l k).back of.0 until x for
answered Source F R (Fore of since) l k a x for = (answers Source F R l k).fore of.0 since a.0 a.1 x

pub allowed_answered : (mode : Mode) (F : List Flow) (R : List Row) (question : Question) (first : First) → IsLawful F → Keeps mode F R → IsFirstOf (firsts R) (subject question) first → IsAllowed mode question first
    → (x : ℕ) → IsAnsweredFor mode F question x → IsAnswer question (counted question R) x ↔ IsAnswer question F x
allowed_answered mode F R question first l k is a = answered mode F R question l k (answerable mode F question first ((first_told l k (subject question) first).0 is) a)

pub answers_sound : (mode : Mode) (F : List Flow) (R : List Row) (question : Question) → IsLawful F → Keeps mode F R → (x : ℕ) → IsAnswer question (counted question R) x → IsAnswer question F x
answers_sound mode F R (Back of until) l k x = back_sound l k of.0 until x
answers_sound mode F R (Fore of since) l k x = fore_sound l k of.0 since x
