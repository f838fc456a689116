-- The laws of the modes, as the public functions state them.
use Rattle.std.proofs.Common.{◌≡◌, List, [], ◌∷◌, ◌++◌, refl, sym, ap, subst, ◌∙◌, arith}
use Rattle.std.specs.List.{Contains}
use Rattle.std.proofs.lemmas.List.{map-append}
use Rattle.flow_base.specs.declared.types.Flow.{Flow}
use Rattle.reach_model.specs.declared.modes.Mode.{Mode}
use Rattle.reach_model.specs.declared.modes.Mode.TheVariants.{Plain, Continuous, Full, Source}
use Rattle.reach_model.specs.declared.modes.Verdict.TheVariants.{Drop, Add, Extend}
use Rattle.reach_model.specs.Flows.{IsLawful}
use Rattle.reach_model.specs.Paths.{Back, Fore}
use Rattle.reach_model.specs.Laws.{Answers, AnswersAll, AnswersFromFirst, AnswersForSources, KeepsNothingElse}
use Rattle.reach_model.specs.Rows.{Row, firsts, row_of, Keeps, none, more}
use Rattle.reach_model.proofs.PathLemmas.{path_weaker}
use Rattle.reach_model.proofs.Faithful.{kept_first, back_sound, fore_sound, continuous_back, continuous_fore, full_back}
use Rattle.reach_model.proofs.FullMode.{full_fore}
use Rattle.reach_model.proofs.SingleRows.{singles}
use Rattle.reach_model.proofs.Starts.{from_first}
use Rattle.reach_model.proofs.SourceMode.{source_back, source_fore}

plain_all : {F : List Flow} {R : List Row} → Keeps Plain F R → firsts R ≡ F
plain_all none = refl
plain_all (more f Drop k v) = absurd v
plain_all (more {F} {R} f Add k v) = map-append (λ (r : Row). r.first) R (row_of f ∷ []) ∙ ap (λ xs. xs ++ f ∷ []) (plain_all k)
plain_all (more f (Extend i) k v) = absurd v

pub plain_answers : (F : List Flow) (R : List Row) → IsLawful F → Keeps Plain F R → AnswersAll F R
plain_answers F R l k = record {
  back = λ v t u. let e = plain_all k in (subst (λ K. Back K v t u) e, subst (λ K. Back K v t u) (sym e));
  fore = λ u s v. let e = singles tt k ∙ plain_all k in (subst (λ K. Fore K u s v) e, subst (λ K. Fore K u s v) (sym e));
}

pub continuous_answers : (F : List Flow) (R : List Row) → IsLawful F → Keeps Continuous F R → AnswersAll F R
continuous_answers F R l k = record {
  back = λ v t u. (back_sound l k v t u, continuous_back l k v t u);
  fore = λ u s v. (fore_sound l k u s v, continuous_fore l k u s v);
}

pub full_answers : (F : List Flow) (R : List Row) → IsLawful F → Keeps Full F R → AnswersFromFirst F R
full_answers F R l k = record {
  back = λ v t u. (back_sound l k v t u, full_back l k v t u);
  fore = λ u s from v. (fore_sound l k u s v, full_fore l k u s v (from_first l u s from));
}

pub source_answers : (F : List Flow) (R : List Row) → IsLawful F → Keeps Source F R → AnswersForSources F R
source_answers F R l k = record {
  back = λ v t x is. (back_sound l k v t x, source_back l k v t x is);
  fore = λ x s is from v. (fore_sound l k x s v, source_fore l k x s v is (from_first l x s from));
}

pub nothing_else : {mode : Mode} (F : List Flow) (R : List Row) → IsLawful F → Keeps mode F R → KeepsNothingElse F R
nothing_else F R l k u v p w = path_weaker (Contains (firsts R)) (Contains F) (λ g c. kept_first l k g c) 0 0 u v p (omega arith) w

pub answers : (mode : Mode) (F : List Flow) (R : List Row) → IsLawful F → Keeps mode F R → Answers mode F R
answers Plain F R l k = plain_answers F R l k
answers Continuous F R l k = continuous_answers F R l k
answers Full F R l k = full_answers F R l k
answers Source F R l k = source_answers F R l k
