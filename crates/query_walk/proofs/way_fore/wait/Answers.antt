use Rattle.std.proofs.Common.{inl, inr, refl, sym, ◌∙◌}
use Rattle.std.proofs.lemmas.Bool.{false≢true}
use Rattle.query_walk.proofs.way_fore.wait.Goals as goal

pub returns-in_ok-put : goal.returns-in_ok-put
returns-in_ok-put c = λ a.
    let put = c.in_ok-put.ensures a in
    let wanted = c.is_wanted.ensures.0 c.if-is_wanted.true in (
      λ m. elim (put.0 m) [
        | inl old ↦ inl old
        | inr e ↦ inr (record { leads = record { leaves = refl; after = wanted.0; since = wanted.1; is = e }; new = λ t. false≢true (sym c.if-not-has.true ∙ c.has.ensures ∙ t) })
      ],
      λ s. put.1 (elim s [ inl old ↦ inl old | inr l ↦ inr (l.leads).is ]),
    )
