-- The reader that a State says.
use Rattle.std.proofs.Common.{◌≡◌, ◌∙◌, sym, refl, ap, subst, ℕ, List}
use Rattle.flow_base.specs.declared.limits.Limits.{Limits}
use Rattle.flow_base.specs.declared.types.Bad.{Bad}
use Rattle.audit_lex.specs.History.{History}
use Rattle.audit_lex.specs.LineCut.{Cutter}
use Rattle.row_codec.specs.declared.state.StateRow.{StateRow}
use Rattle.stored.specs.Moment.{state_at}
use Rattle.ingest.specs.StandsFor.{ReaderStandsFor}
use Rattle.ingest.specs.StateParts.{reader_of}
use Rattle.ingest.specs.Storing.{moment_of}
use Rattle.ingest.proofs.StoreMoments.{LinesAreCounted, total_is}

-- it stands for whatever history the State is of
pub stands_restored : LinesAreCounted → (limits : Limits) (s : StateRow) (h : History) (p : ℕ) → s ≡ state_at (moment_of limits h p) → ReaderStandsFor limits (reader_of limits s) h
stands_restored counted limits s h p is =
    subst (λ (t : StateRow). ReaderStandsFor limits (reader_of limits t) h) (sym is)
    (record {
      limits_are = refl;
      cut = record { count = total_is limits h counted; rest = refl; over = refl };
      line = refl;
      tally = refl;
      bytes = refl;
    })

-- made of these parts it is that reader
pub parts_restored : (limits : Limits) (s : StateRow) (cut : Cutter) (tail : List ℕ) (bad : List Bad) → cut ≡ record { limit = limits.line; lines = s.lines; tail = tail; long = s.long } → tail ≡ s.tail → bad ≡ s.bad
    → record (reader_of limits s) { cut = cut; tally = record (reader_of limits s).tally { bad = bad } } ≡ reader_of limits s
parts_restored limits s cut tail bad cut_is tail_is bad_is =
    ap (λ (b : List Bad). record (reader_of limits s) { cut = cut; tally = record (reader_of limits s).tally { bad = b } }) bad_is
    ∙ ap (λ (k : Cutter). record (reader_of limits s) { cut = k }) cut_is
    ∙ ap (λ (l : List ℕ). record (reader_of limits s) { cut = record (reader_of limits s).cut { tail = l } }) tail_is
