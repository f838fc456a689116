-- The count of a part is no part of what an engine stands for.
use Rattle.std.proofs.Common.{◌≡◌, ℕ, List, sym, subst}
use Rattle.flow_base.specs.declared.limits.Limits.{Limits}
use Rattle.audit_lex.specs.History.{History}
use Rattle.ingest.specs.Owing.{Halts}
use Rattle.ingest.specs.Parts.{Engine}
use Rattle.ingest.specs.StandsFor.{StandsFor}
use Rattle.ingest.specs.declared.stop.Stop.{Stop}

module _ {K : Type 0} (limits : Limits) (own seen : Engine K) (part : ℕ) (is : own ≡ seen) (h : History) where
  pub stands_parted : StandsFor limits seen h → StandsFor limits (record own { part = part }) h
  stands_parted stands =
      let w = subst (λ (e : Engine K). StandsFor limits e h) (sym is) stands in
      record { reader = w.reader; joined = w.joined; fits = w.fits }

  pub halts_parted : (piece : List ℕ) (stop : Stop) → Halts limits seen h piece stop → Halts limits (record own { part = part }) h piece stop
  halts_parted piece stop halts =
      let w = subst (λ (e : Engine K). Halts limits e h piece stop) (sym is) halts in
      let owes = w.stands in
      record {
        within = w.within;
        stands = record {
          reader = owes.reader;
          rest = owes.rest;
          done = owes.done;
          joined = owes.joined;
          events_are = owes.events_are;
          left_is = owes.left_is;
          clock = owes.clock;
          within = owes.within;
        };
        by = w.by;
      }
