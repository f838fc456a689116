use Rattle.std.proofs.Common.{◌≡◌, ◌<◌, ◌++◌, ◌∙◌, List, ap, sym, subst, refl}
use Rattle.fd_table.specs.declared.entries.FdEntry.{FdEntry}
use Rattle.fd_table.specs.declared.entries.Course.{Course}
use Rattle.fd_table.specs.Entries.{entry_of, entries_in, Ascends}
use Rattle.fd_table.proofs.EntryLemmas.{both_say, both_ascend}
use Rattle.fd_table.proofs.entries.entries_of.Goals as goal

module _ (c : goal.In_ok-walk-2) where
  abbrev low : Course
  low = record { nodes = c.args.nodes; objects = c.args.objects; least = 0; closed_alone = c.args.closed_alone }

  abbrev high : Course
  high = record { nodes = c.args.nodes; objects = c.args.objects; least = 4096; closed_alone = c.args.closed_alone }

  abbrev all : List FdEntry
  all = entries_in low 3 c.args.holding.kept.low c.args.holding.marked.low 0 ++ entries_in high 8 c.args.holding.kept.high c.args.holding.marked.high 0

  found_is : c.walk-2.new.found ≡ all
  found_is = c.in_ok-walk-2.ensures ∙ ap (λ es. es ++ entries_in high 8 c.args.holding.kept.high c.args.holding.marked.high 0) (c.in_ok-walk.ensures ∙ ap (λ es. es ++ entries_in low 3 c.args.holding.kept.low c.args.holding.marked.low 0) c.new-found.ensures)

pub returns-clause-held : goal.returns-clause-held
returns-clause-held c = λ n. ap (λ es. entry_of es n) (found_is c) ∙ both_say (low c) (high c) refl refl refl refl refl c.args.holding n

pub returns-clause-ascends : goal.returns-clause-ascends
returns-clause-ascends c = subst (Ascends (λ x y. x.fd < y.fd)) (sym (found_is c)) (both_ascend (low c) (high c) refl refl refl refl refl c.args.holding)
