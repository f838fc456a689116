use Rattle.walk_trials.proofs.walks.fore.Given as goal

-- the ledger of the steps is the blank one
abbrev pub ghosts-fore_by : goal.ghosts-fore_by
ghosts-fore_by a = record { name = a.blank.name; parts = a.blank.parts }
