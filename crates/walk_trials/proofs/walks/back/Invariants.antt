use Rattle.walk_trials.proofs.walks.back.Given as goal

-- the ledger of the steps is the blank one
abbrev pub ghosts-back_by : goal.ghosts-back_by
ghosts-back_by a = record { name = a.blank.name; parts = a.blank.parts }
