use Rattle.kept_flows.proofs.kept_flows.KeptFlows.restore.Given as goal

-- the ledger of the steps is the blank one
abbrev pub ghosts-recall_all : goal.ghosts-recall_all
ghosts-recall_all g a = record { name = a.blank.name; parts = a.blank.parts }
