use Rattle.bench_quota.proofs.locked.spend.Given as goal

abbrev pub ghosts-spend_by_ledger : goal.ghosts-spend_by_ledger
ghosts-spend_by_ledger g a = record { name = a.blank.name; parts = a.blank.parts }
