use Rattle.bench_quota.proofs.in_cell.PayerCaller.run.Given as goal

abbrev pub ghosts-pay_by_pass : goal.ghosts-pay_by_pass
ghosts-pay_by_pass g a = record { place = a.bucket.now }
