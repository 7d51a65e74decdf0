use Rattle.stream_guard.proofs.logs.ThroughputLogs.catch_up.Given as goal

abbrev pub ghosts-catch_up_from : goal.ghosts-catch_up_from
ghosts-catch_up_from a = record { name = a.blank.name; parts = a.blank.parts }
