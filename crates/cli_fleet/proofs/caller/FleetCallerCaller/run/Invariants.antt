use Rattle.cli_fleet.proofs.caller.FleetCallerCaller.run.Given as goal

abbrev pub ghosts-finish : goal.ghosts-finish
ghosts-finish g a = record { place = a.bucket.now }
