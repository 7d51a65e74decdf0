use Rattle.golden_retries.proofs.quota.locked.print.Given as goal

abbrev pub ghosts-print_two : goal.ghosts-print_two
ghosts-print_two g a = record { name = a.blank.name; parts = a.blank.parts }

abbrev pub ghosts-print_paid : goal.ghosts-print_paid
ghosts-print_paid g a = record { name = a.blank.name; parts = a.blank.parts }

abbrev pub ghosts-print_earned : goal.ghosts-print_earned
ghosts-print_earned g a = record { name = a.blank.name; parts = a.blank.parts }

abbrev pub ghosts-print_called : goal.ghosts-print_called
ghosts-print_called g a = record { name = a.blank.name; parts = a.blank.parts }
