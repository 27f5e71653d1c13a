use Rattle.dns_name_tests.proofs.counting.steps_counted.Given as goal

-- its own count
abbrev pub ghosts-steps_from_zero : goal.ghosts-steps_from_zero
ghosts-steps_from_zero a = record { name = a.blank.name; parts = a.blank.parts }
