use Rattle.dns_name_tests.proofs.counting.order.Given as goal

-- nobody counts
abbrev pub ghosts-compared : goal.ghosts-compared
ghosts-compared a = record { name = a.blank.name; parts = a.blank.parts }
