use Rattle.dns_name.proofs.own_labels.copy_own_labels.Given as goal

-- nobody counts
abbrev pub ghosts-copy_uncounted : goal.ghosts-copy_uncounted
ghosts-copy_uncounted a = record { name = a.blank.name; parts = a.blank.parts }
