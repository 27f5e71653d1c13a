use Rattle.dns_name.proofs.name_buf.NameBufParseMessageBytes.parse_message_bytes.Given as goal

-- nobody counts
abbrev pub ghosts-read_uncounted : goal.ghosts-read_uncounted
ghosts-read_uncounted a = record { name = a.blank.name; parts = a.blank.parts }
