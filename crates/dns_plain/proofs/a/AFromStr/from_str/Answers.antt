use Rattle.dns_plain.proofs.a.AFromStr.from_str.Goals as goal

-- src/a.rt:48:5
pub returns-in-Err : goal.returns-in-Err
returns-in-Err c v spells = c.in-Err.ensures (record { octets = v.octets }) spells
