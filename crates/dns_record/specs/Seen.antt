-- What is seen of questions, of records and of their parts.
use Rattle.dns_record.specs.Questions.{QuestionOf}
use Rattle.dns_record.specs.Records.{Parts, RecordOf}
use Rattle.dns_record.specs.declared.question.Question.{Question}
use Rattle.dns_record.specs.declared.record.Record.{Record}
use Rattle.dns_record.specs.declared.unparsed_parts.UnparsedParts.{UnparsedParts}

-- the name as it is seen, and the numbers
abbrev pub question_seen : {N S : Type 0} → (N → S) → Question N → QuestionOf S
question_seen name q = record { name = name q.qname; qtype = q.qtype.code.value; class = q.qclass.code.value }

-- the owner and the data as they are seen, and the numbers
abbrev pub record_seen : {N D S T : Type 0} → (N → S) → (D → T) → Record N D → RecordOf S T
record_seen name content r = record {
  owner = name r.rname;
  rtype = r.rtype.code.value;
  class = r.rclass.code.value;
  ttl = r.ttl.value.value;
  content = content r.rdata;
}

-- the numbers, and the octets of the data
abbrev pub parts_seen : UnparsedParts → Parts
parts_seen p = record { rtype = p.rtype.code.value; class = p.rclass.code.value; ttl = p.ttl.value.value; content = p.rdata.now }
