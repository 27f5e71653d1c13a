use Rattle.dns_record.proofs.Worded.{fields_are, fields_found, data_is, data_found, question_is, question_found, record_is, record_found}
use Rattle.dns_record.proofs.laws.items_in_words.Goals as goal

pub returns-clause-fields : goal.returns-clause-fields
returns-clause-fields c = λ kinds contents at fields end. (fields_are kinds contents at fields end, fields_found kinds contents at fields end)

pub returns-clause-content : goal.returns-clause-content
returns-clause-content c = λ rtype contents at fields. (data_is rtype contents at fields, data_found rtype contents at fields)

pub returns-clause-question : goal.returns-clause-question
returns-clause-question c = λ contents at question end. (question_is contents at question end, question_found contents at question end)

pub returns-clause-whole : goal.returns-clause-whole
returns-clause-whole c = λ contents at found end. (record_is contents at found end, record_found contents at found end)
