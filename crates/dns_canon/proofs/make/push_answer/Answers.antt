use Rattle.std.proofs.Common.{ap, subst, sym, ◌∙◌, ◌+◌, add-one}
use Rattle.dns_message.specs.Seen.{data_seen}
use Rattle.dns_canon.specs.Making.{HasMade}
use Rattle.dns_canon.proofs.PushedAnswers.{IsGenerated, of_accepted, push_is_accepted, push_makes}
use Rattle.dns_canon.proofs.make.push_answer.Goals as goal

pub unwrap-requires : goal.unwrap-requires
unwrap-requires c =
    let is : IsGenerated c.args.index c.new-record.result = record {
      owner = ap (λ r. r.rname) c.new-record.ensures ∙ c.requires.owner;
      rtype = ap (λ r. r.rtype.code.value) c.new-record.ensures ∙ c.rtype.ensures ∙ c.requires.rtype;
      class = ap (λ r. r.rclass.code.value) c.new-record.ensures;
      ttl = ap (λ r. r.ttl.value.value) c.new-record.ensures ∙ c.from-ttl.ensures ∙ ap (λ n. 60 + n) c.from.ensures;
      content = ap (λ r. data_seen r.rdata) c.new-record.ensures ∙ c.requires.content;
    } in
    push_is_accepted c.args.index c.new-record.result c.requires.few is c.args.builder.now c.push_answer.result c.requires.before c.push_answer.ensures.result_is

pub returns : goal.returns
returns c =
    let is : IsGenerated c.args.index c.new-record.result = record {
      owner = ap (λ r. r.rname) c.new-record.ensures ∙ c.requires.owner;
      rtype = ap (λ r. r.rtype.code.value) c.new-record.ensures ∙ c.rtype.ensures ∙ c.requires.rtype;
      class = ap (λ r. r.rclass.code.value) c.new-record.ensures;
      ttl = ap (λ r. r.ttl.value.value) c.new-record.ensures ∙ c.from-ttl.ensures ∙ ap (λ n. 60 + n) c.from.ensures;
      content = ap (λ r. data_seen r.rdata) c.new-record.ensures ∙ c.requires.content;
    } in
    let pushed = of_accepted c.push_answer.result c.unwrap.result c.unwrap.ensures c.push_answer.ensures.pushed in
    subst (λ n. HasMade n c.push_answer.new.self) (sym (add-one c.args.index)) (push_makes c.args.index c.new-record.result c.requires.few is c.args.builder.now c.push_answer.new.self c.requires.before pushed)
