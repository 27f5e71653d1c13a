use Rattle.std.proofs.Common.{refl, [], ◌∷◌}
use Rattle.dns_record.specs.Fields.FieldOf.{CompressibleName, OtherOctets}
use Rattle.dns_message_tests.proofs.built_records.records_of_borrowed_names.Goals as goal

pub returns-clause-cname : goal.returns-clause-cname
returns-clause-cname c = λ r.
    c.records_with_layouts_are_built.ensures r.rname r.rdata
    (record { owner = r.rname.now; rtype = r.rtype.code.value; class = r.rclass.code.value; ttl = r.ttl.value.value; content = CompressibleName r.rdata.name.now ∷ [] }) refl refl

pub returns-clause-ns : goal.returns-clause-ns
returns-clause-ns c = λ r.
    c.records_with_layouts_are_built-2.ensures r.rname r.rdata
    (record { owner = r.rname.now; rtype = r.rtype.code.value; class = r.rclass.code.value; ttl = r.ttl.value.value; content = CompressibleName r.rdata.server.now ∷ [] }) refl refl

pub returns-clause-a : goal.returns-clause-a
returns-clause-a c = λ r.
    c.records_with_layouts_are_built-3.ensures r.rname r.rdata
    (record { owner = r.rname.now; rtype = r.rtype.code.value; class = r.rclass.code.value; ttl = r.ttl.value.value; content = OtherOctets r.rdata.octets ∷ [] }) refl refl

pub returns-clause-aaaa : goal.returns-clause-aaaa
returns-clause-aaaa c = λ r.
    c.records_with_layouts_are_built-4.ensures r.rname r.rdata
    (record { owner = r.rname.now; rtype = r.rtype.code.value; class = r.rclass.code.value; ttl = r.ttl.value.value; content = OtherOctets r.rdata.octets ∷ [] }) refl refl
