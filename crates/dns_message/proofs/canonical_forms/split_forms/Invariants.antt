use Rattle.std.proofs.Common.{◌≡◌, take, drop}
use Rattle.std.specs.Prelude.{flat_map}
use Rattle.dns_message.specs.Forms.{forms_in, form_owner_key}
use Rattle.dns_message.specs.Order.{octets_of_key}
use Rattle.dns_message.proofs.canonical_forms.split_forms.Given as goal

-- the forms so far are there, and the keys and the octets of the others are left
abbrev pub invariant-loop-span : goal.invariant-loop-span
invariant-loop-span l = record {
  forms : l.forms.items ≡ take l.span-index (forms_in l.spans l.octets);
  keys : l.keys_left ≡ flat_map form_owner_key (drop l.span-index (forms_in l.spans l.octets));
  octets : l.octets_left ≡ flat_map octets_of_key (drop l.span-index (forms_in l.spans l.octets));
}
