-- The fields of the data of each type.
use Rattle.std.specs.Prelude.{List, [], ◌∷◌, ◌++◌}
use Rattle.std.specs.Int.{w16}
use Rattle.dns_wire.specs.Names.{name_labels}
use Rattle.dns_record.specs.Fields.{Field}
use Rattle.dns_record.specs.Fields.FieldOf.{UncompressedName, CountedOctets, OtherOctets, Byte, Number}
use Rattle.dns_nsec.specs.Flags.{nsec3_flag_bits}
use Rattle.dns_nsec.specs.declared.hash_parameters.HashParameters.{HashParameters}
use Rattle.dns_nsec.specs.declared.nsec.Nsec.{Nsec}
use Rattle.dns_nsec.specs.declared.nsec3.Nsec3.{Nsec3}
use Rattle.dns_nsec.specs.declared.nsec3param.Nsec3Param.{Nsec3Param}

abbrev pub nsec_fields : Nsec → List Field
nsec_fields v = UncompressedName (name_labels v.next.slice.now) ∷ OtherOctets v.types.slice.now ∷ []

-- what NSEC3 and NSEC3PARAM begin with
abbrev pub parameter_fields : HashParameters → List Field
parameter_fields v = Byte v.algorithm.code ∷ Byte (nsec3_flag_bits v.flags) ∷ Number w16 v.iterations.value ∷ CountedOctets v.salt.octets.now ∷ []

abbrev pub nsec3_fields : Nsec3 → List Field
nsec3_fields v = parameter_fields v.parameters ++ (CountedOctets v.next_owner.octets.now ∷ OtherOctets v.types.slice.now ∷ [])

abbrev pub nsec3param_fields : Nsec3Param → List Field
nsec3param_fields v = parameter_fields v.parameters
