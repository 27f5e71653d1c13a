-- What is seen of the data of hashed owners, field by field.
use Rattle.std.specs.Prelude.{ℕ, List}
use Rattle.dns_wire.specs.Octets.{Octets}
use Rattle.dns_nsec.specs.Flags.{nsec3_flag_bits}
use Rattle.dns_nsec.specs.declared.nsec3.Nsec3.{Nsec3}
use Rattle.dns_nsec.specs.declared.nsec3param.Nsec3Param.{Nsec3Param}

abbrev pub algorithm_of : Nsec3 → ℕ
algorithm_of v = v.parameters.algorithm.code

abbrev pub flags_of : Nsec3 → ℕ
flags_of v = nsec3_flag_bits v.parameters.flags

abbrev pub iterations_of : Nsec3 → ℕ
iterations_of v = v.parameters.iterations.value

abbrev pub salt_of : Nsec3 → Octets
salt_of v = v.parameters.salt.octets.now

abbrev pub next_owner_of : Nsec3 → Octets
next_owner_of v = v.next_owner.octets.now

abbrev pub types_of : Nsec3 → List ℕ
types_of v = v.types.slice.now

abbrev pub param_algorithm_of : Nsec3Param → ℕ
param_algorithm_of v = v.parameters.algorithm.code

abbrev pub param_flags_of : Nsec3Param → ℕ
param_flags_of v = nsec3_flag_bits v.parameters.flags

abbrev pub param_iterations_of : Nsec3Param → ℕ
param_iterations_of v = v.parameters.iterations.value

abbrev pub param_salt_of : Nsec3Param → Octets
param_salt_of v = v.parameters.salt.octets.now
