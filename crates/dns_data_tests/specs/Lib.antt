-- What the keyed function of the tests of cookies cites.
pub mod SipHash
