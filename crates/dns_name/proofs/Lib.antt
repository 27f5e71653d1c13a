-- The crate's own lemmas.
pub mod Agreed
pub mod Buffered
pub mod Continued
pub mod CountedSteps
pub mod Followed
pub mod HeldReversed
pub mod Labelled
pub mod NamePrefixes
pub mod NameSameness
pub mod OwnLabelLemmas
pub mod UnparsedNames
pub mod UnparsedNamesAt
pub mod NameSuffixes
pub mod NameTexts
pub mod Turned
pub mod WholeNames
pub mod NameTextFaults
