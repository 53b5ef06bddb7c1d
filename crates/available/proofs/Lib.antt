-- Laws that the proofs of several functions cite.
pub mod BitLaws
pub mod ReaderLaws
pub mod MatchLaws
pub mod FindLaws
pub mod ConflictLaws
