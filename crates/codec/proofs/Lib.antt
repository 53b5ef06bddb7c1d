-- Laws that the proofs of several functions and crates cite.
pub mod FrontLaws
pub mod FormLaws
pub mod LengthLaws
pub mod EncodeLaws
pub mod RequestLaws
