-- Laws that the proofs of several functions cite.
mod UpToMore
mod WordLaws
mod HeardLaws
mod LogLaws
mod SetupLaws
mod TryingLaws
mod TurnLaws
mod FrameLaws
pub mod HoldsProof
pub mod WrongTrialsProof
