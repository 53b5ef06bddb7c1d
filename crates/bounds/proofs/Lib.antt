-- Proofs of the bounds.
pub mod Shares
pub mod CountLaws
pub mod WithinProof
pub mod WrongBoundsProof
