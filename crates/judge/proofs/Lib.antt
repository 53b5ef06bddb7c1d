-- Proofs of the refusals.
pub mod RefusalParts
