-- Proofs of the search for an order.
pub mod ArrayLaws
pub mod ReadLaws
pub mod TxnLaws
pub mod PlanLaws
pub mod PlannedLaws
pub mod SearchLaws
pub mod RunLaws
pub mod FoundLaws
pub mod OnlyOneProof
pub mod WrongOrdersProof
