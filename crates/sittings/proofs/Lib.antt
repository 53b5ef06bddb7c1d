-- Proofs of the report over sittings.
pub mod FigureLaws
pub mod WatchLaws
pub mod PartyLaws
pub mod SittingLaws
pub mod SmallLaws
pub mod ReportLaws
pub mod EveryListProof
pub mod ClocksProof
pub mod WrongReportsProof
