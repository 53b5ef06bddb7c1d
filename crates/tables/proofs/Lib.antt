-- Laws that the proofs of several functions cite.
pub mod RowLaws
pub mod UpToLaws
pub mod Table
pub mod CompactLaws
pub mod Tables
pub mod SearchLaws
pub mod PlacedLaws
