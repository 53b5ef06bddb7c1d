-- Proofs of what a frame ends with.
pub mod AddsLaws
pub mod AnsweredLaws
pub mod ServingLaws
pub mod FromLaws
pub mod TurnLaws
pub mod AbortingLaws
pub mod FinishLaws
pub mod BellLaws
