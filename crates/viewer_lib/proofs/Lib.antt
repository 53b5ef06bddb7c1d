-- Proofs of the program's body.
pub mod PrintedLaws
pub mod RecordLines
pub mod ShownLaws
