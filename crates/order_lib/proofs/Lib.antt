-- Proofs of the program's body.
pub mod CopyLaws
pub mod LineLaws
pub mod WordLaws
pub mod ShownLaws
