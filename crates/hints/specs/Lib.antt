-- What is known of a space beside its words.
pub mod Hints
