-- The tables of a space, as laws of their rows, and ends that a word can hold.
pub mod Answers
pub mod NumberLaws
pub mod TableLaws
pub mod Ends
