-- Which entries match, are visible, available or in conflict.
pub mod Live
pub mod Readers
pub mod Find
