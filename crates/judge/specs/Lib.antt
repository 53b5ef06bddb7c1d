-- Refusals as the code judges them.
pub mod Judge
