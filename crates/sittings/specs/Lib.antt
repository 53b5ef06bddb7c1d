-- "Waiting times over many sittings" (document 02, T-14).
pub mod Waits
pub mod Clocks
pub mod Report
pub mod EveryList
pub mod Figures
pub mod Watch
pub mod WrongReports
