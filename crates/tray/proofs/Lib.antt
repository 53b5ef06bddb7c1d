-- Proofs of the tray runner.
pub mod PairLaws
pub mod PairsJudged
pub mod RunLaws
pub mod RunningLaws
pub mod TrayLaws
