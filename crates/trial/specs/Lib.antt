-- "Trial panes" (document 02, T-13): what is handed in, what a pane does, and what a trial counts; what the functions
-- do, by definitions that their contracts cite.
pub mod Setup
pub mod Panes
pub mod Trial
pub mod Progress
pub mod Trying
pub mod Holds
pub mod WrongTrials
