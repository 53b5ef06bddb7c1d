-- What the functions over a tray do, by definitions that their contracts cite.
pub mod Pairs
