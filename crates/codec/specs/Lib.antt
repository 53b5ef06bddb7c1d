-- What the functions over bytes do, by definitions that their contracts cite.
pub mod Area
pub mod Lengths
pub mod Head
pub mod Parts
