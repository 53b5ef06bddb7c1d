-- What the functions over the words do, by definitions that their contracts cite.
pub mod Carries
