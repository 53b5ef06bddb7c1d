-- What the program shows, by definitions that its contracts cite.
pub mod Shows
